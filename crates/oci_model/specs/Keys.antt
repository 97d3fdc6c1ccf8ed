-- Key sets (image specification, "OCI Image Configuration": `ExposedPorts`, `Volumes`): lists of names that stand for the members of an object.
use Rattle.std.proofs.Common.{◌≡◌, List, [], ◌∷◌, true, String, Vec, Global, bytes_eq, string_bytes, map, refl, ap}
use Rattle.std.specs.Prelude.{◌↔◌}
use Rattle.std.specs.Cmp.Lexicographic.{pointwise}
use Rattle.oci_model.specs.Plain as plain
use Rattle.oci_model.specs.Plain.{Plain, plains}
use Rattle.oci_model.specs.Types.{text_plain, list_plain}
use Rattle.oci_model.specs.Same.{same_texts, same_lists}

-- the names alone
abbrev pub keys_plain : Vec (String Global) Global → Plain
keys_plain v = plain.keys (map string_bytes v.items)

-- from the plain trees of texts to the names
to_names : (xs ys : List (String Global)) → plains (map text_plain xs) ≡ plains (map text_plain ys) → map string_bytes xs ≡ map string_bytes ys
to_names [] [] e = refl
to_names [] (y ∷ ys) e = cc
to_names (x ∷ xs) [] e = cc
to_names (x ∷ xs) (y ∷ ys) e =
    let first : string_bytes x ≡ string_bytes y = cc in
    let rest = to_names xs ys (cc) in
    cc

-- and back
from_names : (xs ys : List (String Global)) → map string_bytes xs ≡ map string_bytes ys → plains (map text_plain xs) ≡ plains (map text_plain ys)
from_names [] [] e = refl
from_names [] (y ∷ ys) e = cc
from_names (x ∷ xs) [] e = cc
from_names (x ∷ xs) (y ∷ ys) e =
    let first : string_bytes x ≡ string_bytes y = cc in
    let rest = from_names xs ys (cc) in
    cc

-- lists of the same texts have the same names
pub names_of_texts : (v w : Vec (String Global) Global) → list_plain text_plain v ≡ list_plain text_plain w → keys_plain v ≡ keys_plain w
names_of_texts v w e = ap plain.keys (to_names v.items w.items (cc))

-- lists of names are equal exactly if their plain trees are
pub same_keys : (v w : Vec (String Global) Global) → (pointwise (λ s t. bytes_eq (string_bytes s) (string_bytes t)) v.items w.items ≡ true) ↔ (keys_plain v ≡ keys_plain w)
same_keys v w = (
  (λ h. names_of_texts v w ((same_lists same_texts v w).0 h)),
  (λ h. (same_lists same_texts v w).1 (ap plain.list (from_names v.items w.items (cc)))),
)
