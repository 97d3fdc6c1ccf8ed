-- What is written for scalars is their normal form.
use Rattle.std.proofs.Common.{◌≡◌, ℕ, ℤ, pos, negsuc, List, Bool, true, Some, refl, sym, ap, ◌∙◌, subst, SFits, w64, arith}
use Rattle.std.specs.Prelude.{option_and_then, unwrap_or}
use Rattle.json.specs.Token.{Token}
use Rattle.serde_json.specs.Data.{Num, Data, null, boolean, number, string, array, object}
use Rattle.serde_json.specs.Find.{as_bool, as_str, as_number, as_integer, of_integer}
use Rattle.oci_json.specs.Readable.{IsHeld}
use Rattle.oci_model.specs.Means.{as_whole}
use Rattle.oci_model.specs.Shape as shape
use Rattle.oci_model.specs.Shape.{Shape, truth, whole, named, open_name, digest_text, cpu_text, cap_set, list, key_set, detail, free_map, rows}
use Rattle.oci_schema.specs.Allows.{is_in_range}
use Rattle.oci_schema.specs.Normalized.{accepts, normalized}
use Rattle.oci_schema.proofs.NormalForms.{string_kept, truth_kept}
use Rattle.oci_schema.specs.Walks.{WritesTree, IsTextOf, WritesWhole}

-- d is accepted, and its normal form was written
abbrev pub Wrote : Shape → List Token → List Token → Data → Type 0
Wrote s old new d = (accepts s d ≡ true) × WritesTree (normalized s d) old new

string_written : (s : Shape) (t : List ℕ) (old new : List Token) → IsTextOf s t → WritesTree (string t) old new → Wrote s old new (string t)
string_written shape.text t old new is wrote = (refl, wrote)
string_written truth t old new is wrote = absurd is
string_written (whole low high) t old new is wrote = absurd is
string_written (named table) t old new is wrote = (is, wrote)
string_written (open_name table) t old new is wrote = (refl, wrote)
string_written digest_text t old new is wrote = (is, wrote)
string_written cpu_text t old new is wrote = (is, wrote)
string_written (cap_set table) t old new is wrote = absurd is
string_written (list s) t old new is wrote = absurd is
string_written (shape.map s) t old new is wrote = absurd is
string_written key_set t old new is wrote = absurd is
string_written detail t old new is wrote = absurd is
string_written free_map t old new is wrote = absurd is
string_written (rows rs) t old new is wrote = absurd is

pub text_written : (s : Shape) (d : Data) (t : List ℕ) (old new : List Token) → as_str d ≡ Some t → IsTextOf s t → WritesTree (string t) old new → Wrote s old new d
text_written s d t old new e is wrote = subst (Wrote s old new) (sym (string_kept d t e)) (string_written s t old new is wrote)

pub boolean_written : (d : Data) (b : Bool) (old new : List Token) → as_bool d ≡ Some b → WritesTree (boolean b) old new → Wrote truth old new d
boolean_written d b old new e wrote = subst (Wrote truth old new) (sym (truth_kept d b e)) (refl, wrote)

pub whole_written : (low high : ℤ) (d : Data) (n : Num) (old new : List Token) → as_number d ≡ Some n → WritesWhole low high n old new → Wrote (whole low high) old new d
whole_written low high d n old new e w =
    let is : as_whole d ≡ Some w.0 = ap (option_and_then as_integer) e ∙ w.1 in
    (ap (is_in_range low high) is ∙ w.2, subst (λ o. WritesTree (number (of_integer (unwrap_or o low))) old new) (sym is) w.3)

-- an integer of 64 bits is one that can be read
pub signed_held : (z : ℤ) → SFits w64 z → IsHeld (of_integer z)
signed_held (pos n) h = omega (arith, h)
signed_held (negsuc n) h = omega (arith, h)
