-- What whiteouts delete.
use Rattle.std.proofs.Common.{◌≡◌, ◌≢◌, ℕ, ◌<◌, List, ◌∷◌, ◌++◌, length, drop, codes, bytes_eq, Bool, true, false, Some, None, option_map, refl, ap, ◌∙◌, ne_eqb, arith}
use Rattle.std.specs.Prelude.{◌==◌, if◌then◌else◌, option_and_then}
use Rattle.std.proofs.lemmas.Slice.Eq.{bytes_eq-Decides}
use Rattle.oci_layers.specs.Names.{mark, opaque_name}
use Rattle.oci_layers.specs.Tails.{has_slash, name_in, folder_in, behind_mark, deleted, hidden_by, marked_folder}
use Rattle.oci_layers.proofs.Cuts.{name_behind, folder_before}

by_parts : (path folder name : List ℕ) → folder_in path ≡ folder → name_in path ≡ name → hidden_by path ≡ option_and_then (deleted folder name) (behind_mark name)
by_parts path folder name f n =
    ap (λ (g : List ℕ). option_and_then (deleted g (name_in path)) (behind_mark (name_in path))) f ∙ ap (λ (m : List ℕ). option_and_then (deleted folder m) (behind_mark m)) n

not_opaque : (rest : List ℕ) → rest ≢ codes ".wh..opq" → bytes_eq (mark ++ rest) opaque_name ≡ false
not_opaque rest other = go (bytes_eq (mark ++ rest) opaque_name) refl
  where
    go : (b : Bool) → bytes_eq (mark ++ rest) opaque_name ≡ b → b ≡ false
    go true e = absurd (other (ap (drop 4) ((bytes_eq-Decides (mark ++ rest) opaque_name).0 e)))
    go false e = refl

pub deletes : (folder rest : List ℕ) → 0 < length folder → has_slash rest ≡ false → rest ≢ codes ".wh..opq" → hidden_by (folder ++ 47 ∷ (mark ++ rest)) ≡ Some (folder ++ 47 ∷ rest)
deletes folder rest some plain other =
    by_parts (folder ++ 47 ∷ (mark ++ rest)) folder (mark ++ rest) (folder_before folder (mark ++ rest) plain) (name_behind folder (mark ++ rest) plain)
    ∙ ap (λ (b : Bool). if b then None else Some (if length folder == 0 then rest else folder ++ 47 ∷ rest)) (not_opaque rest other)
    ∙ ap (λ (b : Bool). Some (if b then rest else folder ++ 47 ∷ rest)) (ne_eqb (length folder) 0 (λ e. omega (arith, some, e)))

pub deletes_no_name : (folder : List ℕ) → hidden_by (folder ++ 47 ∷ codes ".wh..wh..opq") ≡ None
deletes_no_name folder = by_parts (folder ++ 47 ∷ opaque_name) folder opaque_name (folder_before folder opaque_name refl) (name_behind folder opaque_name refl)

pub stands_in : (folder rest : List ℕ) → has_slash rest ≡ false → marked_folder (folder ++ 47 ∷ (mark ++ rest)) ≡ Some folder
stands_in folder rest plain =
    let path = folder ++ 47 ∷ (mark ++ rest) in
    ap (λ (n : List ℕ). option_map (λ r. folder_in path) (behind_mark n)) (name_behind folder (mark ++ rest) plain) ∙ ap Some (folder_before folder (mark ++ rest) plain)
