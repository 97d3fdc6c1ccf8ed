-- Places of texts in a table.
use Rattle.std.proofs.Common.{◌≡◌, ℕ, ◌+◌, ◌<◌, List, Bool, true, false, bytes_eq, get_or, length, drop, map, Some, ap, sym, ◌∙◌}
use Rattle.std.specs.List.{slice_get}
use Rattle.std.specs.Option.{option_map}
use Rattle.std.proofs.lemmas.Option.{slice_get-map, slice_get-get_or}
use Rattle.std.proofs.lemmas.Slice.Eq.{bytes_eq-Decides}
use Rattle.oci_base.specs.Names.{is_listed}
use Rattle.oci_model.proofs.Tables.{past}

-- an item that is the text stands at its place
pub stands_at : {T : Type 0} (f : T → List ℕ) (xs : List T) (i : ℕ) (d : T) (t : List ℕ) (b : Bool) → b ≡ bytes_eq t (f (get_or xs i d)) → i < length xs → b ≡ true → slice_get (map f xs) i ≡ Some t
stands_at f xs i d t b is below same = slice_get-map f xs i ∙ ap (option_map f) (slice_get-get_or xs i d below) ∙ ap Some (sym ((bytes_eq-Decides t (f (get_or xs i d))).0 (sym is ∙ same)))

-- where an item is not the text, the text stands from there on exactly if it stands behind it
pub stands_behind : {T : Type 0} (f : T → List ℕ) (xs : List T) (i : ℕ) (d : T) (t : List ℕ) (b a : Bool) → b ≡ bytes_eq t (f (get_or xs i d)) → i < length xs → b ≡ false → a ≡ is_listed (map f (drop i xs)) t
    → a ≡ is_listed (map f (drop (i + 1) xs)) t
stands_behind f xs i d t b a is below differs before =
    let x = get_or xs i d in
    let one = slice_get-get_or xs i d below in
    let other = slice_get-get_or xs i x below in
    past f t xs i x a before below (cc) (sym differs ∙ is)
