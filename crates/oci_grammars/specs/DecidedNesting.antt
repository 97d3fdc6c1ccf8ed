-- What the decider of paths inside one another computes.
use Rattle.std.specs.Prelude.{ℕ, ◌&&◌, ◌||◌, ◌==◌, not, Bool, List, length, take, drop, nat_eq, codes}
use Rattle.std.specs.List.{list_all, zip, ends_with}
use Rattle.oci_grammars.specs.Decided.{begins_with}
use Rattle.oci_grammars.specs.Nesting.{folded}

abbrev pub is_same_bytes : List ℕ → List ℕ → Bool
is_same_bytes other text = list_all (λ p. folded p.0 == folded p.1) (zip text other)

abbrev pub is_same_path : List ℕ → List ℕ → Bool
is_same_path other text = (length text == length other) && is_same_bytes other text

abbrev pub is_not_empty : List ℕ → Bool
is_not_empty text = not (length text == 0)

abbrev pub is_below : List ℕ → Bool
is_below text = (begins_with (codes "\\") text && is_not_empty (drop 1 text)) || (begins_with (codes "/") text && is_not_empty (drop 1 text))

abbrev pub is_root : List ℕ → Bool
is_root text = ends_with nat_eq text (codes "\\") || ends_with nat_eq text (codes "/")

abbrev pub is_deeper : List ℕ → List ℕ → Bool
is_deeper other text = is_below text || (is_root other && is_not_empty text)

unfoldable pub is_inside : List ℕ → List ℕ → Bool
is_inside other text = is_same_path other (take (length other) text) && is_deeper other (drop (length other) text)
