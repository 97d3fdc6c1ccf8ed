-- A piece is written behind what is there.
use Rattle.std.proofs.Common.{◌≡◌, ℕ, List, ◌++◌, Option, Some, None, ap, ◌∙◌}
use Rattle.std.proofs.lemmas.List.{append_assoc}
use Rattle.std.specs.Io.KnownBytes.{Appends}

pub appended : (old new : Option (List ℕ)) (before t piece : List ℕ) → old ≡ Some (before ++ t) → Appends old new piece → new ≡ Some (before ++ (t ++ piece))
appended None new before t piece e h = absurd (let no : ⊥ = cc in no)
appended (Some xs) None before t piece e h = absurd h
appended (Some xs) (Some ys) before t piece e h =
    let q : xs ≡ before ++ t = cc in
    ap Some (h ∙ ap (λ u. u ++ piece) q ∙ append_assoc before t piece)
