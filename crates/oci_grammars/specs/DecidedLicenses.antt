-- What the decider of licence expressions computes.
use Rattle.std.specs.Prelude.{ℕ, ◌+◌, ◌-◌, ◌&&◌, ◌||◌, ◌==◌, not, Bool, true, false, List, [], ◌∷◌, codes, bytes_eq, Option, Some, None, if◌then◌else◌}
use Rattle.std.specs.List.{fold}
use Rattle.oci_base.specs.Classes.{plus, until}
use Rattle.oci_grammars.specs.DecidedUris.{is_word_of}
use Rattle.oci_grammars.specs.Licenses.{is_identifier, is_reference, pieces, kinds}
use Rattle.oci_grammars.specs.declared.licenses.Kind.{Kind}
use Rattle.oci_grammars.specs.declared.licenses.Kind.TheVariants.{Name, License, Operator, With, OpenMark, CloseMark, NoKind}
use Rattle.oci_grammars.specs.declared.licenses.Phase.{Phase}
use Rattle.oci_grammars.specs.declared.licenses.Phase.TheVariants.{Wanted, Simple, Excepting, Done, Broken}
use Rattle.oci_grammars.specs.declared.licenses.Progress.{Progress}

abbrev pub at : Phase → ℕ → Progress
at phase depth = record { phase = phase; depth = depth }

abbrev pub closed : ℕ → Progress
closed depth = if depth == 0 then at Broken depth else at Done (depth - 1)

abbrev pub next_wanted : ℕ → Kind → Progress
next_wanted depth Name = at Simple depth
next_wanted depth License = at Simple depth
next_wanted depth Operator = at Broken depth
next_wanted depth With = at Broken depth
next_wanted depth OpenMark = at Wanted (depth + 1)
next_wanted depth CloseMark = at Broken depth
next_wanted depth NoKind = at Broken depth

abbrev pub next_done : ℕ → Kind → Progress
next_done depth Name = at Broken depth
next_done depth License = at Broken depth
next_done depth Operator = at Wanted depth
next_done depth With = at Broken depth
next_done depth OpenMark = at Broken depth
next_done depth CloseMark = closed depth
next_done depth NoKind = at Broken depth

abbrev pub next_simple : ℕ → Kind → Progress
next_simple depth Name = at Broken depth
next_simple depth License = at Broken depth
next_simple depth Operator = at Wanted depth
next_simple depth With = at Excepting depth
next_simple depth OpenMark = at Broken depth
next_simple depth CloseMark = closed depth
next_simple depth NoKind = at Broken depth

abbrev pub next_excepting : ℕ → Kind → Progress
next_excepting depth Name = at Done depth
next_excepting depth License = at Broken depth
next_excepting depth Operator = at Broken depth
next_excepting depth With = at Broken depth
next_excepting depth OpenMark = at Broken depth
next_excepting depth CloseMark = at Broken depth
next_excepting depth NoKind = at Broken depth

abbrev pub next_by : Phase → ℕ → Kind → Progress
next_by Wanted depth kind = next_wanted depth kind
next_by Simple depth kind = next_simple depth kind
next_by Excepting depth kind = next_excepting depth kind
next_by Done depth kind = next_done depth kind
next_by Broken depth kind = at Broken depth

abbrev pub next : Progress → Kind → Progress
next p kind = next_by p.phase p.depth kind

abbrev pub is_ended : Phase → Bool
is_ended Wanted = false
is_ended Simple = true
is_ended Excepting = false
is_ended Done = true
is_ended Broken = false

abbrev pub is_whole : Progress → Bool
is_whole p = is_ended p.phase && (p.depth == 0)

abbrev pub begun : Progress
begun = at Wanted 0

-- the pieces of a text whose first one was taken off
abbrev pub put_word : Option (List ℕ) → List (List ℕ) → List (List ℕ)
put_word None rest = rest
put_word (Some word) rest = word ∷ rest

-- a piece, or none
abbrev pub after_piece : Progress → Option Kind → Progress
after_piece p None = p
after_piece p (Some kind) = next p kind

-- the kinds of a text whose first piece was taken off
abbrev pub put_piece : Option Kind → List Kind → List Kind
put_piece None rest = rest
put_piece (Some kind) rest = kind ∷ rest

unfoldable pub is_spdx_expression : List ℕ → Bool
is_spdx_expression text = is_whole (fold next begun (kinds text))

abbrev pub is_with : List ℕ → Bool
is_with word = bytes_eq word (codes "WITH")

abbrev pub is_listed : List (List ℕ) → List (List ℕ) → Bool → List ℕ → Bool
is_listed licenses exceptions behind_with word =
    if behind_with then is_word_of exceptions word else not (is_identifier word) || (is_reference word || is_word_of licenses (until plus word))

abbrev pub are_listed : List (List ℕ) → List (List ℕ) → Bool → List (List ℕ) → Bool
are_listed licenses exceptions behind_with [] = true
are_listed licenses exceptions behind_with (word ∷ words) = is_listed licenses exceptions behind_with word && are_listed licenses exceptions (is_with word) words

unfoldable pub has_listed : List (List ℕ) → List (List ℕ) → List ℕ → Bool
has_listed licenses exceptions text = not (is_spdx_expression text) || are_listed licenses exceptions false (pieces text)
