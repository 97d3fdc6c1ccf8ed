-- The commands that words ask for.
use Rattle.std.specs.Prelude.{ℕ, List, [], ◌∷◌, ◌++◌, codes, bytes_eq, Option, Some, None, option_map, if◌then◌else◌, ⊤}
use Rattle.oci_reference.specs.Accepted.{Accepted}
use Rattle.oci_reference.specs.Parts.{Parts}
use Rattle.oci_schemas.specs.declared.kind.Kind.{Kind}
use Rattle.oci_doc_run.specs.declared.command.Command.{Command}
use Rattle.oci_doc_run.specs.declared.command.Command.TheVariants.{Normalize, Pretty, Reference, Digest, Pin}
use Rattle.oci_schemas.specs.Kinds.{kind_of}

-- a command with its word
pub data Asked : Type 0 where
  norm : Kind → Asked
  pretty : Kind → Asked
  reference : List ℕ → Asked
  digest : List ℕ → Asked
  pin : List ℕ → Asked

-- the command of a word and the word behind it
abbrev pub asked_of : List ℕ → List ℕ → Option Asked
asked_of command word =
    if bytes_eq command (codes "norm") then option_map norm (kind_of word)
    else (if bytes_eq command (codes "pretty") then option_map pretty (kind_of word)
    else (if bytes_eq command (codes "ref") then Some (reference word)
    else (if bytes_eq command (codes "digest") then Some (digest word)
    else (if bytes_eq command (codes "pin") then Some (pin word)
    else None))))

-- the command of two words; any other number of words asks for none
abbrev pub command_of : List (List ℕ) → Option Asked
command_of (command ∷ word ∷ []) = asked_of command word
command_of _ = None

-- for the command nothing is read
abbrev pub LeavesInput : Asked → Type 0
LeavesInput (norm kind) = ⊥
LeavesInput (pretty kind) = ⊥
LeavesInput (reference text) = ⊤
LeavesInput (digest text) = ⊤
LeavesInput (pin text) = (parts : Parts) → ¬ Accepted text parts

-- a command as the code holds it
abbrev pub asked : Command → Asked
asked (Normalize kind) = norm kind
asked (Pretty kind) = pretty kind
asked (Reference text) = reference text.now
asked (Digest text) = digest text.now
asked (Pin text) = pin text.now

-- what is told where the words ask for no command
abbrev pub usage : List ℕ
usage = codes "usage: ocidoc norm KIND | pretty KIND | ref TEXT | digest TEXT | pin TEXT" ++ 10 ∷ []
