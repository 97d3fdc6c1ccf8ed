use Rattle.std.proofs.Common.{◌≡◌, ◌++◌, drop, string_bytes}
use Rattle.std.specs.List.{flat_map}
use Rattle.oci_commands.proofs.books.section_of.Given as goal

-- what there is, with what is still to come, is all
abbrev pub invariant-loop-row : goal.invariant-loop-row
invariant-loop-row l = string_bytes l.text ++ flat_map string_bytes (drop l.row-index l.rows.items) ≡ string_bytes l.initial.text ++ flat_map string_bytes l.rows.items
