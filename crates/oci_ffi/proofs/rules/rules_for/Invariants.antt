use Rattle.std.proofs.Common.{◌≡◌, ◌++◌, drop, map}
use Rattle.std.specs.List.{flat_map}
use Rattle.oci_rules.specs.Tables.{rule_of, level_of}
use Rattle.oci_ffi.specs.Rules.{rules_up_to}
use Rattle.oci_ffi.proofs.Chosen.{rules_in}
use Rattle.oci_ffi.proofs.rules.rules_for.Given as goal

abbrev pub invariant-loop-book : goal.invariant-loop-book
invariant-loop-book l =
    map rule_of l.rules.items ++ rules_up_to (level_of l.last) (flat_map rules_in (drop l.book-index l.book-items))
    ≡ rules_up_to (level_of l.last) (flat_map rules_in l.book-items)
