-- what was told, and what is still to be told, is all
use Rattle.std.proofs.Common.{◌≡◌, ◌++◌, List, length, drop}
use Rattle.tar.specs.Entries.{Member, member_of}
use Rattle.oci_layers.specs.Decided.{AreFactsOf, HasSeen, told_each}
use Rattle.oci_layers.proofs.broken.add_each.Given as goal

abbrev pub invariant-loop-rule : goal.invariant-loop-rule
invariant-loop-rule l =
    (before : List Member) → HasSeen l.seen before → AreFactsOf l.facts (member_of l.entry) → l.at ≡ length before
    → l.found.items ++ told_each (drop l.rule-index l.rules) before (member_of l.entry) ≡ l.initial.found.items ++ told_each l.rules before (member_of l.entry)
