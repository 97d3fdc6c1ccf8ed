use Rattle.std.proofs.Common.{◌≡◌, ◌<◌, ℕ, length}
use Rattle.std.specs.List.{HoldsAt}
use Rattle.oci_commands.specs.Sums.{Matches, Differs}
use Rattle.oci_commands.specs.declared.outcome.Outcome.TheVariants.{Right, Wrong}
use Rattle.oci_commands.proofs.sums.Lists.check_lines.Given as goal

abbrev pub invariant-loop-line : goal.invariant-loop-line
invariant-loop-line g l = record {
  right : l.found ≡ Right → (k : ℕ) → k < l.line-index → HoldsAt (λ t. Matches (g.S.Files.holds l.initial.store) l.self.asked t.now) l.entries k;
  wrong : l.found ≡ Wrong → (i : ℕ) × (i < length l.entries) × HoldsAt (λ t. Differs (g.S.Files.holds l.initial.store) l.self.asked t.now) l.entries i;
  kept : g.S.Files.holds l.store ≡ g.S.Files.holds l.initial.store;
}
