use Rattle.std.proofs.Common.{◌≡◌, ◌<◌, ℕ, length}
use Rattle.std.specs.Prelude.{IfSome}
use Rattle.std.specs.List.{HoldsAt}
use Rattle.oci_commands.specs.Sums.{AllMatch, OneDiffers}
use Rattle.oci_commands.specs.declared.outcome.Outcome.TheVariants.{Right, Wrong}
use Rattle.oci_commands.proofs.sums.Lists.check_lists.Given as goal

abbrev pub invariant-loop-file : goal.invariant-loop-file
invariant-loop-file g l = record {
  right : l.found ≡ Right → (k : ℕ) → k < l.file-index → HoldsAt (λ f. IfSome (g.S.Files.holds l.initial.store f.now) (AllMatch (g.S.Files.holds l.initial.store) l.self.asked)) l.files k;
  wrong : l.found ≡ Wrong → (i : ℕ) × (i < length l.files) × HoldsAt (λ f. IfSome (g.S.Files.holds l.initial.store f.now) (OneDiffers (g.S.Files.holds l.initial.store) l.self.asked)) l.files i;
  kept : g.S.Files.holds l.store ≡ g.S.Files.holds l.initial.store;
}
