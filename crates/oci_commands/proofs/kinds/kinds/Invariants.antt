use Rattle.std.proofs.Common.{◌≡◌, ◌<◌, ℕ, None, length, take}
use Rattle.std.specs.Prelude.{IfSome}
use Rattle.std.specs.List.{HoldsAt}
use Rattle.oci_findings.specs.Checks.{HasNoKind}
use Rattle.oci_commands.specs.Done.{AppendsEach}
use Rattle.oci_commands.specs.Kinds.{IsKindLine}
use Rattle.oci_commands.specs.declared.outcome.Outcome.TheVariants.{Right, Wrong}
use Rattle.oci_commands.proofs.kinds.kinds.Given as goal

abbrev pub invariant-loop-name : goal.invariant-loop-name
invariant-loop-name g l = record {
  done : l.found ≡ Right → AppendsEach (λ f. IsKindLine l.style (g.S.Files.holds l.initial.store f.now) f.now) (take l.name-index l.files) (g.W.Write.contents l.initial.writer) (g.W.Write.contents l.writer);
  wrong : l.found ≡ Wrong → (i : ℕ) × (i < length l.files) × HoldsAt (λ f. IfSome (g.S.Files.holds l.initial.store f.now) (HasNoKind None f.now)) l.files i;
  kept : g.S.Files.holds l.store ≡ g.S.Files.holds l.initial.store;
}
