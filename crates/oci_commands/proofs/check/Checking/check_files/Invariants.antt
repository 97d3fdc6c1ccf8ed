use Rattle.std.proofs.Common.{◌≡◌, ◌<◌, ℕ, true, false, length}
use Rattle.std.specs.Prelude.{IfSome}
use Rattle.std.specs.List.{HoldsAt}
use Rattle.oci_findings.specs.Checks.{IsRight, IsWrong}
use Rattle.oci_commands.proofs.check.Checking.check_files.Given as goal

abbrev pub invariant-loop-name : goal.invariant-loop-name
invariant-loop-name g l = record {
  right : l.tally.wrong ≡ false → l.tally.unread ≡ false → (k : ℕ) → k < l.name-index → HoldsAt (λ f. IfSome (g.S.Files.holds l.initial.store f.now) (IsRight (g.B.RuleBooks.rules l.self.books.now) l.self.asked.now f.now)) l.self.asked.now.files.now k;
  wrong : l.tally.wrong ≡ true → (i : ℕ) × (i < length l.self.asked.now.files.now) × HoldsAt (λ f. IfSome (g.S.Files.holds l.initial.store f.now) (IsWrong (g.B.RuleBooks.rules l.self.books.now) l.self.asked.now f.now)) l.self.asked.now.files.now i;
  kept : g.S.Files.holds l.store ≡ g.S.Files.holds l.initial.store;
}
