use Rattle.std.proofs.Common.{inl, inr}
use Rattle.oci_commands.proofs.Held.{on_any}
use Rattle.oci_commands.proofs.check.Checking.check_bytes.Goals as goal

pub returns-clause-right : goal.returns-clause-right
returns-clause-right g c = on_any c.add.result (λ w. let (old, none) = c.note.ensures.right w in (c.note.ensures.unread, old, c.in_ok-found.ensures.right none))

pub returns-clause-wrong : goal.returns-clause-wrong
returns-clause-wrong g c = on_any c.add.result (λ w. elim (c.note.ensures.wrong w) [
  | inl old ↦ inl old
  | inr some ↦ inr (c.in_ok-found.ensures.wrong some)
])

pub returns-clause-unread : goal.returns-clause-unread
returns-clause-unread g c = on_any c.add.result c.note.ensures.unread

pub returns-then-self-clause-wrong : goal.returns-then-self-clause-wrong
returns-then-self-clause-wrong g c = λ w. elim (c.note.ensures.wrong w) [
  | inl old ↦ inl old
  | inr some ↦ inr (c.in_ok-found.ensures.wrong some)
]

pub returns-then-self-clause-right : goal.returns-then-self-clause-right
returns-then-self-clause-right g c = λ w. let (old, none) = c.note.ensures.right w in (c.note.ensures.unread, old, c.in_ok-found.ensures.right none)
