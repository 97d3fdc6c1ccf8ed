use Rattle.std.proofs.Common.{◌≡◌, true, true≢false, sym, ◌∙◌}
use Rattle.oci_layout.specs.Holds.{is_held}
use Rattle.oci_layout.proofs.Descriptors.{stays_same, stays_pushed}
use Rattle.oci_layout.proofs.descriptor.Claimed.add_held.Goals as goal

pub returns-then-is_held-clause-held : goal.returns-then-is_held-clause-held
returns-then-is_held-clause-held c = stays_same c.args.self.now.held.items (is_held c.args.embedded ≡ true) (sym c.is_held.ensures ∙ c.if-is_held.true)

pub returns-clause-held : goal.returns-clause-held
returns-clause-held c =
    stays_pushed c.args.self.now.held.items c.push.new.self.items _ (is_held c.args.embedded ≡ true) c.in_ok-push.ensures.items
    (λ is. true≢false (sym is ∙ sym c.is_held.ensures ∙ c.if-is_held.false))
