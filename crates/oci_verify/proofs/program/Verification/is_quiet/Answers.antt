use Rattle.std.proofs.Common.{◌≡◌, None, subst, true≢false, sym, refl, ◌∙◌}
use Rattle.std.specs.Prelude.{◌↔◌, IsTrue}
use Rattle.std.specs.BTreeSet.{contains_text}
use Rattle.std.specs.List.{All}
use Rattle.oci_verify.proofs.Layouts.{quiet_told}
use Rattle.oci_verify.proofs.program.Verification.is_quiet.Goals as goal

pub returns-then-not-is_strict : goal.returns-then-not-is_strict
returns-then-not-is_strict g c = (λ is strict. absurd (true≢false (sym strict ∙ c.if-not-is_strict.true)), λ h. refl)

pub returns : goal.returns
returns g c =
    quiet_told c.args.walk.now.claims.items c.args.walk.now.faults.items c.args.listed.now (contains_text c.args.reached.now) c.requires
    c.are_found.result c.are_known.result c.are_both.result c.are_both.ensures
    (subst (λ l. IsTrue c.are_found.result ↔ All (λ f. f ≡ None) l) c.as_slice.ensures.value c.are_found.ensures) c.are_known.ensures
    c.args.self.now.options.now.check.strict c.if-not-is_strict.false
