use Rattle.std.proofs.Common.{subst}
use Rattle.std.specs.Prelude.{◌↔◌, IsTrue}
use Rattle.oci_verify.specs.Layouts.{IsFoundRight}
use Rattle.oci_verify.proofs.Layouts.{told_all}
use Rattle.oci_verify.proofs.program.Verification.verify_claims.Goals as goal

pub returns : goal.returns
returns g c =
    let strict = c.args.self.now.options.now.check.strict in
    let walk = c.in_ok-walk.walk in
    let right = IsFoundRight strict c.args.fault walk.claims.items walk.faults.items c.in_ok-listed.listed.items in
    record {
      claims = walk.claims.items;
      faults = walk.faults.items;
      listed = c.in_ok-listed.listed.items;
      walk = c.in_ok-walk.ensures;
      listing = c.in_ok-listed.ensures;
      agree = c.in_ok-agree.agree;
      images = c.in_ok-agree.ensures;
      pass = c.in_ok-pass.pass;
      passing = c.in_ok-pass.ensures;
      told = told_all c.is_right-is_right.result c.in_ok-agree.agree c.in_ok-pass.pass c.are_both.result c.are_both-2.result right c.are_both-2.ensures c.are_both.ensures
          (subst (λ l. IsTrue c.is_right-is_right.result ↔ IsFoundRight strict c.args.fault walk.claims.items walk.faults.items l) c.as_slice-2.ensures.value c.is_right-is_right.ensures);
    }
