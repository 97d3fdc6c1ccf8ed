use Rattle.std.proofs.Common.{Bool, Some, IfErr, ◌≢◌, subst}
use Rattle.oci_convert.specs.declared.error.ConvertError.TheVariants.{Memory}
use Rattle.oci_convert.specs.Refusals.{RefusesUserFor}
use Rattle.oci_convert.proofs.process_user.set_user.Goals as goal

pub returns-clause-err : goal.returns-clause-err
returns-clause-err g c =
    subst (λ (b : Bool). IfErr c.set_posix_user.result (λ e. e ≢ Memory → RefusesUserFor (g.A.Accounts.is_user c.args.accounts.now) (g.A.Accounts.is_group c.args.accounts.now) b (Some c.args.text.now) e)) c.if-is_windows.ensures
    c.set_posix_user.ensures.err
