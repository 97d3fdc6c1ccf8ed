use Rattle.oci_inspect.proofs.Configs.{runs_not}
use Rattle.oci_inspect.proofs.find.Finding.check_config.Goals as goal

pub returns-else-branch-clause-err : goal.returns-else-branch-clause-err
returns-else-branch-clause-err g c =
    runs_not (g.S.Store.contents c.args.self.now.contents.store.now) c.args.descriptor.now c.args.bytes.now c.args.wanted.now c.in-Ok.platform c.in_ok-runs-in-Ok.field-0
    c.requires.none c.in-Ok.ensures.ok c.in_ok-runs-in-Ok.ensures c.if-branch.false
