use Rattle.oci_inspect.proofs.Configs.{states}
use Rattle.oci_inspect.proofs.contents.Contents.platform_by.Goals as goal

pub returns-in-Ok-platform_of-clause-ok : goal.returns-in-Ok-platform_of-clause-ok
returns-in-Ok-platform_of-clause-ok g c =
    states (g.S.Store.contents c.args.self.now.store.now) c.args.manifest.now c.in-Ok.configuration c.in-Ok-platform_of.platform c.in-Ok.ensures.ok c.in-Ok-platform_of.ensures
