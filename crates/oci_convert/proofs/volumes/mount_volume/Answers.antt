use Rattle.std.proofs.Common.{List, [], ◌∷◌, ◌++◌, sym, ◌∙◌, subst}
use Rattle.oci_runtime_records.specs.declared.mount.Mount.{Mount}
use Rattle.oci_convert.specs.Volumes.{MountsVolumes, done, kept, added}
use Rattle.oci_convert.proofs.volumes.mount_volume.Goals as goal

pub returns-then-is_mounted : goal.returns-then-is_mounted
returns-then-is_mounted c = kept c.args.path.now [] c.args.mounts.now.items c.args.mounts.now.items (sym c.is_mounted.ensures ∙ c.if-is_mounted.true) (done c.args.mounts.now.items)

pub returns : goal.returns
returns c =
    added c.args.path.now [] c.args.mounts.now.items c.push.new.self.items c.in_ok-placed.field-0 (sym c.is_mounted.ensures ∙ c.if-is_mounted.false) c.in_ok-placed.ensures
    (subst (λ (after : List Mount). MountsVolumes c.args.volume.now [] (c.args.mounts.now.items ++ c.in_ok-placed.field-0 ∷ []) after) (sym c.in_ok-push.ensures.items) (done (c.args.mounts.now.items ++ c.in_ok-placed.field-0 ∷ [])))
