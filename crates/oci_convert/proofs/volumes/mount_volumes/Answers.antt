use Rattle.std.proofs.Common.{sym, ◌∙◌}
use Rattle.std.specs.Prelude.{option_and_then}
use Rattle.std.specs.Option.{option_copied}
use Rattle.oci_image.specs.declared.config.Config.{Config}
use Rattle.oci_convert.specs.Volumes.{mounts_of}
use Rattle.oci_convert.proofs.Mounts.{no_paths, empty_paths}
use Rattle.oci_convert.proofs.volumes.mount_volumes.Goals as goal

pub returns-in_default-volumes_of : goal.returns-in_default-volumes_of
returns-in_default-volumes_of c =
    no_paths (option_copied c.args.volume) (option_and_then (λ (x : Config). x.volumes) c.args.config.now) (mounts_of c.args.mounts.now) c.in_default-volumes_of.ensures

pub returns-then-has_none : goal.returns-then-has_none
returns-then-has_none c =
    empty_paths (option_copied c.args.volume) (option_and_then (λ (x : Config). x.volumes) c.args.config.now) c.in-Some-volumes_of.paths.now (mounts_of c.args.mounts.now) c.in-Some-volumes_of.ensures (sym c.has_none.ensures ∙ c.if-has_none.true)
