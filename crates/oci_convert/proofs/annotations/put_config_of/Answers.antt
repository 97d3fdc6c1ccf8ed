use Rattle.std.proofs.Common.{Option, sym, ap, ◌∙◌}
use Rattle.std.specs.Option.{option_or}
use Rattle.oci_image.specs.declared.config.Config.{Config}
use Rattle.oci_convert.specs.Maps.{look, value_of}
use Rattle.oci_convert.specs.Annotations.{of_config}
use Rattle.oci_convert.proofs.Values.{no_config}
use Rattle.oci_convert.proofs.annotations.put_config_of.Goals as goal

pub returns-in-None : goal.returns-in-None
returns-in-None c q = no_config (look c.args.map.now) q ∙ ap (λ (config : Option Config). option_or (value_of (of_config config) q) (look c.args.map.now q)) (sym c.in-None.is)
