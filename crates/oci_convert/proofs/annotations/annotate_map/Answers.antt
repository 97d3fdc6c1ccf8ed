use Rattle.std.proofs.Common.{ap, ◌∙◌}
use Rattle.std.specs.Option.{option_or}
use Rattle.oci_convert.specs.Maps.{look}
use Rattle.oci_convert.specs.Annotations.{label_of}
use Rattle.oci_convert.proofs.annotations.annotate_map.Goals as goal

pub returns : goal.returns
returns c q =
    c.in_ok-put_labels_of.ensures q ∙ ap (λ g. option_or (label_of g q) (look c.put_fields.new.map q)) c.config.ensures
    ∙ ap (option_or (label_of c.args.image.now.config q)) (c.in_ok-put_fields.ensures q)
