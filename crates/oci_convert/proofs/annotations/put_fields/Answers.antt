use Rattle.std.proofs.Common.{◌≡◌, ◌∷◌, ℕ, List, ap, ◌∙◌}
use Rattle.std.specs.Prelude.{codes}
use Rattle.std.specs.Option.{option_or}
use Rattle.oci_convert.specs.Texts.{text_of}
use Rattle.oci_convert.specs.Maps.{Annotation, look, value_of}
use Rattle.oci_convert.specs.Annotations.{of_platform, of_config}
use Rattle.oci_convert.proofs.Values.{value_more, values_more}
use Rattle.oci_convert.proofs.annotations.put_fields.Goals as goal

pub returns : goal.returns
returns c =
    let x = c.args.image.now in
    let before = look c.args.map.now in
    let of : List Annotation = of_config x.config in
    let created : Annotation = (codes "org.opencontainers.image.created", text_of x.created) in
    let author : Annotation = (codes "org.opencontainers.image.author", text_of x.author) in
    let one : (q : List ℕ) → look c.put_config_of.new.map q ≡ option_or (value_of of q) (before q) = λ q. c.in_ok-put_config_of.ensures q ∙ ap (λ g. option_or (value_of (of_config g) q) (before q)) c.config.ensures in
    let two = value_more created.0 (text_of c.created.result.now) created.1 of before (look c.put_config_of.new.map) (look c.put_text.new.map) (ap text_of c.created.ensures) one c.in_ok-put_text.ensures in
    let three = value_more author.0 (text_of c.author.result.now) author.1 (created ∷ of) before (look c.put_text.new.map) (look c.put_text-2.new.map) (ap text_of c.author.ensures) two c.in_ok-put_text-2.ensures in
    values_more (of_platform x) (author ∷ created ∷ of) before (look c.put_text-2.new.map) (look c.put_platform.new.map) three c.in_ok-put_platform.ensures
