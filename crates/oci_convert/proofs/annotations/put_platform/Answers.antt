use Rattle.std.proofs.Common.{[], ◌∷◌, Option, Some, Vec, String, Global, refl, ap, ◌∙◌}
use Rattle.std.specs.Prelude.{codes}
use Rattle.oci_base.specs.Names.{name_text}
use Rattle.oci_text.specs.Os.{os_name}
use Rattle.oci_text.specs.Arch.{arch_name}
use Rattle.oci_convert.specs.Texts.{text_of, list_of}
use Rattle.oci_convert.specs.Maps.{Annotation, joined, look}
use Rattle.oci_convert.proofs.Values.{value_more}
use Rattle.oci_convert.proofs.annotations.put_platform.Goals as goal

pub returns : goal.returns
returns c =
    let x = c.args.image.now in
    let before = look c.args.map.now in
    let features : Annotation = (codes "org.opencontainers.image.os.features", joined (list_of x.os_features)) in
    let version : Annotation = (codes "org.opencontainers.image.os.version", text_of x.os_version) in
    let variant : Annotation = (codes "org.opencontainers.image.variant", text_of x.variant) in
    let architecture : Annotation = (codes "org.opencontainers.image.architecture", Some (name_text (arch_name x.architecture))) in
    let one = value_more features.0 (joined (list_of c.os_features.result.now)) features.1 [] before before (look c.put_list.new.map) (ap (λ (o : Option (Vec (String Global) Global)). joined (list_of o)) c.os_features.ensures) (λ q. refl) c.in_ok-put_list.ensures in
    let two = value_more version.0 (text_of c.os_version.result.now) version.1 (features ∷ []) before (look c.put_list.new.map) (look c.put_text.new.map) (ap text_of c.os_version.ensures) one c.in_ok-put_text.ensures in
    let three = value_more variant.0 (text_of c.variant.result.now) variant.1 (version ∷ features ∷ []) before (look c.put_text.new.map) (look c.put_text-2.new.map) (ap text_of c.variant.ensures) two c.in_ok-put_text-2.ensures in
    let four = value_more architecture.0 (Some c.as_ref.result.now) architecture.1 (variant ∷ version ∷ features ∷ []) before (look c.put_text-2.new.map) (look c.put.new.map) (ap Some (c.as_ref.ensures ∙ ap (λ a. name_text (arch_name a)) c.architecture.ensures)) three c.in_ok-put.ensures in
    value_more (codes "org.opencontainers.image.os") (Some c.as_ref-2.result.now) (Some (name_text (os_name x.os))) (architecture ∷ variant ∷ version ∷ features ∷ []) before (look c.put.new.map) (look c.put-2.new.map) (ap Some (c.as_ref-2.ensures ∙ ap (λ o. name_text (os_name o)) c.os.ensures)) four c.in_ok-put-2.ensures
