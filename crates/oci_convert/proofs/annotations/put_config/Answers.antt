use Rattle.std.proofs.Common.{[], ◌∷◌, Option, Vec, String, Global, refl, ap}
use Rattle.std.specs.Prelude.{codes}
use Rattle.oci_convert.specs.Texts.{text_of, list_of}
use Rattle.oci_convert.specs.Maps.{Annotation, joined, look}
use Rattle.oci_convert.proofs.Values.{value_more}
use Rattle.oci_convert.proofs.annotations.put_config.Goals as goal

pub returns : goal.returns
returns c =
    let x = c.args.config.now in
    let before = look c.args.map.now in
    let ports : Annotation = (codes "org.opencontainers.image.exposedPorts", joined (list_of x.exposed_ports)) in
    let one = value_more ports.0 (joined (list_of c.exposed_ports.result.now)) ports.1 [] before before (look c.put_list.new.map) (ap (λ (o : Option (Vec (String Global) Global)). joined (list_of o)) c.exposed_ports.ensures) (λ q. refl) c.in_ok-put_list.ensures in
    value_more (codes "org.opencontainers.image.stopSignal") (text_of c.stop_signal.result.now) (text_of x.stop_signal) (ports ∷ []) before (look c.put_list.new.map) (look c.put_text.new.map) (ap text_of c.stop_signal.ensures) one c.in_ok-put_text.ensures
