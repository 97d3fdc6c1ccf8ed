use Rattle.std.specs.Prelude.{option_map}
use Rattle.serde_json.specs.View.{view}
use Rattle.oci_agreement.specs.Descriptors.{mention_of}
use Rattle.oci_verify.proofs.Rereading.{led_nowhere, led_to}
use Rattle.oci_verify.proofs.documents.Documents.of_descriptor.Goals as goal

pub returns-in-Some : goal.returns-in-Some
returns-in-Some g c =
    let store = c.args.self.now.store.now in
    led_to (g.S.Store.steady store) (g.S.Store.contents store) c.args.self.now.limit (option_map (λ v. view v.now) c.args.descriptor) (mention_of c.in-Some.said) c.of_content.result
    c.in-Some.ensures c.of_content.ensures

pub returns-in-None : goal.returns-in-None
returns-in-None g c =
    let store = c.args.self.now.store.now in
    led_nowhere (g.S.Store.steady store) (g.S.Store.contents store) c.args.self.now.limit (option_map (λ v. view v.now) c.args.descriptor) c.in-None.ensures
