use Rattle.oci_layout.proofs.Items.{some_item}
use Rattle.oci_layout.proofs.descriptor.has_urls.Goals as goal

pub returns-in-Some : goal.returns-in-Some
returns-in-Some c = some_item c.in-Some.urls.now.items _ c.is_empty.result _ c.in-Some.ensures c.in-Some.urls.now.ok.0 c.is_empty.ensures
