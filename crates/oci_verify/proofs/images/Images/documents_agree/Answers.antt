use Rattle.oci_agreement.specs.Images.{image_of}
use Rattle.oci_verify.proofs.Agreeing.{keeps_broken}
use Rattle.oci_verify.proofs.images.Images.documents_agree.Goals as goal

pub returns : goal.returns
returns g c = keeps_broken c.args.self.now.asked.now (image_of c.args.image.now) c.in_ok-broken.broken.items c.none_counts.result c.in_ok-broken.ensures.listed c.none_counts.ensures
