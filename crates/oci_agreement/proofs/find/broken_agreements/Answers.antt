use Rattle.std.proofs.Common.{◌++◌, map, ap, ◌∙◌}
use Rattle.oci_agreement.specs.Images.{image_of}
use Rattle.oci_agreement.specs.Listed.{told_of, all_told}
use Rattle.oci_agreement.proofs.Owners.{none_listed, listed_by}
use Rattle.oci_agreement.proofs.find.broken_agreements.Goals as goal

pub returns-clause-none : goal.returns-clause-none
returns-clause-none c =
    none_listed told_of c.add_all.new.broken.items (image_of c.args.image.now)
    (c.in_ok-add_all.ensures ∙ ap (λ vs. map told_of vs ++ all_told (image_of c.args.image.now)) c.new-broken.ensures.items)

pub returns-clause-listed : goal.returns-clause-listed
returns-clause-listed c =
    listed_by (map told_of c.add_all.new.broken.items) (image_of c.args.image.now)
    (c.in_ok-add_all.ensures ∙ ap (λ vs. map told_of vs ++ all_told (image_of c.args.image.now)) c.new-broken.ensures.items)
