use Rattle.std.proofs.Common.{◌++◌, map, ap, ◌∙◌}
use Rattle.oci_agreement.specs.Descriptors.{mention_of, conflict_of, conflicts}
use Rattle.oci_agreement.proofs.Firsts.{listed_law}
use Rattle.oci_agreement.proofs.descriptors.conflicting.Goals as goal

pub returns-clause-none : goal.returns-clause-none
returns-clause-none c =
    listed_law conflict_of c.add_conflicts.new.found.items c.args.agreement (map mention_of c.args.mentions.now)
    (c.in_ok-add_conflicts.ensures (map mention_of c.args.mentions.now) c.in_ok-first.ensures ∙ ap (λ vs. map conflict_of vs ++ conflicts c.args.agreement (map mention_of c.args.mentions.now) 0 (map mention_of c.args.mentions.now)) c.new-found.ensures.items)
