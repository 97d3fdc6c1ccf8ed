-- The laws are `tagged_or_pinned` and `latest_tag`.
use Rattle.oci_reference.proofs.LatestTags.{tagged_or_pinned, latest_tag}
use Rattle.oci_reference.proofs.laws.tag_or_digest.Goals as goal

pub returns-clause-some : goal.returns-clause-some
returns-clause-some c = tagged_or_pinned

pub returns-clause-latest : goal.returns-clause-latest
returns-clause-latest c = latest_tag
