use Rattle.std.proofs.Common.{ap, ◌∙◌}
use Rattle.oci_model.specs.Means.{get_second}
use Rattle.oci_schema.specs.Shapes.{alias_of}
use Rattle.oci_schema.proofs.bytes.fields.has_alias.Goals as goal

pub returns-in-None : goal.returns-in-None
returns-in-None c = λ t d b. ap (λ a. get_second (alias_of a) d) c.in-None.is

pub returns-then-lacks : goal.returns-then-lacks
returns-then-lacks c = λ t d b. ap (λ a. get_second (alias_of a) d) c.in-Some.is ∙ c.lacks.ensures c.if-lacks.true d b

pub returns-else-lacks : goal.returns-else-lacks
returns-else-lacks c = λ t d b. ap (λ a. get_second (alias_of a) d) c.in-Some.is ∙ c.has.ensures t d b
