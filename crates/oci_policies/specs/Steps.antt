-- What the values of the code stand for.
use Rattle.std.specs.Prelude.{List, map}
use Rattle.oci_rules.specs.declared.rule.Step.{Step}
use Rattle.oci_rules.specs.declared.rule.Step.TheVariants as step
use Rattle.oci_rules.specs.Tables.{condition_of, rule_of, level_of, platforms_of, test_of}
use Rattle.oci_rules.specs.declared.rule.Rule.{Rule}
use Rattle.oci_policies.specs.Places as places
use Rattle.oci_policies.specs.Policies.{Head, Worded}
use Rattle.oci_policies.specs.Policies as policies
use Rattle.oci_policies.specs.declared.book.Book.{Book}

unfoldable pub step_view : Step → places.Step
step_view (step.Member name) = places.to_member name.now
step_view step.EachItem = places.to_each_item
step_view step.EachMember = places.to_each_member
step_view step.EachName = places.to_each_name
step_view (step.When c) = places.if_so (condition_of c)

abbrev pub steps_view : List Step → List places.Step
steps_view ss = map step_view ss

-- a rule without its place
abbrev pub head_view : Rule → Head
head_view r = record {
  name = r.name.now;
  level = level_of r.level;
  section = r.section.now;
  message = r.wanted.now;
  platforms = platforms_of r.platforms;
  test = test_of r.test;
}

-- a rule with its message
abbrev pub worded : Rule → Worded
worded r = (rule_of r, r.wanted.now)

-- rules with their messages, and their kinds
abbrev pub book_view : Book → policies.Book
book_view b = (b.kinds.now, map worded b.rules.now)
