-- The rules that a table of the code stands for.
use Rattle.std.specs.Prelude.{ℕ, List, [], ◌∷◌, map, string_bytes}
use Rattle.std.specs.Borrow.{Bor}
use Rattle.oci_rules.specs.Rules as rules
use Rattle.oci_rules.specs.declared.rule.Level.{Level}
use Rattle.oci_rules.specs.declared.rule.Level.TheVariants as level
use Rattle.oci_rules.specs.declared.rule.RuntimePlatform.{RuntimePlatform}
use Rattle.oci_rules.specs.declared.rule.RuntimePlatform.TheVariants as platform
use Rattle.oci_rules.specs.declared.rule.Platforms.{Platforms}
use Rattle.oci_rules.specs.declared.rule.Platforms.TheVariants as platforms
use Rattle.oci_rules.specs.declared.rule.Origin.{Origin}
use Rattle.oci_rules.specs.declared.rule.Origin.TheVariants as origin
use Rattle.oci_rules.specs.declared.rule.Predicate.{Predicate}
use Rattle.oci_rules.specs.declared.rule.Predicate.TheVariants as check
use Rattle.oci_rules.specs.declared.rule.Condition.{Condition}
use Rattle.oci_rules.specs.declared.rule.Step.{Step}
use Rattle.oci_rules.specs.declared.rule.Step.TheVariants as step
use Rattle.oci_rules.specs.declared.rule.Key.{Key}
use Rattle.oci_rules.specs.declared.rule.Key.TheVariants as key
use Rattle.oci_rules.specs.declared.rule.Test.{Test}
use Rattle.oci_rules.specs.declared.rule.Test.TheVariants as test
use Rattle.oci_rules.specs.declared.rule.Rule.{Rule}
use Rattle.oci_rules.specs.declared.rule.Broken.{Broken}
use Rattle.oci_rules.specs.Breaks.{Told}
use Rattle.oci_rules.specs.Platforms.{every}

abbrev pub texts_of : List (Bor (List ℕ)) → List (List ℕ)
texts_of ts = map (λ t. t.now) ts

abbrev pub ways_of : List (Bor (List (Bor (List ℕ)))) → List (List (List ℕ))
ways_of ws = map (λ w. texts_of w.now) ws

abbrev pub level_of : Level → rules.Level
level_of level.Must = rules.must
level_of level.Stated = rules.stated
level_of level.Should = rules.should
level_of level.Host = rules.host

abbrev pub platform_of : RuntimePlatform → rules.Platform
platform_of platform.Linux = rules.linux
platform_of platform.Windows = rules.windows
platform_of platform.Solaris = rules.solaris
platform_of platform.Vm = rules.vm
platform_of platform.Zos = rules.zos
platform_of platform.FreeBsd = rules.freebsd

abbrev pub origin_of : Origin → rules.Origin
origin_of origin.Part = rules.the_part
origin_of origin.Document = rules.the_document

abbrev pub check_of : Predicate → rules.Check
check_of check.There = rules.is_there
check_of (check.OneOf ts) = rules.is_text (texts_of ts.now)
check_of (check.Boolean b) = rules.is_truth b
check_of (check.Within low high) = rules.is_within low high
check_of (check.Lists ts) = rules.has_text (texts_of ts.now)
check_of (check.ListsItem name ts with without) = rules.has_item name.now (texts_of ts.now) (texts_of with.now) (texts_of without.now)

abbrev pub condition_of : Condition → rules.Condition
condition_of c = rules.asks (origin_of c.origin) (texts_of c.way.now) c.holds (check_of c.check)

abbrev pub place_step : Step → rules.Place → rules.Place
place_step (step.Member name) p = rules.under name.now p
place_step step.EachItem p = rules.each_item p
place_step step.EachMember p = rules.each_member p
place_step step.EachName p = rules.each_name p
place_step (step.When c) p = rules.if_so (condition_of c) p

abbrev pub place_of : List Step → rules.Place
place_of [] = rules.here
place_of (s ∷ ss) = place_step s (place_of ss)

abbrev pub key_of : Key → rules.Key
key_of key.Itself = rules.itself
key_of (key.Members ws) = rules.members (ways_of ws.now)
key_of key.EntryName = rules.entry_name

abbrev pub test_of : Test → rules.Test
test_of (test.Text g) = rules.text g
test_of (test.SpdxIdentifiers licenses exceptions) = rules.spdx_identifiers licenses.now exceptions.now
test_of (test.OneOf ts) = rules.one_of (texts_of ts.now)
test_of (test.NoneOf ts) = rules.none_of (texts_of ts.now)
test_of (test.Begins t) = rules.begins t.now
test_of (test.Matches t) = rules.matches t.now
test_of (test.Reserved t ts) = rules.reserved t.now (texts_of ts.now)
test_of (test.Within low high) = rules.within low high
test_of (test.Boolean b) = rules.truth b
test_of (test.There name) = rules.there name.now
test_of (test.Absent name) = rules.absent name.now
test_of (test.NotNull name) = rules.not_null name.now
test_of (test.BooleanMember name) = rules.boolean_member name.now
test_of (test.Either names) = rules.either (texts_of names.now)
test_of test.NotEmpty = rules.not_empty
test_of (test.LengthAtMost n) = rules.length_at_most n
test_of (test.AtMost a b) = rules.at_most a.now b.now
test_of (test.VersionsInOrder a b) = rules.versions_in_order a.now b.now
test_of (test.SumAtMost a b n) = rules.sum_at_most a.now b.now n
test_of (test.AsMany a name b) = rules.as_many (texts_of a.now) name.now (texts_of b.now)
test_of (test.Lists ts) = rules.lists (texts_of ts.now)
test_of (test.ListsItem name t) = rules.lists_item name.now t.now
test_of (test.Apart name) = rules.apart name.now
test_of (test.Distinct k) = rules.distinct (key_of k)
test_of (test.Among a b) = rules.among a.now b.now

abbrev pub platforms_of : Platforms → List rules.Platform
platforms_of platforms.Every = every
platforms_of (platforms.These ps) = map platform_of ps.now

abbrev pub rule_of : Rule → rules.Rule
rule_of r = record {
  name = r.name.now;
  level = level_of r.level;
  section = r.section.now;
  platforms = platforms_of r.platforms;
  place = place_of r.place.now;
  test = test_of r.test;
}

abbrev pub told : Broken → Told
told x = (rule_of x.rule.now, string_bytes x.pointer)
