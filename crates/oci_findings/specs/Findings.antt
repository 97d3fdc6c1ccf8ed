-- What is said of what is wrong.
use Rattle.std.specs.Prelude.{ℕ, List, ◌++◌, Bool, true, false, codes, string_bytes, String, Option, Some, None, if◌then◌else◌}
use Rattle.std.specs.declared.alloc.Global.{Global}
use Rattle.oci_rules.specs.Breaks.{Told}
use Rattle.oci_rules.specs.Tables.{rule_of}
use Rattle.oci_rules.specs.declared.rule.Test.{Test}
use Rattle.oci_rules.specs.declared.rule.Test.TheVariants.{There, Either}
use Rattle.oci_schema.specs.Violations.{Report, Expectation, expectation_of, reported}
use Rattle.oci_schema.specs.declared.violation.Violation.{Violation}
use Rattle.oci_findings.specs.declared.finding.Cause.{Cause}
use Rattle.oci_findings.specs.declared.finding.Cause.TheVariants.{Json, Kind, Schema, Rule, Unknown, Repeated, File}
use Rattle.oci_findings.specs.declared.finding.Finding.{Finding}
use Rattle.oci_findings.specs.Files.{file_rule, file_words, found_words}
use Rattle.oci_findings.specs.Wording.{expected_words}

-- whether a rule asks for a member, which is missing where the rule is broken
abbrev pub is_for_member : Test → Bool
is_for_member (There name) = true
is_for_member (Either names) = true
is_for_member test = false

abbrev pub missing_words : List ℕ → List ℕ
missing_words wanted = (codes "member is missing (" ++ wanted) ++ codes ")"

-- what a rule says: what is missing, or what is wanted, and what was found
abbrev pub rule_words : Test → List ℕ → Option (String Global) → List ℕ
rule_words test wanted found = if is_for_member test then missing_words wanted else (codes "expected " ++ wanted) ++ found_words found

-- what is wrong, in a sentence
abbrev pub message_words : Cause → List ℕ
message_words (Json said place) = codes "not JSON: " ++ string_bytes said
message_words (Kind said) = string_bytes said
message_words (Schema expected found) = expected_words expected ++ found_words found
message_words (Rule rule found) = rule_words rule.now.test rule.now.wanted.now found
message_words (Unknown None) = codes "unknown member"
message_words (Unknown (Some meant)) = codes "unknown member; the schema has " ++ meant.now
message_words Repeated = codes "an earlier member has the same name; the last one counts"
message_words (File fault) = file_words fault

-- the name of the rule
abbrev pub rule_name : Cause → List ℕ
rule_name (Json said place) = codes "json"
rule_name (Kind said) = codes "kind"
rule_name (Schema expected found) = codes "schema"
rule_name (Rule rule found) = rule.now.name.now
rule_name (Unknown meant) = codes "unknown"
rule_name Repeated = codes "repeated"
rule_name (File fault) = file_rule fault

-- what a finding says of the schema
abbrev pub expectation_in : Cause → Option Expectation
expectation_in (Schema expected found) = Some (expectation_of expected)
expectation_in cause = None

-- a place, and what is expected there, if the schema is what is violated
abbrev pub told : Finding → List ℕ × Option Expectation
told f = (string_bytes f.pointer, expectation_in f.cause)

abbrev pub as_told : Report → List ℕ × Option Expectation
as_told r = (r.0, Some r.1)

abbrev pub told_of : Violation → List ℕ × Option Expectation
told_of v = as_told (reported v)

-- the rule that a finding says is broken, and where
abbrev pub breach_in : List ℕ → Cause → Option Told
breach_in at (Rule rule found) = Some (rule_of rule.now, at)
breach_in at cause = None

abbrev pub breach : Finding → Option Told
breach f = breach_in (string_bytes f.pointer) f.cause
