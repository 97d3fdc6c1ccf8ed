-- Lists of texts, as they are written to a buffer. No byte ends a text, since its length stands before it.
use Rattle.std.specs.Prelude.{◌≡◌, ℕ, List, ◌++◌, length, map, codes, string_bytes}
use Rattle.std.specs.Int.{w64, to_le_bytes}
use Rattle.std.specs.List.{flat_map}
use Rattle.serde_json.specs.Data.{Data}
use Rattle.oci_schema.specs.Lines.{expectation_text}
use Rattle.oci_schema.specs.Violations.{Report}
use Rattle.oci_rules.specs.Listed.{all_broken}
use Rattle.oci_rules.specs.Rules.{Level, must, stated, should, host, Platform, Rule}
use Rattle.oci_rules.specs.Tables.{level_of, told}
use Rattle.oci_rules.specs.declared.rule.Broken.{Broken}

-- a field: the length of a text in eight bytes, the lowest first, and the text
unfoldable pub field : List ℕ → List ℕ
field text = to_le_bytes w64 (length text) ++ text

-- ---- violations

-- the fields of a violation: its JSON pointer, and what is expected there
abbrev pub violation_fields : Report → List ℕ
violation_fields x = field x.0 ++ field (expectation_text x.1)

-- the list: the fields of each, one after the other
abbrev pub violation_list : List Report → List ℕ
violation_list xs = flat_map violation_fields xs

-- ---- broken rules

abbrev pub level_word : Level → List ℕ
level_word must = codes "must"
level_word stated = codes "stated"
level_word should = codes "should"
level_word host = codes "host"

-- the fields of a part that breaks a rule: its JSON pointer, and of the rule its name, the word of its level, its section and what it wants
abbrev pub broken_fields : Broken → List ℕ
broken_fields x =
    field (string_bytes x.pointer)
    ++ (field x.rule.now.name.now ++ (field (level_word (level_of x.rule.now.level)) ++ (field x.rule.now.section.now ++ field x.rule.now.wanted.now)))

-- the list of all that breaks the rules in a document: the fields of each, one after the other
abbrev pub ListsBroken : List Rule → Platform → Data → List ℕ → Type 0
ListsBroken rs p d bytes = (found : List Broken) × (map told found ≡ all_broken rs p d) × (bytes ≡ flat_map broken_fields found)
