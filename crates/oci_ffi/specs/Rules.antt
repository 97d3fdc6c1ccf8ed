-- The rules that are asked for, by the numbers of kinds, levels and platforms.
use Rattle.std.specs.Prelude.{◌≡◌, ◌↔◌, ℕ, ◌==◌, List, [], ◌∷◌, length, Bool, true, false, Option, Some, None, if◌then◌else◌}
use Rattle.serde_json.specs.Data.{Data}
use Rattle.oci_json.specs.Engines.{ReadsAs}
use Rattle.oci_schemas.specs.declared.kind.Kind.{Kind}
use Rattle.oci_rule_books.specs.Kinds.{rules_of}
use Rattle.oci_rules.specs.Breaks.{KeepsAll}
use Rattle.oci_rules.specs.Documents.{platform_in}
use Rattle.oci_rules.specs.Listed.{all_broken}
use Rattle.oci_ffi.specs.Fields.{ListsBroken}
use Rattle.oci_rules.specs.Rules.{Level, must, stated, should, host, Platform, linux, windows, solaris, vm, zos, freebsd, Rule}

abbrev pub level_numbered : ℕ → Option Level
level_numbered level =
    if level == 0 then Some must
    else (if level == 1 then Some stated
    else (if level == 2 then Some should
    else (if level == 3 then Some host
    else None)))

-- the platform with a number; 0 is that which the parts of the document say
abbrev pub platform_numbered : ℕ → Data → Option Platform
platform_numbered platform d =
    if platform == 0 then Some (platform_in d)
    else (if platform == 1 then Some linux
    else (if platform == 2 then Some windows
    else (if platform == 3 then Some solaris
    else (if platform == 4 then Some vm
    else (if platform == 5 then Some zos
    else (if platform == 6 then Some freebsd
    else None))))))

-- the levels up to one: must, stated, should, host
abbrev pub is_up_to : Level → Level → Bool
is_up_to host l = true
is_up_to must must = true
is_up_to must l = false
is_up_to stated must = true
is_up_to stated stated = true
is_up_to stated l = false
is_up_to should host = false
is_up_to should l = true

-- the rules of the levels up to one
abbrev pub rules_up_to : Level → List Rule → List Rule
rules_up_to last [] = []
rules_up_to last (r ∷ rs) = if is_up_to last r.level then r ∷ rules_up_to last rs else rules_up_to last rs

-- of a document of the kind, so many parts break rules of the levels up to one; none, exactly where every such rule is kept
pub record Counts (kind : Kind) (last : Level) (platform : ℕ) (bytes : List ℕ) (count : ℕ) : Type 0 where
  pub document : Data
  pub read : ReadsAs bytes document
  pub on : Platform
  pub numbered : platform_numbered platform document ≡ Some on
  pub counted : count ≡ length (all_broken (rules_up_to last (rules_of kind)) on document)
  pub none : (count ≡ 0) ↔ KeepsAll (rules_up_to last (rules_of kind)) on document

-- of a document of the kind, this is the list of all parts that break rules of the levels up to one
pub record Lists (kind : Kind) (last : Level) (platform : ℕ) (bytes : List ℕ) (list : List ℕ) : Type 0 where
  pub document : Data
  pub read : ReadsAs bytes document
  pub on : Platform
  pub numbered : platform_numbered platform document ≡ Some on
  pub listed : ListsBroken (rules_up_to last (rules_of kind)) on document list
