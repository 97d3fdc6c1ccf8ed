-- The first descriptors with each digest, as a map has them.
use Rattle.std.specs.Prelude.{◌≡◌, ℕ, List, String, Option, option_map}
use Rattle.std.specs.declared.alloc.Global.{Global}
use Rattle.std.specs.BTreeMap.{BTreeMap, get_by_text}
use Rattle.oci_agreement.specs.Descriptors.{Mention, mention_of, first_said}
use Rattle.oci_agreement.specs.declared.descriptors.Mention.{Mention as Given}

-- what the map has for a digest
abbrev pub said_in : BTreeMap (String Global) Given → List ℕ → Option Mention
said_in m digest = option_map mention_of (get_by_text m digest)

-- for each digest the first of these
abbrev pub IsFirst : BTreeMap (String Global) Given → List Mention → Type 0
IsFirst m all = (digest : List ℕ) → said_in m digest ≡ first_said digest all
