-- Sets of texts that are put together of texts that may be there.
use Rattle.std.proofs.Common.{◌≡◌, ℕ, List, true, Option, Some, String, option_map, string_bytes, refl}
use Rattle.std.specs.declared.alloc.Global.{Global}
use Rattle.std.specs.String.{string_cmp}
use Rattle.std.specs.BTreeSet.{BTreeSet, UpdatesBy, contains_text}
use Rattle.oci_rules.specs.Listed.{with_text}
use Rattle.oci_schema.proofs.Sets.{one_more}

-- after the text, if there is one
pub put_one : (o : Option (String Global)) (k : String Global) (s n : BTreeSet (String Global)) → o ≡ Some k → UpdatesBy string_cmp (string_cmp k) s n true → (q : List ℕ)
    → contains_text n q ≡ with_text (option_map string_bytes o) (contains_text s) q
put_one o k s n is updates q = rw is (one_more k (string_bytes k) s n refl updates q)
