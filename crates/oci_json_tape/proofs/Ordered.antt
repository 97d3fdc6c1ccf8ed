-- The members of a map are in the order of their names.
use Rattle.std.proofs.Common.{◌≡◌, List, [], ◌∷◌, Less, string_bytes, string_cmp}
use Rattle.std.specs.List.{AllByRecursion}
use Rattle.std.specs.List.Sorted.{IsStrictlySortedBy}
use Rattle.std.specs.Map.{keys_of}
use Rattle.serde_json.specs.View.{members_view}
use Rattle.serde_json.proofs.Views.{Entry}
use Rattle.oci_json.specs.Readable.{IsBefore, IsInOrder}

all_before : (e : Entry) (es : List Entry) → AllByRecursion (λ y. string_cmp e.0 y ≡ Less) (keys_of es) → IsBefore (string_bytes e.0) (members_view es)
all_before e [] h = tt
all_before e (x ∷ es) h = (h.0, all_before e es h.1)

pub in_order : (es : List Entry) → IsStrictlySortedBy string_cmp (keys_of es) → IsInOrder (members_view es)
unfolding IsStrictlySortedBy
in_order [] h = tt
in_order (e ∷ es) h = (all_before e es h.0, in_order es h.1)
