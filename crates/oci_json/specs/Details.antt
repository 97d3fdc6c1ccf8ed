-- The texts that a plain tree has for `detail` members (distribution specification, "Error Codes"), and what may be asked of them.
use Rattle.std.specs.Prelude.{◌≢◌, ℕ, List, Some, ⊤}
use Rattle.serde_json.specs.Data.{null}
use Rattle.serde_json.specs.Read.{read}
use Rattle.oci_model.specs.Plain.{Plain, Slots, no_slots, slot, text_of, list_of, map_of, document_of}
use Rattle.oci_model.specs.Shape.{Shape, list, map, detail, rows, Rows, no_rows, row}
use Rattle.oci_model.specs.Fits.{Each, EachEntry, IfFilled}

-- each `detail` text has the property
abbrev mutual
  pub EachDetail : (List ℕ → Type 0) → Shape → Plain → Type 0
  EachDetail P detail p = P (text_of p)
  EachDetail P (list s) p = Each (EachDetail P s) (list_of p)
  EachDetail P (map s) p = EachEntry (EachDetail P s) (map_of p)
  EachDetail P (rows rs) p = EachDetailOf P rs (document_of p)
  EachDetail P _ p = ⊤

  pub EachDetailOf : (List ℕ → Type 0) → Rows → Slots → Type 0
  EachDetailOf P no_rows xs = ⊤
  EachDetailOf P (row name second presence s rs) no_slots = ⊤
  EachDetailOf P (row name second presence s rs) (slot x xs) = IfFilled (EachDetail P s) x × EachDetailOf P rs xs

-- no `detail` reads as null
abbrev pub HasNoNullDetail : Shape → Plain → Type 0
HasNoNullDetail s p = EachDetail (λ t. read t ≢ Some null) s p
