-- A walk over an array: what was written, and what is left.
use Rattle.std.proofs.Common.{◌≡◌, List, [], ◌∷◌, ◌++◌, true, ◌&&◌, Some, None, sym, ap, ◌∙◌, subst, append_assoc}
use Rattle.json.specs.Token.{Token, begin_array, end_array}
use Rattle.json.specs.Tree.{json_tokens, items_tokens}
use Rattle.serde_json.specs.Data.{Data, array, Items}
use Rattle.serde_json.specs.Written.{outline, items_outline}
use Rattle.oci_json.specs.Readable.{IsReadable, AreReadable}
use Rattle.oci_model.specs.Shape.{Shape, list}
use Rattle.oci_json_tape.specs.Walked.{InItemsData, NextItemData}
use Rattle.oci_schema.specs.Allows.{each_allowed}
use Rattle.oci_schema.specs.Normalized.{accepts, normalized, each_normalized}
use Rattle.oci_schema.specs.Walks.{WritesTree, WritesNormal}

-- the tokens of the items' normal forms, with the closing bracket
abbrev pub normal_items : Shape → Items → List Token
normal_items s ds = items_tokens (items_outline (each_normalized (normalized s) ds))

abbrev pub normal_tokens : Shape → Data → List Token
normal_tokens s d = json_tokens (outline (normalized s d))

-- with the items that are left the array is accepted, and its normal form written, which is readable if they are
abbrev pub ItemsLeft : Shape → Data → List Token → List Token → List Token → Type 0
ItemsLeft s d old rest now =
    (ds : Items) × InItemsData rest ds × (accepts (list s) d ≡ each_allowed (accepts s) ds) × (now ++ normal_items s ds ≡ old ++ normal_tokens (list s) d)
    × (AreReadable (each_normalized (normalized s) ds) → IsReadable (normalized (list s) d))

module _ (s : Shape) (d : Data) (old : List Token) where
  pub items_begin : (rest now : List Token) → (ds : Items) × (d ≡ array ds) × InItemsData rest ds → now ≡ old ++ begin_array ∷ [] → ItemsLeft s d old rest now
  items_begin rest now (ds, is, left) wrote =
      let whole : now ++ normal_items s ds ≡ old ++ normal_tokens (list s) (array ds) = ap (λ t. t ++ normal_items s ds) wrote ∙ append_assoc old (begin_array ∷ []) (normal_items s ds) in
      (ds, left, ap (accepts (list s)) is, whole ∙ ap (λ x. old ++ normal_tokens (list s) x) (sym is), subst (λ x. IsReadable (normalized (list s) x)) (sym is))

  pub items_step : (rest now left next ts : List Token) → NextItemData rest (Some ts) left → WritesNormal s ts now next → ItemsLeft s d old rest now → ItemsLeft s d old left next
  items_step rest now left next ts step wrote (ds, at, accepted, whole, readable) =
      let p = step ds at in
      let w = wrote p.0 p.3 in
      let r = normal_items s p.1 in (
        p.1,
        p.4,
        accepted ∙ ap (each_allowed (accepts s)) p.2 ∙ ap (λ b. b && each_allowed (accepts s) p.1) w.0,
        ap (λ t. t ++ r) w.1.0 ∙ append_assoc now (normal_tokens s p.0) r ∙ ap (λ x. now ++ normal_items s x) (sym p.2) ∙ whole,
        λ h. readable (subst (λ x. AreReadable (each_normalized (normalized s) x)) (sym p.2) (w.1.1, h)),
      )

  pub items_end : (rest now left next : List Token) → NextItemData rest None left → next ≡ now ++ end_array ∷ [] → ItemsLeft s d old rest now
      → (accepts (list s) d ≡ true) × WritesTree (normalized (list s) d) old next
  items_end rest now left next step wrote (ds, at, accepted, whole, readable) =
      let none = step ds at in
      let written = wrote ∙ ap (λ x. now ++ normal_items s x) (sym none) ∙ whole in
      (accepted ∙ ap (each_allowed (accepts s)) none, (written, readable (subst (λ x. AreReadable (each_normalized (normalized s) x)) (sym none) tt)))
