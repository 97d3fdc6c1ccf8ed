-- What is left of a list of values or of members, one step on.
use Rattle.std.proofs.Common.{◌≡◌, ℕ, zero, suc, ◌+◌, ◌-◌, ◌<◌, ◌≤◌, List, [], ◌∷◌, length, drop, slice_index_or, refl, sym, ap, ◌∙◌, subst, inl, inr, arith}
use Rattle.serde_json.specs.Data.{Data, array, object, Items, item, Members}
use Rattle.serde_json.specs.View.{view, items_view}
use Rattle.serde_json.specs.declared.value.Value.{Value}
use Rattle.oci_model.specs.Shape.{Shape}
use Rattle.oci_model.specs.WellFormed.{AreWellFormed}
use Rattle.oci_schema.specs.Shapes.{presence_of, schema_shape, members_in}
use Rattle.oci_schema.specs.declared.record.Member.{Member}
use Rattle.oci_schema.specs.Normal.{IsNormal, AreNormal, IsNormalMember, IsNormalEntry}
use Rattle.oci_schema.specs.Normalized.{normalized, each_normalized}
use Rattle.oci_schema.specs.Plain.{IsPlain, ArePlain, HoldPlain}
use Rattle.oci_json.specs.Readable.{IsInOrder}
use Rattle.oci_schema.proofs.Decides.{both}
use Rattle.oci_schema.proofs.Listed.{drop_at, cut_at}
use Rattle.oci_schema.proofs.Moved.{past}

-- ---- values

module _ (vs : List Value) (i : ℕ) (v : Value) (below : i < length vs) (is : v ≡ slice_index_or vs i v) where
  pub items_left : items_view (drop i vs) ≡ item (view v) (items_view (drop (i + 1) vs))
  items_left = ap items_view (cut_at vs i v below is)

  pub normal_left : (s : Shape) → IsNormal s (view v) → AreNormal s (items_view (drop (i + 1) vs)) → AreNormal s (items_view (drop i vs))
  normal_left s h more = subst (AreNormal s) (sym items_left)
      (both _ _ h.0 more.0, ap (λ d. item d (each_normalized (normalized s) (items_view (drop (i + 1) vs)))) h.1 ∙ ap (item (view v)) more.1)

pub none_left_normal : (s : Shape) (vs : List Value) (i : ℕ) → length vs ≤ i → AreNormal s (items_view (drop i vs))
none_left_normal s vs i end = subst (λ ws. AreNormal s (items_view ws)) (sym (past vs i end)) (refl, refl)

-- ---- values that are parsed again from their text

pub none_left_plain : (n : ℕ) (vs : List Value) (i : ℕ) → length vs ≤ i → ArePlain n (items_view (drop i vs))
none_left_plain n vs i end = subst (λ ws. ArePlain n (items_view ws)) (sym (past vs i end)) (tt, omega arith, refl)

pub array_plain : (n : ℕ) (ds : Items) → 0 < n → ArePlain (n - 1) ds → IsPlain n (array ds)
array_plain n ds room h = (h.0, omega (arith, h.1), h.2)

pub object_plain : (n : ℕ) (ms : Members) → 0 < n → IsInOrder ms → HoldPlain (n - 1) ms → IsPlain n (object ms)
object_plain n ms room ordered h = ((ordered, h.0), omega (arith, h.1), h.2)

-- ---- members

module _ (f : ℕ → Shape) (ms : List Member) (i : ℕ) (w : Member) (below : i < length ms) where
  pub members_left : members_in f (drop i ms) ≡ members_in f (slice_index_or ms i w ∷ drop (i + 1) ms)
  members_left = ap (members_in f) (drop_at ms i w below)

  pub well_left : AreWellFormed (members_in f (drop i ms)) → AreWellFormed (members_in f (slice_index_or ms i w ∷ drop (i + 1) ms))
  well_left h = subst AreWellFormed members_left h

  pub entry_here : (q : List ℕ) (d : Data) → q ≡ (slice_index_or ms i w).name.now
      → IsNormalMember (presence_of (slice_index_or ms i w).presence) (schema_shape f (slice_index_or ms i w).schema) d → IsNormalEntry (members_in f (drop i ms)) q d
  entry_here q d e h = subst (λ rs. IsNormalEntry rs q d) (sym members_left) (inl (e, h))

member_at : (ms : List Member) (i : ℕ) → i < length ms → Member
member_at [] i below = absurd (omega arith)
member_at (m ∷ ms) zero below = m
member_at (m ∷ ms) (suc i) below = member_at ms i (omega arith)

module _ (f : ℕ → Shape) (ms : List Member) (i : ℕ) (below : i < length ms) where
  pub well_later : AreWellFormed (members_in f (drop i ms)) → AreWellFormed (members_in f (drop (i + 1) ms))
  well_later h = (well_left f ms i (member_at ms i below) below h).1

  pub entry_later : (q : List ℕ) (d : Data) → IsNormalEntry (members_in f (drop (i + 1) ms)) q d → IsNormalEntry (members_in f (drop i ms)) q d
  entry_later q d h = subst (λ rs. IsNormalEntry rs q d) (sym (members_left f ms i (member_at ms i below) below)) (inr h)
