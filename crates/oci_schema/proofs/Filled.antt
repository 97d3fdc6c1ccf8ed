-- Default records, member by member.
use Rattle.std.proofs.Common.{◌≡◌, ℕ, zero, suc, ◌+◌, ◌<◌, ◌≤◌, List, [], ◌∷◌, length, drop, map, slice_index_or, Option, None, sym, ap, ◌∙◌, subst, arith}
use Rattle.serde_json.specs.Data.{Members, no_members}
use Rattle.oci_model.specs.Fits.{Fits, FitsRows, FitsMember, IfFilled}
use Rattle.oci_model.specs.Plain.{no_slots, slots}
use Rattle.oci_model.specs.Shape.{Shape}
use Rattle.oci_model.specs.Value.{value, with_member, member_value, with_rows}
use Rattle.oci_model.specs.WellFormed.{WellFormed, AreWellFormed, MemberIsWellFormed}
use Rattle.oci_model.specs.Writable.{Writable, AreWritable}
use Rattle.oci_schema.specs.Shapes.{presence_of, default_slot, members_in, schema_shape}
use Rattle.oci_schema.specs.declared.presence.DefaultValue.{DefaultValue}
use Rattle.oci_schema.proofs.Listed.{drop_at}
use Rattle.oci_schema.proofs.Moved.{past}
use Rattle.oci_schema.specs.declared.record.Member.{Member}

module _ (f : ℕ → Shape) where
  -- some members are written, and the others are still to be
  pub record Filled (all : Members) (members : List Member) (defaults : List (Option DefaultValue)) (made : Members) : Type 0 where
    pub moved : all ≡ with_rows (members_in f members) (slots (map default_slot defaults)) made
    pub fits : FitsRows (members_in f members) (slots (map default_slot defaults))
    pub writable : AreWritable (members_in f members) (slots (map default_slot defaults))
    pub well : AreWellFormed (members_in f members)

  no_more : (members : List Member) (i : ℕ) → FitsRows (members_in f (drop i members)) no_slots → i < length members → ⊥
  no_more [] i h l = omega arith
  no_more (r ∷ members) zero h l = h
  no_more (r ∷ members) (suc i) h l = no_more members i h (omega arith)

  as_many : (members : List Member) (defaults : List (Option DefaultValue)) (i : ℕ) → FitsRows (members_in f (drop i members)) (slots (map default_slot (drop i defaults))) → i < length members → i < length defaults
  as_many [] defaults i h l = absurd (omega arith)
  as_many (r ∷ members) [] zero h l = absurd h
  as_many (r ∷ members) [] (suc i) h l = absurd (no_more members i h (omega arith))
  as_many (r ∷ members) (g ∷ defaults) zero h l = omega arith
  as_many (r ∷ members) (g ∷ defaults) (suc i) h l = let k = as_many members defaults i h (omega arith) in omega arith

  pub filled_below : (all : Members) (members : List Member) (defaults : List (Option DefaultValue)) (i : ℕ) (made : Members) → Filled all (drop i members) (drop i defaults) made → i < length members → i < length defaults
  filled_below all members defaults i made h l = as_many members defaults i h.fits l

  pub filled_none : (members : List Member) (defaults : List (Option DefaultValue)) (made : Members) → AreWellFormed (members_in f members) → FitsRows (members_in f members) (slots (map default_slot defaults))
      → AreWritable (members_in f members) (slots (map default_slot defaults)) → made ≡ no_members
      → Filled (with_rows (members_in f members) (slots (map default_slot defaults)) no_members) members defaults made
  filled_none members defaults made well fits writable none = record {
    moved = ap (with_rows (members_in f members) (slots (map default_slot defaults))) (sym none);
    fits = fits;
    writable = writable;
    well = well;
  }

  module _ (all : Members) (members : List Member) (defaults : List (Option DefaultValue)) (i : ℕ) (w : Member) (made : Members)
      (below : i < length members) (h : Filled all (drop i members) (drop i defaults) made) where
    at_hand : Filled all ((slice_index_or members i w) ∷ drop (i + 1) members) (slice_index_or defaults i None ∷ drop (i + 1) defaults) made
    at_hand =
        subst (λ z. Filled all ((slice_index_or members i w) ∷ drop (i + 1) members) z made) (drop_at defaults i None (filled_below all members defaults i made h below))
        (subst (λ z. Filled all z (drop i defaults) made) (drop_at members i w below) h)

    pub filled_well : MemberIsWellFormed (presence_of (slice_index_or members i w).presence) (schema_shape f (slice_index_or members i w).schema) (WellFormed (schema_shape f (slice_index_or members i w).schema))
    filled_well = at_hand.well.0

    pub filled_fits : FitsMember (presence_of (slice_index_or members i w).presence) (Fits (schema_shape f (slice_index_or members i w).schema)) (default_slot (slice_index_or defaults i None))
    filled_fits = at_hand.fits.0

    pub filled_writable : IfFilled (Writable (schema_shape f (slice_index_or members i w).schema)) (default_slot (slice_index_or defaults i None))
    filled_writable = at_hand.writable.0

    pub filled_more : (more : Members) → more ≡ with_member (slice_index_or members i w).name.now (member_value (presence_of (slice_index_or members i w).presence) (value (schema_shape f (slice_index_or members i w).schema)) (default_slot (slice_index_or defaults i None))) made
        → Filled all (drop (i + 1) members) (drop (i + 1) defaults) more
    filled_more more e = record {
      moved = at_hand.moved ∙ ap (with_rows (members_in f (drop (i + 1) members)) (slots (map default_slot (drop (i + 1) defaults)))) (sym e);
      fits = at_hand.fits.1;
      writable = at_hand.writable.1;
      well = at_hand.well.1;
    }

  pub filled_all : (all : Members) (members : List Member) (defaults : List (Option DefaultValue)) (i : ℕ) (made : Members) → length members ≤ i → Filled all (drop i members) (drop i defaults) made → made ≡ all
  filled_all all members defaults i made l h = sym (h.moved ∙ ap (λ z. with_rows (members_in f z) (slots (map default_slot (drop i defaults))) made) (past members i l))
