-- The members of an object in a tape, and which of them are written.
use Rattle.std.specs.Prelude.{◌≡◌, ◌≢◌, ℕ, zero, suc, ◌+◌, ◌%◌, List, [], ◌∷◌, length, slice_index, slice_set, Option, Some, None, MatchOption, ⊤}
use Rattle.std.specs.Borrow.{Bor}
use Rattle.std.specs.Int.{bit_at}
use Rattle.std.specs.Ordering.{nat_cmp}
use Rattle.std.specs.declared.cmp.Ordering.TheVariants.{Less, Greater}
use Rattle.std.specs.Cmp.Lexicographic.{slice_cmp}
use Rattle.json.specs.Token.{Token}
use Rattle.serde_json.specs.Data.{Data, Members}
use Rattle.serde_json.specs.Find.{get}
use Rattle.oci_model.specs.Shape.{Shape}
use Rattle.oci_model.specs.Value.{with_member}
use Rattle.oci_json_tape.specs.Elements.{FindsData}
use Rattle.oci_schema.specs.declared.record.Member.{Member}
use Rattle.oci_schema.specs.Fields.{Field, EachField, FieldIsAccepted, AreAccepted}
use Rattle.oci_schema.specs.declared.bytes.object.Object.{Object}
use Rattle.oci_schema.specs.declared.bytes.object.Slot.{Slot}

-- the mark of a name, by its length and its first byte
abbrev pub mark : List ℕ → ℕ
mark name = (length name % 64 + slice_index name 0) % 64

-- the mark is one of the marks
abbrev pub HasMark : ℕ → ℕ → Type 0
HasMark marks mark = bit_at marks mark ≡ 1

-- a name whose mark is not there finds nothing
abbrev pub Covers : ℕ → Data → Type 0
Covers marks d = (name : List ℕ) → ¬ HasMark marks (mark name) → get name d ≡ None

-- the name comes before those of all the members
abbrev pub IsLeast : List ℕ → List Slot → Type 0
IsLeast name [] = ⊤
IsLeast name (s ∷ ss) = (slice_cmp nat_cmp name s.name.now ≡ Less) × IsLeast name ss

-- the members are in byte order of their names, and what is written of them has these names
abbrev pub AreInOrder : List Slot → Type 0
AreInOrder [] = ⊤
AreInOrder (s ∷ ss) = MatchOption s.member ⊤ (λ m. m.now.name.now ≡ s.name.now) × IsLeast s.name.now ss × AreInOrder ss

-- o is found under the name, unless it is that of a member that is written already
abbrev pub Finds : List ℕ → List Slot → Option Data → Type 0
Finds name [] o = o ≡ None
Finds name (s ∷ ss) o = (s.name.now ≡ name → s.member ≡ None → FindsData s.value o) × (s.name.now ≢ name → Finds name ss o)

-- the object's members are those of d
abbrev pub IsObject : Object → Data → Type 0
IsObject o d = AreInOrder o.slots.items × ((name : List ℕ) → Finds name o.slots.items (get name d)) × Covers o.marks d

-- s is the member at this place
abbrev pub IsAt : ℕ → Slot → List Slot → Type 0
IsAt at s [] = ⊥
IsAt zero s (x ∷ ss) = s ≡ x
IsAt (suc at) s (x ∷ ss) = IsAt at s ss

-- the member of this name is at this place
abbrev pub IsFoundAt : ℕ → List ℕ → Object → Type 0
IsFoundAt at name o = (s : Slot) × IsAt at s o.slots.items × (s.name.now ≡ name) × ((d : Data) → IsObject o d → s.member ≡ None → FindsData s.value (get name d))

-- the member s, which is at this place, is written with this value
abbrev pub WritesAt : ℕ → Slot → Bor Member → Option (List Token) → Object → Object → Type 0
WritesAt at s m value old new = (new.slots.items ≡ slice_set old.slots.items at (record { name = s.name; value = value; member = Some m })) × (new.marks ≡ old.marks)

-- the name comes at this place: after the names before it, and before the others
abbrev pub IsPlaceOf : List ℕ → List Slot → ℕ → Type 0
IsPlaceOf name [] at = at ≡ 0
IsPlaceOf name (s ∷ ss) zero = slice_cmp nat_cmp name s.name.now ≡ Less
IsPlaceOf name (s ∷ ss) (suc at) = (slice_cmp nat_cmp name s.name.now ≡ Greater) × IsPlaceOf name ss at

abbrev pub with_field : Option (Bor Member) → Option (List Token) → List Field → List Field
with_field None value es = es
with_field (Some m) value es = record { member = m; value = value } ∷ es

-- the members that are written
abbrev pub fields_in : List Slot → List Field
fields_in [] = []
fields_in (s ∷ ss) = with_field s.member s.value (fields_in ss)

-- the object `new` has what is written in `old` and o under the name, if its values are accepted only where those of `old` are and Q holds
abbrev pub Adds : (ℕ → Shape) → Data → List ℕ → Option Data → Type 0 → Object → Object → Type 0
Adds f d name o Q old new =
    IsObject new d × ((ms : Members) → EachField f (fields_in old.slots.items) ms → EachField f (fields_in new.slots.items) (with_member name o ms))
    × (AreAccepted f (fields_in new.slots.items) → AreAccepted f (fields_in old.slots.items) × Q)

-- the object `new` has what is written in `old` and the field e, for which n is written
abbrev pub AddsField : (ℕ → Shape) → Data → Data → Field → Object → Object → Type 0
AddsField f d n e old new = Adds f d e.member.now.name.now (Some n) (FieldIsAccepted f e) old new
