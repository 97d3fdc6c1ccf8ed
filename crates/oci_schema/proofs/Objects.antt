-- The members of an object, as a walk over them puts each in its place and sets its mark.
use Rattle.std.proofs.Common.{◌≡◌, ℕ, ◌*◌, ◌%◌, ◌^◌, ◌<◌, List, [], true, Some, None, refl, sym, ap, ◌∙◌, subst, arith}
use Rattle.std.specs.Prelude.{◌≢◌, bit_or}
use Rattle.std.specs.Borrow.{Bor}
use Rattle.std.specs.Int.{w64, bit_at}
use Rattle.std.specs.List.{insert}
use Rattle.std.proofs.lemmas.Nat.Bits.{bit_at_set_same, bit_at_set_other}
use Rattle.json.specs.Token.{Token}
use Rattle.serde_json.specs.Data.{Data, object, Members, no_members, put}
use Rattle.serde_json.specs.Find.{get, get_member}
use Rattle.serde_json.proofs.Views.{get_member-put, get_member-put_other}
use Rattle.oci_model.specs.Means.{is_object}
use Rattle.oci_json_tape.specs.Walked.{InMembersData, NextMemberData}
use Rattle.oci_schema.specs.Objects.{HasMark, Covers, Finds, IsPlaceOf, mark}
use Rattle.oci_schema.specs.declared.bytes.object.Slot.{Slot}
use Rattle.oci_schema.proofs.Slots.{unwritten, inserted_finds}

-- a name whose mark is not there is none of the members'
abbrev pub CoversMembers : ℕ → Members → Type 0
CoversMembers marks ms = (name : List ℕ) → ¬ HasMark marks (mark name) → get_member name ms ≡ None

-- d is an object, of which these are the members that were passed, and their marks
abbrev pub PassedSoFar : Data → List Token → List Slot → ℕ → Type 0
PassedSoFar d rest slots marks =
    (out : Members) × (found : Members) × (d ≡ object out) × InMembersData rest found out × CoversMembers marks found × ((q : List ℕ) → Finds q slots (get_member q found))

small : (name : List ℕ) → mark name < 64
small name = omega arith

-- one more mark
abbrev pub with_mark : ℕ → List ℕ → ℕ
with_mark marks name = bit_or marks (1 * 2 ^ mark name % 2 ^ 64)

covers_put : (marks : ℕ) (k : List ℕ) (d : Data) (ms : Members) → CoversMembers marks ms → CoversMembers (with_mark marks k) (put k d ms)
covers_put marks k d ms h name off =
    let set : HasMark (with_mark marks k) (mark k) = bit_at_set_same w64 marks (mark k) (small k) in
    let apart : mark name ≢ mark k = λ e. off (ap (bit_at (with_mark marks k)) e ∙ set) in
    get_member-put_other name k d ms (λ e. apart (ap mark e)) ∙ h name (λ is. off (bit_at_set_other w64 marks (mark k) (small k) (mark name) apart ∙ is))

pub passed_begin : (d : Data) (rest : List Token) → (out : Members) × (d ≡ object out) × InMembersData rest no_members out → PassedSoFar d rest [] 0
passed_begin d rest (out, is, left) = (out, no_members, is, left, λ name off. refl, λ q. refl)

pub passed_step : (d : Data) (rest left : List Token) (slots : List Slot) (marks : ℕ) (name : Bor (List ℕ)) (ts : List Token) (at : ℕ) → NextMemberData rest (Some (name.now, ts)) left
    → IsPlaceOf name.now slots at → PassedSoFar d rest slots marks → PassedSoFar d left (insert slots at (unwritten name (Some ts))) (with_mark marks name.now)
passed_step d rest left slots marks name ts at step place (out, found, is, here, covers, finds) =
    let p = step found out here in
    let k = name.now in (
      out,
      put k p.0 found,
      is,
      p.2,
      covers_put marks k p.0 found covers,
      λ q. inserted_finds q (get_member q found) (get_member q (put k p.0 found)) name (Some ts) (get_member-put_other q k p.0 found)
          (λ e. (p.0, ap (λ z. get_member z (put k p.0 found)) (sym e) ∙ get_member-put k p.0 found, p.1)) slots at place (finds q),
    )

pub passed_end : (d : Data) (rest left : List Token) (slots : List Slot) (marks : ℕ) → NextMemberData rest None left → PassedSoFar d rest slots marks
    → (is_object d ≡ true) × ((q : List ℕ) → Finds q slots (get q d)) × Covers marks d
passed_end d rest left slots marks step (out, found, is, here, covers, finds) =
    let over = step found out here in
    let same : (q : List ℕ) → get q d ≡ get_member q found = λ q. ap (get q) (is ∙ ap object (sym over)) in
    (ap is_object is, λ q. subst (Finds q slots) (sym (same q)) (finds q), λ name off. same name ∙ covers name off)
