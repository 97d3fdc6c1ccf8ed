-- What is added to what is written of an object.
use Rattle.std.proofs.Common.{◌≡◌, ℕ, List, true, Option, Some, None, refl, sym, ap, ◌∙◌, subst}
use Rattle.std.specs.Borrow.{Bor}
use Rattle.std.specs.List.{insert}
use Rattle.json.specs.Token.{Token}
use Rattle.serde_json.specs.Data.{Data, Members}
use Rattle.serde_json.specs.Find.{get}
use Rattle.oci_model.specs.Means.{get_second}
use Rattle.oci_model.specs.Shape.{Shape}
use Rattle.oci_model.specs.Value.{with_member}
use Rattle.oci_json_tape.specs.Elements.{BeginsWithData}
use Rattle.oci_schema.specs.Shapes.{presence_of, alias_of, schema_shape}
use Rattle.oci_schema.specs.declared.record.Member.{Member}
use Rattle.oci_schema.specs.Given.{given, written as written_by}
use Rattle.oci_schema.specs.Normalized.{normalized, known_accepted, known_normalized}
use Rattle.oci_schema.specs.Fields.{written_for, accepted_for, FieldMeans, EachField, FieldIsAccepted, AreAccepted}
use Rattle.oci_schema.specs.Objects.{Covers, AreInOrder, Finds, IsObject, IsAt, IsPlaceOf, WritesAt, Adds, AddsField, fields_in}
use Rattle.oci_schema.specs.declared.bytes.object.Object.{Object}
use Rattle.oci_schema.specs.declared.bytes.object.Slot.{Slot}
use Rattle.oci_schema.proofs.Presences.{given_normalized, absent_normalized, given_accepted, absent_accepted}
use Rattle.oci_schema.proofs.Slots.{unwritten, at_inserted, inserted_in_order, inserted_finds, inserted_fields, written_in_order, written_finds, written_fields, written_accepted}

module _ (f : ℕ → Shape) (d : Data) where
  -- nothing is added
  pub adds_nothing : (name : List ℕ) (o : Option Data) (Q : Type 0) (x : Object) → o ≡ None → Q → IsObject x d → Adds f d name o Q x x
  adds_nothing name o Q x none q h = (h, λ ms each. subst (λ p. EachField f (fields_in x.slots.items) (with_member name p ms)) (sym none) each, λ all. (all, q))

  pub adds_as : (name : List ℕ) (o p : Option Data) (Q R : Type 0) (old new : Object) → p ≡ o → (Q → R) → Adds f d name o Q old new → Adds f d name p R old new
  adds_as name o p Q R old new same holds a = (
    a.0,
    λ ms each. subst (λ x. EachField f (fields_in new.slots.items) (with_member name x ms)) (sym same) (a.1 ms each),
    λ all. let k = a.2 all in (k.0, holds k.1),
  )

  -- the member at a place is written
  pub adds_written : (s : Slot) (m : Bor Member) (value : Option (List Token)) (n : Data) (at : ℕ) (old new : Object) → s.name.now ≡ m.now.name.now → s.member ≡ None → IsAt at s old.slots.items
      → WritesAt at s m value old new → FieldMeans f (record { member = m; value = value }) n → IsObject old d → AddsField f d n (record { member = m; value = value }) old new
  adds_written s m value n at old new named none here wrote means h =
      let ss = old.slots.items in
      subst
      (λ xs. (AreInOrder xs × ((q : List ℕ) → Finds q xs (get q d)) × Covers new.marks d)
      × ((ms : Members) → EachField f (fields_in ss) ms → EachField f (fields_in xs) (with_member m.now.name.now (Some n) ms))
      × (AreAccepted f (fields_in xs) → AreAccepted f (fields_in ss) × FieldIsAccepted f (record { member = m; value = value })))
      (sym wrote.0) (
        (written_in_order s m value named ss at here h.0, λ q. written_finds s m value named q (get q d) ss at here (h.1 q), subst (λ k. Covers k d) (sym wrote.1) h.2),
        λ ms each. written_fields s m value named f n none means ss at ms here h.0 each,
        written_accepted s m value named f none ss at here,
      )

  -- a member that is not there is put in and written as an absent one
  pub adds_absent_written : (m : Bor Member) (n : Data) (at : ℕ) (old mid new : Object) → IsPlaceOf m.now.name.now old.slots.items at
      → mid.slots.items ≡ insert old.slots.items at (unwritten m.now.name None) → mid.marks ≡ old.marks → get m.now.name.now d ≡ None → WritesAt at (unwritten m.now.name None) m None mid new
      → written_for f m.now None ≡ Some n → IsObject old d → AddsField f d n (record { member = m; value = None }) old new
  adds_absent_written m n at old mid new place is marks absent wrote means h =
      let ss = old.slots.items in
      let name = m.now.name in
      let s = unwritten name None in
      let same : fields_in mid.slots.items ≡ fields_in ss = ap fields_in is ∙ inserted_fields name None ss at in
      let found : (q : List ℕ) → name.now ≡ q → get q d ≡ None = λ q e. ap (λ z. get z d) (sym e) ∙ absent in
      let between : IsObject mid d = (
        subst AreInOrder (sym is) (inserted_in_order name None ss at place h.0),
        λ q. subst (λ xs. Finds q xs (get q d)) (sym is) (inserted_finds q (get q d) (get q d) name None (λ ne. refl) (found q) ss at place (h.1 q)),
        subst (λ k. Covers k d) (sym marks) h.2,
      ) in
      let a = adds_written s m None n at mid new refl refl (subst (IsAt at s) (sym is) (at_inserted s name.now ss at place)) wrote means between in
      (a.0, λ ms each. a.1 ms (subst (λ es. EachField f es ms) (sym same) each), λ all. let k = a.2 all in (subst (AreAccepted f) same k.0, k.1))

module _ (f : ℕ → Shape) (d : Data) (m : Bor Member) (old new : Object) (single : get_second (alias_of m.now.alias) d ≡ None) where
  abbrev AddsMember : Type 0
  AddsMember = Adds f d m.now.name.now (known_normalized f m.now d) (known_accepted f m.now d ≡ true) old new

  -- the member has the value n
  pub adds_given : (n : Data) (ts : List Token) → given (presence_of m.now.presence) (get m.now.name.now d) ≡ Some n → BeginsWithData ts n
      → written_by (presence_of m.now.presence) (normalized (schema_shape f m.now.schema) n) ≡ Some (normalized (schema_shape f m.now.schema) n)
      → AddsField f d (normalized (schema_shape f m.now.schema) n) (record { member = m; value = Some ts }) old new → AddsMember
  adds_given n ts is begins same a =
      adds_as f d m.now.name.now (Some (normalized (schema_shape f m.now.schema) n)) (known_normalized f m.now d) (FieldIsAccepted f (record { member = m; value = Some ts })) (known_accepted f m.now d ≡ true) old new
      (given_normalized f m.now d single n is ∙ same) (λ accepted. given_accepted f m.now d single n is (accepted n begins)) a

  -- the member is absent, or null where that counts as absent
  pub adds_absent : given (presence_of m.now.presence) (get m.now.name.now d) ≡ None
      → Adds f d m.now.name.now (written_for f m.now None) (accepted_for f m.now None ≡ true) old new → AddsMember
  adds_absent is a =
      adds_as f d m.now.name.now (written_for f m.now None) (known_normalized f m.now d) (accepted_for f m.now None ≡ true) (known_accepted f m.now d ≡ true) old new (absent_normalized f m.now d single is)
      (absent_accepted f m.now d single is) a
