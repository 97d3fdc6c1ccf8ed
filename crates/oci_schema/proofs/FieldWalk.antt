-- The fields of a record as they are found, member by member, and as they are written.
use Rattle.std.proofs.Common.{◌≡◌, ℕ, ◌+◌, ◌<◌, List, length, drop, slice_index_or, [], ◌∷◌, ◌++◌, Bool, true, Option, Some, None, Result, Ok, Err, refl, sym, ap, ◌∙◌, subst, append_assoc}
use Rattle.std.specs.Prelude.{MatchOption, ⊤}
use Rattle.json.specs.Token.{Token, begin_object, end_object, key}
use Rattle.json.specs.Tree.{json_tokens, members_tokens}
use Rattle.serde_json.specs.Data.{Data, Members, no_members, member}
use Rattle.serde_json.specs.Find.{get}
use Rattle.serde_json.specs.Written.{outline, members_outline}
use Rattle.oci_json.specs.Readable.{IsInOrder, HoldReadable}
use Rattle.oci_json.proofs.Trees.{put_in_order}
use Rattle.oci_model.specs.Shape.{Shape, Rows, no_rows, row, rows}
use Rattle.oci_model.specs.Value.{value, with_member}
use Rattle.oci_model.specs.Means.{is_object, get_second}
use Rattle.oci_json_tape.specs.Elements.{BeginsWithData}
use Rattle.oci_schema.specs.Shapes.{members_in, schema_shape}
use Rattle.oci_schema.specs.declared.record.Member.{Member}
use Rattle.oci_schema.specs.Normalized.{accepts, rows_accept, normalized, normalized_member, normalized_rows, chosen, known_accepted, known_normalized}
use Rattle.oci_schema.proofs.Decides.{both}
use Rattle.oci_schema.proofs.Listed.{drop_at}
use Rattle.oci_schema.specs.Fields.{Field, written_for, FieldMeans, EachField, FieldIsAccepted, AreAccepted, AreFieldsOf}
use Rattle.oci_schema.specs.Walks.{IfDone, WritesTree, WritesMembers, WritesNormal}

-- with the rows that are left the fields are those of the object
abbrev pub FieldsSoFar : (ℕ → Shape) → Data → Rows → Rows → List Field → Type 0
FieldsSoFar f d all rest es =
    (ms : Members) × EachField f es ms × (normalized_rows rest d ms ≡ normalized_rows all d no_members) × (AreAccepted f es → rows_accept rest d ≡ true → rows_accept all d ≡ true)

module _ (f : ℕ → Shape) (d : Data) (all : Rows) where
  pub fields_step : (m : Member) (rest : List Member) (es more : List Field)
      → ((ms : Members) → EachField f es ms → EachField f more (with_member m.name.now (known_normalized f m d) ms))
      → (AreAccepted f more → AreAccepted f es × (known_accepted f m d ≡ true))
      → FieldsSoFar f d all (members_in f (m ∷ rest)) es → FieldsSoFar f d all (members_in f rest) more
  fields_step m rest es more wrote accepts_it (ms, each, same, accepted) = (
    with_member m.name.now (known_normalized f m d) ms,
    wrote ms each,
    same,
    λ h e. let k = accepts_it h in accepted k.0 (both _ _ k.1 e),
  )

  pub fields_more : (members : List Member) (i : ℕ) (w : Member) (es more : List Field) → i < length members
      → ((ms : Members) → EachField f es ms → EachField f more (with_member (slice_index_or members i w).name.now (known_normalized f (slice_index_or members i w) d) ms))
      → (AreAccepted f more → AreAccepted f es × (known_accepted f (slice_index_or members i w) d ≡ true))
      → FieldsSoFar f d all (members_in f (drop i members)) es → FieldsSoFar f d all (members_in f (drop (i + 1) members)) more
  fields_more members i w es more below wrote accepts_it h =
      fields_step (slice_index_or members i w) (drop (i + 1) members) es more wrote accepts_it (subst (λ z. FieldsSoFar f d all (members_in f z) es) (drop_at members i w below) h)

  pub fields_end : (es : List Field) → FieldsSoFar f d all (members_in f []) es → AreFieldsOf f all d es
  fields_end es (ms, each, same, accepted) = (subst (EachField f es) same each, λ h. accepted h refl)

-- ---- writing them

abbrev pub member_tokens : Members → List Token
member_tokens ms = members_tokens (members_outline ms)

-- with the fields that are left the members are written, which are readable if those left are
abbrev pub FieldsLeft : (ℕ → Shape) → List Field → List Field → List Token → List Token → Type 0
FieldsLeft f all rest old now =
    (ms : Members) → EachField f all ms → (left : Members) × EachField f rest left × (now ++ member_tokens left ≡ old ++ begin_object ∷ member_tokens ms)
    × (HoldReadable left → HoldReadable ms)

module _ (f : ℕ → Shape) (all : List Field) (old : List Token) where
  pub left_begin : (now : List Token) → now ≡ old ++ begin_object ∷ [] → FieldsLeft f all all old now
  left_begin now wrote ms each = (ms, each, ap (λ t. t ++ member_tokens ms) wrote ∙ append_assoc old (begin_object ∷ []) (member_tokens ms), λ h. h)

  pub left_step : (e : Field) (rest : List Field) (now mid next : List Token) → mid ≡ now ++ key e.member.now.name.now ∷ []
      → ((n : Data) → FieldMeans f e n → WritesTree n mid next) → FieldsLeft f all (e ∷ rest) old now → FieldsLeft f all rest old next
  left_step e rest now mid next named wrote left ms each = here (left ms each)
    where
      here : (ls : Members) × EachField f (e ∷ rest) ls × (now ++ member_tokens ls ≡ old ++ begin_object ∷ member_tokens ms) × (HoldReadable ls → HoldReadable ms)
          → (ls : Members) × EachField f rest ls × (next ++ member_tokens ls ≡ old ++ begin_object ∷ member_tokens ms) × (HoldReadable ls → HoldReadable ms)
      here (no_members, h, whole, readable) = absurd h
      here (member k n ls, h, whole, readable) =
          let w = wrote n h.1 in
          let name = e.member.now.name.now in
          let t = json_tokens (outline n) in
          let r = member_tokens ls in (
            ls,
            h.2,
            ap (λ x. x ++ r) (w.0 ∙ ap (λ x. x ++ t) named) ∙ append_assoc (now ++ key name ∷ []) t r ∙ append_assoc now (key name ∷ []) (t ++ r)
                ∙ ap (λ x. now ++ key x ∷ (t ++ r)) h.0 ∙ whole,
            λ left_readable. readable (w.1, left_readable),
          )

  pub left_end : (now next : List Token) → next ≡ now ++ end_object ∷ [] → FieldsLeft f all [] old now → (ms : Members) → EachField f all ms → WritesMembers ms old next
  left_end now next wrote left ms each = here (left ms each)
    where
      here : (ls : Members) × EachField f [] ls × (now ++ member_tokens ls ≡ old ++ begin_object ∷ member_tokens ms) × (HoldReadable ls → HoldReadable ms) → WritesMembers ms old next
      here (no_members, h, whole, readable) = (wrote ∙ whole, readable tt)
      here (member k n ls, h, whole, readable) = absurd h

-- the members of a normal form are in order
member_in_order : (name : List ℕ) (o : Option Data) (ms : Members) → IsInOrder ms → IsInOrder (with_member name o ms)
member_in_order name None ms h = h
member_in_order name (Some n) ms h = put_in_order name n ms h

rows_in_order : (rs : Rows) (d : Data) (ms : Members) → IsInOrder ms → IsInOrder (normalized_rows rs d ms)
rows_in_order no_rows d ms h = h
rows_in_order (row name alias presence s rs) d ms h =
    let o = normalized_member presence (value s) (normalized s) (chosen (get name d) (get_second alias d)) in
    rows_in_order rs d (with_member name o ms) (member_in_order name o ms h)

-- the record is accepted, and its normal form is that of its fields
pub record_written : (f : ℕ → Shape) (s : Shape) (rs : Rows) (d : Data) (es : List Field) (old next : List Token) → s ≡ rows rs → is_object d ≡ true → AreFieldsOf f rs d es → AreAccepted f es
    → ((ms : Members) → EachField f es ms → WritesMembers ms old next)
    → (accepts s d ≡ true) × WritesTree (normalized s d) old next
record_written f s rs d es old next is object_is fields accepted wrote =
    let w = wrote (normalized_rows rs d no_members) fields.0 in
    subst (λ x. (accepts x d ≡ true) × WritesTree (normalized x d) old next) (sym is)
    (both _ _ object_is (fields.1 accepted), (w.0, (rows_in_order rs d no_members tt, w.1)))

-- ---- the value of one field

pub value_accepted : (f : ℕ → Shape) (e : Field) (ts old new : List Token) → e.value ≡ Some ts → WritesNormal (schema_shape f e.member.now.schema) ts old new → FieldIsAccepted f e
value_accepted f e ts old new is w =
    subst (λ o. MatchOption o ⊤ (λ us. (d : Data) → BeginsWithData us d → accepts (schema_shape f e.member.now.schema) d ≡ true)) (sym is) (λ d b. (w d b).0)

pub value_written : (f : ℕ → Shape) (e : Field) (ts old new : List Token) → e.value ≡ Some ts → WritesNormal (schema_shape f e.member.now.schema) ts old new
    → (n : Data) → FieldMeans f e n → WritesTree n old new
value_written f e ts old new is w n m =
    let s = schema_shape f e.member.now.schema in
    let k = subst (λ o. MatchOption o (written_for f e.member.now None ≡ Some n) (λ us. (d : Data) × BeginsWithData us d × (n ≡ normalized s d))) is m in
    subst (λ x. WritesTree x old new) (sym k.2) (w k.0 k.1).1

pub none_accepted : (f : ℕ → Shape) (e : Field) → e.value ≡ None → FieldIsAccepted f e
none_accepted f e is = subst (λ o. MatchOption o ⊤ (λ us. (d : Data) → BeginsWithData us d → accepts (schema_shape f e.member.now.schema) d ≡ true)) (sym is) tt

pub none_means : (f : ℕ → Shape) (e : Field) (n : Data) → e.value ≡ None → FieldMeans f e n → written_for f e.member.now None ≡ Some n
none_means f e n is m =
    subst (λ o. MatchOption o (written_for f e.member.now None ≡ Some n) (λ us. (d : Data) × BeginsWithData us d × (n ≡ normalized (schema_shape f e.member.now.schema) d))) is m

-- ---- what was done

pub if_done : {E : Type 0} (r : Result Bool E) (P Q : Type 0) → IfDone r P → (P → Q) → IfDone r Q
if_done (Ok b) P Q h k = λ t. k (h t)
if_done (Err e) P Q h k = tt

pub if_both_done : {E : Type 0} (r : Result Bool E) (P Q R : Type 0) → IfDone r P → IfDone r Q → (P → Q → R) → IfDone r R
if_both_done (Ok b) P Q R h i k = λ t. k (h t) (i t)
if_both_done (Err e) P Q R h i k = tt

pub done_anyway : {E : Type 0} (r : Result Bool E) (P : Type 0) → P → IfDone r P
done_anyway (Ok b) P p = λ t. p
done_anyway (Err e) P p = tt
