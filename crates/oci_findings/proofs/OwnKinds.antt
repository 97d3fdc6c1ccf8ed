-- A document in its canonical form is found to be of its own kind, and of no other.
use Rattle.std.proofs.Common.{◌≡◌, ℕ, List, [], ◌∷◌, Bool, true, false, ◌&&◌, not, Option, Some, None, IfSome, codes, cond, refl, sym, ap, ◌∙◌, subst, inl, inr, true≢false}
use Rattle.std.specs.Prelude.{◌↔◌, ◌⊎◌, option_and_then}
use Rattle.std.specs.List.{filter, list_all, list_any}
use Rattle.serde_json.specs.Data.{Data, object, no_members}
use Rattle.serde_json.specs.Find.{as_str}
use Rattle.oci_model.specs.Fits.{Fits, FitsRows}
use Rattle.oci_model.specs.Plain.{Plain, Slots}
use Rattle.oci_model.specs.Shape.{Shape, rows, Rows, no_rows}
use Rattle.oci_model.specs.Value.{value, with_rows}
use Rattle.oci_schemas.specs.Kinds.{shape_of}
use Rattle.oci_schemas.specs.declared.kind.Kind.{Kind}
use Rattle.oci_schemas.specs.declared.kind.Kind.TheVariants.{Manifest, Index, Config, Artifact, Layout, Descriptor, Error, Repositories, Tags, Reference, Spec, State, ProcessState, Features}
use Rattle.oci_findings.specs.FoundKind.{has_member, string_member, of_media_type, own_media_type, marks, foreign_marks, is_known, all_kinds, only, by_members, by_file_name, first_of, by_type_or, found_kind}
use Rattle.oci_findings.specs.OwnKind.{SaysKind, has_media_type}
use Rattle.oci_findings.proofs.OwnMembers.{must_have, may_have, must, never, may, all_up, any_up, and_not_up}

abbrev rows_in : Shape → Rows
rows_in (rows rs) = rs
rows_in _ = no_rows

abbrev rows_of : Kind → Rows
rows_of kind = rows_in (shape_of kind)

are_rows : (kind : Kind) → shape_of kind ≡ rows (rows_of kind)
are_rows Manifest = refl
are_rows Index = refl
are_rows Config = refl
are_rows Artifact = refl
are_rows Layout = refl
are_rows Descriptor = refl
are_rows Error = refl
are_rows Repositories = refl
are_rows Tags = refl
are_rows Reference = refl
are_rows Spec = refl
are_rows State = refl
are_rows ProcessState = refl
are_rows Features = refl

-- ---- of which kinds a document of these rows is always known to be, and of which it may be

abbrev is_sure : Rows → Kind → Bool
is_sure rs kind = list_all (must_have rs) (marks kind) && not (list_any (may_have rs) (foreign_marks kind))

abbrev may_be : Rows → Kind → Bool
may_be rs kind = list_all (may_have rs) (marks kind) && not (list_any (must_have rs) (foreign_marks kind))

sure_alone : (kind : Kind) → filter (is_sure (rows_of kind)) all_kinds ≡ kind ∷ []
sure_alone Manifest = refl
sure_alone Index = refl
sure_alone Config = refl
sure_alone Artifact = refl
sure_alone Layout = refl
sure_alone Descriptor = refl
sure_alone Error = refl
sure_alone Repositories = refl
sure_alone Tags = refl
sure_alone Reference = refl
sure_alone Spec = refl
sure_alone State = refl
sure_alone ProcessState = refl
sure_alone Features = refl

none_beside : (kind : Kind) → filter (may_be (rows_of kind)) all_kinds ≡ kind ∷ []
none_beside Manifest = refl
none_beside Index = refl
none_beside Config = refl
none_beside Artifact = refl
none_beside Layout = refl
none_beside Descriptor = refl
none_beside Error = refl
none_beside Repositories = refl
none_beside Tags = refl
none_beside Reference = refl
none_beside Spec = refl
none_beside State = refl
none_beside ProcessState = refl
none_beside Features = refl

-- ---- lists of kinds

abbrev IsIn : Kind → List Kind → Type 0
IsIn kind [] = ⊥
IsIn kind (k ∷ ks) = (kind ≡ k) ⊎ IsIn kind ks

in_all : (kind : Kind) → IsIn kind all_kinds
in_all Manifest = inl refl
in_all Index = inr (inl refl)
in_all Config = inr (inr (inl refl))
in_all Artifact = inr (inr (inr (inl refl)))
in_all Layout = inr (inr (inr (inr (inl refl))))
in_all Descriptor = inr (inr (inr (inr (inr (inl refl)))))
in_all Error = inr (inr (inr (inr (inr (inr (inl refl))))))
in_all Repositories = inr (inr (inr (inr (inr (inr (inr (inl refl)))))))
in_all Tags = inr (inr (inr (inr (inr (inr (inr (inr (inl refl))))))))
in_all Reference = inr (inr (inr (inr (inr (inr (inr (inr (inr (inl refl)))))))))
in_all Spec = inr (inr (inr (inr (inr (inr (inr (inr (inr (inr (inl refl))))))))))
in_all State = inr (inr (inr (inr (inr (inr (inr (inr (inr (inr (inr (inl refl)))))))))))
in_all ProcessState = inr (inr (inr (inr (inr (inr (inr (inr (inr (inr (inr (inr (inl refl))))))))))))
in_all Features = inr (inr (inr (inr (inr (inr (inr (inr (inr (inr (inr (inr (inr (inl refl)))))))))))))

one_more : (b : Bool) (kind k : Kind) (ks : List Kind) → IsIn kind ks → IsIn kind (cond b (k ∷ ks) ks)
one_more true kind k ks is = inr is
one_more false kind k ks is = is

kept_in : (p : Kind → Bool) (kind : Kind) (ks : List Kind) → p kind ≡ true → IsIn kind ks → IsIn kind (filter p ks)
kept_in p kind [] passes is = is
kept_in p kind (k ∷ ks) passes (inl same) = subst (λ b. IsIn kind (cond b (k ∷ filter p ks) (filter p ks))) (sym (ap p (sym same) ∙ passes)) (inl same)
kept_in p kind (k ∷ ks) passes (inr later) = one_more (p k) kind k (filter p ks) (kept_in p kind ks passes later)

cut_in : (b : Bool) (p : Kind → Bool) (kind k : Kind) (ks : List Kind) → p k ≡ b → (IsIn kind ks → p kind ≡ true) → IsIn kind (cond b (k ∷ ks) ks) → p kind ≡ true
cut_in true p kind k ks is rest (inl same) = ap p same ∙ is
cut_in true p kind k ks is rest (inr later) = rest later
cut_in false p kind k ks is rest later = rest later

was_in : (p : Kind → Bool) (kind : Kind) (ks : List Kind) → IsIn kind (filter p ks) → p kind ≡ true
was_in p kind [] is = absurd is
was_in p kind (k ∷ ks) is = cut_in (p k) p kind k (filter p ks) refl (was_in p kind ks) is

only_in : (kind k : Kind) → IsIn kind (k ∷ []) → kind ≡ k
only_in kind k (inl same) = same
only_in kind k (inr none) = absurd none

filter_same : (p q : Kind → Bool) → ((k : Kind) → p k ≡ q k) → (ks : List Kind) → filter p ks ≡ filter q ks
filter_same p q same [] = refl
filter_same p q same (k ∷ ks) = ap (λ b. cond b (k ∷ filter p ks) (filter p ks)) (same k) ∙ ap (λ rest. cond (q k) (k ∷ rest) rest) (filter_same p q same ks)

same_truth : (a b : Bool) → (a ≡ true → b ≡ true) → (b ≡ true → a ≡ true) → a ≡ b
same_truth true b there back = sym (there refl)
same_truth false true there back = back refl
same_truth false false there back = refl

-- ---- a document of one kind

module _ (kind : Kind) (xs : Slots) (fits : FitsRows (rows_of kind) xs) where
  abbrev written : Data
  written = object (with_rows (rows_of kind) xs no_members)

  has_must : (q : List ℕ) → must_have (rows_of kind) q ≡ true → has_member written q ≡ true
  has_must q e = must q (rows_of kind) xs no_members e fits

  has_may : (q : List ℕ) → has_member written q ≡ true → may_have (rows_of kind) q ≡ true
  has_may q e = may q (rows_of kind) xs e

  sure_known : (other : Kind) → is_sure (rows_of kind) other ≡ true → is_known written other ≡ true
  unfolding is_known
  sure_known other e =
      and_not_up (list_all (must_have (rows_of kind)) (marks other)) (list_any (may_have (rows_of kind)) (foreign_marks other)) (list_all (has_member written) (marks other))
      (list_any (has_member written) (foreign_marks other)) e (all_up (must_have (rows_of kind)) (has_member written) has_must (marks other))
      (any_up (has_member written) (may_have (rows_of kind)) has_may (foreign_marks other))

  known_may : (other : Kind) → is_known written other ≡ true → may_be (rows_of kind) other ≡ true
  unfolding is_known
  known_may other e =
      and_not_up (list_all (has_member written) (marks other)) (list_any (has_member written) (foreign_marks other)) (list_all (may_have (rows_of kind)) (marks other))
      (list_any (must_have (rows_of kind)) (foreign_marks other)) e (all_up (has_member written) (may_have (rows_of kind)) has_may (marks other))
      (any_up (must_have (rows_of kind)) (has_member written) has_must (foreign_marks other))

  may_own : (other : Kind) → may_be (rows_of kind) other ≡ true → other ≡ kind
  may_own other e = only_in other kind (subst (λ ks. IsIn other ks) (none_beside kind) (kept_in (may_be (rows_of kind)) other all_kinds e (in_all other)))

  sure_own : is_sure (rows_of kind) kind ≡ true
  sure_own = was_in (is_sure (rows_of kind)) kind all_kinds (subst (λ ks. IsIn kind ks) (sym (sure_alone kind)) (inl refl))

  known_own : (other : Kind) → (is_known written other ≡ true) ↔ (other ≡ kind)
  known_own other = ((λ e. may_own other (known_may other e)), (λ same. subst (λ k. is_known written k ≡ true) (sym same) (sure_known kind sure_own)))

  is_one : (other : Kind) → is_known written other ≡ is_sure (rows_of kind) other
  is_one other =
      same_truth (is_known written other) (is_sure (rows_of kind) other)
      (λ e. subst (λ k. is_sure (rows_of kind) k ≡ true) (sym (may_own other (known_may other e))) sure_own) (sure_known other)

  by_members_own : by_members written ≡ Some kind
  unfolding by_members
  by_members_own = ap only (filter_same (is_known written) (is_sure (rows_of kind)) is_one all_kinds ∙ sure_alone kind)

  found_own : (name : List ℕ) → found_kind name written ≡ by_type_or (own_media_type written) (Some kind)
  unfolding found_kind
  found_own name = ap (λ o. by_type_or (own_media_type written) (first_of o (by_file_name name written))) by_members_own

-- ---- what it says of itself

says : (o : Option (List ℕ)) (kind : Kind) → (by_type_or o (Some kind) ≡ Some kind) ↔ IfSome o (λ t. of_media_type t ≡ Some kind)
says None kind = ((λ e. tt), (λ h. refl))
says (Some t) kind = ((λ e. e), (λ h. h))

-- a digest, or no member for a media type
abbrev says_none : Rows → Bool
says_none rs = not (not (must_have rs (codes "digest")) && may_have rs (codes "mediaType"))

none_said : (kind : Kind) → has_media_type kind ≡ false → says_none (rows_of kind) ≡ true
none_said Manifest e = absurd (true≢false e)
none_said Index e = absurd (true≢false e)
none_said Config e = refl
none_said Artifact e = absurd (true≢false e)
none_said Layout e = refl
none_said Descriptor e = refl
none_said Error e = refl
none_said Repositories e = refl
none_said Tags e = refl
none_said Reference e = refl
none_said Spec e = refl
none_said State e = refl
none_said ProcessState e = refl
none_said Features e = refl

none_either : (b : Bool) (o : Option (List ℕ)) → o ≡ None → cond b None o ≡ None
none_either true o none = refl
none_either false o none = none

none_by : (a b : Bool) (has : Bool) (o : Option (List ℕ)) → not (not a && b) ≡ true → (a ≡ true → has ≡ true) → (b ≡ false → o ≡ None) → cond has None o ≡ None
none_by true b has o e digest type = rw (digest refl) refl
none_by false true has o e digest type = absurd (true≢false (sym e))
none_by false false has o e digest type = none_either has o (type refl)

says_nothing : (kind : Kind) (xs : Slots) (fits : FitsRows (rows_of kind) xs) → has_media_type kind ≡ false → own_media_type (written kind xs fits) ≡ None
says_nothing kind xs fits e =
    none_by (must_have (rows_of kind) (codes "digest")) (may_have (rows_of kind) (codes "mediaType")) (has_member (written kind xs fits) (codes "digest")) (string_member (written kind xs fits) (codes "mediaType"))
    (none_said kind e) (has_must kind xs fits (codes "digest")) (λ no. ap (option_and_then as_str) (never (codes "mediaType") (rows_of kind) xs no))

-- ---- of its content

-- so of each content is what is so of the slots of its rows
by_slots : (kind : Kind) (P : Data → Type 0) → ((xs : Slots) (fits : FitsRows (rows_of kind) xs) → P (written kind xs fits)) → (p : Plain) → Fits (shape_of kind) p → P (value (shape_of kind) p)
by_slots kind P so p fits =
    let (xs, is, each) = subst (λ s. Fits s p) (are_rows kind) fits in
    subst (λ s. P (value s p)) (sym (are_rows kind)) (subst (λ q. P (value (rows (rows_of kind)) q)) (sym is) (so xs each))

pub known : (kind other : Kind) (p : Plain) → Fits (shape_of kind) p → (is_known (value (shape_of kind) p) other ≡ true) ↔ (other ≡ kind)
known kind other p fits = by_slots kind (λ d. (is_known d other ≡ true) ↔ (other ≡ kind)) (λ xs each. known_own kind xs each other) p fits

pub found : (kind : Kind) (p : Plain) (name : List ℕ) → Fits (shape_of kind) p → (found_kind name (value (shape_of kind) p) ≡ Some kind) ↔ SaysKind kind (value (shape_of kind) p)
found kind p name fits =
    by_slots kind (λ d. (found_kind name d ≡ Some kind) ↔ SaysKind kind d)
    (λ xs each.
    let said = says (own_media_type (written kind xs each)) kind in
    let is = found_own kind xs each name in
    ((λ e. said.0 (sym is ∙ e)), (λ h. is ∙ said.1 h))) p fits

pub always : (kind : Kind) (p : Plain) (name : List ℕ) → Fits (shape_of kind) p → has_media_type kind ≡ false → found_kind name (value (shape_of kind) p) ≡ Some kind
always kind p name fits e =
    by_slots kind (λ d. found_kind name d ≡ Some kind)
    (λ xs each. found_own kind xs each name ∙ ap (λ o. by_type_or o (Some kind)) (says_nothing kind xs each e)) p fits
