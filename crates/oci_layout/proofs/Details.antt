-- What is seen in a document goes with what stands against it.
use Rattle.std.proofs.Common.{◌≡◌, ℕ, List, [], ◌∷◌, Bool, true, false, ◌&&◌, not, Option, Some, None, codes, cond, length, ne_eqb, arith, option_and_then, refl, sym, ap, ◌∙◌, inl, inr, true≢false}
use Rattle.std.specs.Prelude.{◌↔◌, ◌⊎◌, ◌==◌}
use Rattle.serde_json.specs.Data.{Data}
use Rattle.serde_json.specs.Find.{as_str, get}
use Rattle.oci_content.specs.declared.verdict.Verdict.{Verdict}
use Rattle.oci_content.specs.declared.verdict.Verdict.TheVariants as verdict
use Rattle.oci_layout.specs.Details.{is_none, goes_with, goes_alone}
use Rattle.oci_layout.specs.Documents.{IsAgainst, IsTypedAgainst, type_fault, compared}
use Rattle.oci_layout.specs.Holds.{HoldContents}
use Rattle.oci_layout.specs.Kinds.{own_type, is_same_type}
use Rattle.oci_layout.specs.Looks.{fault_of}
use Rattle.oci_layout.specs.declared.claim.Detail.{Detail}
use Rattle.oci_layout.specs.declared.claim.Fault.{Fault}
use Rattle.oci_layout.specs.declared.claim.Fault.TheVariants as fault
use Rattle.oci_layout.specs.declared.kind.Kind.{Kind}

-- a list of this length, which is 0
pub empty_list : {A : Type 0} (xs : List A) (n : ℕ) → n ≡ length xs → (n == 0) ≡ true → xs ≡ []
empty_list [] n e z = refl
empty_list (x ∷ xs) n e z = absurd (true≢false (sym z ∙ ap (λ m. m == 0) e ∙ ne_eqb (length (x ∷ xs)) 0 (omega arith)))

none_is : {A : Type 0} (xs : List A) → xs ≡ [] → is_none xs ≡ true
none_is xs e = ap is_none e

two_none : {A B : Type 0} (xs : List A) (ys : List B) → xs ≡ [] → ys ≡ [] → (is_none xs && is_none ys) ≡ true
two_none xs ys e f = rw (e, f) refl

pub alone_goes : (f : Fault) (seen : Detail) → goes_alone f ≡ true → seen.held.items ≡ [] → seen.violations.items ≡ [] → goes_with (Some f) seen ≡ true
alone_goes fault.NoDocument seen alone held listed = absurd (true≢false (sym alone))
alone_goes fault.Embedded seen alone held listed = absurd (true≢false (sym alone))
alone_goes fault.Missing seen alone held listed = two_none seen.violations.items seen.held.items listed held
alone_goes _ seen alone held listed = none_is seen.violations.items listed

pub nothing_goes : (seen : Detail) → seen.held.items ≡ [] → seen.violations.items ≡ [] → goes_with None seen ≡ true
nothing_goes seen held listed = two_none seen.violations.items seen.held.items listed held

pub verdict_alone : (v : Verdict) (f : Fault) → Some f ≡ fault_of v → goes_alone f ≡ true
verdict_alone verdict.Same f e = cc
verdict_alone (verdict.Shorter n) f e = let same : f ≡ fault.Shorter n = cc in ap goes_alone same
verdict_alone verdict.Longer f e = let same : f ≡ fault.Longer = cc in ap goes_alone same
verdict_alone (verdict.OtherDigest sum) f e = let same : f ≡ fault.OtherDigest sum = cc in ap goes_alone same
verdict_alone verdict.Unjudged f e = let same : f ≡ fault.Unjudged = cc in ap goes_alone same

pub kept_goes : (found : Option Fault) (old new : Detail) → goes_with found old ≡ true → new.held ≡ old.held → new.violations ≡ old.violations → goes_with found new ≡ true
kept_goes None old new goes held listed = rw (held, listed) goes
kept_goes (Some fault.Missing) old new goes held listed = rw (held, listed) goes
kept_goes (Some fault.NoDocument) old new goes held listed = rw listed goes
kept_goes (Some fault.Embedded) old new goes held listed = rw (held, listed) goes
kept_goes (Some _) old new goes held listed = rw listed goes

not_none : {A : Type 0} (xs : List A) → (xs ≡ [] → ⊥) → not (is_none xs) ≡ true
not_none [] some = absurd (some refl)
not_none (x ∷ xs) some = refl

pub some_goes : (seen : Detail) → (seen.violations.items ≡ [] → ⊥) → goes_with (Some fault.NoDocument) seen ≡ true
some_goes seen some = not_none seen.violations.items some

-- ---- of a document that its schema allows

-- which fault it is: one of three, or none, and then by what is held
typed_goes : (own found : Option Fault) (k : Kind) (d : Data) (seen : Detail) → seen.violations.items ≡ [] → HoldContents k d ↔ (seen.held.items ≡ [])
    → (own ≡ None) ⊎ (own ≡ Some fault.OtherType) → IsTypedAgainst own k d found → goes_with found seen ≡ true
typed_goes (Some f) found k d seen listed held (inl is) typed = absurd cc
typed_goes (Some f) found k d seen listed held (inr is) typed = rw (typed ∙ is) (none_is seen.violations.items listed)
typed_goes None found k d seen listed held own (inl h) = rw h.1 (two_none seen.violations.items seen.held.items listed (held.0 h.0))
typed_goes None found k d seen listed held own (inr h) =
    let some : not (is_none seen.held.items) ≡ true = not_none seen.held.items (λ e. h.0 (held.1 e)) in
    rw (h.1, none_is seen.violations.items listed) some

one_of_two : (said own : Option (List ℕ)) → (compared said own ≡ None) ⊎ (compared said own ≡ Some fault.OtherType)
one_of_two None own = inl refl
one_of_two (Some said) None = inl refl
one_of_two (Some said) (Some own) = by (is_same_type own said)
  where
    by : (b : Bool) → (cond b None (Some fault.OtherType) ≡ None) ⊎ (cond b None (Some fault.OtherType) ≡ Some fault.OtherType)
    by true = inl refl
    by false = inr refl

pub against_goes : (found : Option Fault) (k : Kind) (d : Data) (seen : Detail) → seen.violations.items ≡ [] → (seen.held.items ≡ []) ↔ HoldContents k d → IsAgainst k d found
    → goes_with found seen ≡ true
against_goes found k d seen listed held (inl h) =
    let (m, is, ambiguous) = h in
    rw is (none_is seen.violations.items listed)
against_goes found k d seen listed held (inr h) =
    typed_goes (type_fault k d) found k d seen listed (held.1, held.0) (one_of_two (own_type k) (option_and_then as_str (get (codes "mediaType") d))) h.1
