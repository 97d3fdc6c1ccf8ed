-- What is found at a claim is one thing.
use Rattle.std.proofs.Common.{◌≡◌, ℕ, zero, suc, ◌<◌, List, [], ◌∷◌, length, Option, None, Some, inl, inr, refl, sym, ap, subst, ◌∙◌, arith}
use Rattle.std.specs.Prelude.{slice_index_or}
use Rattle.std.specs.List.{All}
use Rattle.std.proofs.lemmas.List.Elements.{All-head, All-tail}
use Rattle.serde_json.specs.Data.{Data}
use Rattle.oci_model.specs.Shape.{Shape}
use Rattle.oci_content.proofs.Verdicts.{one_verdict}
use Rattle.oci_layout.specs.Claims.{claims_of}
use Rattle.oci_layout.specs.Documents.{HasMember, IsFirstOf, IsTypedAgainst, IsAgainst, IsReadBy, IsValid, type_fault}
use Rattle.oci_layout.specs.Kinds.{document_shape, other_members}
use Rattle.oci_layout.specs.Looks.{fault_of, IsJudgedBy, IsVerified, IsShown}
use Rattle.oci_layout.specs.declared.kind.Kind.{Kind}
use Rattle.oci_layout.specs.declared.member.OtherMember.{OtherMember}
use Rattle.oci_layout.specs.declared.claim.Claim.{Claim}
use Rattle.oci_layout.specs.declared.claim.Fault.{Fault}
use Rattle.oci_layout.specs.declared.claim.Fault.TheVariants as fault

some : {X : Type 0} {x y : X} → Some x ≡ Some y → x ≡ y
some e = cc

abbrev Same : Option Fault → Option Fault → List Claim → List Claim → Type 0
Same f g xs ys = (f ≡ g) × (xs ≡ ys)

first_once : (ms : List OtherMember) (d : Data) (m n : OtherMember) → IsFirstOf ms d m → IsFirstOf ms d n → m ≡ n
first_once [] d m n h k = absurd h
first_once (x ∷ ms) d m n (inl (has, e)) (inl (also, g)) = e ∙ sym g
first_once (x ∷ ms) d m n (inl (has, e)) (inr (lacks, g)) = absurd (lacks has)
first_once (x ∷ ms) d m n (inr (lacks, h)) (inl (has, g)) = absurd (lacks has)
first_once (x ∷ ms) d m n (inr (lacks, h)) (inr (nor, g)) = first_once ms d m n h g

none_first : (ms : List OtherMember) (d : Data) (m : OtherMember) → IsFirstOf ms d m → All (λ n. ¬ HasMember n d) ms → ⊥
none_first [] d m h lacks = absurd h
none_first (x ∷ ms) d m (inl (has, e)) lacks = All-head (λ n. ¬ HasMember n d) x ms lacks has
none_first (x ∷ ms) d m (inr (nor, h)) lacks = none_first ms d m h (All-tail (λ n. ¬ HasMember n d) x ms lacks)

typed_once : (o : Option Fault) (k : Kind) (d : Data) (f g : Option Fault) → IsTypedAgainst o k d f → IsTypedAgainst o k d g → f ≡ g
typed_once (Some x) k d f g e h = e ∙ sym h
typed_once None k d f g (inl (all, e)) (inl (also, h)) = e ∙ sym h
typed_once None k d f g (inl (all, e)) (inr (lacks, h)) = absurd (lacks all)
typed_once None k d f g (inr (lacks, e)) (inl (all, h)) = absurd (lacks all)
typed_once None k d f g (inr (lacks, e)) (inr (nor, h)) = e ∙ sym h

against_once : (k : Kind) (d : Data) (f g : Option Fault) → IsAgainst k d f → IsAgainst k d g → f ≡ g
against_once k d f g (inl (m, e, a)) (inl (n, h, b)) = e ∙ ap (λ x. Some (fault.Ambiguous x)) (first_once (other_members k) d m n a b) ∙ sym h
against_once k d f g (inl (m, e, a)) (inr (lacks, t)) = absurd (none_first (other_members k) d m a lacks)
against_once k d f g (inr (lacks, t)) (inl (m, e, a)) = absurd (none_first (other_members k) d m a lacks)
against_once k d f g (inr (lacks, t)) (inr (nor, s)) = typed_once (type_fault k d) k d f g t s

read_once : (o : Option Shape) (k : Kind) (bytes : List ℕ) (f g : Option Fault) (xs ys : List Claim) → IsReadBy o k bytes f xs → IsReadBy o k bytes g ys → Same f g xs ys
read_once None k bytes f g xs ys (p, e) (q, h) = (p ∙ sym q, e ∙ sym h)
read_once (Some s) k bytes f g xs ys (inl (d, r, inl doc)) (inl (e, t, inl other)) =
    let same : e ≡ d = some (sym t.1 ∙ r.1) in (
      against_once k d f g doc.against (subst (λ v. IsAgainst k v g) same other.against),
      doc.claimed ∙ ap (claims_of k) (sym same) ∙ sym other.claimed,
    )
read_once (Some s) k bytes f g xs ys (inl (d, r, inl doc)) (inl (e, t, inr (bad, (q, none)))) =
    let same : d ≡ e = some (sym r.1 ∙ t.1) in absurd (bad (subst (IsValid s) same doc.valid))
read_once (Some s) k bytes f g xs ys (inl (d, r, inr (bad, (p, none)))) (inl (e, t, inl other)) =
    let same : e ≡ d = some (sym t.1 ∙ r.1) in absurd (bad (subst (IsValid s) same other.valid))
read_once (Some s) k bytes f g xs ys (inl (d, r, inr (bad, (p, none)))) (inl (e, t, inr (worse, (q, nor)))) = (p ∙ sym q, none ∙ sym nor)
read_once (Some s) k bytes f g xs ys (inl (d, r, j)) (inr (n, (q, none))) = let e = sym (n r.0) ∙ r.1 in cc e
read_once (Some s) k bytes f g xs ys (inr (n, (p, none))) (inl (d, r, j)) = let e = sym (n r.0) ∙ r.1 in cc e
read_once (Some s) k bytes f g xs ys (inr (n, (p, none))) (inr (m, (q, nor))) = (p ∙ sym q, none ∙ sym nor)

pub document_once : (k : Kind) (bytes : List ℕ) (f g : Option Fault) (xs ys : List Claim) → IsReadBy (document_shape k) k bytes f xs → IsReadBy (document_shape k) k bytes g ys
    → Same f g xs ys
document_once k bytes f g xs ys h i = read_once (document_shape k) k bytes f g xs ys h i

judged_once : (o : Option Fault) (k : Kind) (bytes : List ℕ) (f g : Option Fault) (xs ys : List Claim) → IsJudgedBy o k bytes f xs → IsJudgedBy o k bytes g ys → Same f g xs ys
judged_once None k bytes f g xs ys h i = document_once k bytes f g xs ys h i
judged_once (Some x) k bytes f g xs ys (p, none) (q, nor) = (p ∙ sym q, none ∙ sym nor)

verified_once : (bytes : List ℕ) (c : Claim) (f g : Option Fault) (xs ys : List Claim) → IsVerified bytes c f xs → IsVerified bytes c g ys → Same f g xs ys
verified_once bytes c f g xs ys (v, t, j) (w, u, i) =
    let same = one_verdict c.digest c.size bytes w v u t in
    judged_once (fault_of v) c.kind bytes f g xs ys j (subst (λ x. IsJudgedBy (fault_of x) c.kind bytes g ys) same i)

pub shown_once : (limit : ℕ) (there : Option (List ℕ)) (c : Claim) (f g : Option Fault) (xs ys : List Claim) → IsShown limit there c f xs → IsShown limit there c g ys
    → Same f g xs ys
shown_once limit None c f g xs ys (p, none) (q, nor) = (p ∙ sym q, none ∙ sym nor)
shown_once limit (Some bytes) c f g xs ys (inl (small, h)) (inl (also, i)) = verified_once bytes c f g xs ys h i
shown_once limit (Some bytes) c f g xs ys (inl (small, h)) (inr (large, i)) = absurd (large small)
shown_once limit (Some bytes) c f g xs ys (inr (large, h)) (inl (small, i)) = absurd (large small)
shown_once limit (Some bytes) c f g xs ys (inr (large, (p, none))) (inr (also, (q, nor))) = (p ∙ sym q, none ∙ sym nor)

-- the member at a place, where none before it is there
pub first_at : (ms : List OtherMember) (d : Data) (i : ℕ) (e : OtherMember) → i < length ms → ((k : ℕ) → k < i → (x : OtherMember) → ¬ HasMember (slice_index_or ms k x) d)
    → HasMember (slice_index_or ms i e) d → IsFirstOf ms d (slice_index_or ms i e)
first_at [] d i e within lacks has = absurd (omega arith)
first_at (m ∷ ms) d zero e within lacks has = inl (has, refl)
first_at (m ∷ ms) d (suc i) e within lacks has = inr (lacks 0 (omega arith) m, first_at ms d i e (omega arith) (λ k less x. lacks (suc k) (omega arith) x) has)

-- ---- what stands against a document, by the steps in which it is found

pub typed_some : (k : Kind) (d : Data) (f : Fault) → Some f ≡ type_fault k d → IsTypedAgainst (type_fault k d) k d (Some f)
typed_some k d f is = subst (λ o. IsTypedAgainst o k d (Some f)) is refl

pub typed_none : (k : Kind) (d : Data) (f : Option Fault) → None ≡ type_fault k d → IsTypedAgainst None k d f → IsTypedAgainst (type_fault k d) k d f
typed_none k d f is h = subst (λ o. IsTypedAgainst o k d f) is h
