-- Names of references, repositories and tags.
use Rattle.std.proofs.Common.{◌≡◌, ℕ, ◌≤◌, List, [], ◌∷◌, ◌++◌, Bool, true, false, length, Option, Some, None, Result, Ok, Err, refl, sym, ap, ◌∙◌, subst, inl, inr, take, append_assoc, arith}
use Rattle.std.specs.Prelude.{codes, ◌↔◌, IsTrue, is_ok, is_none, is_some, IfOk, IsOk, option_map, ◌==◌}
use Rattle.std.specs.Bool.{Decides}
use Rattle.std.specs.Char.{is_ascii_alphanumeric}
use Rattle.std.specs.List.{fold}
use Rattle.std.proofs.lemmas.Bool.Decides.{Decides-and, Decides-or, Decides-like}
use Rattle.std.proofs.lemmas.Slice.Eq.{bytes_eq-Decides}
use Rattle.std.proofs.Math.Seq.{take-append_seam}
use Rattle.oci_text.specs.CpuScan.{is_cpu_text}
use Rattle.oci_text.proofs.CpuLists.{cpu_list_decides}
use Rattle.oci_reference.proofs.Found.{held, held_reads}
use Rattle.oci_reference.proofs.Readings.{reading_once}
use Rattle.oci_reference.specs.Pieces.{IsPieces}
use Rattle.oci_reference.specs.Reference.{IsSeparator, IsComponent, IsPath, IsTag, IsReference}
use Rattle.oci_reference.specs.Scanner.{start, step, found}
use Rattle.oci_reference.specs.declared.error.ParseError.{ParseError}
use Rattle.oci_reference.specs.declared.pieces.Pieces.{Pieces}
use Rattle.oci_reference.specs.declared.scanner.places.Places.{Places}
use Rattle.oci_text.proofs.Refusals.{digest_refused}
use Rattle.oci_base.specs.CpuList.{IsCpuList}
use Rattle.oci_base.specs.Digest.{digest_refusal, IsDigestText}
use Rattle.oci_base.specs.Classes.{dash, dot, slash, colon, at_sign, behind, has, until, is_lower, is_tag_byte, is_word, IsSomeOf}
use Rattle.oci_base.proofs.Lacks.{Lacks, lacks_in, lacks_some, lacks_one, lacks_joined}
use Rattle.oci_grammars.specs.Decided.{is_tag, is_qualified, part_of, are_joined}
use Rattle.oci_grammars.specs.FullTexts.{full_by, is_full_text}
use Rattle.oci_grammars.specs.Parts.{IsHeaded}
use Rattle.oci_grammars.specs.RefNames.{is_ref_mark, IsRefSeparator, IsRefComponent, IsRefName, IsSomeReference, IsQualified, IsFullReference}
use Rattle.oci_grammars.specs.declared.parts.Part.TheVariants.{RefComponent, PathComponent}
use Rattle.oci_grammars.proofs.Components.{ref_component, path_component}
use Rattle.oci_grammars.proofs.Deciding.{Tells, Decides-le, Decides-itself, headed_tells, joined_tells}

ref_separator_lacks : (s : List ℕ) → IsRefSeparator s → Lacks slash s
ref_separator_lacks s (inl h) = lacks_one is_ref_mark slash refl s h
ref_separator_lacks s (inr e) = subst (Lacks slash) (sym e) (lacks_in is_ref_mark slash refl (codes "--") refl)

pub ref_name : Tells (are_joined RefComponent slash) IsRefName
ref_name =
    joined_tells slash (part_of RefComponent) IsRefComponent ref_component
    (lacks_joined slash IsRefSeparator (IsSomeOf is_ascii_alphanumeric) ref_separator_lacks (lacks_some is_ascii_alphanumeric slash refl))

separator_lacks : (s : List ℕ) → IsSeparator s → Lacks slash s
separator_lacks s (inl e) = subst (Lacks slash) (sym e) (lacks_in is_tag_byte slash refl (codes ".") refl)
separator_lacks s (inr (inl e)) = subst (Lacks slash) (sym e) (lacks_in is_tag_byte slash refl (codes "_") refl)
separator_lacks s (inr (inr (inl e))) = subst (Lacks slash) (sym e) (lacks_in is_tag_byte slash refl (codes "__") refl)
separator_lacks s (inr (inr (inr h))) = lacks_some (λ b. b == dash) slash refl s h

pub repository : Tells (are_joined PathComponent slash) IsPath
repository =
    joined_tells slash (part_of PathComponent) IsComponent path_component (lacks_joined slash IsSeparator (IsSomeOf is_lower) separator_lacks (lacks_some is_lower slash refl))

-- a tag, as a first byte and the others
tag_from : (t : List ℕ) → IsHeaded is_word is_tag_byte t × (length t ≤ 128) → IsTag t
tag_from t (h, few) =
    let size : length (h.first ∷ h.rest) ≤ 128 = subst (λ z. length z ≤ 128) h.spelled few in
    record { first = h.first ∷ []; rest = h.rest; is_first = (h.first, h.begins, refl); are_rest = h.goes_on; short = omega arith; spelled = h.spelled }

tag_to : (t : List ℕ) → IsTag t → IsHeaded is_word is_tag_byte t × (length t ≤ 128)
tag_to t k =
    let (b, begins, e) = k.is_first in
    let spelled : t ≡ b ∷ k.rest = k.spelled ∙ ap (λ z. z ++ k.rest) e in
    let few : length (b ∷ k.rest) ≤ 128 = omega (arith, k.short) in
    (record { first = b; rest = k.rest; spelled = spelled; begins = begins; goes_on = k.are_rest }, subst (λ z. length z ≤ 128) (sym spelled) few)

pub tag : Tells is_tag IsTag
tag t = Decides-like (is_tag t) (tag_from t) (tag_to t) (Decides-and _ _ (headed_tells is_word is_tag_byte t) (Decides-le (length t) 128))

pub reference_decides : (t : List ℕ) (r : Result Pieces ParseError) (b : Bool) → b ≡ is_ok r → IfOk r (λ p. IsPieces t p)
    → ((n : List ℕ) (g d : Option (List ℕ)) → IsReference t n g d → IsOk r) → Decides b (IsSomeReference t)
reference_decides t (Ok p) b e ok only = ((λ _. (p.name.now, option_map (λ x. x.now) p.tag, option_map (λ x. x.now) p.digest, ok)), (λ _. e))
reference_decides t (Err f) b e ok only = ((λ h. let clash : true ≡ false = sym h ∙ e in cc clash), (λ h. let clash = only h.0 h.1 h.2 h.3 in cc clash))

pub reference : (t : List ℕ) → Decides (is_some (found (fold step start t))) (IsSomeReference t)
reference t = ((λ e. go (found (fold step start t)) refl e), (λ h. ap is_some (held (fold step start t) t h.0 h.1 h.2 refl h.3)))
  where
    go : (o : Option Places) → found (fold step start t) ≡ o → is_some (found (fold step start t)) ≡ true → IsSomeReference t
    go None e k = let clash : false ≡ true = sym (ap is_some e) ∙ k in cc clash
    go (Some p) e k = let (n, g, d, r, s) = held_reads (fold step start t) t p refl e in (n, g, d, r)

pub digest : (t : List ℕ) → Decides (is_none (digest_refusal t)) (IsDigestText t)
digest t = go (digest_refusal t) refl
  where
    go : (o : Option (List ℕ)) → digest_refusal t ≡ o → Decides (is_none (digest_refusal t)) (IsDigestText t)
    go None e = ((λ k. (digest_refused t).0 e), (λ h. ap is_none e))
    go (Some x) e = ((λ k. let clash : false ≡ true = sym (ap is_none e) ∙ k in cc clash), (λ h. let clash : Some x ≡ None = sym e ∙ (digest_refused t).1 h in cc clash))

pub cpu_list : (t : List ℕ) → Decides (is_cpu_text t) (IsCpuList t)
cpu_list t = cpu_list_decides t

-- ---- full references

qualified_tells : (name : List ℕ) → Decides (is_qualified name) (IsQualified name)
qualified_tells name =
    Decides-and _ _ (Decides-itself (has slash name))
    (Decides-or _ _ (Decides-itself (has dot (until slash name))) (Decides-or _ _ (Decides-itself (has colon (until slash name))) (bytes_eq-Decides (until slash name) (codes "localhost"))))

pub full_decides : (t n : List ℕ) (g d : Option (List ℕ)) → IsReference t n g d → (r : Bool) → r ≡ is_qualified n → (IsTrue r) ↔ IsFullReference t
full_decides t n g d read r e = (
  (λ k. (n, g, d, read, (qualified_tells n).0 (sym e ∙ k))),
  (λ h. let same = reading_once t n h.0 g h.1 d h.2 read h.3 in e ∙ ap is_qualified same.0 ∙ (qualified_tells h.0).1 h.4),
)

pub no_reference : (t : List ℕ) → ((n : List ℕ) (g d : Option (List ℕ)) → IsReference t n g d → ⊥) → (IsTrue false) ↔ IsFullReference t
no_reference t none = ((λ k. cc k), (λ h. absurd (none h.0 h.1 h.2 h.3)))

-- as a computation, by the name that the scan finds
name_of : (t n : List ℕ) (g d : Option (List ℕ)) → IsReference t n g d → take (length n) t ≡ n
name_of t n g d h = ap (take (length n)) (h.spelled ∙ append_assoc n (behind colon g) (behind at_sign d)) ∙ take-append_seam n (behind colon g ++ behind at_sign d)

pub full_reference : (t : List ℕ) → Decides (is_full_text t) (IsFullReference t)
full_reference t = ((λ e. go (found (fold step start t)) refl e), back)
  where
    go : (o : Option Places) → found (fold step start t) ≡ o → is_full_text t ≡ true → IsFullReference t
    go None e k = let clash : false ≡ true = sym (ap (full_by t) e) ∙ k in cc clash
    go (Some p) e k =
        let (n, g, d, r, s) = held_reads (fold step start t) t p refl e in
        let size : p.name ≡ length n = ap (λ z. z.name) s in
        let name : take p.name t ≡ n = ap (λ z. take z t) size ∙ name_of t n g d r in
        (n, g, d, r, (qualified_tells n).0 (sym (ap is_qualified name) ∙ (sym (ap (full_by t) e) ∙ k)))

    back : IsFullReference t → is_full_text t ≡ true
    back h =
        let e = held (fold step start t) t h.0 h.1 h.2 refl h.3 in
        ap (full_by t) e ∙ ap is_qualified (name_of t h.0 h.1 h.2 h.3) ∙ (qualified_tells h.0).1 h.4
