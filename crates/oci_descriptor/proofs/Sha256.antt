-- SHA-256 digests, recognized by the name of their algorithm.
use Rattle.std.proofs.Common.{◌≡◌, ℕ, List, Bool, true, false, cond, bytes_eq, codes, Option, Some, None, ◌↔◌, refl, sym, subst, ap, ◌∙◌}
use Rattle.std.proofs.lemmas.Slice.Eq.{bytes_eq-Decides}
use Rattle.oci_base.specs.Digest.{IsDigest, IsDigestText}
use Rattle.oci_base.specs.Names.{Name, variant, other, is_listed, opened, name_text}
use Rattle.oci_descriptor.specs.DescriptorOwn.{sha256_part}

same : (b : Bool) (t : List ℕ) → name_text (cond b (variant t) (other t)) ≡ t
same true t = refl
same false t = refl

-- the text of an algorithm that was read is its own
own_text : (table : List (List ℕ)) (a t : List ℕ) (n : Name) → t ≡ name_text n → n ≡ opened table a → t ≡ a
own_text table a t n e named = e ∙ ap name_text named ∙ same (is_listed table a) a

-- the encoded part, where the algorithm's text is `sha256`
pub encoded_part : (table : List (List ℕ)) (d t rest : List ℕ) (n : Name) → t ≡ name_text n → bytes_eq t (codes "sha256") ≡ true
    → ((a e : List ℕ) → IsDigest d a e → n ≡ opened table a) → ((a e : List ℕ) → IsDigest d a e → rest ≡ e)
    → (a e : List ℕ) → IsDigest d a e → Some rest ≡ sha256_part a e
encoded_part table d t rest n text is named encoded a e h =
    let there : bytes_eq a (codes "sha256") ≡ true = subst (λ u. bytes_eq u (codes "sha256") ≡ true) (own_text table a t n text (named a e h)) is in
    ap Some (encoded a e h) ∙ sym (ap (λ b. cond b (Some e) None) there)

-- none, where it is another
pub no_part : (table : List (List ℕ)) (d t : List ℕ) (n : Name) → t ≡ name_text n → bytes_eq t (codes "sha256") ≡ false
    → ((a e : List ℕ) → IsDigest d a e → n ≡ opened table a) → (a e : List ℕ) → IsDigest d a e → None ≡ sha256_part a e
no_part table d t n text is named a e h =
    let absent : bytes_eq a (codes "sha256") ≡ false = subst (λ u. bytes_eq u (codes "sha256") ≡ false) (own_text table a t n text (named a e h)) is in
    sym (ap (λ b. cond b (Some e) None) absent)

-- there is a part exactly where the digest is one of SHA-256
of_part : (b : Bool) (d a x e : List ℕ) → bytes_eq a (codes "sha256") ≡ b → IsDigest d a x → cond b (Some x) None ≡ Some e → IsDigest d (codes "sha256") e
of_part true d a x e named h is =
    let algorithm : a ≡ codes "sha256" = (bytes_eq-Decides a (codes "sha256")).0 named in
    let encoded : x ≡ e = cc in
    subst (λ y. IsDigest d (codes "sha256") y) encoded (subst (λ y. IsDigest d y x) algorithm h)
of_part false d a x e named h is = absurd (cc)

pub is_sha256 : (d : List ℕ) (o : Option (List ℕ)) → IsDigestText d → ((a e : List ℕ) → IsDigest d a e → o ≡ sha256_part a e)
    → (e : List ℕ) → (o ≡ Some e) ↔ IsDigest d (codes "sha256") e
is_sha256 d o (a, x, h) value e = ((λ is. of_part (bytes_eq a (codes "sha256")) d a x e refl h (sym (value a x h) ∙ is)), (λ k. value (codes "sha256") e k))
