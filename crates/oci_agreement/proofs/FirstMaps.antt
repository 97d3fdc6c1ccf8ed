-- The first descriptor with each digest, as a map has it.
use Rattle.std.proofs.Common.{◌≡◌, ℕ, List, Bool, true, false, bytes_eq, Option, Some, None, option_map, is_some, String, Global, string_bytes, refl, sym, ap, ◌∙◌, subst, true≢false}
use Rattle.std.specs.Prelude.{cond, if◌then◌else◌}
use Rattle.std.specs.BTreeMap.{BTreeMap, UpdatesBy, get_by_text}
use Rattle.std.specs.String.{string_cmp}
use Rattle.std.proofs.lemmas.Map.Text.{btree_map_updates_text}
use Rattle.std.proofs.lemmas.Slice.Eq.{bytes_eq-Decides}
use Rattle.oci_agreement.specs.Descriptors.{Mention, mention_of, with_one}
use Rattle.oci_agreement.specs.Firsts.{said_in}
use Rattle.oci_agreement.specs.declared.descriptors.Mention.{Mention as Given}

is_none : {A : Type 0} (o : Option A) → is_some o ≡ false → o ≡ None
is_none None e = refl
is_none (Some x) e = absurd (true≢false e)

other_text : (d q x : List ℕ) → d ≡ x → bytes_eq d q ≡ false → bytes_eq q x ≡ false
other_text d q x is e = go (bytes_eq q x) refl
  where
    go : (b : Bool) → bytes_eq q x ≡ b → b ≡ false
    go false f = refl
    go true f = absurd (true≢false (sym ((bytes_eq-Decides d q).1 (is ∙ sym ((bytes_eq-Decides q x).0 f))) ∙ e))

-- one whose digest is there changes nothing
pub kept : (m : Mention) (s : BTreeMap (String Global) Given) → is_some (get_by_text s m.digest) ≡ true → (q : List ℕ) → said_in s q ≡ with_one m q (said_in s q)
kept m s has q = go (get_by_text s q) refl
  where
    none : (b : Bool) → bytes_eq q m.digest ≡ b → get_by_text s q ≡ None → ◌≡◌ {A = Option Mention} None (if b then Some m else None)
    none false e lacks = refl
    none true e lacks =
        let same : q ≡ m.digest = (bytes_eq-Decides q m.digest).0 e in
        absurd (true≢false (sym has ∙ ap is_some (subst (λ z. get_by_text s z ≡ None) same lacks)))

    go : (o : Option Given) → get_by_text s q ≡ o → option_map mention_of o ≡ with_one m q (option_map mention_of o)
    go (Some f) e = refl
    go None e = none (bytes_eq q m.digest) refl e

-- another is put beside them
pub put_first : (g : Given) (k : String Global) (s n : BTreeMap (String Global) Given) → string_bytes k ≡ (mention_of g).digest → is_some (get_by_text s (mention_of g).digest) ≡ false
    → UpdatesBy string_cmp (string_cmp k) s n (Some g) → (q : List ℕ) → said_in n q ≡ with_one (mention_of g) q (said_in s q)
put_first g k s n is lacks updates q = ap (option_map mention_of) (btree_map_updates_text (string_bytes k) s n (Some g) updates q) ∙ go (bytes_eq (string_bytes k) q) refl
  where
    other : bytes_eq (string_bytes k) q ≡ false → (o : Option Given) → option_map mention_of o ≡ with_one (mention_of g) q (option_map mention_of o)
    other e (Some f) = refl
    other e None = sym (ap (λ b. if b then Some (mention_of g) else None) (other_text (string_bytes k) q (mention_of g).digest is e))

    go : (b : Bool) → bytes_eq (string_bytes k) q ≡ b → option_map mention_of (cond b (Some g) (get_by_text s q)) ≡ with_one (mention_of g) q (option_map mention_of (get_by_text s q))
    go false e = other e (get_by_text s q)
    go true e =
        let same : string_bytes k ≡ q = (bytes_eq-Decides (string_bytes k) q).0 e in
        let none : get_by_text s q ≡ None = is_none (get_by_text s q) (subst (λ z. is_some (get_by_text s z) ≡ false) (sym is ∙ same) lacks) in
        let yes : bytes_eq q (mention_of g).digest ≡ true = (bytes_eq-Decides q (mention_of g).digest).1 (sym same ∙ is) in
        sym (ap (λ o. with_one (mention_of g) q (option_map mention_of o)) none ∙ ap (λ b. if b then Some (mention_of g) else None) yes)
