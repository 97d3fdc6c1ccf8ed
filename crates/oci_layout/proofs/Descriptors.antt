-- What descriptors hold themselves, and lists that stay empty.
use Rattle.std.proofs.Common.{◌≡◌, ℕ, ◌+◌, true, List, [], ◌∷◌, ◌++◌, take, map, Option, None, Some, Result, Ok, inl, inr, refl, sym, ap, subst, ◌∙◌, true≢false, append_assoc}
use Rattle.std.specs.List.{All}
use Rattle.std.proofs.lemmas.List.Elements.{All-nil, All-cons, All-head, All-tail, All-append, All-map}
use Rattle.oci_content.specs.Content.{IsContentOf}
use Rattle.oci_content.specs.Embedded.{TellsData}
use Rattle.oci_content.specs.declared.embedded.Embedded.{Embedded}
use Rattle.oci_content.specs.declared.embedded.Embedded.TheVariants.{Absent, NotBase64, Content}
use Rattle.oci_content.specs.declared.verdict.Verdict.{Verdict}
use Rattle.oci_content.specs.declared.verdict.Verdict.TheVariants as verdict
use Rattle.oci_content.proofs.Verdicts.{right_is_same}
use Rattle.std.specs.Prelude.{codes, option_and_then}
use Rattle.serde_json.specs.Data.{Data}
use Rattle.serde_json.specs.Find.{as_str, get}
use Rattle.oci_layout.specs.Claims.{claim_of, one_item}
use Rattle.oci_layout.specs.Holds.{IsHeld, is_held, is_same, HoldsContent, StaysEmpty}
use Rattle.oci_layout.specs.declared.claim.Claim.{Claim}
use Rattle.oci_layout.specs.declared.claim.Role.{Role}

ok : {A E : Type 0} {x y : A} (r : Result A E) → r ≡ Ok x → r ≡ Ok y → x ≡ y
ok r e h = cc

same_of : (v : Verdict) → is_same v ≡ true → v ≡ verdict.Same
same_of verdict.Same h = refl
same_of (verdict.Shorter n) h = absurd (true≢false (sym h))
same_of verdict.Longer h = absurd (true≢false (sym h))
same_of (verdict.OtherDigest sum) h = absurd (true≢false (sym h))
same_of verdict.Unjudged h = absurd (true≢false (sym h))

pub held : (digest : List ℕ) (size : ℕ) (text : Option (List ℕ)) (e : Embedded) → TellsData digest size text e → is_held e ≡ true → IsHeld digest size text
held digest size None e t h = inl refl
held digest size (Some text) Absent t h = absurd t
held digest size (Some text) NotBase64 t h = absurd (true≢false (sym h))
held digest size (Some text) (Content v) t h = inr (subst (λ w. TellsData digest size (Some text) (Content w)) (same_of v h) t)

pub found_held : (digest : List ℕ) (size : ℕ) (text : Option (List ℕ)) (e : Embedded) → TellsData digest size text e → IsHeld digest size text → is_held e ≡ true
found_held digest size None e t h = ap is_held t
found_held digest size (Some text) Absent t h = absurd t
found_held digest size (Some text) e t (inl none) = absurd none
found_held digest size (Some text) NotBase64 (fault, bad) (inr (bytes, good, right)) = let e = sym bad ∙ good in cc e
found_held digest size (Some text) (Content v) (bytes, good, told) (inr (others, same, right)) =
    ap is_same (right_is_same digest size bytes v told (subst (IsContentOf digest size) (ok _ same good) right))

-- ---- lists that stay empty

not_empty : {X : Type 0} (xs : List X) (x : X) → xs ++ x ∷ [] ≡ [] → ⊥
not_empty [] x e = cc e
not_empty (y ∷ ys) x e = cc e

pub stays_same : {X : Type 0} (xs : List X) (P : Type 0) → P → StaysEmpty xs xs P
stays_same xs P p = (λ e. (e, p), λ h. h.0)

pub stays_pushed : {X : Type 0} (old new : List X) (x : X) (P : Type 0) → new ≡ old ++ x ∷ [] → ¬ P → StaysEmpty old new P
stays_pushed old new x P is lacks = (λ e. absurd (not_empty old x (sym is ∙ e)), λ h. absurd (lacks h.1))

pub stays_by : {X : Type 0} (old new : List X) (P Q : Type 0) → (P → Q) → (Q → P) → StaysEmpty old new P → StaysEmpty old new Q
stays_by old new P Q to from h = (λ e. ((h.0 e).0, to (h.0 e).1), λ k. h.1 (k.0, from k.1))

pub stays_twice : {X : Type 0} (old mid new : List X) (P Q : Type 0) → StaysEmpty old mid P → StaysEmpty mid new Q → StaysEmpty old new (P × Q)
stays_twice old mid new P Q h k = (λ e. ((h.0 (k.0 e).0).0, ((h.0 (k.0 e).0).1, (k.0 e).1)), λ l. k.1 (h.1 (l.0, l.1.0), l.1.1))

pub split : {X : Type 0} (P : X → Type 0) (xs ys : List X) → All P (xs ++ ys) → All P xs × All P ys
split P [] ys h = (All-nil P, h)
split P (x ∷ xs) ys h =
    let (a, b) = split P xs ys (All-tail P x (xs ++ ys) h) in
    (All-cons P x xs (All-head P x (xs ++ ys) h) a, b)

-- one part after the other
pub stays_joined : {X Y : Type 0} (P : Y → Type 0) (old mid new : List X) (xs ys : List Y) → StaysEmpty old mid (All P xs) → StaysEmpty mid new (All P ys)
    → StaysEmpty old new (All P (xs ++ ys))
stays_joined P old mid new xs ys h k =
    stays_by old new (All P xs × All P ys) (All P (xs ++ ys)) (λ l. All-append P xs ys l.0 l.1) (split P xs ys) (stays_twice old mid new (All P xs) (All P ys) h k)

pub stays_one : {X Y : Type 0} (P : Y → Type 0) (old new : List X) (y : Y) → StaysEmpty old new (P y) → StaysEmpty old new (All P (y ∷ []))
stays_one P old new y h = stays_by old new (P y) (All P (y ∷ [])) (λ p. All-cons P y [] p (All-nil P)) (All-head P y []) h

pub stays_none : {X Y : Type 0} (P : Y → Type 0) (xs : List X) → StaysEmpty xs xs (All P [])
stays_none P xs = stays_same xs (All P []) (All-nil P)

-- one item more
pub stays_more : {X Y : Type 0} (P : Y → Type 0) (old mid new : List X) (ys : List Y) (i : ℕ) (y : Y) → take (i + 1) ys ≡ take i ys ++ y ∷ []
    → StaysEmpty old mid (All P (take i ys)) → StaysEmpty mid new (P y) → StaysEmpty old new (All P (take (i + 1) ys))
stays_more P old mid new ys i y more h k =
    subst (λ l. StaysEmpty old new (All P l)) (sym more) (stays_joined P old mid new (take i ys) (y ∷ []) h (stays_one P mid new y k))

unmap : {X Y : Type 0} (P : Y → Type 0) (f : X → Y) (xs : List X) → All P (map f xs) → All (λ x. P (f x)) xs
unmap P f [] h = All-nil (λ x. P (f x))
unmap P f (x ∷ xs) h = All-cons (λ y. P (f y)) x xs (All-head P (f x) (map f xs) h) (unmap P f xs (All-tail P (f x) (map f xs) h))

-- the same of what the items are seen as
pub stays_mapped : {X Y Z : Type 0} (P : Y → Type 0) (f : Z → Y) (old new : List X) (zs : List Z) (ys : List Y) → map f zs ≡ ys
    → StaysEmpty old new (All (λ z. P (f z)) zs) → StaysEmpty old new (All P ys)
stays_mapped P f old new zs ys is h =
    subst (λ l. StaysEmpty old new (All P l)) is (stays_by old new (All (λ z. P (f z)) zs) (All P (map f zs)) (All-map P f zs) (unmap P f zs) h)

-- from nothing on
pub begun : {X : Type 0} (none new : List X) (P : Type 0) → none ≡ [] → StaysEmpty none new P → StaysEmpty [] new P
begun none new P e h = subst (λ l. StaysEmpty l new P) e h

-- what is found of one descriptor
pub added_held : {X : Type 0} (old new : List X) (d : Data) (claim : Claim) (role : Role) (e : Embedded) → claim ≡ claim_of role d
    → TellsData claim.digest claim.size (option_and_then as_str (get (codes "data") d)) e → StaysEmpty old new (is_held e ≡ true) → StaysEmpty old new (HoldsContent d)
added_held old new d claim role e is t h =
    let text = option_and_then as_str (get (codes "data") d) in
    let said = claim_of role d in
    let told : TellsData said.digest said.size text e = subst (λ (x : Claim). TellsData x.digest x.size text e) is t in
    stays_by old new (is_held e ≡ true) (HoldsContent d) (held said.digest said.size text e told) (found_held said.digest said.size text e told) h

pub none_under : {X : Type 0} (xs : List X) (o : Option Data) → None ≡ o → StaysEmpty xs xs (All HoldsContent (one_item o))
none_under xs o is = subst (λ x. StaysEmpty xs xs (All HoldsContent (one_item x))) is (stays_none HoldsContent xs)

pub one_under : {X : Type 0} (old new : List X) (d : Data) (o : Option Data) → Some d ≡ o → StaysEmpty old new (HoldsContent d) → StaysEmpty old new (All HoldsContent (one_item o))
one_under old new d o is h = subst (λ x. StaysEmpty old new (All HoldsContent (one_item x))) is (stays_one HoldsContent old new d h)

map_both : {A B : Type 0} (f : A → B) (xs : List A) (y : A) → map f (xs ++ y ∷ []) ≡ map f xs ++ f y ∷ []
map_both f [] y = refl
map_both f (x ∷ xs) y = ap (λ q. f x ∷ q) (map_both f xs y)

-- what one item more claims
pub mapped_more : {A B : Type 0} (f : A → B) (base mid new : List B) (xs : List A) (i : ℕ) (x : A) → take (i + 1) xs ≡ take i xs ++ x ∷ []
    → mid ≡ base ++ map f (take i xs) → new ≡ mid ++ f x ∷ [] → new ≡ base ++ map f (take (i + 1) xs)
mapped_more f base mid new xs i x more h is =
    is ∙ ap (λ q. q ++ f x ∷ []) h ∙ append_assoc base (map f (take i xs)) (f x ∷ []) ∙ ap (λ q. base ++ q) (sym (map_both f (take i xs) x))
    ∙ sym (ap (λ q. base ++ map f q) more)
