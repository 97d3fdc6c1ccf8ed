-- The grammars of strings, decided by computations.
use Rattle.std.proofs.Common.{◌≡◌, ℕ, zero, suc, ◌+◌, ◌-◌, ◌≤◌, List, [], ◌∷◌, ◌++◌, length, Bool, true, false, not, ◌||◌, bytes_eq, Option, Some, None, is_some, refl, sym, ap, ◌∙◌, subst, arith, true≢false}
use Rattle.std.specs.Prelude.{◌↔◌, IsTrue, IfSome, IfNone, map}
use Rattle.std.specs.List.{list_any}
use Rattle.std.proofs.lemmas.Slice.Eq.{bytes_eq-Decides}
use Rattle.std.proofs.lemmas.List.{length-map}
use Rattle.oci_base.specs.Capabilities.{ascii_upper, cap, repeated, CapText}
use Rattle.oci_base.specs.CpuList.{IsCpuList}
use Rattle.oci_base.specs.Digest.{IsDigestText, digest_refusal}
use Rattle.oci_base.specs.Names.{is_listed}
use Rattle.oci_text.proofs.Refusals.{digest_refused}
use Rattle.oci_text.specs.CpuScan.{is_cpu_text}
use Rattle.oci_text.proofs.CpuLists.{cpu_list_decides}
use Rattle.oci_schema.specs.Allows.{is_digest_text, any_up_to, is_spelled, is_capability}

pub or_right : (a b : Bool) → b ≡ true → (a || b) ≡ true
or_right true b e = refl
or_right false b e = e

-- two computations that decide one thing are one
pub same_decided : {P : Type 0} (a b : Bool) → (a ≡ true) ↔ P → (b ≡ true) ↔ P → a ≡ b
same_decided true b h k = sym (k.1 (h.0 refl))
same_decided false true h k = h.1 (k.0 refl)
same_decided false false h k = refl

-- ---- digests

no_refusal : (o : Option (List ℕ)) → not (is_some o) ≡ true → o ≡ None
no_refusal None e = refl
no_refusal (Some x) e = absurd (true≢false (sym e))

pub digest_decides : (t : List ℕ) → (is_digest_text t ≡ true) ↔ IsDigestText t
unfolding is_digest_text
digest_decides t = (
  (λ e. (digest_refused t).0 (no_refusal (digest_refusal t) e)),
  (λ m. ap (λ o. not (is_some o)) ((digest_refused t).1 m)),
)

pub digest_same : (t : List ℕ) (b : Bool) → IsTrue b ↔ IsDigestText t → b ≡ is_digest_text t
digest_same t b h = same_decided b (is_digest_text t) h (digest_decides t)

-- ---- CPU lists

pub cpu_list_same : (t : List ℕ) (b : Bool) → IsTrue b ↔ IsCpuList t → b ≡ is_cpu_text t
cpu_list_same t b h = same_decided b (is_cpu_text t) h (cpu_list_decides t)

-- ---- capabilities

any_found : (f : ℕ → Bool) (n : ℕ) → any_up_to f n ≡ true → (k : ℕ) × (f k ≡ true)
any_found f zero e = (zero, e)
any_found f (suc n) e = here (f (suc n)) refl e (any_found f n)
  where
    here : (b : Bool) → f (suc n) ≡ b → (b || any_up_to f n) ≡ true → (any_up_to f n ≡ true → (k : ℕ) × (f k ≡ true)) → (k : ℕ) × (f k ≡ true)
    here true is e later = (suc n, is)
    here false is e later = later e

first_true : (a b : Bool) → a ≡ true → (a || b) ≡ true
first_true a b e = rw e refl

-- at one of the numbers below
any_below : (f : ℕ → Bool) (n k m : ℕ) → k + m ≡ n → f k ≡ true → any_up_to f n ≡ true
any_below f zero k m e h = subst (λ i. f i ≡ true) (omega arith) h
any_below f (suc n) k zero e h = first_true (f (suc n)) (any_up_to f n) (subst (λ i. f i ≡ true) (omega arith) h)
any_below f (suc n) k (suc m) e h = or_right (f (suc n)) (any_up_to f n) (any_below f n k m (omega arith) h)

-- it is no shorter than what it repeats
as_long : (n : ℕ) (name : List ℕ) → n ≤ length (repeated n cap ++ name)
as_long zero name = omega arith
as_long (suc n) name = let e = as_long n name in omega arith

pub spelled_decides : (t name : List ℕ) → (is_spelled t name ≡ true) ↔ CapText t name
unfolding is_spelled
spelled_decides t name = (
  (λ e. let k = any_found (λ n. bytes_eq (map ascii_upper t) (repeated n cap ++ name)) (length t) e in
      (k.0, (bytes_eq-Decides (map ascii_upper t) (repeated k.0 cap ++ name)).0 k.1)),
  (λ m. let l : m.0 ≤ length t = (let k = as_long m.0 name in let j = ap length m.1 in omega (arith, length-map t ascii_upper)) in
      any_below (λ n. bytes_eq (map ascii_upper t) (repeated n cap ++ name)) (length t) m.0 (length t - m.0) (omega arith)
      ((bytes_eq-Decides (map ascii_upper t) (repeated m.0 cap ++ name)).1 m.1)),
)

-- some name of the table
abbrev pub OfTable : List (List ℕ) → List ℕ → Type 0
OfTable table t = (name : List ℕ) × IsTrue (is_listed table name) × CapText t name

of_first : (t name : List ℕ) (table : List (List ℕ)) → CapText t name → OfTable (name ∷ table) t
of_first t name table m = (name, first_true (bytes_eq name name) (is_listed table name) ((bytes_eq-Decides name name).1 refl), m)

of_later : (t name : List ℕ) (table : List (List ℕ)) → OfTable table t → OfTable (name ∷ table) t
of_later t name table m = (m.0, or_right (bytes_eq m.0 name) (is_listed table m.0) m.1, m.2)

names_one : (table : List (List ℕ)) (t : List ℕ) → list_any (is_spelled t) table ≡ true → OfTable table t
names_one [] t e = absurd (true≢false (sym e))
names_one (name ∷ table) t e = here (is_spelled t name) refl e (names_one table t)
  where
    here : (b : Bool) → is_spelled t name ≡ b → (b || list_any (is_spelled t) table) ≡ true → (list_any (is_spelled t) table ≡ true → OfTable table t) → OfTable (name ∷ table) t
    here true is e later = of_first t name table ((spelled_decides t name).0 is)
    here false is e later = of_later t name table (later e)

names_back : (table : List (List ℕ)) (t name : List ℕ) → is_listed table name ≡ true → CapText t name → list_any (is_spelled t) table ≡ true
names_back [] t name is m = absurd (true≢false (sym is))
names_back (n ∷ table) t name is m = here (bytes_eq name n) refl is (λ e. names_back table t name e m)
  where
    here : (b : Bool) → bytes_eq name n ≡ b → (b || is_listed table name) ≡ true → (is_listed table name ≡ true → list_any (is_spelled t) table ≡ true)
        → (is_spelled t n || list_any (is_spelled t) table) ≡ true
    here true same e later = first_true (is_spelled t n) (list_any (is_spelled t) table) ((spelled_decides t n).1 (subst (CapText t) ((bytes_eq-Decides name n).0 same) m))
    here false other e later = or_right (is_spelled t n) (list_any (is_spelled t) table) (later e)

pub capability_decides : (table : List (List ℕ)) (t : List ℕ) → (is_capability table t ≡ true) ↔ OfTable table t
unfolding is_capability
capability_decides table t = (names_one table t, λ m. names_back table t m.0 m.1 m.2)

-- what a look-up of a text says
module _ {C : Type 0} (name : C → List ℕ) (table : List (List ℕ)) (known : (x : C) → IsTrue (is_listed table (name x))) where
  pub capability_same : (t : List ℕ) (r : Option C) (b : Bool) → b ≡ is_some r → IfSome r (λ x. CapText t (name x)) → IfNone r ((n : List ℕ) → IsTrue (is_listed table n) → ¬ CapText t n)
      → b ≡ is_capability table t
  capability_same t (Some x) b e some none = e ∙ sym ((capability_decides table t).1 (name x, known x, some))
  capability_same t None b e some none = e ∙ lacking (is_capability table t) (λ h. let m = (capability_decides table t).0 h in none m.0 m.1 m.2)
    where
      lacking : (c : Bool) → (c ≡ true → ⊥) → false ≡ c
      lacking true f = absurd (f refl)
      lacking false f = refl
