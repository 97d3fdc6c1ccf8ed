-- Values are equal exactly if their plain trees are.
use Rattle.std.proofs.Common.{◌≡◌, ℕ, ℤ, List, [], ◌∷◌, Bool, true, false, Option, Some, None, String, Vec, Global, bytes_eq, string_bytes, refl, ap, eqb-true, eq-eqb}
use Rattle.std.specs.Prelude.{◌↔◌, ◌==◌, ◌&&◌, map}
use Rattle.std.specs.Bool.{beq}
use Rattle.std.specs.Ordering.{int_eq}
use Rattle.std.specs.BTreeMap.{BTreeMap}
use Rattle.std.specs.Cmp.Lexicographic.{pointwise}
use Rattle.std.specs.Option.{option_eq}
use Rattle.std.proofs.lemmas.Bool.Decides.{Decides-int_eq}
use Rattle.std.proofs.lemmas.Slice.Eq.{bytes_eq-Decides}
use Rattle.oci_base.specs.Names.{Name, variant, other, name_eq, name_eq-Decides}
use Rattle.oci_model.specs.Plain as plain
use Rattle.oci_model.specs.Plain.{Plain, Slot, filled, Slots, no_slots, slot, plains, entries}
use Rattle.oci_model.specs.Types.{truth_plain, integer_plain, variant_plain, text_plain, number_plain, name_plain, list_plain, map_plain, given, perhaps}

-- the test is true exactly where the plain trees are equal
abbrev pub Agrees : {T : Type 0} → (T → T → Bool) → (T → Plain) → Type 0
Agrees {T} eq f = (x y : T) → (eq x y ≡ true) ↔ (f x ≡ f y)

pub same_texts : (x y : String Global) → (bytes_eq (string_bytes x) (string_bytes y) ≡ true) ↔ (text_plain x ≡ text_plain y)
same_texts x y = (λ e. ap plain.text ((bytes_eq-Decides (string_bytes x) (string_bytes y)).0 e), λ e. (bytes_eq-Decides (string_bytes x) (string_bytes y)).1 (cc))

pub same_bytes : (x y : List ℕ) → (bytes_eq x y ≡ true) ↔ (plain.text x ≡ plain.text y)
same_bytes x y = (λ e. ap plain.text ((bytes_eq-Decides x y).0 e), λ e. (bytes_eq-Decides x y).1 (cc))

pub same_numbers : (x y : ℕ) → ((x == y) ≡ true) ↔ (number_plain x ≡ number_plain y)
same_numbers x y = (λ e. ap number_plain (eqb-true x y e), λ e. eq-eqb x y (cc))

pub same_integers : (x y : ℤ) → (int_eq x y ≡ true) ↔ (integer_plain x ≡ integer_plain y)
same_integers x y = (λ e. ap integer_plain ((Decides-int_eq x y).0 e), λ e. (Decides-int_eq x y).1 (cc))

pub same_truths : (x y : Bool) → (beq x y ≡ true) ↔ (truth_plain x ≡ truth_plain y)
same_truths true true = (λ e. refl, λ e. refl)
same_truths true false = (λ e. cc, λ e. cc)
same_truths false true = (λ e. cc, λ e. cc)
same_truths false false = (λ e. refl, λ e. refl)

-- of a closed name, whose variants are equal exactly if their texts are
pub same_variants : {T : Type 0} {eq : T → T → Bool} {name : T → List ℕ} → ((x y : T) → (eq x y ≡ true) ↔ (name x ≡ name y))
    → (x y : T) → (eq x y ≡ true) ↔ (variant_plain name x ≡ variant_plain name y)
same_variants same x y = (λ e. ap plain.variant ((same x y).0 e), λ e. (same x y).1 (cc))

same_name : (n m : Name) → name_plain n ≡ name_plain m → n ≡ m
same_name (variant s) (variant t) e = ap variant (cc)
same_name (variant s) (other t) e = cc
same_name (other s) (variant t) e = cc
same_name (other s) (other t) e = ap other (cc)

pub same_names : (n m : Name) → (name_eq n m ≡ true) ↔ (name_plain n ≡ name_plain m)
same_names n m = (λ e. ap name_plain ((name_eq-Decides n m).0 e), λ e. (name_eq-Decides n m).1 (same_name n m e))

pub same_named : {T : Type 0} (name : T → Name) (x y : T) → (name_eq (name x) (name y) ≡ true) ↔ (name_plain (name x) ≡ name_plain (name y))
same_named name x y = same_names (name x) (name y)

both : (a b : Bool) → (a && b) ≡ true → (a ≡ true) × (b ≡ true)
both true true h = (refl, refl)
both true false h = cc h
both false b h = cc h

and : (a b : Bool) → a ≡ true → b ≡ true → (a && b) ≡ true
and true true h k = refl
and true false h k = cc
and false b h k = cc

module _ {T : Type 0} {eq : T → T → Bool} {f : T → Plain} (agrees : Agrees eq f) where
  to_plains : (xs ys : List T) → pointwise eq xs ys ≡ true → plains (map f xs) ≡ plains (map f ys)
  to_plains [] [] h = refl
  to_plains [] (y ∷ ys) h = cc
  to_plains (x ∷ xs) [] h = cc
  to_plains (x ∷ xs) (y ∷ ys) h =
      let k = both (eq x y) (pointwise eq xs ys) h in
      let e = (agrees x y).0 k.0 in
      let es = to_plains xs ys k.1 in
      cc

  from_plains : (xs ys : List T) → plains (map f xs) ≡ plains (map f ys) → pointwise eq xs ys ≡ true
  from_plains [] [] h = refl
  from_plains [] (y ∷ ys) h = cc
  from_plains (x ∷ xs) [] h = cc
  from_plains (x ∷ xs) (y ∷ ys) h = and (eq x y) (pointwise eq xs ys) ((agrees x y).1 (cc)) (from_plains xs ys (cc))

  pub same_lists : (v w : Vec T Global) → (pointwise eq v.items w.items ≡ true) ↔ (list_plain f v ≡ list_plain f w)
  same_lists v w = (λ h. ap plain.list (to_plains v.items w.items h), λ h. from_plains v.items w.items (cc))

  abbrev Entry : Type 0
  Entry = String Global × T

  abbrev pub entry_eq : Entry → Entry → Bool
  entry_eq p q = bytes_eq (string_bytes p.0) (string_bytes q.0) && eq p.1 q.1

  to_entries : (xs ys : List Entry) → pointwise entry_eq xs ys ≡ true → entries (map (λ e. (string_bytes e.0, f e.1)) xs) ≡ entries (map (λ e. (string_bytes e.0, f e.1)) ys)
  to_entries [] [] h = refl
  to_entries [] (y ∷ ys) h = cc
  to_entries (x ∷ xs) [] h = cc
  to_entries (x ∷ xs) (y ∷ ys) h =
      let k = both (entry_eq x y) (pointwise entry_eq xs ys) h in
      let j = both (bytes_eq (string_bytes x.0) (string_bytes y.0)) (eq x.1 y.1) k.0 in
      let n = (bytes_eq-Decides (string_bytes x.0) (string_bytes y.0)).0 j.0 in
      let e = (agrees x.1 y.1).0 j.1 in
      let es = to_entries xs ys k.1 in
      cc

  from_entries : (xs ys : List Entry) → entries (map (λ e. (string_bytes e.0, f e.1)) xs) ≡ entries (map (λ e. (string_bytes e.0, f e.1)) ys) → pointwise entry_eq xs ys ≡ true
  from_entries [] [] h = refl
  from_entries [] (y ∷ ys) h = cc
  from_entries (x ∷ xs) [] h = cc
  from_entries (x ∷ xs) (y ∷ ys) h =
      and (entry_eq x y) (pointwise entry_eq xs ys)
      (and (bytes_eq (string_bytes x.0) (string_bytes y.0)) (eq x.1 y.1) ((bytes_eq-Decides (string_bytes x.0) (string_bytes y.0)).1 (cc)) ((agrees x.1 y.1).1 (cc)))
      (from_entries xs ys (cc))

  pub same_maps : (v w : BTreeMap (String Global) T) → (pointwise entry_eq v.entries w.entries ≡ true) ↔ (map_plain f v ≡ map_plain f w)
  same_maps v w = (λ h. ap plain.map (to_entries v.entries w.entries h), λ h. from_entries v.entries w.entries (cc))

-- ---- a record, member by member

abbrev pub Tells : Bool → Slots → Slots → Type 0
Tells b us vs = (b ≡ true) ↔ (us ≡ vs)

module _ {T : Type 0} {eq : T → T → Bool} {f : T → Plain} (agrees : Agrees eq f) where
  pub same_given : (x y : T) → (eq x y ≡ true) ↔ (given f x ≡ given f y)
  same_given x y = (λ h. ap filled ((agrees x y).0 h), λ h. (agrees x y).1 (cc))

  pub same_perhaps : (x y : Option T) → (option_eq eq x y ≡ true) ↔ (perhaps f x ≡ perhaps f y)
  same_perhaps None None = (λ h. refl, λ h. refl)
  same_perhaps None (Some y) = (λ h. cc, λ h. cc)
  same_perhaps (Some x) None = (λ h. cc, λ h. cc)
  same_perhaps (Some x) (Some y) = (λ h. ap filled ((agrees x y).0 h), λ h. (agrees x y).1 (cc))

pub same_last : {b : Bool} {u v : Slot} → (b ≡ true) ↔ (u ≡ v) → Tells b (slot u no_slots) (slot v no_slots)
same_last h = (λ e. ap (λ u. slot u no_slots) (h.0 e), λ e. h.1 (cc))

pub same_more : {b c : Bool} {u v : Slot} {us vs : Slots} → (b ≡ true) ↔ (u ≡ v) → Tells c us vs → Tells (b && c) (slot u us) (slot v vs)
same_more {b} {c} {u} {v} {us} {vs} h k = (
  (λ e. let p = both b c e in let s = h.0 p.0 in let t = k.0 p.1 in cc),
  (λ e. and b c (h.1 (cc)) (k.1 (cc))),
)

pub same_document : {b : Bool} {us vs : Slots} → Tells b us vs → (b ≡ true) ↔ (plain.document us ≡ plain.document vs)
same_document h = (λ e. ap plain.document (h.0 e), λ e. h.1 (cc))
