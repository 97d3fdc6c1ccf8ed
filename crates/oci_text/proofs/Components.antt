-- The components of an algorithm, taken off one by one, and the cut at the first colon.
use Rattle.std.proofs.Common.{◌≡◌, ◌≢◌, ℕ, ◌+◌, ◌-◌, ◌<◌, ◌≤◌, Bool, true, false, List, [], ◌∷◌, ◌++◌, Option, Some, None, length, take, drop, get_or, refl, sym, ap, ◌∙◌, arith}
use Rattle.std.specs.Prelude.{position, nat_lt, is_some, option_map, codes, slice_range, not, ◌↔◌}
use Rattle.std.specs.Str.{IsUtf8, IsCharBoundary}
use Rattle.std.specs.List.{slice_split, position_or_len}
use Rattle.std.specs.Option.{option_or}
use Rattle.std.proofs.lemmas.List.Splits.{slice_split-cons_no, slice_split_first}
use Rattle.std.proofs.lemmas.List.Quantifiers.{position-Some}
use Rattle.std.proofs.lemmas.Bool.{ltb-true, ltb-false}
use Rattle.std.proofs.lemmas.Str.{IsCharBoundary-before_ascii, IsCharBoundary-after_ascii}
use Rattle.oci_text.specs.declared.fault.Fault.{Fault}
use Rattle.oci_base.specs.Classes.{has, until, after, colon, is_joint}
use Rattle.oci_base.specs.Digest.{part_refusal, component_refusal, encoded_refusal, digest_refusal, IsDigest}
use Rattle.oci_text.specs.Faults.{fault_text}
use Rattle.oci_base.proofs.Lacks.{lacks_from}
use Rattle.oci_text.proofs.Refusals.{digest_refused}
use Rattle.oci_base.proofs.Marks.{has_at, has_none, until_is}

-- where the first mark is, if there is one
first_at : (p : ℕ → Bool) (t : List ℕ) (i : ℕ) → position p t ≡ Some i → (position_or_len p t < length t) × (position_or_len p t ≡ i)
first_at p t i h = go (nat_lt (position_or_len p t) (length t)) refl
  where
    go : (within : Bool) → nat_lt (position_or_len p t) (length t) ≡ within → (position_or_len p t < length t) × (position_or_len p t ≡ i)
    go true e = let same = rw e at h in (ltb-true (position_or_len p t) (length t) e, cc same)
    go false e = let clash = rw e at h in cc clash

-- no mark anywhere
no_position : (p : ℕ → Bool) (t : List ℕ) → position p t ≡ None → length t ≤ position_or_len p t
no_position p t h = go (nat_lt (position_or_len p t) (length t)) refl
  where
    go : (within : Bool) → nat_lt (position_or_len p t) (length t) ≡ within → length t ≤ position_or_len p t
    go true e = let clash = rw e at h in cc clash
    go false e = ltb-false (position_or_len p t) (length t) e

-- the parts, where none is marked and where the first mark is at a place
unmarked : (p : ℕ → Bool) (t : List ℕ) → length t ≤ position_or_len p t → slice_split p t ≡ t ∷ []
unmarked p [] h = refl
unmarked p (b ∷ t) h = go (p b) refl (unmarked p t)
  where
    go : (marked : Bool) → p b ≡ marked → (length t ≤ position_or_len p t → slice_split p t ≡ t ∷ []) → slice_split p (b ∷ t) ≡ (b ∷ t) ∷ []
    go true e rec = let clash = rw e at h in absurd (omega (arith, clash))
    go false e rec = let more = rw e at h in rw (slice_split-cons_no p b t e, rec (omega (arith, more))) refl

-- a text without a mark is one part
pub split_whole : (p : ℕ → Bool) (t : List ℕ) → position p t ≡ None → slice_split p t ≡ t ∷ []
split_whole p t h = unmarked p t (no_position p t h)

-- the first part of another
pub split_first : (p : ℕ → Bool) (t : List ℕ) (i : ℕ) → position p t ≡ Some i → slice_split p t ≡ take i t ∷ slice_split p (drop (i + 1) t)
split_first p t i h =
    let at = first_at p t i h in
    slice_split_first p t 0 at.0 ∙ ap (λ k. take k t ∷ slice_split p (drop (k + 1) t)) at.1

-- The first fault.
some_map : {A B : Type 0} (f : A → B) (o : Option A) → is_some (option_map f o) ≡ is_some o
some_map f None = refl
some_map f (Some x) = refl

-- the first answer, where it is there
first_of : (x y : Option (List ℕ)) → is_some x ≡ true → option_or x y ≡ x
first_of None y h = cc h
first_of (Some x) y h = refl

-- else the second
second_of : (x y : Option (List ℕ)) → is_some x ≡ false → option_or x y ≡ y
second_of None y h = refl
second_of (Some x) y h = cc h

-- an answer or none
or_none : (x : Option (List ℕ)) → option_or x None ≡ x
or_none None = refl
or_none (Some x) = refl

-- what stands before a place
pub front_range : (t : List ℕ) (i : ℕ) → slice_range t 0 i ≡ take i t
front_range t i = let same : i - 0 ≡ i = omega arith in ap (λ k. take k t) same

-- the refusal of a text, by its first component
by_first : (t part : List ℕ) (i : ℕ) → position is_joint t ≡ Some i → part ≡ slice_range t 0 i
    → component_refusal (slice_split is_joint t) ≡ option_or (part_refusal part) (component_refusal (slice_split is_joint (drop (i + 1) t)))
by_first t part i h e = ap component_refusal (split_first is_joint t i h) ∙ ap (λ z. option_or (part_refusal z) (component_refusal (slice_split is_joint (drop (i + 1) t)))) (sym (front_range t i) ∙ sym e)

-- the first part has a fault
pub faulty_part : (t part : List ℕ) (i : ℕ) (o : Option Fault) → position is_joint t ≡ Some i → part ≡ slice_range t 0 i
    → option_map fault_text o ≡ part_refusal part → is_some o ≡ true → option_map fault_text o ≡ component_refusal (slice_split is_joint t)
faulty_part t part i o h e is there =
    is ∙ sym (by_first t part i h e ∙ first_of (part_refusal part) _ (ap is_some (sym is) ∙ some_map fault_text o ∙ there))

-- the first part has none
pub sound_part : (t part rest : List ℕ) (i : ℕ) (o : Option Fault) → position is_joint t ≡ Some i → part ≡ slice_range t 0 i → rest ≡ drop (i + 1) t
    → option_map fault_text o ≡ part_refusal part → is_some o ≡ false → component_refusal (slice_split is_joint t) ≡ component_refusal (slice_split is_joint rest)
sound_part t part rest i o h e behind is none =
    by_first t part i h e ∙ second_of (part_refusal part) _ (ap is_some (sym is) ∙ some_map fault_text o ∙ none)
    ∙ ap (λ z. component_refusal (slice_split is_joint z)) (sym behind)

-- the only part
pub only_part : (t : List ℕ) → position is_joint t ≡ None → part_refusal t ≡ component_refusal (slice_split is_joint t)
only_part t h = sym (ap component_refusal (split_whole is_joint t h) ∙ or_none (part_refusal t))

-- A joint is ASCII, so a text can be cut before and behind it.
joint_ascii : (b : ℕ) → is_joint b ≡ true → b < 128
joint_ascii b h = grind arith

-- a joint is cut out at characters' boundaries
pub joint_before : (t : List ℕ) (i : ℕ) → position is_joint t ≡ Some i → IsCharBoundary t i
joint_before t i h = let at = position-Some is_joint t i 0 h in IsCharBoundary-before_ascii t i at.0 (joint_ascii (get_or t i 0) at.1)

-- and what stands behind it too
pub joint_behind : (t : List ℕ) (i : ℕ) → IsUtf8 t → position is_joint t ≡ Some i → IsCharBoundary t (i + 1)
joint_behind t i u h = let at = position-Some is_joint t i 0 h in IsCharBoundary-after_ascii t i u at.0 (joint_ascii (get_or t i 0) at.1)

-- The text as a whole, by its first colon.
pub missing : (t : List ℕ) → ((i : ℕ) → i < length t → get_or t i 0 ≢ colon) → digest_refusal t ≡ Some (codes "missing ':' in digest")
missing t h = rw (has_none colon t (lacks_from colon t h)) refl

-- a text that is cut at its first colon
pub by_cut : (t a e : List ℕ) → t ≡ a ++ colon ∷ e → ((i : ℕ) → i < length a → get_or a i 0 ≢ colon)
    → digest_refusal t ≡ option_or (component_refusal (slice_split is_joint a)) (encoded_refusal a e)
by_cut t a e spelled h =
    let cut = until_is colon a e (lacks_from colon a h) in
    let u : until colon t ≡ a = ap (until colon) spelled ∙ cut.0 in
    let v : after colon t ≡ e = ap (after colon) spelled ∙ cut.1 in
    let marked : has colon t ≡ true = ap (has colon) spelled ∙ has_at colon a e in
    rw (marked, u, v) refl

-- a text without a fault is a digest
pub sound_text : (t : List ℕ) (o : Option Fault) (r : Bool) → option_map fault_text o ≡ digest_refusal t → is_some o ≡ not r → (r ≡ true) ↔ ((a e : List ℕ) × IsDigest t a e)
sound_text t None true h k = ((λ _. (digest_refused t).0 (sym h)), (λ _. refl))
sound_text t None false h k = cc k
sound_text t (Some fault) true h k = cc k
sound_text t (Some fault) false h k = ((λ e. cc e), (λ d. let clash : Some (fault_text fault) ≡ None = h ∙ (digest_refused t).1 d in cc clash))
