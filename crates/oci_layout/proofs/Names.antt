-- What is listed of what is kept in memory.
use Rattle.std.proofs.Common.{◌≡◌, ℕ, ◌+◌, ◌<◌, length, get_or, true, None, List, [], ◌∷◌, ◌++◌, take, inl, inr, sym, subst, ◌∙◌, arith}
use Rattle.std.specs.Prelude.{string_bytes, ◌⊎◌}
use Rattle.std.specs.List.{Contains}
use Rattle.std.proofs.lemmas.List.{take_more}
use Rattle.std.proofs.lemmas.List.Elements.{Contains-append_left, Contains-push, Contains-push_cases}
use Rattle.oci_base.specs.Digest.{IsDigest}
use Rattle.oci_layout.specs.Paths.{path_of}
use Rattle.oci_layout.specs.Names.{IsPathOf, IsListed, IsListing, IsKeptAt, IsOneMore, AddsName}
use Rattle.oci_layout.specs.declared.memory.Kept.{Kept}
use Rattle.oci_layout.specs.declared.store.Listed.{Listed}

-- these are the paths of what is kept
pub record AreNamesOf (kept : List Kept) (listed : List Listed) : Type 0 where
  pub named : (l : Listed) → Contains listed l → (l.fault ≡ None) × IsKeptAt kept (string_bytes l.path)
  pub all : (path : List ℕ) → IsKeptAt kept path → IsListed listed path

none_in : {X : Type 0} (x : X) → Contains [] x → ⊥
none_in x (k, h, e) = omega arith

pub begun : (listed : List Listed) → listed ≡ [] → AreNamesOf [] listed
begun listed e = record {
  named = λ l h. absurd (none_in l (subst (λ ls. Contains ls l) e h));
  all = λ path h. absurd (none_in h.0 h.1);
}

wider : (kept more : List Kept) (path : List ℕ) → IsKeptAt kept path → IsKeptAt (kept ++ more) path
wider kept more path (k, h, p) = (k, Contains-append_left kept more k h, p)

longer : (listed more : List Listed) (path : List ℕ) → IsListed listed path → IsListed (listed ++ more) path
longer listed more path (l, h, p) = (l, Contains-append_left listed more l h, p)

-- one is added
added : (kept : List Kept) (k : Kept) (old : List Listed) (new : List Listed) → AreNamesOf kept old → IsOneMore k.name.now old new → AreNamesOf (kept ++ k ∷ []) new
added kept k old new h o = record {
  named = λ l i. named l (Contains-push_cases old o.one l (subst (λ ls. Contains ls l) o.more i));
  all = λ path p. subst (λ ls. IsListed ls path) (sym o.more) (all path p);
}
  where
    named : (l : Listed) → Contains old l ⊎ (o.one ≡ l) → (l.fault ≡ None) × IsKeptAt (kept ++ k ∷ []) (string_bytes l.path)
    named l (inl i) = ((h.named l i).0, wider kept (k ∷ []) (string_bytes l.path) (h.named l i).1)
    named l (inr e) = subst (λ x. (x.fault ≡ None) × IsKeptAt (kept ++ k ∷ []) (string_bytes x.path)) e (o.whole, (k, Contains-push kept k, o.path))

    all : (path : List ℕ) → IsKeptAt (kept ++ k ∷ []) path → IsListed (old ++ o.one ∷ []) path
    all path (x, i, p) = elim (Contains-push_cases kept k x i) [
      | inl j ↦ longer old (o.one ∷ []) path (h.all path (x, j, p))
      | inr e ↦ (o.one, Contains-push old o.one, o.only path (subst (λ y. IsPathOf y.name.now path) (sym e) p))
    ]

-- or what is kept is under no digest
passed : (kept : List Kept) (k : Kept) (old : List Listed) → AreNamesOf kept old → ((path : List ℕ) → ¬ IsPathOf k.name.now path) → AreNamesOf (kept ++ k ∷ []) old
passed kept k old h lacks = record {
  named = λ l i. ((h.named l i).0, wider kept (k ∷ []) (string_bytes l.path) (h.named l i).1);
  all = all;
}
  where
    all : (path : List ℕ) → IsKeptAt (kept ++ k ∷ []) path → IsListed old path
    all path (x, i, p) = elim (Contains-push_cases kept k x i) [
      | inl j ↦ h.all path (x, j, p)
      | inr e ↦ absurd (lacks path (subst (λ y. IsPathOf y.name.now path) (sym e) p))
    ]

pub one_more : (all : List Kept) (i : ℕ) (k : Kept) (old new : List Listed) → take (i + 1) all ≡ take i all ++ k ∷ [] → AreNamesOf (take i all) old → AddsName k.name.now old new
    → AreNamesOf (take (i + 1) all) new
one_more all i k old new more h (inl o) = subst (λ l. AreNamesOf l new) (sym more) (added (take i all) k old new h o)
one_more all i k old new more h (inr (lacks, e)) =
    subst (λ l. AreNamesOf l new) (sym more) (subst (AreNamesOf (take i all ++ k ∷ [])) (sym e)
    (passed (take i all) k old h (λ path p. lacks (p.0, p.1, p.2))))

pub one_more_at : (all : List Kept) (i : ℕ) (d : Kept) (old new : List Listed) → i < length all → AreNamesOf (take i all) old → AddsName (get_or all i d).name.now old new
    → AreNamesOf (take (i + 1) all) new
one_more_at all i d old new below h a = one_more all i (get_or all i d) old new (take_more all i d below) h a

-- a path was pushed
pub one_added : (text digest : List ℕ) (old new : List Listed) (l : Listed) → digest ≡ text → new ≡ old ++ l ∷ [] → l.fault ≡ None → IsPathOf digest (string_bytes l.path)
    → ((algorithm encoded : List ℕ) → IsDigest digest algorithm encoded → string_bytes l.path ≡ path_of algorithm encoded) → AddsName text old new
one_added text digest old new l same more whole path parts =
    subst (λ t. AddsName t old new) same (inl (record {
      one = l;
      whole = whole;
      path = path;
      only = λ p (algorithm, encoded, d, e). parts algorithm encoded d ∙ sym e;
      more = more;
    }))

pub listing : (kept : List Kept) (listed : List Listed) → AreNamesOf kept listed → IsListing true (IsKeptAt kept) listed
listing kept listed h = record {
  named = λ l i whole. (h.named l i).1;
  whole = λ steady l i. (h.named l i).0;
  all = λ steady path p. h.all path p;
}
