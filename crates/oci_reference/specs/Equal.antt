-- Two references are equal exactly if their parts are, and a hasher is shown the parts of equal ones alike.
use Rattle.std.proofs.Common.{◌≡◌, ℕ, List, Option, Some, None, refl, ap}
use Rattle.std.specs.Prelude.{bytes_eq, IsTrue, Bool, ◌&&◌, ◌++◌}
use Rattle.std.specs.Hash as fed
use Rattle.std.specs.Bool.{Decides}
use Rattle.std.specs.Cmp.{IsEquivalence, decided}
use Rattle.std.specs.Option.{option_eq}
use Rattle.std.proofs.lemmas.Slice.Eq.{bytes_eq-Decides}
use Rattle.oci_base.proofs.Lacks.{both}
use Rattle.oci_reference.specs.Parts.{Parts}

-- each part by its bytes
abbrev pub parts_eq : Parts → Parts → Bool
parts_eq r q =
    bytes_eq r.registry q.registry && (option_eq bytes_eq r.mirror q.mirror && (bytes_eq r.repository q.repository
    && (option_eq bytes_eq r.tag q.tag && option_eq bytes_eq r.digest q.digest)))

-- what a hasher is shown
abbrev pub parts_fed : Parts → List (List ℕ)
parts_fed r =
    fed.str r.registry ++ (fed.option fed.str r.mirror ++ (fed.str r.repository ++ (fed.option fed.str r.tag ++ fed.option fed.str r.digest)))

option_decides : (x y : Option (List ℕ)) → Decides (option_eq bytes_eq x y) (x ≡ y)
option_decides None None = (λ e. refl, λ e. refl)
option_decides None (Some y) = (λ e. cc e, λ e. cc e)
option_decides (Some x) None = (λ e. cc e, λ e. cc e)
option_decides (Some x) (Some y) = (λ e. ap Some ((bytes_eq-Decides x y).0 e), λ e. (bytes_eq-Decides x y).1 (cc e))

abbrev made : List ℕ → Option (List ℕ) → List ℕ → Option (List ℕ) → Option (List ℕ) → Parts
made a b c d e = record { registry = a; repository = c; tag = d; digest = e; mirror = b }

same_parts : (a a' c c' : List ℕ) (b b' d d' e e' : Option (List ℕ)) → a ≡ a' → b ≡ b' → c ≡ c' → d ≡ d' → e ≡ e'
    → made a b c d e ≡ made a' b' c' d' e'
same_parts a a' c c' b b' d d' e e' p q r s t = cc

pub parts_eq-Decides : (r q : Parts) → Decides (parts_eq r q) (r ≡ q)
parts_eq-Decides r q = (
  (λ e.
      let p1 = both (bytes_eq r.registry q.registry) _ e in
      let p2 = both (option_eq bytes_eq r.mirror q.mirror) _ p1.1 in
      let p3 = both (bytes_eq r.repository q.repository) _ p2.1 in
      let p4 = both (option_eq bytes_eq r.tag q.tag) (option_eq bytes_eq r.digest q.digest) p3.1 in
      let registry = (bytes_eq-Decides r.registry q.registry).0 p1.0 in
      let mirror = (option_decides r.mirror q.mirror).0 p2.0 in
      let repository = (bytes_eq-Decides r.repository q.repository).0 p3.0 in
      let tag = (option_decides r.tag q.tag).0 p4.0 in
      let digest = (option_decides r.digest q.digest).0 p4.1 in
      same_parts r.registry q.registry r.repository q.repository r.mirror q.mirror r.tag q.tag r.digest q.digest registry mirror repository tag digest),
  (λ e.
      let registry = (bytes_eq-Decides r.registry q.registry).1 (ap (λ z. z.registry) e) in
      let mirror = (option_decides r.mirror q.mirror).1 (ap (λ z. z.mirror) e) in
      let repository = (bytes_eq-Decides r.repository q.repository).1 (ap (λ z. z.repository) e) in
      let tag = (option_decides r.tag q.tag).1 (ap (λ z. z.tag) e) in
      let digest = (option_decides r.digest q.digest).1 (ap (λ z. z.digest) e) in
      rw (registry, mirror, repository, tag, digest) refl),
)

pub parts_equiv : IsEquivalence parts_eq
parts_equiv = decided parts_eq parts_eq-Decides

pub alike : (r q : Parts) → IsTrue (parts_eq r q) → parts_fed r ≡ parts_fed q
alike r q e = ap parts_fed ((parts_eq-Decides r q).0 e)
