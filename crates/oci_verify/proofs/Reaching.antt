-- What the index of a layout reaches, by a walk from it.
use Rattle.std.proofs.Common.{◌≡◌, ℕ, true, false, List, Option, None, Some, sym, subst, ◌∙◌}
use Rattle.std.specs.Prelude.{codes}
use Rattle.std.specs.List.{Contains}
use Rattle.oci_layout.specs.Documents.{IsRead}
use Rattle.oci_layout.specs.Looks.{IsShownIn, Shows}
use Rattle.oci_layout.specs.Walk.{IsWalk, Reaches}
use Rattle.oci_layout.specs.declared.claim.Claim.{Claim}
use Rattle.oci_layout.specs.declared.claim.Fault.{Fault}
use Rattle.oci_layout.specs.declared.kind.Kind.TheVariants.{Index}
use Rattle.oci_layout.proofs.Once.{document_once}
use Rattle.oci_layout.proofs.Sound.{reached_of}
use Rattle.oci_verify.specs.Layouts.{IsReached}

abbrev File : Type 0
File = List ℕ → Option (List ℕ)

some : {X : Type 0} {x y : X} → Some x ≡ Some y → x ≡ y
some e = cc

-- the claims of the index are those of what reaches a claim
pub reached_from : (limit : ℕ) (tops contents : File) (index : List ℕ) (first : List Claim) (c : Claim) → tops (codes "index.json") ≡ Some index → IsRead Index index None first
    → IsReached limit tops contents c → Reaches (IsShownIn limit contents) first c
reached_from limit tops contents index first c there read r =
    let same : r.index ≡ index = some (sym r.there ∙ there) in
    let claims : r.claims ≡ first = (document_once Index index None None r.claims first (subst (λ b. IsRead Index b None r.claims) same r.document) read).1 in
    subst (λ l. Reaches (IsShownIn limit contents) l c) claims r.reached

-- what a walk has is reached
pub reached_record : (limit : ℕ) (tops contents : File) (index : List ℕ) (first claims : List Claim) (faults : List (Option Fault)) → tops (codes "index.json") ≡ Some index
    → IsRead Index index None first → IsWalk (Shows false true limit (Some contents)) first claims faults → (c : Claim) → Contains claims c → IsReached limit tops contents c
reached_record limit tops contents index first claims faults there read walk c among = record {
  index = index;
  there = there;
  claims = first;
  document = read;
  reached = reached_of limit contents first claims faults walk c among;
}
