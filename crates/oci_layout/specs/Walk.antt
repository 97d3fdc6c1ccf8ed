-- Which claims are reached, and what a walk over them tells.
use Rattle.std.specs.Prelude.{◌≡◌, ℕ, List, ◌⊎◌, ◌++◌, ◌≤◌, Option, length, slice_get, Some}
use Rattle.std.specs.List.{Contains}
use Rattle.oci_layout.specs.declared.claim.Claim.{Claim}
use Rattle.oci_layout.specs.declared.claim.Fault.{Fault}

-- the list, with more behind it
abbrev pub Extends : {X : Type 0} → List X → List X → Type 0
Extends {X} longer list = (rest : List X) × (longer ≡ list ++ rest)

-- each element of the first list is one of the second
abbrev pub IsWithin : {X : Type 0} → List X → List X → Type 0
IsWithin {X} xs ys = (x : X) → Contains xs x → Contains ys x

-- each element of the list is one of these two
abbrev pub IsOnly : {X : Type 0} → List X → List X → List X → Type 0
IsOnly {X} xs ys zs = (x : X) → Contains xs x → Contains ys x ⊎ Contains zs x

-- what a store shows at a claim: a fault perhaps, and what its document claims
abbrev pub Show : Type 1
Show = Claim → Option Fault → List Claim → Type 0

-- the claim is one of the first, or claimed by the document of one that is reached
pub data Reaches (shows : Show) (first : List Claim) : Claim → Type 0 where
  first : {c : Claim} → Contains first c → Reaches shows first c
  further : {c d : Claim} (fault : Option Fault) (claims : List Claim)
      → Reaches shows first c → shows c fault claims → Contains claims d → Reaches shows first d

-- the claim shows this fault, and all that its document claims is among these
pub record IsLookedAt (shows : Show) (all : List Claim) (claim : Claim) (fault : Option Fault) : Type 0 where
  pub claims : List Claim
  pub shown : shows claim fault claims
  pub within : IsWithin claims all

-- each claim that has a fault at its place shows it
abbrev pub AreLookedAt : Show → List Claim → List (Option Fault) → Type 0
AreLookedAt shows all faults = (i : ℕ) (c : Claim) (f : Option Fault) → slice_get all i ≡ Some c → slice_get faults i ≡ Some f
    → IsLookedAt shows all c f

-- where only the first of the claims are looked at so far
pub record IsUnderway (shows : Show) (first all : List Claim) (faults : List (Option Fault)) : Type 0 where
  pub begun : IsWithin first all
  pub reached : (c : Claim) → Contains all c → Reaches shows first c
  pub within : length faults ≤ length all
  pub looked : AreLookedAt shows all faults

-- all that is reached, and the fault that each claim shows
pub record IsWalk (shows : Show) (first all : List Claim) (faults : List (Option Fault)) : Type 0 where
  pub begun : IsWithin first all
  pub reached : (c : Claim) → Contains all c → Reaches shows first c
  pub each : length faults ≡ length all
  pub looked : AreLookedAt shows all faults
