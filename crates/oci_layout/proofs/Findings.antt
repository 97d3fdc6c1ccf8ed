-- Whether nothing stands against the claims of a walk.
use Rattle.std.proofs.Common.{◌≡◌, ℕ, ◌+◌, ◌<◌, ◌≤◌, min, List, length, get_or, slice_get, Option, Some, sym, ap, subst, ◌∙◌, arith}
use Rattle.std.proofs.lemmas.Option.{slice_get-get_or, slice_get_within}
use Rattle.std.proofs.Math.Nat.{min-le_left, min-le_right, le-min}
use Rattle.oci_layout.specs.Sound.{IsFine, AreFine}
use Rattle.oci_layout.specs.declared.claim.Claim.{Claim}
use Rattle.oci_layout.specs.declared.claim.Fault.{Fault}

-- at one place
abbrev pub IsFineAt : List Claim → List (Option Fault) → ℕ → Type 0
IsFineAt all faults i = (c : Claim) (f : Option Fault) → slice_get all i ≡ Some c → slice_get faults i ≡ Some f → IsFine c f

some : {X : Type 0} {x y : X} → Some x ≡ Some y → x ≡ y
some e = cc

pub fine_at : (all : List Claim) (faults : List (Option Fault)) (i : ℕ) (claim : Claim) (other : Option Fault)
    → i < min (length all) (length faults) → claim ≡ get_or all i claim → IsFine claim (get_or faults i other) → IsFineAt all faults i
fine_at all faults i claim other below is fine c f e g =
    let within : i < length all = let h = min-le_left (length all) (length faults) in omega arith in
    let judged : i < length faults = let h = min-le_right (length all) (length faults) in omega arith in
    let same : claim ≡ c = some (ap Some is ∙ sym (slice_get-get_or all i claim within) ∙ e) in
    let one : get_or faults i other ≡ f = some (sym (slice_get-get_or faults i other judged) ∙ g) in
    subst (λ x. IsFine c x) one (subst (λ x. IsFine x (get_or faults i other)) same fine)

pub all_fine : (all : List Claim) (faults : List (Option Fault)) (n : ℕ) → min (length all) (length faults) ≤ n → ((i : ℕ) → i < n → IsFineAt all faults i) → AreFine all faults
all_fine all faults n counted fine i c f e g =
    let within : i + 1 ≤ length all = let h = slice_get_within all i c e in omega arith in
    let judged : i + 1 ≤ length faults = let h = slice_get_within faults i f g in omega arith in
    fine i (let h = le-min within judged in omega arith) c f e g
