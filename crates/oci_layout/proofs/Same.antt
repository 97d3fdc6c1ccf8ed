-- Equality of claims.
use Rattle.std.proofs.Common.{◌≡◌, ℕ, List, Bool, true, rules}
use Rattle.std.proofs.lemmas.Bool.{and_parts}
use Rattle.oci_layout.specs.declared.claim.Claim.{Claim}
use Rattle.oci_layout.specs.declared.claim.Role.{Role}
use Rattle.oci_layout.specs.declared.kind.Kind.{Kind}
use Rattle.oci_layout.specs.contracts.claim.ClaimPartialEq.TheImpl as claim
use Rattle.oci_layout.specs.contracts.claim.RolePartialEq.TheImpl as role
use Rattle.oci_layout.specs.contracts.kind.KindPartialEq.TheImpl as kind

same_role : (x y : Role) → role.ghosts.eq x y ≡ true → x ≡ y
same_role x y e = search rules

same_kind : (x y : Kind) → kind.ghosts.eq x y ≡ true → x ≡ y
same_kind x y e = search rules

abbrev made : Role → Kind → Bool → List ℕ → ℕ → Claim
made role kind elsewhere digest size = record { role = role; kind = kind; elsewhere = elsewhere; digest = digest; size = size }

same_fields : (x y : Claim) → x.role ≡ y.role → x.kind ≡ y.kind → x.elsewhere ≡ y.elsewhere → x.digest ≡ y.digest → x.size ≡ y.size → x ≡ y
same_fields x y role kind elsewhere digest size =
    let whole : made x.role x.kind x.elsewhere x.digest x.size ≡ made y.role y.kind y.elsewhere y.digest y.size = cc in whole

-- field by field: all the cases of all fields at once are too many for one search
pub same_claim : (x y : Claim) → claim.ghosts.eq x y ≡ true → x ≡ y
same_claim x y e =
    let (a, f) = and_parts (role.ghosts.eq x.role y.role) _ e in
    let (b, g) = and_parts (kind.ghosts.eq x.kind y.kind) _ f in
    let elsewhere : x.elsewhere ≡ y.elsewhere = search rules in
    let digest : x.digest ≡ y.digest = search rules in
    let size : x.size ≡ y.size = search rules in
    same_fields x y (same_role x.role y.role a) (same_kind x.kind y.kind b) elsewhere digest size
