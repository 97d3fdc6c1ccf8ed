use Rattle.std.proofs.Common.{◌≡◌, subst, rules}
use Rattle.std.proofs.lemmas.Result.{IfOk-weaker}
use Rattle.oci_commands.specs.Compared.{IsSide}
use Rattle.oci_commands.specs.declared.compare.Side.TheVariants.{Document}
use Rattle.oci_commands.proofs.Sides.{hold_same, hold_other, of_two_kinds}
use Rattle.oci_commands.proofs.compare.compare.Goals as goal

pub returns-then-eq-clause-same : goal.returns-then-eq-clause-same
returns-then-eq-clause-same g c =
    let asked = c.args.asked.now in
    let first : c.in_ok-kind.field-0 ≡ Document c.in-Document.kind c.in-Document.value = (let is = c.in-Document.is in cc) in
    let second : c.in_ok-kind-2.field-0 ≡ Document c.in-Document-2.kind c.in-Document-2.value = (let is = c.in-Document-2.is in cc) in
    let same : c.in-Document.kind ≡ c.in-Document-2.kind = search rules in
    IfOk-weaker c.write_differences.result _ _
    (λ s are zero. hold_same asked.kind asked.before.now (g.S.Files.holds c.args.store.now asked.before.now) asked.after.now (g.S.Files.holds c.args.store.now asked.after.now) _ _ _ _ _ _ c.in_ok-kind.ensures.side
    (subst (λ h. IsSide asked.kind asked.after.now (h asked.after.now) c.in_ok-kind-2.field-0) c.in_ok-kind.ensures.kept c.in_ok-kind-2.ensures.side) first second same (are zero))
    c.write_differences.ensures.same

pub returns-then-eq-clause-other : goal.returns-then-eq-clause-other
returns-then-eq-clause-other g c =
    let asked = c.args.asked.now in
    let first : c.in_ok-kind.field-0 ≡ Document c.in-Document.kind c.in-Document.value = (let is = c.in-Document.is in cc) in
    let second : c.in_ok-kind-2.field-0 ≡ Document c.in-Document-2.kind c.in-Document-2.value = (let is = c.in-Document-2.is in cc) in
    let same : c.in-Document.kind ≡ c.in-Document-2.kind = search rules in
    IfOk-weaker c.write_differences.result _ _
    (λ s are one. hold_other asked.kind asked.before.now (g.S.Files.holds c.args.store.now asked.before.now) asked.after.now (g.S.Files.holds c.args.store.now asked.after.now) _ _ _ _ _ _ c.in_ok-kind.ensures.side
    (subst (λ h. IsSide asked.kind asked.after.now (h asked.after.now) c.in_ok-kind-2.field-0) c.in_ok-kind.ensures.kept c.in_ok-kind-2.ensures.side) first second same (are one))
    c.write_differences.ensures.other

pub returns-clause-other : goal.returns-clause-other
returns-clause-other g c =
    let asked = c.args.asked.now in
    let first : c.in_ok-kind.field-0 ≡ Document c.in-Document.kind c.in-Document.value = (let is = c.in-Document.is in cc) in
    let second : c.in_ok-kind-2.field-0 ≡ Document c.in-Document-2.kind c.in-Document-2.value = (let is = c.in-Document-2.is in cc) in
    let apart : ¬ (c.in-Document.kind ≡ c.in-Document-2.kind) = search rules in
    λ one. of_two_kinds asked.kind asked.before.now (g.S.Files.holds c.args.store.now asked.before.now) asked.after.now (g.S.Files.holds c.args.store.now asked.after.now) _ _ _ _ _ _ c.in_ok-kind.ensures.side
    (subst (λ h. IsSide asked.kind asked.after.now (h asked.after.now) c.in_ok-kind-2.field-0) c.in_ok-kind.ensures.kept c.in_ok-kind-2.ensures.side) first second apart
