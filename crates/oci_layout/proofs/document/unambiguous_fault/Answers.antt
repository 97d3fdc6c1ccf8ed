use Rattle.std.proofs.Common.{None, Some, inl, inr, refl, sym, true≢false, ◌∙◌}
use Rattle.serde_json.specs.View.{view}
use Rattle.oci_layout.specs.declared.claim.Fault.TheVariants.{Embedded}
use Rattle.oci_layout.proofs.Once.{typed_some, typed_none}
use Rattle.oci_layout.proofs.document.unambiguous_fault.Goals as goal

pub returns-in-Some : goal.returns-in-Some
returns-in-Some c = typed_some c.args.kind (view c.args.value.now) c.in-Some.fault c.in-Some.ensures

pub returns-then-is_held : goal.returns-then-is_held
returns-then-is_held c = typed_none c.args.kind (view c.args.value.now) None c.in-None.ensures (inl (c.requires.0 c.if-is_held.true, refl))

pub returns-else-is_held : goal.returns-else-is_held
returns-else-is_held c =
    typed_none c.args.kind (view c.args.value.now) (Some Embedded) c.in-None.ensures
    (inr (λ h. true≢false (sym (c.requires.1 h) ∙ c.if-is_held.false), refl))
