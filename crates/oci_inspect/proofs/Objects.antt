-- Objects that say a digest.
use Rattle.std.specs.Prelude.{◌≡◌, ℕ, List, codes, Some, None, Result, Ok, Err, IfOk}
use Rattle.std.proofs.Common.{ap, ◌∙◌}
use Rattle.serde_json.specs.Data.{object, string}
use Rattle.serde_json.specs.Find.{get}
use Rattle.serde_json.specs.View.{members_view, view}
use Rattle.serde_json.specs.declared.value.Value.{Value}
use Rattle.serde_json.proofs.Views.{get_member-put}
use Rattle.oci_base.specs.declared.error.OciSpecError.{OciSpecError}
use Rattle.oci_model.specs.Adds.{Gains}
use Rattle.oci_model.specs.declared.object_writer.ObjectWriter.{ObjectWriter}
use Rattle.oci_inspect.specs.Shown.{SaysDigest}

pub says_digest : (r : Result Value OciSpecError) (old new : ObjectWriter) (v : Value) (digest : List ℕ) → view v ≡ string digest
    → (new.fault ≡ None → Gains old new (codes "digest") (Some (view v)))
    → IfOk r (λ v. (new.fault ≡ None) × (view v ≡ object (members_view new.members.entries))) → IfOk r (λ v. SaysDigest digest (view v))
says_digest (Err e) old new v digest same gains made = tt
says_digest (Ok w) old new v digest same gains made =
    ap (get (codes "digest")) (made.1 ∙ ap object (gains made.0).1)
    ∙ (get_member-put (codes "digest") (view v) (members_view old.members.entries) ∙ ap Some same)
