use Rattle.std.proofs.Common.{◌≡◌, ◌⊎◌, inl, inr, ap, codes}
use Rattle.oci_schema.specs.declared.presence.Scalar.{Scalar}
use Rattle.oci_schema.specs.declared.presence.Scalar.TheVariants as scalar
use Rattle.oci_findings.specs.Wording.{scalar_words}
use Rattle.oci_findings.proofs.Marks.{pushed_words}
use Rattle.oci_findings.proofs.wording.push_scalar.Goals as goal

string_words : (s : Scalar) → s ≡ scalar.String ⊎ (s ≡ scalar.MediaType ⊎ (s ≡ scalar.Os ⊎ s ≡ scalar.Arch)) → scalar_words s ≡ codes "a string"
string_words s (inl is) = ap scalar_words is
string_words s (inr (inl is)) = ap scalar_words is
string_words s (inr (inr (inl is))) = ap scalar_words is
string_words s (inr (inr (inr is))) = ap scalar_words is

pub returns-in-String : goal.returns-in-String
returns-in-String c =
    pushed_words c.push_str-in-String.result _ _ _ _ (string_words _ c.in-String.is) c.push_str-in-String.ensures.bytes

pub returns-in-Boolean : goal.returns-in-Boolean
returns-in-Boolean c = pushed_words c.push_str.result _ _ _ _ (ap scalar_words c.in-Boolean.is) c.push_str.ensures.bytes

pub returns-in-Digest : goal.returns-in-Digest
returns-in-Digest c =
    pushed_words c.push_str-in-Digest.result _ _ _ _ (ap scalar_words c.in-Digest.is) c.push_str-in-Digest.ensures.bytes

pub returns-in-CpuList : goal.returns-in-CpuList
returns-in-CpuList c =
    pushed_words c.push_str-in-CpuList.result _ _ _ _ (ap scalar_words c.in-CpuList.is) c.push_str-in-CpuList.ensures.bytes

pub returns-in-Capabilities : goal.returns-in-Capabilities
returns-in-Capabilities c =
    pushed_words c.push_str-in-Capabilities.result _ _ _ _ (ap scalar_words c.in-Capabilities.is) c.push_str-in-Capabilities.ensures.bytes

pub returns-in-Keys : goal.returns-in-Keys
returns-in-Keys c =
    pushed_words c.push_str-in-Keys.result _ _ _ _ (ap scalar_words c.in-Keys.is) c.push_str-in-Keys.ensures.bytes

pub returns-in-Detail : goal.returns-in-Detail
returns-in-Detail c =
    pushed_words c.push_str-in-Detail.result _ _ _ _ (ap scalar_words c.in-Detail.is) c.push_str-in-Detail.ensures.bytes

pub returns-in-FreeValues : goal.returns-in-FreeValues
returns-in-FreeValues c =
    pushed_words c.push_str-in-FreeValues.result _ _ _ _ (ap scalar_words c.in-FreeValues.is) c.push_str-in-FreeValues.ensures.bytes
