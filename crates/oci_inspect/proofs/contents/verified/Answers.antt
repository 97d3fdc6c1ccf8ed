use Rattle.std.proofs.Common.{◌∙◌}
use Rattle.oci_inspect.proofs.Told.{tells_along}
use Rattle.oci_inspect.proofs.contents.verified.Goals as goal

pub returns-in_default : goal.returns-in_default
returns-in_default c = record {
  ok = tt;
  err = (c.in_default.not-Same, tells_along c.verify_bytes.result (c.as_ref-digest.ensures.value ∙ c.digest.ensures) c.size.ensures c.as_slice.ensures.value c.verify_bytes.ensures);
}
