use Rattle.std.proofs.Common.{string_bytes}
use Rattle.oci_findings.specs.declared.color.Color.TheVariants.{Plain}
use Rattle.oci_findings.proofs.Colored.{code_added}
use Rattle.oci_findings.proofs.color.push_colored.Goals as goal

pub returns : goal.returns
returns c =
    λ before.
    code_added (string_bytes c.push_part.new.line) (string_bytes c.push_str-2.new.self) c.code-2.result.now Plain c.in_ok-push_str-2.ensures.bytes c.code-2.ensures
    (c.in_ok-push_part.ensures (code_added (string_bytes c.args.line.now) (string_bytes c.push_str.new.self) c.code.result.now c.args.color c.in_ok-push_str.ensures.bytes c.code.ensures before))
