use Rattle.std.proofs.Common.{◌∙◌, sym, subst, string_bytes}
use Rattle.oci_base.specs.Escaped.{IsOneLine}
use Rattle.oci_findings.proofs.Colored.{part_added}
use Rattle.oci_findings.proofs.color.push_part.Goals as goal

pub returns : goal.returns
returns c =
    part_added (string_bytes c.args.line.now) (string_bytes c.push_str.new.self) c.as_str.result.now c.in_ok-push_str.ensures.bytes
    (subst IsOneLine (sym (c.as_str.ensures.value ∙ c.in_ok-shown.ensures)) (c.is_one_line.ensures c.args.part.now c.utf8.part))
