use Rattle.std.proofs.Common.{◌++◌, ap, ◌∙◌, append_assoc, codes, string_bytes}
use Rattle.std.proofs.lemmas.Result.{on_ok_weaker}
use Rattle.oci_findings.proofs.Marks.{pushed}
use Rattle.oci_findings.proofs.file_fault.push_count.Goals as goal

pub returns : goal.returns
returns c =
    on_ok_weaker c.push_str-2.result
    (λ e. e ∙ ap (λ t. t ++ c.args.count.now) c.in_ok-push_str.ensures.bytes ∙ append_assoc (string_bytes c.args.text.now) (codes " bytes, found ") c.args.count.now)
    (pushed c.push_str-2.result (string_bytes c.push_str-2.new.self) (string_bytes c.push_str.new.self) c.args.count.now c.push_str-2.ensures.bytes)
