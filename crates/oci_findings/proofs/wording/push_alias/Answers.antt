use Rattle.std.specs.Prelude.{codes, string_bytes}
use Rattle.std.proofs.lemmas.Result.{on_ok_weaker}
use Rattle.oci_findings.proofs.Marks.{pushed, three_pushed}
use Rattle.oci_findings.proofs.wording.push_alias.Goals as goal

pub returns : goal.returns
returns c =
    on_ok_weaker c.push_str-3.result (λ e. three_pushed _ _ _ _ _ _ _ c.in_ok-push_str.ensures.bytes c.in_ok-push_str-2.ensures.bytes e) (pushed c.push_str-3.result (string_bytes c.push_str-3.new.self) (string_bytes c.push_str-2.new.self) (codes " beside it") c.push_str-3.ensures.bytes)
