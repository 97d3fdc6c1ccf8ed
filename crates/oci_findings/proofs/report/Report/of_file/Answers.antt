use Rattle.std.proofs.Common.{◌++◌, ◌∷◌, [], sym, ◌∙◌, append_assoc, ap}
use Rattle.oci_findings.specs.Lines.{is_error, is_no_error}
use Rattle.oci_findings.proofs.Facts.{sorted_more}
use Rattle.oci_findings.proofs.report.Report.of_file.Goals as goal

pub sorted-preserved : goal.sorted-preserved
sorted-preserved c =
    let steps = c.in-Some.ensures.steps in
    record {
      whole = c.sorted.invariant.whole ∙ ap (λ l. c.sorted.yielded ++ l) steps.0 ∙ sym (append_assoc c.sorted.yielded (c.in-Some.finding ∷ []) c.next.new.self.rest.items);
      errors = sorted_more is_error c.sorted.errors.items _ c.sorted.yielded c.in-Some.finding c.in_ok-sort_in.ensures.errors c.sorted.invariant.errors;
      warnings = sorted_more is_no_error c.sorted.warnings.items _ c.sorted.yielded c.in-Some.finding c.in_ok-sort_in.ensures.warnings c.sorted.invariant.warnings;
    }
