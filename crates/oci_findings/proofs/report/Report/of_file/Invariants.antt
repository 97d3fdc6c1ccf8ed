use Rattle.std.proofs.Common.{◌≡◌, ◌++◌}
use Rattle.std.specs.List.{filter}
use Rattle.oci_findings.specs.Lines.{is_error, is_no_error}
use Rattle.oci_findings.proofs.report.Report.of_file.Given as goal

abbrev pub invariant-sorted : goal.invariant-sorted
invariant-sorted l = record {
  whole : l.fn.found.items ≡ l.yielded ++ l.finding-iterator.rest.items;
  errors : l.errors.items ≡ filter is_error l.yielded;
  warnings : l.warnings.items ≡ filter is_no_error l.yielded;
}
