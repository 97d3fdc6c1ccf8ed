-- What a report says of a content of an image layout.
use Rattle.std.specs.Prelude.{◌≡◌, List, ◌++◌, map, Option}
use Rattle.std.specs.List.{filter}
use Rattle.oci_layout.specs.declared.claim.Claim.{Claim}
use Rattle.oci_layout.specs.declared.claim.Detail.{Detail}
use Rattle.oci_layout.specs.declared.claim.Fault.{Fault}
use Rattle.oci_findings.specs.declared.finding.Finding.{Finding}
use Rattle.oci_findings.specs.declared.report.Report.{Report}
use Rattle.oci_findings.specs.Contents.{fact, document_facts, content_fault, unread_fact}
use Rattle.oci_findings.specs.Lines.{is_error, is_no_error}

-- these findings say all that stands against the content, in order, and the report has those of them that are errors, and the others
pub record IsReportOn (claim : Claim) (found : Option Fault) (detail : Detail) (report : Report) : Type 0 where
  pub all : List Finding
  pub says : map fact all ≡ document_facts found detail ++ content_fault claim found ++ unread_fact claim found
  pub errors : report.errors.items ≡ filter is_error all
  pub warnings : report.warnings.items ≡ filter is_no_error all
