use Rattle.oci_text.proofs.CpuExamples.{range_and_number, counts_down, open_range, no_text}
use Rattle.oci_text.proofs.laws.cpu_lists.Goals as goal

pub returns-clause-ranges : goal.returns-clause-ranges
returns-clause-ranges c = range_and_number

pub returns-clause-downward : goal.returns-clause-downward
returns-clause-downward c = counts_down

pub returns-clause-unended : goal.returns-clause-unended
returns-clause-unended c = open_range

pub returns-clause-empty : goal.returns-clause-empty
returns-clause-empty c = no_text
