-- The law is `reading_once`.
use Rattle.oci_reference.proofs.Readings.{reading_once}
use Rattle.oci_reference.proofs.scan_laws.one_reading.Goals as goal

pub returns : goal.returns
returns c = reading_once
