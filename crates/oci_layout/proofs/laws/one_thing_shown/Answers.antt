use Rattle.oci_layout.proofs.Once.{shown_once}
use Rattle.oci_layout.proofs.Sound.{steady_shows, readable}
use Rattle.oci_layout.proofs.laws.one_thing_shown.Goals as goal

pub returns-clause-once : goal.returns-clause-once
returns-clause-once c = shown_once

pub returns-clause-steady : goal.returns-clause-steady
returns-clause-steady c = steady_shows

pub returns-clause-readable : goal.returns-clause-readable
returns-clause-readable c = readable
