use Rattle.std.proofs.Common.{◌↔◌, List, subst}
use Rattle.std.specs.List.{Contains}
use Rattle.tar.specs.declared.index.Place.{Place}
use Rattle.oci_layers.specs.Decided.{members}
use Rattle.oci_layers.specs.Rules.{IsBroken}
use Rattle.oci_layers.specs.declared.broken.LayerFinding.{LayerFinding}
use Rattle.oci_layers.proofs.read.entries_of.Goals as goal

pub returns-in-Ok-clause-listed : goal.returns-in-Ok-clause-listed
returns-in-Ok-clause-listed c =
    subst (λ (l : List Place). (x : LayerFinding) → Contains c.in-Ok.findings.items x ↔ IsBroken (members l) x) c.as_slice.ensures.value c.in-Ok.ensures.listed
