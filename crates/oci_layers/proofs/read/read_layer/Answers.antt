use Rattle.oci_layers.proofs.Readings.{read_listed}
use Rattle.oci_layers.proofs.read.read_layer.Goals as goal

pub returns-in-Ok-clause-listed : goal.returns-in-Ok-clause-listed
returns-in-Ok-clause-listed g c = read_listed (g.R.Read.remaining c.args.reader) c.in-Ok.index.places.items c.entries_of.result c.in-Ok.ensures.ok c.entries_of.ensures.listed
