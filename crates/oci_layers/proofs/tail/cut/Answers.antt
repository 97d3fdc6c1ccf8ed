use Rattle.oci_layers.proofs.Cuts.{cut_folder, cut_name, uncut_folder, uncut_name}
use Rattle.oci_layers.proofs.tail.cut.Goals as goal

pub returns-in-Some-clause-folder : goal.returns-in-Some-clause-folder
returns-in-Some-clause-folder c = let h = c.in-Some.ensures.cases in cut_folder c.args.path.now c.in-Some.folder.now c.in-Some.name.now h.0 h.1 h.2 h.3 h.4

pub returns-in-Some-clause-name : goal.returns-in-Some-clause-name
returns-in-Some-clause-name c = let h = c.in-Some.ensures.cases in cut_name c.args.path.now c.in-Some.folder.now c.in-Some.name.now h.0 h.1 h.2 h.3 h.4

pub returns-in-None-clause-folder : goal.returns-in-None-clause-folder
returns-in-None-clause-folder c = uncut_folder c.args.path.now c.in-None.ensures.cases

pub returns-in-None-clause-name : goal.returns-in-None-clause-name
returns-in-None-clause-name c = uncut_name c.args.path.now c.in-None.ensures.cases
