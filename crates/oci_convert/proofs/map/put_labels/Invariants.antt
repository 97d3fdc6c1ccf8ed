use Rattle.std.proofs.Common.{◌≡◌, ◌++◌, ℕ, List}
use Rattle.std.specs.Option.{option_or}
use Rattle.oci_convert.specs.Maps.{look}
use Rattle.oci_convert.proofs.Labels.{Entry, label_in}
use Rattle.oci_convert.proofs.map.put_labels.Given as goal

-- the labels so far were written
abbrev pub invariant-loop-key : goal.invariant-loop-key
invariant-loop-key l = (done : List Entry) × (l.labels.entries ≡ done ++ l.key-iterator) × ((q : List ℕ) → look l.map q ≡ option_or (label_in done q) (look l.initial.map q))
