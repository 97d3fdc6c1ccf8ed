use Rattle.std.proofs.Common.{◌≡◌, take, map}
use Rattle.oci_model.specs.Plain as plain
use Rattle.oci_model.specs.Types.{text_plain}
use Rattle.oci_linux.proofs.texts.texts_of.Given as goal

abbrev pub invariant-loop-text : goal.invariant-loop-text
invariant-loop-text l = plain.plains (map text_plain l.listed.items) ≡ plain.plains (map (λ t. plain.text t.now) (take l.text-index l.texts))
