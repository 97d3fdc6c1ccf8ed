use Rattle.std.proofs.Common.{refl}
use Rattle.oci_convert.specs.Maps.{value_of}
use Rattle.oci_convert.specs.Annotations.{annotation, implied, label_of}
use Rattle.oci_convert.proofs.Again.{either_twice, said_by_one}
use Rattle.oci_convert.proofs.laws.annotations.Goals as goal

pub returns-clause-once : goal.returns-clause-once
returns-clause-once c = λ image before key. either_twice (label_of image.config key) (value_of (implied image) key) (before key) (annotation image before key) refl

pub returns-clause-said : goal.returns-clause-said
returns-clause-said c = λ image before key value h. said_by_one (label_of image.config key) (value_of (implied image) key) (before key) (annotation image before key) value refl h
