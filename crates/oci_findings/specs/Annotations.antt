-- Where the keys of annotations stand. A key is unique there (image specification, "Annotations", "Rules").
use Rattle.std.specs.Prelude.{◌&&◌, ◌||◌, ◌==◌, ℕ, List, [], Bool, false, codes, drop, length, nat_eq, position, is_none, Option, Some, None}
use Rattle.std.specs.List.{starts_with}
use Rattle.oci_base.specs.Classes.{slash}
use Rattle.oci_schemas.specs.declared.kind.Kind.{Kind}
use Rattle.oci_schemas.specs.declared.kind.Kind.TheVariants.{Manifest, Index, Config, Artifact, Descriptor, Spec, State, ProcessState}

abbrev pub next_slash : List ℕ → Option ℕ
next_slash t = position (λ c. c == slash) t

abbrev pub from_place : Option ℕ → List ℕ → List ℕ
from_place (Some i) t = drop i t
from_place None t = []

-- the pointer (second) is that of a member of the object to which the other leads: a name behind it, which has no slash
abbrev pub is_under : List ℕ → List ℕ → Bool
is_under at pointer = starts_with nat_eq pointer at && is_none (next_slash (drop (length at) pointer))

-- it is an annotation of an item of the array to which the other leads: behind it are an index and such a name
abbrev pub is_in_item : List ℕ → List ℕ → Bool
is_in_item at pointer = let rest = drop (length at) pointer in starts_with nat_eq pointer at && is_under (codes "/annotations/") (from_place (next_slash rest) rest)

-- the pointer is that of an annotation of the document or of a descriptor in it, or of a label of an image
unfoldable pub is_annotation : Kind → List ℕ → Bool
is_annotation Manifest p =
    is_under (codes "/annotations/") p || (is_under (codes "/config/annotations/") p || (is_in_item (codes "/layers/") p || is_under (codes "/subject/annotations/") p))
is_annotation Index p = is_under (codes "/annotations/") p || (is_in_item (codes "/manifests/") p || is_under (codes "/subject/annotations/") p)
is_annotation Artifact p = is_under (codes "/annotations/") p || (is_in_item (codes "/blobs/") p || is_under (codes "/subject/annotations/") p)
is_annotation Config p = is_under (codes "/config/Labels/") p
is_annotation Descriptor p = is_under (codes "/annotations/") p
is_annotation Spec p = is_under (codes "/annotations/") p
is_annotation State p = is_under (codes "/annotations/") p
is_annotation ProcessState p = is_under (codes "/state/annotations/") p
is_annotation kind p = false
