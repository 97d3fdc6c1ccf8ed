-- How many kinds were found.
use Rattle.std.specs.Prelude.{List, [], ◌∷◌}
use Rattle.oci_schemas.specs.declared.kind.Kind.{Kind}
use Rattle.oci_findings.specs.declared.detect.Known.{Known}
use Rattle.oci_findings.specs.declared.detect.Known.TheVariants.{Nothing, One, Several}

-- none, one, or more
abbrev pub counted : List Kind → Known
counted [] = Nothing
counted (kind ∷ []) = One kind
counted (kind ∷ other ∷ kinds) = Several
