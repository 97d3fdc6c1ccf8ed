-- How much of an image layout was verified, in words.
use Rattle.std.specs.Prelude.{ℕ, List, ◌++◌, codes}
use Rattle.std.specs.Fmt.{decimal}
use Rattle.oci_findings.specs.declared.totals.Totals.{Totals}

abbrev pub totals_words : Totals → List ℕ
totals_words t =
    codes "verified: " ++ (decimal t.verified ++ (codes " of " ++ (decimal t.claims ++ (codes " contents, "
    ++ (decimal t.verified_bytes ++ (codes " of " ++ (decimal t.bytes ++ (codes " bytes, " ++ (decimal t.documents ++ codes " documents")))))))))
