-- 64 digits behind the algorithm's name.
use Rattle.std.proofs.Common.{sym, ◌∙◌, ap, subst}
use Rattle.std.proofs.lemmas.List.{take-append-drop}
use Rattle.std.proofs.lemmas.Slice.Eq.{bytes_eq-Decides}
use Rattle.std.specs.Prelude.{take, drop, codes, ◌++◌}
use Rattle.oci_base.specs.Classes.{until, after, colon}
use Rattle.oci_base.specs.Digest.{IsDigestText}
use Rattle.oci_text.proofs.ShaDigests.{sha_text}
use Rattle.oci_text.proofs.digest.is_plain_sha256.Goals as goal

pub returns-then-digits-eq64 : goal.returns-then-digits-eq64
returns-then-digits-eq64 c all =
    let b = c.as_bytes.result.now in
    let digits = c.in-Some.digits.now in
    let name = codes "sha256:" in
    let cut = c.in-Some.ensures.cases in
    let front = (bytes_eq-Decides (take 7 b) name).0 cut.0 in
    let spelled = ap (λ z. name ++ z) cut.1 ∙ ap (λ z. z ++ drop 7 b) (sym front) ∙ take-append-drop 7 b ∙ c.as_bytes.ensures.value in
    subst IsDigestText spelled (until colon (name ++ digits), after colon (name ++ digits), sha_text digits (c.if-digits-eq64.true, sym c.are_lower_hex.ensures ∙ all))
