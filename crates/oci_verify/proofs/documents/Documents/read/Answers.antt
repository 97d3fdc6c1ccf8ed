use Rattle.std.proofs.Common.{subst, IfOk, IfSome, ◌∙◌, sym}
use Rattle.oci_content.specs.Content.{Tells}
use Rattle.oci_layout.specs.Looks.{IsCut}
use Rattle.oci_verify.proofs.Rereading.{whole_same, whole_other}
use Rattle.oci_verify.proofs.documents.Documents.read.Goals as goal

pub returns-then-is_same : goal.returns-then-is_same
returns-then-is_same g c = λ sure.
    let known = g.S.Blob.Read.remaining c.args.blob.now in
    let size = c.args.size in
    let v = c.verify_bytes.result in
    whole_same known c.in-Ok.bytes.items c.args.digest.now size v
    (subst (λ o. IfOk o (λ read. IfSome known (λ all. IsCut read.items all size))) c.in-Ok.is c.in_ok-bytes.ensures.cut)
    (subst (λ l. Tells c.args.digest.now size l v) c.as_slice.ensures.value c.verify_bytes.ensures) (sym c.is_same.ensures ∙ c.if-is_same.true)

pub returns-else-is_same : goal.returns-else-is_same
returns-else-is_same g c = λ sure.
    let known = g.S.Blob.Read.remaining c.args.blob.now in
    let size = c.args.size in
    let v = c.verify_bytes.result in
    whole_other known c.in-Ok.bytes.items c.args.digest.now size v
    (subst (λ o. IfOk o (λ read. IfSome known (λ all. IsCut read.items all size))) c.in-Ok.is c.in_ok-bytes.ensures.cut)
    (subst (λ l. Tells c.args.digest.now size l v) c.as_slice.ensures.value c.verify_bytes.ensures) (sym c.is_same.ensures ∙ c.if-is_same.false)
