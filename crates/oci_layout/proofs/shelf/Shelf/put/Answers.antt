use Rattle.std.proofs.Common.{ℕ, Vec, Global, List, [], ◌∷◌, ◌++◌, refl, sym, ap, subst, ◌∙◌}
use Rattle.std.specs.List.{All}
use Rattle.std.proofs.lemmas.List.Elements.{All-push}
use Rattle.oci_content.specs.Content.{IsDigestOf, Tells}
use Rattle.oci_content.specs.declared.verdict.Verdict.TheVariants as verdict
use Rattle.oci_layout.specs.Shelf.{IsRight}
use Rattle.oci_layout.specs.declared.shelf.Content.{Content}
use Rattle.oci_layout.proofs.shelf.Shelf.put.Goals as goal

abbrev content_of : List ℕ → Vec ℕ Global → Content
content_of digest bytes = record { digest = digest; bytes = bytes }

pub returns-in_ok-push-in-Same-clause-right : goal.returns-in_ok-push-in-Same-clause-right
returns-in_ok-push-in-Same-clause-right c = λ right.
    let digest : IsDigestOf c.args.descriptor.now.digest c.args.bytes.items =
    subst (IsDigestOf c.args.descriptor.now.digest) c.as_slice.ensures.value c.in-Same.ensures.tells.1 in
    let own : IsDigestOf c.in-Ok.digest c.args.bytes.items =
    subst (λ t. IsDigestOf t c.args.bytes.items) (sym (c.in-Ok.ensures.ok ∙ c.digest.ensures)) digest in
    let content : Content = record { digest = c.in-Ok.digest; bytes = c.args.bytes } in
    subst (All IsRight) (sym c.in_ok-push-in-Same.ensures.items) (All-push IsRight c.args.self.now.contents.items content right own)

pub returns-in_ok-push-in-Same-clause-kept : goal.returns-in_ok-push-in-Same-clause-kept
returns-in_ok-push-in-Same-clause-kept c = λ same.
    let put = λ (d : List ℕ). c.args.self.now.contents.items ++ content_of d c.args.bytes ∷ [] in
    c.in_ok-push-in-Same.ensures.items ∙ ap put (c.in-Ok.ensures.ok ∙ c.digest.ensures)

pub returns-in_ok-push-in-Same-clause-refused : goal.returns-in_ok-push-in-Same-clause-refused
returns-in_ok-push-in-Same-clause-refused c = λ other. absurd (other refl)

pub returns-in_ok-push-in-Same-clause-tells : goal.returns-in_ok-push-in-Same-clause-tells
returns-in_ok-push-in-Same-clause-tells c =
    subst (λ b. Tells c.args.descriptor.now.digest c.args.descriptor.now.size b verdict.Same) c.as_slice.ensures.value c.in-Same.ensures.tells

pub returns-in_default-clause-kept : goal.returns-in_default-clause-kept
returns-in_default-clause-kept c = λ same. absurd (c.in_default.not-Same same)

pub returns-in_default-clause-tells : goal.returns-in_default-clause-tells
returns-in_default-clause-tells c =
    subst (λ b. Tells c.args.descriptor.now.digest c.args.descriptor.now.size b c.verify.result) c.as_slice.ensures.value c.verify.ensures.tells

pub returns-in_default-clause-right : goal.returns-in_default-clause-right
returns-in_default-clause-right c = λ right. right
