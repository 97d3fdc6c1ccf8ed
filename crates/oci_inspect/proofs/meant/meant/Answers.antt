use Rattle.std.proofs.Common.{◌≡◌, false, subst, ap, ◌∙◌, rules}
use Rattle.std.specs.Option.{option_copied}
use Rattle.oci_inspect.specs.Found.{is_lone}
use Rattle.oci_inspect.proofs.Choices.{none_best}
use Rattle.oci_inspect.proofs.meant.meant.Goals as goal

pub returns-in-None-lone-clause-err : goal.returns-in-None-lone-clause-err
returns-in-None-lone-clause-err c =
    let none : is_lone c.args.depth c.deref-in-Some.result.now ≡ false = search rules in
    none_best c.args.depth c.args.index.now.manifests.items (option_copied c.args.wanted) c.in-Some.wanted.now c.best.result (ap option_copied c.in-Some.is)
    (subst (λ xs. is_lone c.args.depth xs ≡ false) (c.deref-in-Some.ensures.value ∙ ap (λ v. v.items) c.manifests-in-Some.ensures) none) c.best.ensures.err
