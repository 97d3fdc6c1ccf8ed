-- The first mark, if there is one.
use Rattle.std.proofs.Common.{sym, ◌∙◌, ap}
use Rattle.std.specs.Prelude.{Some}
use Rattle.std.proofs.lemmas.Str.Pattern.{split_parts, NoCharPasses-char}
use Rattle.oci_base.specs.Classes.{until, after}
use Rattle.oci_base.proofs.Lacks.{lacks_from}
use Rattle.oci_base.proofs.Marks.{not_cut, until_is}
use Rattle.oci_reference.proofs.names.cut_at.Goals as goal

pub returns-in-None-clause-before : goal.returns-in-None-clause-before
returns-in-None-clause-before c =
    let t = c.args.text.now in
    sym (not_cut c.args.mark t (lacks_from c.args.mark t (λ i lt. NoCharPasses-char c.args.mark t i c.in-None.ensures.cases c.requires lt))).0

pub returns-in-None-clause-behind : goal.returns-in-None-clause-behind
returns-in-None-clause-behind c =
    let t = c.args.text.now in
    sym (not_cut c.args.mark t (lacks_from c.args.mark t (λ i lt. NoCharPasses-char c.args.mark t i c.in-None.ensures.cases c.requires lt))).1

pub returns-in-Some-clause-before : goal.returns-in-Some-clause-before
returns-in-Some-clause-before c =
    let x = c.in-Some.parts in
    let cut = split_parts c.args.mark c.args.text.now (Some x) c.in-Some.ensures.cases c.requires in
    sym (ap (until c.args.mark) cut.0 ∙ (until_is c.args.mark x.0.now x.1.now (lacks_from c.args.mark x.0.now cut.1)).0)

pub returns-in-Some-clause-behind : goal.returns-in-Some-clause-behind
returns-in-Some-clause-behind c =
    let x = c.in-Some.parts in
    let cut = split_parts c.args.mark c.args.text.now (Some x) c.in-Some.ensures.cases c.requires in
    sym (ap (after c.args.mark) cut.0 ∙ (until_is c.args.mark x.0.now x.1.now (lacks_from c.args.mark x.0.now cut.1)).1)
