-- The places that the scanner holds are those of the text, by `held` and `held_reads`.
use Rattle.std.proofs.Common.{◌≡◌, None, Some, sym, ◌∙◌, refl}
use Rattle.oci_reference.specs.Scanner.{places}
use Rattle.oci_reference.proofs.Found.{held, held_reads, stood_count, empty_text}
use Rattle.oci_reference.proofs.scanner.Scanner.finish.Goals as goal

pub returns-in-Some-clause-ok : goal.returns-in-Some-clause-ok
returns-in-Some-clause-ok c = λ t e. held_reads c.args.self.now t c.in-Some.places e (sym c.in-Some.ensures)

pub returns-in-Some-clause-only : goal.returns-in-Some-clause-only
returns-in-Some-clause-only c = λ t n g d e r.
    let same : Some c.in-Some.places ≡ Some (places n g d) = c.in-Some.ensures ∙ held c.args.self.now t n g d e r in cc same

pub returns-in-None-clause-only : goal.returns-in-None-clause-only
returns-in-None-clause-only c = λ t n g d e r.
    let clash : None ≡ Some (places n g d) = c.in-None.ensures ∙ held c.args.self.now t n g d e r in cc clash

pub returns-in-None-clause-empty : goal.returns-in-None-clause-empty
returns-in-None-clause-empty c = λ t e. ((λ _. empty_text t (sym (stood_count c.args.self.now t e) ∙ c.if-self-eq0.true)), (λ _. refl))

pub returns-in-None-2-clause-only : goal.returns-in-None-2-clause-only
returns-in-None-2-clause-only c = λ t n g d e r.
    let clash : None ≡ Some (places n g d) = c.in-None-2.ensures ∙ held c.args.self.now t n g d e r in cc clash
