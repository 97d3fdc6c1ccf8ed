use Rattle.std.proofs.Common.{◌≡◌, IfOk, subst}
use Rattle.oci_commands.specs.Done.{IsDone, IsRejected}
use Rattle.oci_commands.specs.declared.asked.Asked.TheVariants.{Reference, Digest, FileDigests, Kinds, CheckDigests, PinTo, Rules, Explain}
use Rattle.oci_commands.proofs.program.perform.Goals as goal

pub returns-in-Reference-clause-done : goal.returns-in-Reference-clause-done
returns-in-Reference-clause-done g c =
    let same : Reference c.in-Reference.style c.in-Reference.texts ≡ c.args.asked.now = (let is = c.in-Reference.is in cc) in
    subst
    (λ asked. IfOk c.references.result
    (λ s. s ≡ 0 → IsDone (g.B.RuleBooks.rules c.args.books.now) (g.S.Files.holds c.args.store.now) (g.W.Write.contents c.args.writer.now) (g.W.Write.contents c.references.new.writer) asked))
    same c.references.ensures.right

pub returns-in-Reference-clause-wrong : goal.returns-in-Reference-clause-wrong
returns-in-Reference-clause-wrong g c =
    let same : Reference c.in-Reference.style c.in-Reference.texts ≡ c.args.asked.now = (let is = c.in-Reference.is in cc) in
    subst (λ asked. IfOk c.references.result (λ s. s ≡ 1 → IsRejected (g.B.RuleBooks.rules c.args.books.now) (g.S.Files.holds c.args.store.now) asked)) same c.references.ensures.wrong

pub returns-in-FileDigests-clause-done : goal.returns-in-FileDigests-clause-done
returns-in-FileDigests-clause-done g c =
    let same : FileDigests c.in-FileDigests.algorithm c.in-FileDigests.files ≡ c.args.asked.now = (let is = c.in-FileDigests.is in cc) in
    subst
    (λ asked. IfOk c.file_digests.result
    (λ s. s ≡ 0 → IsDone (g.B.RuleBooks.rules c.args.books.now) (g.S.Files.holds c.args.store.now) (g.W.Write.contents c.args.writer.now) (g.W.Write.contents c.file_digests.new.writer) asked))
    same c.file_digests.ensures.done

pub returns-in-Kinds-clause-done : goal.returns-in-Kinds-clause-done
returns-in-Kinds-clause-done g c =
    let same : Kinds c.in-Kinds.style c.in-Kinds.files ≡ c.args.asked.now = (let is = c.in-Kinds.is in cc) in
    subst
    (λ asked. IfOk c.kinds.result
    (λ s. s ≡ 0 → IsDone (g.B.RuleBooks.rules c.args.books.now) (g.S.Files.holds c.args.store.now) (g.W.Write.contents c.args.writer.now) (g.W.Write.contents c.kinds.new.writer) asked))
    same c.kinds.ensures.done

pub returns-in-Kinds-clause-wrong : goal.returns-in-Kinds-clause-wrong
returns-in-Kinds-clause-wrong g c =
    let same : Kinds c.in-Kinds.style c.in-Kinds.files ≡ c.args.asked.now = (let is = c.in-Kinds.is in cc) in
    subst (λ asked. IfOk c.kinds.result (λ s. s ≡ 1 → IsRejected (g.B.RuleBooks.rules c.args.books.now) (g.S.Files.holds c.args.store.now) asked)) same c.kinds.ensures.wrong

pub returns-in-CheckDigests-clause-done : goal.returns-in-CheckDigests-clause-done
returns-in-CheckDigests-clause-done g c =
    let same : CheckDigests c.in-CheckDigests.algorithm c.in-CheckDigests.files ≡ c.args.asked.now = (let is = c.in-CheckDigests.is in cc) in
    subst
    (λ asked. IfOk c.check_digests.result
    (λ s. s ≡ 0 → IsDone (g.B.RuleBooks.rules c.args.books.now) (g.S.Files.holds c.args.store.now) (g.W.Write.contents c.args.writer.now) (g.W.Write.contents c.check_digests.new.writer) asked))
    same c.check_digests.ensures.done

pub returns-in-CheckDigests-clause-wrong : goal.returns-in-CheckDigests-clause-wrong
returns-in-CheckDigests-clause-wrong g c =
    let same : CheckDigests c.in-CheckDigests.algorithm c.in-CheckDigests.files ≡ c.args.asked.now = (let is = c.in-CheckDigests.is in cc) in
    subst (λ asked. IfOk c.check_digests.result (λ s. s ≡ 1 → IsRejected (g.B.RuleBooks.rules c.args.books.now) (g.S.Files.holds c.args.store.now) asked)) same c.check_digests.ensures.wrong

pub returns-in-Digest-clause-done : goal.returns-in-Digest-clause-done
returns-in-Digest-clause-done g c =
    let same : Digest c.in-Digest.style c.in-Digest.texts ≡ c.args.asked.now = (let is = c.in-Digest.is in cc) in
    subst
    (λ asked. IfOk c.digests.result
    (λ s. s ≡ 0 → IsDone (g.B.RuleBooks.rules c.args.books.now) (g.S.Files.holds c.args.store.now) (g.W.Write.contents c.args.writer.now) (g.W.Write.contents c.digests.new.writer) asked))
    same c.digests.ensures.right

pub returns-in-Digest-clause-wrong : goal.returns-in-Digest-clause-wrong
returns-in-Digest-clause-wrong g c =
    let same : Digest c.in-Digest.style c.in-Digest.texts ≡ c.args.asked.now = (let is = c.in-Digest.is in cc) in
    subst (λ asked. IfOk c.digests.result (λ s. s ≡ 1 → IsRejected (g.B.RuleBooks.rules c.args.books.now) (g.S.Files.holds c.args.store.now) asked)) same c.digests.ensures.wrong

pub returns-in-PinTo-clause-done : goal.returns-in-PinTo-clause-done
returns-in-PinTo-clause-done g c =
    let same : PinTo c.in-PinTo.text c.in-PinTo.target ≡ c.args.asked.now = (let is = c.in-PinTo.is in cc) in
    subst
    (λ asked. IfOk c.pin_to.result
    (λ s. s ≡ 0 → IsDone (g.B.RuleBooks.rules c.args.books.now) (g.S.Files.holds c.args.store.now) (g.W.Write.contents c.args.writer.now) (g.W.Write.contents c.pin_to.new.writer) asked))
    same c.pin_to.ensures.done

pub returns-in-PinTo-clause-wrong : goal.returns-in-PinTo-clause-wrong
returns-in-PinTo-clause-wrong g c =
    let same : PinTo c.in-PinTo.text c.in-PinTo.target ≡ c.args.asked.now = (let is = c.in-PinTo.is in cc) in
    subst (λ asked. IfOk c.pin_to.result (λ s. s ≡ 1 → IsRejected (g.B.RuleBooks.rules c.args.books.now) (g.S.Files.holds c.args.store.now) asked)) same c.pin_to.ensures.wrong

pub returns-in-Rules-clause-done : goal.returns-in-Rules-clause-done
returns-in-Rules-clause-done g c =
    let same : Rules c.in-Rules.style c.in-Rules.name ≡ c.args.asked.now = (let is = c.in-Rules.is in cc) in
    subst
    (λ asked. IfOk c.rules.result
    (λ s. s ≡ 0 → IsDone (g.B.RuleBooks.rules c.args.books.now) (g.S.Files.holds c.args.store.now) (g.W.Write.contents c.args.writer.now) (g.W.Write.contents c.rules.new.writer) asked))
    same c.rules.ensures.done

pub returns-in-Rules-clause-wrong : goal.returns-in-Rules-clause-wrong
returns-in-Rules-clause-wrong g c =
    let same : Rules c.in-Rules.style c.in-Rules.name ≡ c.args.asked.now = (let is = c.in-Rules.is in cc) in
    subst (λ asked. IfOk c.rules.result (λ s. s ≡ 1 → IsRejected (g.B.RuleBooks.rules c.args.books.now) (g.S.Files.holds c.args.store.now) asked)) same c.rules.ensures.wrong

pub returns-in-Explain-clause-done : goal.returns-in-Explain-clause-done
returns-in-Explain-clause-done g c =
    let same : Explain c.in-Explain.name ≡ c.args.asked.now = (let is = c.in-Explain.is in cc) in
    subst
    (λ asked. IfOk c.explain.result
    (λ s. s ≡ 0 → IsDone (g.B.RuleBooks.rules c.args.books.now) (g.S.Files.holds c.args.store.now) (g.W.Write.contents c.args.writer.now) (g.W.Write.contents c.explain.new.writer) asked))
    same c.explain.ensures.done

pub returns-in-Explain-clause-wrong : goal.returns-in-Explain-clause-wrong
returns-in-Explain-clause-wrong g c =
    let same : Explain c.in-Explain.name ≡ c.args.asked.now = (let is = c.in-Explain.is in cc) in
    subst (λ asked. IfOk c.explain.result (λ s. s ≡ 1 → IsRejected (g.B.RuleBooks.rules c.args.books.now) (g.S.Files.holds c.args.store.now) asked)) same c.explain.ensures.wrong
