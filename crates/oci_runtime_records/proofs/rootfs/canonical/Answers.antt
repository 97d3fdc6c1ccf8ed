use Rattle.std.proofs.Common.{◌≡◌, ℕ, List, false, string_bytes}
use Rattle.std.specs.Fn.{FnReturnsAt}
use Rattle.oci_base.specs.declared.error.OciSpecError.{OciSpecError}
use Rattle.oci_runtime_records.specs.Answers.{Answered}
use Rattle.oci_runtime_records.specs.Canonical.{is_absolute, joined}
use Rattle.oci_runtime_records.proofs.Canonicals.{stopped}
use Rattle.oci_runtime_records.proofs.rootfs.canonical.Goals as goal

pub returns-clause-err : goal.returns-clause-err
returns-clause-err g c =
    let Answers : List ℕ → List ℕ → Type 0 = Answered (FnReturnsAt g.F.Fn c.args.resolver.now) g.R.Answer.gives in
    let Refuses : OciSpecError → List ℕ → Type 0 = λ e p. Answered (FnReturnsAt g.F.Fn c.args.resolver.now) g.R.Answer.refuses p e in
    let apart : is_absolute c.args.path.now ≡ false = (let h = c.if-is_absolute.false in let e = c.is_absolute.ensures in cc) in
    let whole : c.as_str.result.now ≡ joined (string_bytes c.in_ok-folder.folder) c.args.path.now = (let h = c.as_str.ensures.value in let e = c.in_ok-whole.ensures in cc) in
    stopped Answers Refuses c.args.bundle.now c.args.path.now (string_bytes c.in_ok-folder.folder) c.as_str.result.now apart c.in_ok-folder.ensures.ok whole c.ask-3.result c.ask-3.ensures.err
