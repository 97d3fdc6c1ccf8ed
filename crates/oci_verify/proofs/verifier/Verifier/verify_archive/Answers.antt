use Rattle.std.proofs.Common.{◌≡◌}
use Rattle.tar_folder.specs.declared.read.IndexError.TheVariants as errors
use Rattle.oci_verify.proofs.Archives.{answer_broken, answer_read, broken_of, sound_read}
use Rattle.oci_verify.proofs.verifier.Verifier.verify_archive.Goals as goal

pub returns-in-Ok-clause-sound : goal.returns-in-Ok-clause-sound
returns-in-Ok-clause-sound g c = λ zero.
    sound_read (g.R.Read.remaining c.args.archive.reader) c.in-Ok.index.places.items c.in-Ok.ensures.ok (c.verify_placed.ensures.plain zero)

pub returns-in-Ok-clause-right : goal.returns-in-Ok-clause-right
returns-in-Ok-clause-right g c = λ full.
    let source = c.args.archive.source.now in
    answer_read (g.B.RuleBooks.rules c.args.self.now.books.now) c.args.self.now.options.now (g.S.Source.steady source) (g.S.Source.bytes source) (g.R.Read.remaining c.args.archive.reader) c.in-Ok.index.places.items c.verify_placed.result
    c.in-Ok.ensures.ok (c.verify_placed.ensures.right full)

pub returns-in-Err-Fault-clause-right : goal.returns-in-Err-Fault-clause-right
returns-in-Err-Fault-clause-right g c = λ full.
    let source = c.args.archive.source.now in
    let read = g.R.Read.remaining c.args.archive.reader in
    let is : c.in-Err-Fault.field-0 ≡ errors.Fault c.in-Err-Fault.fault = search in
    answer_broken (g.B.RuleBooks.rules c.args.self.now.books.now) c.args.self.now.options.now (g.S.Source.steady source) (g.S.Source.bytes source) read c.report.result c.report.ensures (broken_of read c.in-Err-Fault.field-0 c.in-Err-Fault.fault is c.in-Err-Fault.ensures.fault)
