use Rattle.std.proofs.Common.{◌++◌, [], sym, subst, arith, append-nil}
use Rattle.inflate.specs.declared.fault.Fault.TheVariants.{Memory}
use Rattle.inflate.proofs.Exits.{refused_match}
use Rattle.gzip.specs.declared.error.GzipError.TheVariants.{Text}
use Rattle.gzip.specs.Gzip.{trailer}
use Rattle.gzip.specs.Sums.{HasSums}
use Rattle.gzip.proofs.Members.{make_member, head_of, behind_head, behind_text}
use Rattle.gzip.proofs.member.member.Goals as goal

pub returns-in_err-crc : goal.returns-in_err-crc
returns-in_err-crc g c = λ bytes t h k. refused_match c.from_residual.result (Text Memory) _ _ c.from_residual.ensures.1 (λ refusal text rest is. refusal)

pub returns-in_err-read_header : goal.returns-in_err-read_header
returns-in_err-read_header g c = λ bytes t h k. refused_match c.from_residual-in_err-read_header.result c.in_err-read_header.field-0.0 _ _ c.from_residual-in_err-read_header.ensures.1 (λ refusal text rest is.
    c.in_err-read_header.ensures bytes h c.in_ok-crc.ensures refusal is.1 (head_of bytes text rest is))

pub returns-in_err-done : goal.returns-in_err-done
returns-in_err-done g c = λ bytes t h k. refused_match c.from_residual-in_err-done.result c.in_err-done.field-0.0 _ _ c.from_residual-in_err-done.ensures.1 (λ refusal text rest is.
    let a = c.in_ok-read_header.ensures bytes h c.in_ok-crc.ensures in
    let none : HasSums (g.S.Sink.holds c.args.sink []) c.reset.new.self 0 t [] = record { taken = subst (g.S.Sink.holds c.args.sink []) (sym (append-nil t)) k; sum = c.reset.ensures; size = omega arith } in
    c.in_err-done.ensures a.0 t a.2 none refusal text (trailer text ++ rest) (behind_head bytes a.0 text rest a.1 is))

pub returns-in_err-sink : goal.returns-in_err-sink
returns-in_err-sink g c = λ bytes t h k. refused_match c.from_residual-in_err-sink.result c.in_err-sink.field-0.0 _ _ c.from_residual-in_err-sink.ensures.1 (λ refusal text rest is.
    let a = c.in_ok-read_header.ensures bytes h c.in_ok-crc.ensures in
    let none : HasSums (g.S.Sink.holds c.args.sink []) c.reset.new.self 0 t [] = record { taken = subst (g.S.Sink.holds c.args.sink []) (sym (append-nil t)) k; sum = c.reset.ensures; size = omega arith } in
    let b = c.in_ok-done.ensures a.0 t a.2 none in
    c.in_err-sink.ensures b.1 t b.0 b.3 b.4 refusal rest (behind_text bytes a.0 b.1 b.0 text rest a.1 b.2 is))

pub returns : goal.returns
returns g c = λ bytes t h k.
    let a = c.in_ok-read_header.ensures bytes h c.in_ok-crc.ensures in
    let none : HasSums (g.S.Sink.holds c.args.sink []) c.reset.new.self 0 t [] = record { taken = subst (g.S.Sink.holds c.args.sink []) (sym (append-nil t)) k; sum = c.reset.ensures; size = omega arith } in
    let b = c.in_ok-done.ensures a.0 t a.2 none in
    let d = c.in_ok-sink.ensures b.1 t b.0 b.3 b.4 in
    (b.0, d.0, make_member bytes a.0 b.1 b.0 d.0 a.1 b.2 d.1, d.2, d.3)
