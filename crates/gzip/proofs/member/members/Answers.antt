use Rattle.std.proofs.Common.{◌≡◌, ◌++◌, ◌<◌, [], length, subst}
use Rattle.std.proofs.lemmas.List.{append_assoc}
use Rattle.inflate.specs.declared.fault.Fault.TheVariants.{Memory}
use Rattle.inflate.proofs.Exits.{refused_match}
use Rattle.gzip.specs.declared.error.GzipError.TheVariants.{Text}
use Rattle.gzip.specs.Reading.{IsEnd}
use Rattle.gzip.proofs.Members.{none_read, first_member, next_member, no_file, no_next}
use Rattle.gzip.proofs.member.members.Goals as goal

pub returns-in_err-decoder : goal.returns-in_err-decoder
returns-in_err-decoder g c = λ bytes t below e k. refused_match c.from_residual.result (Text Memory) _ _ c.from_residual.ensures.1 (λ refusal text is. refusal)

pub returns-in_err-sink : goal.returns-in_err-sink
returns-in_err-sink g c = λ bytes t below e k. refused_match c.from_residual-in_err-sink.result c.in_err-sink.field-0.0 _ _ c.from_residual-in_err-sink.ensures.1 (λ refusal text is.
    let h = none_read (g.B.ByteSource.left c.args.source.now) c.new-hand.result bytes below e c.new-hand.ensures in
    no_file bytes text (c.in_err-sink.ensures bytes t h k refusal) is)

pub members-init : goal.members-init
members-init g c = λ bytes t below e k.
    let h = none_read (g.B.ByteSource.left c.args.source.now) c.new-hand.result bytes below e c.new-hand.ensures in
    let m = c.in_ok-sink.ensures bytes t h k in
    (m.0, m.1, first_member bytes m.1 m.0 m.2, m.3, m.4)

pub members-preserved : goal.members-preserved
members-preserved g c = λ bytes t below e k.
    let v = c.members.invariant bytes t below e k in
    let w = c.in_ok-is_end.ensures v.1 v.3 in
    let m = c.in_ok-sink-2.ensures v.1 (t ++ v.0) w.0 v.4 in
    (v.0 ++ m.0, m.1, next_member bytes v.1 m.1 v.0 m.0 v.2 m.2, m.3, subst (g.S.Sink.holds c.in_ok-sink-2.sink []) (append_assoc t v.0 m.0) m.4)

pub returns-in_err-is_end : goal.returns-in_err-is_end
returns-in_err-is_end g c = λ bytes t below e k. refused_match c.from_residual-in_err-is_end.result c.in_err-is_end.field-0.0 _ _ c.from_residual-in_err-is_end.ensures.1 (λ refusal text is.
    let v = c.members.invariant bytes t below e k in
    c.in_err-is_end.ensures v.1 v.3 refusal)

pub returns-in_err-sink-2 : goal.returns-in_err-sink-2
returns-in_err-sink-2 g c = λ bytes t below e k. refused_match c.from_residual-in_err-sink-2.result c.in_err-sink-2.field-0.0 _ _ c.from_residual-in_err-sink-2.ensures.1 (λ refusal text is.
    let v = c.members.invariant bytes t below e k in
    let w = c.in_ok-is_end.ensures v.1 v.3 in
    let some : 0 < length v.1 = subst (λ b. IsEnd b v.1) c.if-is_end.false w.1 in
    no_next bytes v.1 v.0 text v.2 some (c.in_err-sink-2.ensures v.1 (t ++ v.0) w.0 v.4 refusal) is)

pub returns-then-is_end : goal.returns-then-is_end
returns-then-is_end g c = λ bytes t below e k.
    let v = c.members.invariant bytes t below e k in
    let w = c.in_ok-is_end.ensures v.1 v.3 in
    let z : v.1 ≡ [] = subst (λ b. IsEnd b v.1) c.if-is_end.true w.1 in
    (v.0, v.2.ends z, v.4)

pub returns : goal.returns
returns g c = λ bytes t below e k refusal text is. refusal
