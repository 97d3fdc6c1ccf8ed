use Rattle.inflate.specs.declared.fault.Fault.TheVariants.{Memory}
use Rattle.inflate.proofs.Exits.{refused_match}
use Rattle.gzip.specs.declared.error.GzipError.TheVariants.{Text}
use Rattle.gzip.proofs.member.text.Goals as goal

pub returns-in_err-window : goal.returns-in_err-window
returns-in_err-window g c = λ bytes before h k. refused_match c.from_residual.result (Text Memory) _ _ c.from_residual.ensures.1 (λ refusal text rest is. refusal)

pub returns-in_err-stream : goal.returns-in_err-stream
returns-in_err-stream g c = λ bytes before h k. refused_match c.from_residual-in_err-stream.result c.in_err-stream.field-0.0 _ _ c.from_residual-in_err-stream.ensures.1 (λ refusal text rest is.
    c.in_err-stream.ensures bytes before h (c.in_ok-window.ensures before k) refusal text rest is)

pub returns-in-Ok : goal.returns-in-Ok
returns-in-Ok g c = λ bytes before h k.
    let s = c.in_ok-stream.ensures bytes before h (c.in_ok-window.ensures before k) in
    (s.0, s.1, s.2, s.3, c.in-Ok.ensures before s.0 s.4)

pub returns-in-Err : goal.returns-in-Err
returns-in-Err g c = λ bytes before h k refusal text rest is.
    let s = c.in_ok-stream.ensures bytes before h (c.in_ok-window.ensures before k) in
    c.in-Err.ensures before s.0 s.4 refusal
