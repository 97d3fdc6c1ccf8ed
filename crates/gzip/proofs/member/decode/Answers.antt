use Rattle.std.proofs.Common.{◌∙◌}
use Rattle.inflate.specs.declared.fault.Fault.TheVariants.{Memory}
use Rattle.inflate.proofs.Exits.{refused_match}
use Rattle.gzip.specs.declared.error.GzipError.TheVariants.{Text}
use Rattle.gzip.proofs.member.decode.Goals as goal

pub returns-in_err-source : goal.returns-in_err-source
returns-in_err-source g c = λ bytes t below e k. refused_match c.from_residual.result (Text Memory) _ _ c.from_residual.ensures.1 (λ refusal text is. refusal)

pub returns-in_err-sink : goal.returns-in_err-sink
returns-in_err-sink g c = λ bytes t below e k. refused_match c.from_residual-in_err-sink.result c.in_err-sink.field-0.0 _ _ c.from_residual-in_err-sink.ensures.1 (λ refusal text is.
    c.in_err-sink.ensures bytes t below (c.in_ok-source.ensures ∙ e) k refusal text is)

pub returns : goal.returns
returns g c = λ bytes t below e k. c.in_ok-sink.ensures bytes t below (c.in_ok-source.ensures ∙ e) k
