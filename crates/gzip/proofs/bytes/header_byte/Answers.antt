use Rattle.inflate.proofs.Exits.{refused_match}
use Rattle.gzip.proofs.bytes.header_byte.Goals as goal

pub returns : goal.returns
returns g c = λ bytes m h k. let w = c.in_ok-value.ensures bytes h in (w.0, w.1, w.2, c.update.ensures m k)

pub returns-in_err-value : goal.returns-in_err-value
returns-in_err-value g c = λ bytes m h k. refused_match c.from_residual.result c.in_err-value.field-0.0 _ _ c.from_residual.ensures.1 (λ refusal. c.in_err-value.ensures bytes h refusal)
