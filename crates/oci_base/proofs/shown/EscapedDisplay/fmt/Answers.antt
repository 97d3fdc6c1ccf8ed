use Rattle.std.proofs.Common.{rules, [], ◌++◌, encode_utf8_all, sym, ◌∙◌, append_assoc, append-nil}
use Rattle.std.proofs.lemmas.Str.{IsUtf8-past_char}
use Rattle.std.proofs.Output.{has_written_append, has_written_of_eq}
use Rattle.oci_base.specs.Escaped.{shown_as}
use Rattle.oci_base.proofs.Steps.{escaped_empty, escaped_step}
use Rattle.oci_base.proofs.shown.EscapedDisplay.fmt.Goals as goal

pub loop-c-init : goal.loop-c-init
loop-c-init g c = ([], search rules, search rules, search rules)

pub loop-c-preserved : goal.loop-c-preserved
loop-c-preserved g c =
    let (done, utf8, whole, wrote) = c.loop-c.invariant in
    let parts = c.in-Some.ensures.steps.0 in
    let step = escaped_step _ _ c.in-Some.c utf8 parts in (
      done ++ encode_utf8_all (shown_as c.in-Some.c),
      IsUtf8-past_char _ _ c.in-Some.c utf8 parts,
      rw (append_assoc) (rw step at whole),
      λ plain. let sofar = wrote plain in has_written_append _ _ _ _ _ _ sofar (c.write_shown.ensures sofar.plain (search rules)),
    )

pub returns-clause-writes : goal.returns-clause-writes
returns-clause-writes g c =
    let (done, utf8, whole, wrote) = c.loop-c.invariant in
    let all = sym (append-nil done) ∙ rw (escaped_empty _ c.in-None.ensures.steps.0.0) at whole in
    λ plain yes. has_written_of_eq _ _ _ _ _ all (wrote plain)
