use Rattle.std.proofs.Common.{true≢false, sym, ◌∙◌}
use Rattle.oci_verify.proofs.program.Verification.is_right.Goals as goal

pub returns-then-not-is_sound_walk : goal.returns-then-not-is_sound_walk
returns-then-not-is_sound_walk g c = (
  λ is. absurd (true≢false (sym is)),
  λ r. absurd (true≢false (sym (c.is_sound_walk.ensures.1 (r.index, r.fine)) ∙ c.if-not-is_sound_walk.true)),
)

pub returns-then-not-are_whole : goal.returns-then-not-are_whole
returns-then-not-are_whole g c = (
  λ is. absurd (true≢false (sym is)),
  λ r. absurd (true≢false (sym (c.are_whole.ensures.1 r.whole) ∙ c.if-not-are_whole.true)),
)

pub returns : goal.returns
returns g c = (
  λ is. record {
    index = (c.is_sound_walk.ensures.0 c.if-not-is_sound_walk.false).0;
    fine = (c.is_sound_walk.ensures.0 c.if-not-is_sound_walk.false).1;
    whole = c.are_whole.ensures.0 c.if-not-are_whole.false;
    quiet = c.is_quiet.ensures.0 is;
  },
  λ r. c.is_quiet.ensures.1 r.quiet,
)
