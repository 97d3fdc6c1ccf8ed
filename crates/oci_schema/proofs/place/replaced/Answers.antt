use Rattle.std.proofs.Common.{Some}
use Rattle.std.proofs.lemmas.Str.Pattern.{split_parts, NoCharPasses-char}
use Rattle.oci_schema.proofs.Replacing.{one_more, shorter, text_behind, last_part}
use Rattle.oci_schema.proofs.place.replaced.Goals as goal

pub loop-before-preserved : goal.loop-before-preserved
loop-before-preserved c =
    let x = c.in-Some.before in
    let y = c.in-Some.behind in
    let t = c.loop-before.rest.now in
    let cut = split_parts c.args.mark t (Some (x, y)) c.in-Some.ensures.cases c.requires in
    record {
      all =
          one_more c.args.mark c.args.by.now c.args.text.now t _ _ _ x.now y.now c.loop-before.invariant.all cut.0 cut.1 c.in_ok-push_str.ensures.bytes c.in_ok-push_str-2.ensures.bytes;
      is_text = text_behind c.args.mark t x.now y.now c.requires cut.0 c.loop-before.invariant.is_text;
    }

pub loop-before-smaller : goal.loop-before-smaller
loop-before-smaller c =
    let x = c.in-Some.before in
    let y = c.in-Some.behind in
    let cut = split_parts c.args.mark c.loop-before.rest.now (Some (x, y)) c.in-Some.ensures.cases c.requires in
    shorter c.args.mark _ x.now y.now cut.0

pub returns : goal.returns
returns c =
    let t = c.loop-before.rest.now in
    last_part c.args.mark c.args.by.now c.args.text.now t _ _ c.loop-before.invariant.all (λ i lt. NoCharPasses-char c.args.mark t i c.in_default.ensures.cases c.requires lt) c.in_ok-push_str-3.ensures.bytes
