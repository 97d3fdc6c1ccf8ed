use Rattle.std.proofs.Common.{◌++◌, [], ◌∷◌, List, ℕ, Bool, String, Global, map, string_bytes, ap, ◌∙◌}
use Rattle.std.specs.Prelude.{filter, not}
use Rattle.std.proofs.lemmas.List.Elements.{filter-append}
use Rattle.oci_convert.specs.Verbatim.{sets}
use Rattle.oci_convert.proofs.Steps.{added_more, all_texts}
use Rattle.oci_convert.proofs.environment.keep_others.Goals as goal

pub loop-entry-preserved : goal.loop-entry-preserved
loop-entry-preserved c =
    let others : List ℕ → Bool = λ e. not (sets (map string_bytes c.args.env.now.items) e) in
    let step = c.in_ok-keep.ensures ∙ ap (λ (t : String Global). map string_bytes c.loop-entry.kept.items ++ filter others (string_bytes t ∷ [])) c.entry-item.is in
    added_more (filter others) (filter-append others) (map string_bytes c.args.kept.now.items) (map string_bytes c.loop-entry.kept.items) (map string_bytes c.keep.new.kept.items) c.deref-entry-items.result.now c.loop-entry.entry-index c.entry-item.result
    c.loop-entry-test.true c.loop-entry.invariant step

pub returns : goal.returns
returns c =
    let others : List ℕ → Bool = λ e. not (sets (map string_bytes c.args.env.now.items) e) in
    c.loop-entry.invariant ∙ ap (λ (t : List (List ℕ)). map string_bytes c.args.kept.now.items ++ filter others t) (all_texts c.deref-entry-items.result.now c.args.before.now.items c.loop-entry.entry-index c.loop-entry-test.false c.deref-entry-items.ensures.value)
