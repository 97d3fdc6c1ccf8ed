use Rattle.std.proofs.Common.{◌≡◌, ◌++◌, [], ◌∷◌, List, ℕ, map, string_bytes, refl, ap, ◌∙◌}
use Rattle.std.proofs.lemmas.List.{map_push}
use Rattle.oci_convert.proofs.Steps.{added_more, all_texts}
use Rattle.oci_convert.proofs.texts.append_all.Goals as goal

pub loop-text-preserved : goal.loop-text-preserved
loop-text-preserved c =
    let item = c.text-item.result in
    let copy = c.in_ok-clone.field-0 in
    let same : string_bytes copy ≡ string_bytes item = cc (c.in_ok-clone.ensures.cases) in
    let step = ap (map string_bytes) c.in_ok-push.ensures.items ∙ map_push string_bytes c.loop-text.texts.items copy
    ∙ ap (λ (t : List ℕ). map string_bytes c.loop-text.texts.items ++ t ∷ []) (same ∙ ap string_bytes c.text-item.is) in
    added_more (λ xs. xs) (λ a b. refl) (map string_bytes c.args.texts.now.items) (map string_bytes c.loop-text.texts.items) (map string_bytes c.push.new.self.items) c.deref-text-items.result.now c.loop-text.text-index item
    c.loop-text-test.true c.loop-text.invariant step

pub returns : goal.returns
returns c = c.loop-text.invariant ∙ ap (λ (t : List (List ℕ)). map string_bytes c.args.texts.now.items ++ t) (all_texts c.deref-text-items.result.now c.args.more.now.items c.loop-text.text-index c.loop-text-test.false c.deref-text-items.ensures.value)
