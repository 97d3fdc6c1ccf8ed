use Rattle.std.proofs.Common.{◌≡◌, [], ◌∷◌, ◌++◌, List, string_bytes, string_cmp, sym, ap, ◌∙◌, subst, append_assoc}
use Rattle.std.specs.List.Sorted.{IsStrictlySortedBy}
use Rattle.std.specs.Map.{keys_of}
use Rattle.std.specs.Option.{option_or}
use Rattle.oci_convert.specs.Maps.{look}
use Rattle.oci_convert.proofs.Labels.{Entry, label_in, label_more, sets_at, whole}
use Rattle.oci_convert.proofs.map.put_labels.Goals as goal

pub loop-key-preserved : goal.loop-key-preserved
loop-key-preserved c =
    let i = c.loop-key.invariant in
    let e : Entry = (c.in-Some.key.now, c.in-Some.value.now) in
    let left = c.next.new.self in
    let all : c.args.labels.now.entries ≡ i.0 ++ e ∷ left = i.1 ∙ ap (λ (es : List Entry). i.0 ++ es) c.in-Some.ensures.steps in
    let sorted = subst (λ (es : List Entry). IsStrictlySortedBy string_cmp (keys_of es)) all c.iter-key-items.ensures.ordered in
    let sets = sets_at _ (string_bytes e.0) _ (string_bytes e.1) (look c.loop-key.map) (look c.put.new.map) c.as_str.ensures.value c.as_str-in-loop-key.ensures.value c.in_ok-put.ensures in
    (i.0 ++ e ∷ [], all ∙ sym (append_assoc i.0 (e ∷ []) left), label_more i.0 e left (look c.args.map.now) (look c.loop-key.map) (look c.put.new.map) sorted i.2 sets)

pub returns : goal.returns
returns c =
    let i = c.loop-key.invariant in
    λ q. subst (λ (es : List Entry). look c.loop-key.map q ≡ option_or (label_in es q) (look c.args.map.now q)) (sym (whole c.args.labels.now.entries i.0 c.loop-key.key-iterator i.1 c.in-None.ensures.steps.0)) (i.2 q)
