use Rattle.std.proofs.Common.{◌≡◌, ℕ, List, Option, ap, ◌∙◌}
use Rattle.std.specs.Option.{option_or}
use Rattle.oci_convert.specs.Maps.{look, value_of}
use Rattle.oci_convert.specs.Annotations.{implied, label_of}
use Rattle.oci_convert.proofs.Labels.{Map, look_made, on_ok}
use Rattle.oci_convert.proofs.annotations.annotate.Goals as goal

pub returns : goal.returns
returns c =
    let x = c.args.image.now in
    let was = c.args.annotations.now in
    on_ok c.annotate_map.result _ _ (λ (h : (q : List ℕ) → look c.annotate_map.new.map q ≡ option_or (label_of x.config q) (option_or (value_of (implied x) q) (look c.get_or_insert-map.result.now q))). λ q.
    h q ∙ ap (λ (v : Option (List ℕ)). option_or (label_of x.config q) (option_or (value_of (implied x) q) v)) (ap (λ (m : Map). look m q) c.get_or_insert-map.ensures.value ∙ look_made was c.new.result c.new.ensures.empty q))
    c.annotate_map.ensures
