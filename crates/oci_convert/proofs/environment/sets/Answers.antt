use Rattle.std.proofs.Common.{List, ℕ, String, Global, map, string_bytes, rules, tests, sym, ap, ◌∙◌}
use Rattle.std.specs.Prelude.{bytes_eq}
use Rattle.std.specs.List.{list_any}
use Rattle.std.proofs.lemmas.Iterator.{YieldsList-from_slice}
use Rattle.std.proofs.lemmas.Iterator.Search.{any_from_yields_List}
use Rattle.oci_convert.specs.Verbatim.{name_of}
use Rattle.oci_convert.proofs.Steps.{any_map}
use Rattle.oci_convert.proofs.environment.sets.Goals as goal

pub returns : goal.returns
returns c =
    let name = c.name_of-name.result.now in
    any_from_yields_List (λ (s : String Global). bytes_eq name (name_of (string_bytes s))) _ _ c.any.result c.any.ensures.ran (YieldsList-from_slice c.deref.result.now (cc)) (λ x b q k. search (rules, tests))
    ∙ ap (list_any (λ (s : String Global). bytes_eq name (name_of (string_bytes s)))) c.deref.ensures.value
    ∙ sym (any_map (λ (o : List ℕ). bytes_eq name (name_of o)) string_bytes c.args.env.now.items)
    ∙ ap (λ (n : List ℕ). list_any (λ (o : List ℕ). bytes_eq n (name_of o)) (map string_bytes c.args.env.now.items)) c.name_of-name.ensures
