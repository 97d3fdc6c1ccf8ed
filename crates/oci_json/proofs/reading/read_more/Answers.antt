use Rattle.std.proofs.Common.{take, ap, ◌∙◌, rules}
use Rattle.std.proofs.lemmas.List.{with_items_is, places}
use Rattle.oci_json.proofs.reading.read_more.Goals as goal

pub returns-clause-front : goal.returns-clause-front
returns-clause-front g c =
    ap (take c.args.filled) (with_items_is c.grow_if_full.new.bytes c.read_after.new.bytes (search (rules, places)))
    ∙ c.read_after.ensures.front ∙ ap (take c.args.filled) c.as_mut_slice.ensures.value ∙ c.in_ok-grow_if_full.ensures.front

pub returns-clause-ok : goal.returns-clause-ok
returns-clause-ok g c = rw (with_items_is c.grow_if_full.new.bytes c.read_after.new.bytes (search (rules, places))) c.in_ok-read_after.ensures.ok
