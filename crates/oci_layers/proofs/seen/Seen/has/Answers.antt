use Rattle.std.proofs.Common.{◌≡◌, Bool, true, false, ◌||◌, sym, ap, ◌∙◌}
use Rattle.oci_layers.specs.Decided.{is_among}
use Rattle.oci_layers.specs.Rules.{directory_path, other_path}
use Rattle.oci_layers.proofs.Paths.{among_either}
use Rattle.oci_layers.proofs.seen.Seen.has.Goals as goal

pub returns-then-contains : goal.returns-then-contains
returns-then-contains c = λ before seen.
    let path = c.args.path.now in
    let there : is_among directory_path before path ≡ true = sym (seen.directories path) ∙ sym c.contains.ensures ∙ c.if-contains.true in
    c.if-contains.true ∙ sym (among_either before path ∙ ap (λ (b : Bool). b || is_among other_path before path) there)

pub returns-else-contains : goal.returns-else-contains
returns-else-contains c = λ before seen.
    let path = c.args.path.now in
    let there : is_among directory_path before path ≡ false = sym (seen.directories path) ∙ sym c.contains.ensures ∙ c.if-contains.false in
    c.contains-else-contains.ensures ∙ seen.others path ∙ sym (among_either before path ∙ ap (λ (b : Bool). b || is_among other_path before path) there)
