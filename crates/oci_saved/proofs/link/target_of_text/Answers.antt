use Rattle.std.proofs.Common.{◌≡◌, IfOk, option_map, string_bytes, sym, ap, ◌∙◌, subst}
use Rattle.tar_folder.specs.Paths.{is_absolute}
use Rattle.oci_saved.proofs.Along.{along}
use Rattle.oci_saved.proofs.link.target_of_text.Goals as goal

pub returns : goal.returns
returns c =
    let below = ap is_absolute (sym c.as_bytes.ensures.value) ∙ sym c.is_absolute.ensures ∙ c.if-is_absolute.false in
    subst (λ o. IfOk c.path_along.result (λ to. option_map string_bytes to ≡ o))
    (along c.args.path.now c.args.link.now c.as_str.result.now c.utf8.link below (c.as_str.ensures.value ∙ c.in_ok-way.ensures.ok)) c.path_along.ensures
