-- The name of a reference is the one that was read.
use Rattle.std.proofs.Common.{◌≡◌, true, false, ◌∙◌, ap}
use Rattle.oci_grammars.specs.Decided.{is_qualified}
use Rattle.oci_grammars.proofs.NameGrammars.{full_decides, no_reference}
use Rattle.oci_grammars.proofs.names.is_full_reference.Goals as goal

pub returns-in-Ok : goal.returns-in-Ok
returns-in-Ok c =
    full_decides c.args.text.now c.in-Ok.pieces.name.now _ _ c.in-Ok.ensures.ok c.is_qualified.result (c.is_qualified.ensures ∙ ap is_qualified c.as_bytes.ensures.value)

pub returns-in-Err : goal.returns-in-Err
returns-in-Err c = no_reference c.args.text.now (λ n g d r. let clash : false ≡ true = c.in-Err.ensures.only n g d r in cc clash)
