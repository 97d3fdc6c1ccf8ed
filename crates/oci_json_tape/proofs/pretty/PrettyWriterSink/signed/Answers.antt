use Rattle.std.proofs.Common.{◌≡◌, to_z-of_z, sym, ap, ◌∙◌, subst}
use Rattle.std.specs.Fmt.{signed_decimal}
use Rattle.json.specs.Print.{IsNumber}
use Rattle.json.proofs.Printed.Decimals.{IsNumber-signed_decimal}
use Rattle.oci_json_tape.proofs.pretty.PrettyWriterSink.signed.Goals as goal

pub token-requires : goal.token-requires
token-requires c =
    let text : c.format.result.now ≡ signed_decimal c.args.integer = c.format.ensures.text ∙ ap signed_decimal (to_z-of_z c.ranges.integer) in
    subst IsNumber (sym text) (IsNumber-signed_decimal c.args.integer c.ranges.integer.sfits)
