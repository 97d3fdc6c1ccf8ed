use Rattle.std.proofs.Common.{◌≡◌, Some, map, string_bytes, arith, rules, sym, ◌∙◌}
use Rattle.std.proofs.lemmas.Grind.{common_steps}
use Rattle.oci_convert.specs.Texts.{list_of}
use Rattle.oci_convert.specs.Verbatim.{environment}
use Rattle.oci_convert.proofs.Commands.{some_environment}
use Rattle.oci_convert.proofs.process.set_env.Goals as goal

pub returns-clause-env : goal.returns-clause-env
returns-clause-env c =
    let said : Some (map string_bytes c.in_ok-env.env.items) ≡ environment (list_of c.args.config.now.env) (list_of c.args.process.now.env) =
    some_environment c.args.config.now.env c.args.process.now.env c.env-2.result.now c.in-Some.image_env c.in_ok-env.env.items (sym c.env.ensures ∙ c.in-Some.is) c.env-2.ensures c.in_ok-env.ensures in
    first_of (cc said, first_of (search (rules, said), grind (arith, common_steps, said)))
