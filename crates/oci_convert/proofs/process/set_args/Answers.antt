use Rattle.std.proofs.Common.{◌≡◌, ◌++◌, Some, map, string_bytes, arith, rules, sym, ◌∙◌}
use Rattle.std.proofs.lemmas.Grind.{common_steps}
use Rattle.oci_convert.specs.Texts.{texts_of, list_of}
use Rattle.oci_convert.specs.Verbatim.{arguments}
use Rattle.oci_convert.proofs.Commands.{both_lists, no_arguments, some_arguments}
use Rattle.oci_convert.proofs.process.set_args.Goals as goal

pub returns-then-has_none-clause-args : goal.returns-then-has_none-clause-args
returns-then-has_none-clause-args c =
    let x = c.args.config.now in
    no_arguments c.append-2.new.texts.items (texts_of x.entrypoint ++ texts_of x.cmd) (list_of c.args.process.now.args)
    (both_lists x.entrypoint x.cmd c.entrypoint.result.now c.cmd.result.now c.new-args.result.items c.append.new.texts.items c.append-2.new.texts.items c.new-args.ensures.items c.entrypoint.ensures c.cmd.ensures c.in_ok-append.ensures c.in_ok-append-2.ensures)
    (sym c.has_none.ensures ∙ c.if-has_none.true)

pub returns-clause-args : goal.returns-clause-args
returns-clause-args c =
    let x = c.args.config.now in
    let said : Some (map string_bytes c.append-2.new.texts.items) ≡ arguments (texts_of x.entrypoint ++ texts_of x.cmd) (list_of c.args.process.now.args) =
    some_arguments c.append-2.new.texts.items (texts_of x.entrypoint ++ texts_of x.cmd) (list_of c.args.process.now.args)
    (both_lists x.entrypoint x.cmd c.entrypoint.result.now c.cmd.result.now c.new-args.result.items c.append.new.texts.items c.append-2.new.texts.items c.new-args.ensures.items c.entrypoint.ensures c.cmd.ensures c.in_ok-append.ensures c.in_ok-append-2.ensures)
    (sym c.has_none.ensures ∙ c.if-has_none.false) in
    first_of (cc said, first_of (search (rules, said), grind (arith, common_steps, said)))
