use Rattle.std.proofs.Common.{◌≢◌, rules, subst}
use Rattle.std.specs.Prelude.{IfSome, string_bytes}
use Rattle.std.proofs.lemmas.Result.{IfOk-weaker}
use Rattle.oci_content.specs.Content.{digest_text}
use Rattle.oci_commands.specs.Sums.{IsSaid}
use Rattle.oci_commands.proofs.Entries.{line_differs, none_known}
use Rattle.oci_commands.proofs.sums.Lists.check_line.Goals as goal

pub returns-in-Some-2-clause-wrong : goal.returns-in-Some-2-clause-wrong
returns-in-Some-2-clause-wrong g c =
    let said : IsSaid c.args.self.asked c.in-Some.text.now c.in-Some-2.algorithm (string_bytes c.in-Some-2.digest) = search rules in
    IfOk-weaker c.check_file.result _ _
    (λ o found wrong. line_differs (g.S.Files.holds c.args.store.now) c.args.self.asked c.args.line.now c.in-Some.text.now c.in-Some.name.now (string_bytes c.in-Some-2.digest) c.in-Some-2.algorithm c.in-Some.ensures.one said
    (subst (λ q. IfSome (g.S.Files.holds c.args.store.now c.in-Some.name.now) (λ bytes. q ≢ digest_text c.in-Some-2.algorithm bytes)) c.as_str.ensures.value (found wrong)))
    c.check_file.ensures.wrong

pub returns-in_ok-say_of_line-in-None-clause-wrong : goal.returns-in_ok-say_of_line-in-None-clause-wrong
returns-in_ok-say_of_line-in-None-clause-wrong g c = λ wrong.
    none_known (g.S.Files.holds c.args.store.now) c.args.self.asked c.args.line.now c.in-Some.text.now c.in-Some.name.now c.in-Some.ensures.one (c.in_ok-algorithm.ensures.none c.in-None.is)
