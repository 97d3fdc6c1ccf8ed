use Rattle.std.proofs.Common.{rules}
use Rattle.std.specs.Prelude.{codes}
use Rattle.std.proofs.lemmas.Result.{on_ok_weaker}
use Rattle.oci_commands.specs.Objects.{text_member}
use Rattle.oci_commands.proofs.Rows.{five}
use Rattle.oci_commands.proofs.rule_objects.put_words.Goals as goal

pub returns-clause-tokens : goal.returns-clause-tokens
returns-clause-tokens c =
    let rule = c.args.rule.now in
    on_ok_weaker c.text_member-5.result
    (λ last. five c.args.out.now.tokens (text_member (codes "name") rule.name.now) (text_member (codes "kind") c.args.kind.now) (text_member (codes "level") c.args.level.now)
    (text_member (codes "section") rule.section.now) (text_member (codes "wanted") rule.wanted.now) _ _ _ _ _ c.in_ok-text_member.ensures.tokens c.in_ok-text_member-2.ensures.tokens
    c.in_ok-text_member-3.ensures.tokens c.in_ok-text_member-4.ensures.tokens last)
    c.text_member-5.ensures.tokens
