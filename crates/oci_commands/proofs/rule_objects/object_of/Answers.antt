use Rattle.std.proofs.Common.{map, string_bytes}
use Rattle.std.proofs.lemmas.Result.{IfOk-weaker}
use Rattle.oci_rules.specs.Tables.{rule_of}
use Rattle.oci_commands.proofs.Once.{object_line}
use Rattle.oci_commands.proofs.rule_objects.object_of.Goals as goal

pub returns : goal.returns
returns c =
    let rule = c.args.rule.now in
    IfOk-weaker c.ended.result _ _
    (λ t is. object_line c.args.kind (map (λ r. rule_of r.now) c.args.rules.now.items) (map (λ r. rule_of r.now) c.in_ok-same.same.items) (rule_of rule) c.word.result.now c.word-2.result.now
    rule.wanted.now (string_bytes t) (map string_bytes c.in_ok-places.places.items) (map string_bytes c.in_ok-platforms.platforms.items) _ _ _ _ c.word.ensures c.word-2.ensures
    c.in_ok-same.ensures c.in_ok-places.ensures c.in_ok-platforms.ensures c.in_ok-out.ensures.tokens c.in_ok-put_words.ensures.tokens c.in_ok-texts_member.ensures.tokens
    c.in_ok-texts_member-2.ensures.tokens is)
    c.ended.ensures.text
