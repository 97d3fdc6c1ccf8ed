use Rattle.std.proofs.Common.{◌≡◌, ◌∙◌, ◌++◌, ◌+◌, [], Bor, List, ℕ, true, false, ap, drop, map, refl, rules, string_bytes, subst, sym}
use Rattle.oci_base.specs.Names.{is_listed}
use Rattle.oci_rules.specs.Tables.{rule_of}
use Rattle.oci_rules.specs.declared.rule.Rule.{Rule}
use Rattle.oci_commands.specs.RuleTexts.{IsRuleObject, firsts}
use Rattle.oci_commands.specs.Texts.{Joins}
use Rattle.oci_commands.proofs.Once.{first_all, first_begun, first_next, first_over}
use Rattle.oci_commands.proofs.rule_objects.objects_of.Goals.{then-not-is_listed+in_ok-push+in_ok-line+in_ok-push_str, else-not-is_listed}
use Rattle.oci_commands.proofs.rule_objects.objects_of.Goals as goal

pub loop-rule-init : goal.loop-rule-init
loop-rule-init c = λ rest more.
    first_begun c.args.kind (map (λ r. rule_of r.now) c.args.rules.now.items) (λ n. n.now) (λ r. rule_of r.now) c.new-names.result.items c.deref-rule-items.result.now c.args.rules.now.items
    (string_bytes c.new-text.result) rest c.new-names.ensures.items c.deref-rule-items.ensures.value c.new-text.ensures.bytes more

pub loop-rule-preserved : goal.loop-rule-preserved
loop-rule-preserved c = λ rest more.
    let all = map (λ (r : Bor Rule). rule_of r.now) c.args.rules.now.items in
    let items = c.deref-rule-items.result.now in
    elim c.if-not-is_listed.branch [
      | then-not-is_listed+in_ok-push+in_ok-line+in_ok-push_str w ↦
          (let unknown : c.is_listed.result ≡ false = search rules in
          first_next c.args.kind all (λ n. n.now) (λ r. rule_of r.now) c.loop-rule.names.items c.if-not-is_listed.names.items _ items c.loop-rule.rule-index _ (string_bytes c.loop-rule.text)
          (string_bytes c.if-not-is_listed.text) (string_bytes w.in_ok-line.line) rest c.loop-rule-test.true (sym c.is_listed.ensures ∙ unknown) refl (ap (λ v. v.items) w.names-is ∙ w.in_ok-push.ensures.items)
          (ap string_bytes w.text-is ∙ w.in_ok-push_str.ensures.bytes ∙ ap (λ (q : List ℕ). string_bytes c.loop-rule.text ++ q) w.as_str.ensures.value) w.in_ok-line.ensures c.loop-rule.invariant more)
      | else-not-is_listed w ↦
          (let known : c.is_listed.result ≡ true = search rules in
          let others = subst (λ v. Joins (IsRuleObject c.args.kind all) (firsts (map (λ n. n.now) v.items) (map (λ r. rule_of r.now) (drop (c.loop-rule.rule-index + 1) items))) rest) w.names-is more in
          subst (λ q. Joins (IsRuleObject c.args.kind all) (firsts [] all) (string_bytes q ++ rest)) (sym w.text-is)
          (c.loop-rule.invariant rest
          (first_over c.args.kind all (λ r. rule_of r.now) (map (λ n. n.now) c.loop-rule.names.items) items c.loop-rule.rule-index _ rest c.loop-rule-test.true (sym c.is_listed.ensures ∙ known) others)))
    ]

pub returns : goal.returns
returns c =
    first_all c.args.kind (map (λ r. rule_of r.now) c.args.rules.now.items) (λ r. rule_of r.now) (map (λ n. n.now) c.loop-rule.names.items) c.deref-rule-items.result.now c.loop-rule.rule-index
    (string_bytes c.loop-rule.text) c.loop-rule-test.false c.loop-rule.invariant
