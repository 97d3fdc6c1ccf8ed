use Rattle.std.proofs.Common.{is_some, ap, ◌∙◌, sym, subst}
use Rattle.regex.specs.Patterns.{find_str}
use Rattle.oci_patterns.specs.Expressions.{IsSyntax}
use Rattle.oci_patterns.proofs.Matching.{matches_so, none_matches, no_expression}
use Rattle.oci_patterns.proofs.pattern.is_match.Goals as goal

pub returns-in_ok-matcher-in-Ok : goal.returns-in_ok-matcher-in-Ok
returns-in_ok-matcher-in-Ok c =
    matches_so c.in-Ok.regex c.args.pattern.now c.in-Ok.ensures.source c.in-Ok.ensures.config c.in-Ok.ensures.read c.args.text.now (λ k. (c.type_inv.text k).fits)
    c.is_match.result (c.is_match.ensures.found ∙ ap (λ p. is_some (find_str p c.args.text.now 0)) c.in_ok-matcher-in-Ok.ensures.pattern)

pub returns-in-Err-Syntax : goal.returns-in-Err-Syntax
returns-in-Err-Syntax c =
    none_matches c.args.pattern.now c.args.text.now
    (no_expression c.args.pattern.now c.in-Err-Syntax.field-0 (subst IsSyntax (sym c.in-Err-Syntax.field-0-is) tt) c.in-Err-Syntax.ensures.by_grammar c.in-Err-Syntax.ensures.kind)
