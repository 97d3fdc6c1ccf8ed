use Rattle.std.proofs.Common.{◌≡◌, ◌<◌, [], ℕ, length, rules, subst}
use Rattle.std.specs.List.{All, HoldsAt}
use Rattle.std.proofs.lemmas.Result.{IfOk-weaker}
use Rattle.oci_commands.specs.Sums.{Differs, Matches}
use Rattle.oci_commands.proofs.Entries.{all_match, one_differs}
use Rattle.oci_commands.proofs.sums.Lists.check_text.Goals as goal

pub returns-clause-right : goal.returns-clause-right
returns-clause-right g c =
    let some : ¬ (c.in_ok-entries.entries.items ≡ []) = search rules in
    IfOk-weaker c.check_lines.result _ _
    (λ o found yes. all_match (g.S.Files.holds c.args.store.now) c.args.self.asked c.args.text.now c.in_ok-entries.entries.items c.in_ok-entries.ensures some
    (subst (All (λ l. Matches (g.S.Files.holds c.args.store.now) c.args.self.asked l.now)) c.as_slice.ensures.value (found yes)))
    c.check_lines.ensures.right

pub returns-clause-wrong : goal.returns-clause-wrong
returns-clause-wrong g c =
    IfOk-weaker c.check_lines.result _ _
    (λ o found wrong.
    let (i, lt, at) = subst (λ e. (i : ℕ) × (i < length e) × HoldsAt (λ l. Differs (g.S.Files.holds c.args.store.now) c.args.self.asked l.now) e i) c.as_slice.ensures.value (found wrong) in
    one_differs (g.S.Files.holds c.args.store.now) c.args.self.asked c.args.text.now c.in_ok-entries.entries.items i c.in_ok-entries.ensures lt at)
    c.check_lines.ensures.wrong
