use Rattle.std.proofs.Common.{◌≡◌, ◌≤◌, ◌∙◌, ◌++◌, List, ℕ, ap, length, string_bytes, subst}
use Rattle.oci_findings.specs.FoundKind.{all_kinds}
use Rattle.oci_commands.specs.Books.{Sections}
use Rattle.oci_commands.proofs.Rows.{section_next, sections_end}
use Rattle.oci_commands.proofs.books.all_rules.Goals as goal

pub loop-kind-preserved : goal.loop-kind-preserved
loop-kind-preserved g c = λ after more.
    let (section, is, made) = c.in_ok-push_rules.ensures in
    c.loop-kind.invariant after
    (section_next (g.B.RuleBooks.rules c.args.books.now) all_kinds c.loop-kind.kind-index _ (string_bytes c.loop-kind.text) (string_bytes c.push_rules.new.text) after section c.loop-kind-test.true is made more)

pub loop-kind-init : goal.loop-kind-init
loop-kind-init g c = λ after more. subst (λ (t : List ℕ). Sections (g.B.RuleBooks.rules c.args.books.now) all_kinds t after) c.new-text.ensures.bytes more

pub returns : goal.returns
returns g c =
    let books = g.B.RuleBooks.rules c.args.books.now in
    let before = string_bytes c.loop-kind.text in
    let end : length all_kinds ≤ c.loop-kind.kind-index = search in
    (before, c.versions-versions.result.now, c.loop-kind.invariant before (sections_end books all_kinds c.loop-kind.kind-index before end), c.in_ok-push_str.ensures.bytes ∙ ap (λ (q : List ℕ). before ++ q) (c.as_str.ensures.value ∙ c.in_ok-last.ensures.ok))
