use Rattle.std.proofs.Common.{sym, ◌∙◌, inl, inr}
use Rattle.oci_findings.specs.FoundKind.{all_kinds, by_members, is_known}
use Rattle.oci_findings.proofs.FoundKinds.{known_more, known_same, only_one, not_one}
use Rattle.oci_findings.proofs.detect.kind_by_members.Goals.{then-is_known, else-is_known}
use Rattle.oci_findings.proofs.detect.kind_by_members.Goals as goal

pub loop-kind-preserved : goal.loop-kind-preserved
loop-kind-preserved g c = λ d holds.
    elim c.if-is_known.branch [
      | then-is_known w ↦
          w.known-is
          ∙ known_more (is_known d) all_kinds c.loop-kind.kind-index _ c.loop-kind.known w.with-known.result c.loop-kind-test.true (sym (c.is_known.ensures d holds) ∙ w.if-is_known.true) w.with-known.ensures
          (c.loop-kind.invariant d holds)
      | else-is_known w ↦
          w.known-is ∙ known_same (is_known d) all_kinds c.loop-kind.kind-index _ c.loop-kind.known c.loop-kind-test.true (sym (c.is_known.ensures d holds) ∙ w.if-is_known.false) (c.loop-kind.invariant d holds)
    ]

pub returns-in-One : goal.returns-in-One
unfolding by_members
returns-in-One g c = λ d holds. only_one (is_known d) all_kinds c.loop-kind.kind-index c.loop-kind.known c.in-One.kind c.loop-kind-test.false (c.loop-kind.invariant d holds) c.in-One.is

pub returns-in-Nothing : goal.returns-in-Nothing
unfolding by_members
returns-in-Nothing g c = λ d holds. not_one (is_known d) all_kinds c.loop-kind.kind-index c.loop-kind.known c.loop-kind-test.false (c.loop-kind.invariant d holds) (inl c.in-Nothing.is)

pub returns-in-Several : goal.returns-in-Several
unfolding by_members
returns-in-Several g c = λ d holds. not_one (is_known d) all_kinds c.loop-kind.kind-index c.loop-kind.known c.loop-kind-test.false (c.loop-kind.invariant d holds) (inr c.in-Several.is)
