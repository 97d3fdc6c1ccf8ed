use Rattle.std.proofs.Common.{List, ℕ, [], ◌++◌, Bor, codes, append_assoc, get_or, string_bytes}
use Rattle.oci_examples.proofs.Folds.{flat_map_more}
use Rattle.oci_examples.proofs.paths.spelled.Goals as goal

pub loop-name-preserved : goal.loop-name-preserved
loop-name-preserved c =
    let more = flat_map_more (λ (n : List ℕ). codes "/" ++ n) (λ (n : Bor (List ℕ)). n.now) c.deref-name-items.result.now c.loop-name.name-index (record { ref_ptr = (0, 0); now = [] }) c.loop-name-test.true in
    let slash = c.in_ok-push_str.ensures.bytes in
    let name = c.in_ok-push_str-2.ensures.bytes in
    let before = c.loop-name.invariant in
    let here = (get_or c.deref-name-items.result.now c.loop-name.name-index (record { ref_ptr = (0, 0); now = [] })).now in
    let joined = append_assoc (string_bytes c.loop-name.text) (codes "/") here in cc
