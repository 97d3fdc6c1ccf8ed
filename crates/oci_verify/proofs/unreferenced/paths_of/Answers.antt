use Rattle.std.proofs.Common.{◌≡◌, ◌+◌, [], ◌∷◌, ◌++◌, true, take, sym, ap, subst, ◌∙◌, arith}
use Rattle.std.specs.Prelude.{string_bytes}
use Rattle.std.specs.BTreeSet.{contains_text}
use Rattle.std.proofs.lemmas.List.{take_all, take_more}
use Rattle.std.proofs.lemmas.Map.Text.{btree_set_updates_text}
use Rattle.oci_verify.specs.Layouts.{ArePathsOf}
use Rattle.oci_verify.proofs.Layouts.{more_paths}
use Rattle.oci_verify.proofs.unreferenced.paths_of.Goals as goal

pub each-preserved : goal.each-preserved
each-preserved c =
    let items = c.deref-claim-items.result.now in
    let i = c.each.claim-index in
    let x = c.claim-item.result in
    let path = string_bytes c.in_ok-path.path in
    let more : take (i + 1) items ≡ take i items ++ x ∷ [] = take_more items i x (omega arith) ∙ ap (λ y. take i items ++ y ∷ []) (sym c.claim-item.is) in
    let same : take (i + 1) c.args.walk.now.claims.items ≡ take i c.args.walk.now.claims.items ++ x ∷ [] =
    subst (λ l. take (i + 1) l ≡ take i l ++ x ∷ []) c.deref-claim-items.ensures.value more in
    more_paths c.args.walk.now.claims.items i x path (contains_text c.each.paths) (contains_text c.insert.new.self) same c.in_ok-path.ensures.path c.in_ok-path.ensures.parts
    (btree_set_updates_text path c.each.paths c.insert.new.self true c.in_ok-insert.ensures.updates) c.each.invariant

pub returns : goal.returns
returns c =
    let items = c.deref-claim-items.result.now in
    let all : take c.each.claim-index items ≡ items = take_all c.each.claim-index items (omega arith) in
    let same = subst (λ l. take c.each.claim-index l ≡ l) c.deref-claim-items.ensures.value all in
    subst (λ l. ArePathsOf l (contains_text c.each.paths)) same c.each.invariant
