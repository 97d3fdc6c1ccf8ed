use Rattle.std.proofs.Common.{◌≡◌, ℕ, ◌+◌, ◌<◌, List, [], ◌++◌, length, take, get_or, sym, ap, ◌∙◌}
use Rattle.std.specs.List.{flat_map}
use Rattle.std.proofs.lemmas.List.{take_more, flat_map_more}
use Rattle.oci_rules.specs.declared.rule.Broken.{Broken}
use Rattle.oci_ffi.specs.Fields.{broken_fields}
use Rattle.oci_ffi.proofs.fields.list_broken.Goals as goal

one_more : (found : List Broken) (i : ℕ) (x : Broken) → i < length found → x ≡ get_or found i x
    → flat_map broken_fields (take i found) ++ broken_fields x ≡ flat_map broken_fields (take (i + 1) found)
one_more found i x less is =
    ap (λ (y : Broken). flat_map broken_fields (take i found) ++ broken_fields y) is
    ∙ flat_map_more broken_fields [] (take i found) (get_or found i x)
    ∙ ap (λ (l : List Broken). flat_map broken_fields l) (sym (take_more found i x less))

pub loop-broken-preserved : goal.loop-broken-preserved
loop-broken-preserved c =
    let item = c.broken-item.result in
    c.in_ok-push_broken.ensures ∙ ap (λ t. t ++ broken_fields item) c.loop-broken.invariant
    ∙ one_more c.args.found.now c.loop-broken.broken-index item c.loop-broken-test.true c.broken-item.is
