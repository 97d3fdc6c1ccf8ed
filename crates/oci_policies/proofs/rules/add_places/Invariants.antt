use Rattle.std.proofs.Common.{◌≡◌, ◌++◌, drop, map}
use Rattle.oci_policies.specs.Policies.{rule_at}
use Rattle.oci_policies.specs.Steps.{head_view, steps_view, worded}
use Rattle.oci_policies.proofs.rules.add_places.Given as goal

abbrev pub invariant-loop-place : goal.invariant-loop-place
invariant-loop-place l =
    map worded l.found.items ++ map (λ s. rule_at (head_view l.head) (s ++ steps_view l.rest.items)) (map (λ s. steps_view s.items) (drop l.place-index l.place-items))
    ≡ map worded l.initial.found.items ++ map (λ s. rule_at (head_view l.head) (s ++ steps_view l.rest.items)) (map (λ s. steps_view s.items) l.places.items)
