-- One more step of an alignment.
use Rattle.std.proofs.Common.{◌≡◌, ◌<◌, ℕ, List, [], ◌∷◌, ◌++◌, length, get_or, Some, sym, ap, ◌∙◌}
use Rattle.serde_json.proofs.Views.{get_item_within, items_len-items_view}
use Rattle.serde_json.specs.Data.{Items}
use Rattle.serde_json.specs.Find.{get_item}
use Rattle.serde_json.specs.View.{view, items_view}
use Rattle.serde_json.specs.declared.value.Value.{Value}
use Rattle.oci_diff.specs.Aligned.{AreAligned, IsStep, Lead, first_after, second_after}
use Rattle.oci_diff.specs.declared.aligned.Step.{Step}

pub lead_on : (ds es : Items) (a b : ℕ) (steps : List Step) (i j : ℕ) (step : Step) → Lead ds es a b steps i j → IsStep ds es i j step
    → Lead ds es a b (steps ++ step ∷ []) (first_after step i) (second_after step j)
lead_on ds es a b [] i j step (e, f) is = (rw (e, f) is, (ap (first_after step) e, ap (second_after step) f))
lead_on ds es a b (s ∷ steps) i j step (first, rest) is = (first, lead_on ds es (first_after s a) (second_after s b) steps i j step rest is)

pub item_at : (vs : List Value) (i : ℕ) (v : Value) → i < length vs → v ≡ get_or vs i v → get_item i (items_view vs) ≡ Some (view v)
item_at vs i v h e = sym (get_item_within vs i v h) ∙ ap (λ x. Some (view x)) (sym e)

pub all_led : (vs ws : List Value) (steps : List Step) (i j : ℕ) → i ≡ length vs → j ≡ length ws → Lead (items_view vs) (items_view ws) 0 0 steps i j → AreAligned steps (items_view vs) (items_view ws)
all_led vs ws steps i j first second lead = rw (items_len-items_view vs, items_len-items_view ws, ← first, ← second) lead
