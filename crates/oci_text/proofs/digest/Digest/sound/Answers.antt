-- The text is cut behind its algorithm.
use Rattle.std.proofs.Common.{◌≡◌, ◌∙◌, ap}
use Rattle.std.proofs.Math.Seq.{take-append_seam}
use Rattle.std.specs.Prelude.{List, ℕ, length, take, string_bytes, ◌++◌, ◌∷◌}
use Rattle.oci_base.specs.Classes.{until, after, colon}
use Rattle.oci_base.specs.Names.{opened}
use Rattle.oci_text.specs.Algorithms.{algorithms}
use Rattle.oci_text.proofs.Components.{front_range}
use Rattle.oci_text.proofs.digest.Digest.sound.Goals as goal

-- the front of a text that is cut
front : (t a e : List ℕ) (i : ℕ) → t ≡ a ++ colon ∷ e → i ≡ length a → take i t ≡ a
front t a e i spelled at = ap (λ k. take k t) at ∙ ap (take (length a)) spelled ∙ take-append_seam a (colon ∷ e)

pub invariant_of-result : goal.invariant_of-result
invariant_of-result c =
    let t = string_bytes c.args.text in
    let at = c.algorithm_len-split.ensures.value ∙ ap (λ z. length (until colon z)) c.as_str.ensures.value in
    let cut = c.range.ensures.value ∙ front_range c.as_str-2.result.now c.algorithm_len-split.result ∙ ap (take c.algorithm_len-split.result) c.as_str-2.ensures.value ∙ front t (until colon t) (after colon t) c.algorithm_len-split.result c.requires.spelled at in
    record {
      is_digest = c.requires;
      named = c.in_ok-algorithm.ensures.ok ∙ ap (opened algorithms) cut;
      split_at = at;
    }
