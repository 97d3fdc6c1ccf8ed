-- The text is the name and the digits.
use Rattle.std.proofs.Common.{◌≡◌, ℕ, List, [], ◌∷◌, sym, ap, ◌∙◌, ◌++◌, rules}
use Rattle.std.specs.Prelude.{Some, None}
use Rattle.std.proofs.lemmas.Bool.Decides.{Decides-eqb}
use Rattle.std.proofs.lemmas.Slice.Eq.{bytes_eq-Decides, strip_prefix_is}
use Rattle.hex.specs.Hex.{encode_lower}
use Rattle.oci_content.proofs.checksum.is_text_of.Goals as goal

append_same : (a b c : List ℕ) → a ++ b ≡ a ++ c → b ≡ c
append_same [] b c e = e
append_same (x ∷ a) b c e = append_same a b c (cc e)

pub returns-in-Some : goal.returns-in-Some
returns-in-Some c =
    let digits : c.encode_to_slice.new.output ≡ encode_lower c.args.hash.now = search rules in
    let cut = strip_prefix_is Decides-eqb c.as_bytes.result.now c.as_bytes-2.result.now (Some c.in-Some.encoded) c.in-Some.ensures.cases in
    let decides = bytes_eq-Decides c.in-Some.encoded.now c.encode_to_slice.new.output in
    let spelled : c.args.text.now ≡ c.args.name.now ++ c.in-Some.encoded.now =
    sym c.as_bytes.ensures.value ∙ cut ∙ ap (λ n. n ++ c.in-Some.encoded.now) c.as_bytes-2.ensures.value in (
      λ same. spelled ∙ ap (λ d. c.args.name.now ++ d) (decides.0 (sym c.eq.ensures ∙ same) ∙ digits),
      λ e. c.eq.ensures ∙ decides.1 (append_same c.args.name.now _ _ (sym spelled ∙ e) ∙ sym digits),
    )

pub returns-in-None : goal.returns-in-None
returns-in-None c =
    let cut = strip_prefix_is Decides-eqb c.as_bytes.result.now c.as_bytes-2.result.now None c.in-None.ensures.cases in
    (λ e. cc e, λ e. absurd (cut _ (c.as_bytes.ensures.value ∙ e ∙ ap (λ n. n ++ encode_lower c.args.hash.now) (sym c.as_bytes-2.ensures.value))))
