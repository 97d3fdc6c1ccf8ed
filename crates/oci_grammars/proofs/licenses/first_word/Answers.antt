-- The first piece is a word, a space or a mark.
use Rattle.std.proofs.Common.{◌≡◌, ◌<◌, true, false, ◌∷◌, length, drop, sym, ap, ◌∙◌, subst}
use Rattle.std.specs.Prelude.{codes, bytes_eq, ◌==◌}
use Rattle.oci_grammars.specs.Classes.{is_word_byte}
use Rattle.oci_grammars.specs.Decided.{front_in, back_in}
use Rattle.oci_grammars.specs.Licenses.{pieces}
use Rattle.oci_grammars.proofs.LicensePieces.{pieces_word, pieces_space, pieces_mark, shorter_back}
use Rattle.oci_grammars.proofs.licenses.first_word.Goals as goal

pub returns-then-is_space-clause-words : goal.returns-then-is_space-clause-words
returns-then-is_space-clause-words c =
    let t = c.args.text.now in
    let empty : (length (front_in is_word_byte t) == 0) ≡ true = sym (c.is_empty.ensures ∙ ap (λ z. length z == 0) c.run.ensures.front) ∙ c.if-is_empty.true in
    pieces_space t empty (sym (c.is_space.ensures ∙ ap (λ z. bytes_eq z (codes " ")) c.split_at.ensures.front) ∙ c.if-is_space.true) ∙ ap pieces (sym c.split_at.ensures.back)

pub returns-else-is_space-clause-words : goal.returns-else-is_space-clause-words
returns-else-is_space-clause-words c =
    let t = c.args.text.now in
    let empty : (length (front_in is_word_byte t) == 0) ≡ true = sym (c.is_empty.ensures ∙ ap (λ z. length z == 0) c.run.ensures.front) ∙ c.if-is_empty.true in
    pieces_mark t c.requires empty (sym (c.is_space.ensures ∙ ap (λ z. bytes_eq z (codes " ")) c.split_at.ensures.front) ∙ c.if-is_space.false)
    ∙ ap (λ z. z ∷ pieces (drop 1 t)) (sym c.split_at.ensures.front) ∙ ap (λ z. c.split_at.result.0.now ∷ pieces z) (sym c.split_at.ensures.back)

pub returns-else-is_empty-clause-words : goal.returns-else-is_empty-clause-words
returns-else-is_empty-clause-words c =
    let t = c.args.text.now in
    let some : (length (front_in is_word_byte t) == 0) ≡ false = sym (c.is_empty.ensures ∙ ap (λ z. length z == 0) c.run.ensures.front) ∙ c.if-is_empty.false in
    pieces_word t some
    ∙ ap (λ z. z ∷ pieces (back_in is_word_byte t)) (sym c.run.ensures.front) ∙ ap (λ z. c.run.result.0.now ∷ pieces z) (sym c.run.ensures.back)

pub returns-else-is_empty-clause-shorter : goal.returns-else-is_empty-clause-shorter
returns-else-is_empty-clause-shorter c =
    let t = c.args.text.now in
    let some : (length (front_in is_word_byte t) == 0) ≡ false = sym (c.is_empty.ensures ∙ ap (λ z. length z == 0) c.run.ensures.front) ∙ c.if-is_empty.false in
    subst (λ z. length z < length t) (sym c.run.ensures.back) (shorter_back t some)
