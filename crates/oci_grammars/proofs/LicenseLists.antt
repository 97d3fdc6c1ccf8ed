-- Which identifiers of a licence expression are in a list.
use Rattle.std.proofs.Common.{◌≡◌, ℕ, ◌&&◌, ◌||◌, not, Bool, true, false, List, [], ◌∷◌, refl, sym, ap, ◌∙◌, true≢false}
use Rattle.std.specs.Bool.{Decides}
use Rattle.std.proofs.lemmas.Bool.Decides.{Decides-and, Decides-or, Decides-at}
use Rattle.oci_base.specs.Classes.{plus, has, until, after}
use Rattle.oci_base.proofs.Marks.{lacks_not_has}
use Rattle.oci_grammars.specs.DecidedLicenses.{is_spdx_expression, is_with, is_listed, are_listed, has_listed}
use Rattle.oci_grammars.specs.DecidedUris.{is_any_case, is_word_of}
use Rattle.oci_grammars.specs.Licenses.{is_identifier, is_reference, pieces, words_in, IsListed, AreListed, HasListed}
use Rattle.oci_grammars.proofs.Deciding.{Decides-itself}
use Rattle.oci_grammars.proofs.LicenseGrammar.{spdx_expression}
use Rattle.oci_grammars.proofs.SignalGrammars.{word_tells}
use Rattle.oci_grammars.proofs.Splits.{split_none}
use Rattle.oci_grammars.proofs.Taken.{split_first}

-- where the first is so, the second is
pub then_tells : (a b : Bool) (P Q : Type 0) → Decides a P → Decides b Q → Decides (not a || b) (P → Q)
then_tells true b P Q is other = ((λ e p. other.0 e), (λ h. other.1 (h (is.0 refl))))
then_tells false b P Q is other = ((λ e p. absurd (true≢false (sym (is.1 p)))), (λ h. refl))

listed_tells : (licenses exceptions : List (List ℕ)) (behind : Bool) (word : List ℕ) → Decides (is_listed licenses exceptions behind word) (IsListed licenses exceptions behind word)
listed_tells licenses exceptions true word = word_tells exceptions word
listed_tells licenses exceptions false word =
    then_tells (is_identifier word) (is_reference word || is_word_of licenses (until plus word)) _ _ (Decides-itself (is_identifier word))
    (Decides-or (is_reference word) (is_word_of licenses (until plus word)) (Decides-itself (is_reference word)) (word_tells licenses (until plus word)))

are_tells : (licenses exceptions : List (List ℕ)) (behind : Bool) (words : List (List ℕ)) → Decides (are_listed licenses exceptions behind words) (AreListed licenses exceptions behind words)
are_tells licenses exceptions behind [] = ((λ e. tt), (λ h. refl))
are_tells licenses exceptions behind (word ∷ words) =
    Decides-and (is_listed licenses exceptions behind word) (are_listed licenses exceptions (is_with word) words) (listed_tells licenses exceptions behind word)
    (are_tells licenses exceptions (is_with word) words)

pub has_listed_decides : (licenses exceptions : List (List ℕ)) (t : List ℕ) → Decides (has_listed licenses exceptions t) (HasListed licenses exceptions t)
unfolding has_listed
has_listed_decides licenses exceptions t = then_tells (is_spdx_expression t) (are_listed licenses exceptions false (pieces t)) _ _ (spdx_expression t) (are_tells licenses exceptions false (pieces t))

pub listed_by : (licenses exceptions text a b t : List ℕ) (r s : Bool) → a ≡ licenses → b ≡ exceptions → t ≡ text → r ≡ is_spdx_expression t
    → s ≡ are_listed (words_in a) (words_in b) false (pieces t) → Decides (not r || s) (HasListed (words_in licenses) (words_in exceptions) text)
unfolding has_listed
listed_by licenses exceptions text a b t r s f g e h k =
    let expression : r ≡ is_spdx_expression text = h ∙ ap is_spdx_expression e in
    let listed : s ≡ are_listed (words_in licenses) (words_in exceptions) false (pieces text) =
    k ∙ ap (λ z. are_listed (words_in z) (words_in b) false (pieces t)) f ∙ ap (λ z. are_listed (words_in licenses) (words_in z) false (pieces t)) g
    ∙ ap (λ z. are_listed (words_in licenses) (words_in exceptions) false (pieces z)) e in
    Decides-at (not r || s) (has_listed (words_in licenses) (words_in exceptions) text)
    (ap (λ z. not z || s) expression ∙ ap (λ z. not (is_spdx_expression text) || z) listed) (has_listed_decides (words_in licenses) (words_in exceptions) text)

-- ---- word by word

or_assoc : (a b c : Bool) → ((a || b) || c) ≡ (a || (b || c))
or_assoc true b c = refl
or_assoc false b c = refl

or_false : (a : Bool) → (a || false) ≡ a
or_false true = refl
or_false false = refl

pub word_taken : (list text : List ℕ) (found : Bool) → has 32 list ≡ true
    → ((found || is_any_case (until 32 list) text) || is_word_of (words_in (after 32 list)) text) ≡ (found || is_word_of (words_in list) text)
word_taken list text found h =
    or_assoc found (is_any_case (until 32 list) text) (is_word_of (words_in (after 32 list)) text) ∙ ap (λ z. found || is_word_of z text) (sym (split_first 32 list h))

pub last_word : (list text : List ℕ) (found : Bool) → has 32 list ≡ false → (found || is_any_case list text) ≡ (found || is_word_of (words_in list) text)
last_word list text found h = ap (λ z. found || z) (sym (ap (λ z. is_word_of z text) (split_none 32 list (lacks_not_has 32 list h)) ∙ or_false (is_any_case list text)))

and_assoc : (a b c : Bool) → ((a && b) && c) ≡ (a && (b && c))
and_assoc true b c = refl
and_assoc false b c = refl

-- one piece more
pub piece_taken : (licenses exceptions : List (List ℕ)) (listed behind : Bool) (t rest word : List ℕ) → pieces t ≡ word ∷ pieces rest
    → ((listed && is_listed licenses exceptions behind word) && are_listed licenses exceptions (is_with word) (pieces rest)) ≡ (listed && are_listed licenses exceptions behind (pieces t))
piece_taken licenses exceptions listed behind t rest word e =
    and_assoc listed (is_listed licenses exceptions behind word) (are_listed licenses exceptions (is_with word) (pieces rest)) ∙ ap (λ z. listed && are_listed licenses exceptions behind z) (sym e)
