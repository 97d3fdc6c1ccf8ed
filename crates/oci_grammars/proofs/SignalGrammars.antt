-- Signals are decided word by word, and at their marks.
use Rattle.std.proofs.Common.{◌≡◌, ◌<◌, ℕ, ◌&&◌, Bool, false, true, List, [], ◌∷◌, length, take, drop, map, refl, sym, ap, ◌∙◌, subst, lit<, true≢false}
use Rattle.std.specs.Prelude.{codes}
use Rattle.std.specs.Char.{is_ascii_alphabetic, to_ascii_lowercase}
use Rattle.std.proofs.lemmas.Bool.Decides.{Decides-or}
use Rattle.std.proofs.lemmas.List.{length-map}
use Rattle.std.proofs.lemmas.Slice.Eq.{bytes_eq-Decides}
use Rattle.oci_base.specs.Classes.{plus, dash}
use Rattle.oci_base.proofs.Lacks.{Lacks, lacks_in}
use Rattle.oci_grammars.specs.DecidedSignals.{is_plain, is_real_time, is_bare_signal, is_signal_name, is_signal}
use Rattle.oci_grammars.specs.DecidedUris.{is_any_case, is_word_of}
use Rattle.oci_grammars.specs.Signals.{signal_words, IsPlainUpTo, IsRealTime, IsBareSignal, IsSignalName, IsSignal}
use Rattle.oci_grammars.specs.Parts.{IsRun}
use Rattle.oci_grammars.specs.Uris.{IsAnyCase, IsWordOf}
use Rattle.oci_grammars.proofs.Deciding.{Tells, pair_tells, sized_tells}
use Rattle.oci_grammars.proofs.Numerals.{plain_at_most}

case_tells : (word : List ℕ) → Tells (is_any_case word) (IsAnyCase word)
case_tells word t = bytes_eq-Decides (map to_ascii_lowercase t) (map to_ascii_lowercase word)

pub word_tells : (words : List (List ℕ)) → Tells (is_word_of words) (IsWordOf words)
word_tells [] t = ((λ e. absurd (true≢false (sym e))), (λ h. absurd h))
word_tells (word ∷ words) t = Decides-or (is_any_case word t) (is_word_of words t) (case_tells word t) (word_tells words t)

-- a mark that no case changes
case_lacks : (mark : ℕ) → to_ascii_lowercase mark ≡ mark → (word : List ℕ) → Lacks mark (map to_ascii_lowercase word) → (t : List ℕ) → IsAnyCase word t → Lacks mark t
case_lacks mark same word free t e = lower t (subst (Lacks mark) (sym e) free)
  where
    lower : (t : List ℕ) → Lacks mark (map to_ascii_lowercase t) → Lacks mark t
    lower [] h = tt
    lower (b ∷ t) h = ((λ e. h.0 (ap to_ascii_lowercase e ∙ same)), lower t h.1)

plain_tells : (high : ℕ) → high < 4294967296 → Tells (is_plain high) (IsPlainUpTo high)
plain_tells high few = plain_at_most high few

real_time_tells : Tells is_real_time IsRealTime
real_time_tells t =
    Decides-or _ _
    (pair_tells plus (is_any_case (codes "RTMIN")) (is_plain 30) (IsAnyCase (codes "RTMIN")) (IsPlainUpTo 30) (case_tells (codes "RTMIN")) (plain_tells 30 (lit< tt))
    (case_lacks plus refl (codes "RTMIN") (lacks_in is_ascii_alphabetic plus refl (map to_ascii_lowercase (codes "RTMIN")) refl)) refl t)
    (pair_tells dash (is_any_case (codes "RTMAX")) (is_plain 30) (IsAnyCase (codes "RTMAX")) (IsPlainUpTo 30) (case_tells (codes "RTMAX")) (plain_tells 30 (lit< tt))
    (case_lacks dash refl (codes "RTMAX") (lacks_in is_ascii_alphabetic dash refl (map to_ascii_lowercase (codes "RTMAX")) refl)) refl t)

bare_tells : Tells is_bare_signal IsBareSignal
bare_tells t = Decides-or _ _ (word_tells signal_words t) (real_time_tells t)

-- ---- a word in front

same_length : (word t : List ℕ) → IsAnyCase word t → length t ≡ length word
same_length word t e = sym (length-map t to_ascii_lowercase) ∙ ap length e ∙ length-map word to_ascii_lowercase

front_tells : (word : List ℕ) (p : List ℕ → Bool) (P : List ℕ → Type 0) → Tells p P
    → Tells (λ t. is_any_case word (take (length word) t) && p (drop (length word) t)) (IsRun (IsAnyCase word) P)
front_tells word p P tells = sized_tells (length word) (is_any_case word) p (IsAnyCase word) P (case_tells word) tells (same_length word)

name_tells : Tells is_signal_name IsSignalName
name_tells t = Decides-or _ _ (bare_tells t) (front_tells (codes "SIG") is_bare_signal IsBareSignal bare_tells t)

pub signal : Tells is_signal IsSignal
signal t = Decides-or _ _ (name_tells t) (plain_tells 64 (lit< tt) t)
