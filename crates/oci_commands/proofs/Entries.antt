-- Lists of digests, line by line.
use Rattle.std.proofs.Common.{get_or, length-append, ◌≡◌, ◌≢◌, ◌⊎◌, ◌<◌, ◌++◌, ◌∷◌, [], ◌∙◌, inl, inr, ℕ, zero, suc, List, Option, Some, None, length, map, refl, sym, ap, subst, arith, lit<}
use Rattle.std.proofs.Math.Seq.{get_or-append_seam}
use Rattle.std.proofs.lemmas.List.{length-map}
use Rattle.std.proofs.lemmas.List.Elements.{All-map}
use Rattle.std.proofs.lemmas.Str.Pattern.{IsSplitOnceResult, split_after, split_parts}
use Rattle.std.specs.Borrow.{Bor}
use Rattle.std.specs.Prelude.{IfSome}
use Rattle.std.specs.List.{All, HoldsAt}
use Rattle.std.specs.Str.{IsUtf8}
use Rattle.std.specs.Str.Lines.{lines}
use Rattle.oci_content.specs.Content.{IsBy, algorithm_name, digest_text}
use Rattle.oci_content.specs.declared.algorithm.Algorithm.{Algorithm}
use Rattle.oci_content.proofs.Verdicts.{one_algorithm}
use Rattle.oci_commands.specs.Sums.{IsEntry, IsSaid, Lacks, Matches, Differs, AllMatch, OneDiffers}

-- what is before and behind a byte has that byte between them
pub seam : (byte : ℕ) (text before behind : List ℕ) → Lacks byte text → text ≡ before ++ byte ∷ behind → ⊥
seam byte text before behind lacks is =
    lacks (length before) (omega (arith, ap length is, length-append before (byte ∷ behind))) (ap (λ q. get_or q (length before) 0) is ∙ get_or-append_seam before byte behind 0)

no_colon : (text : List ℕ) (a : Algorithm) → Lacks 58 text → ¬ IsBy a text
no_colon text a lacks (encoded, is) = seam 58 text (algorithm_name a) encoded lacks is

-- a text says one digest, by one algorithm
pub one_said : (asked : Algorithm) (text : List ℕ) (a b : Algorithm) (d e : List ℕ) → IsSaid asked text a d → IsSaid asked text b e → (a ≡ b) × (d ≡ e)
one_said asked text a b d e (inl (by, is)) (inl (also, same)) = (one_algorithm a b text by also, is ∙ sym same)
one_said asked text a b d e (inl (by, is)) (inr (none, same, done)) = absurd (no_colon text a none by)
one_said asked text a b d e (inr (none, same, done)) (inl (by, is)) = absurd (no_colon text b none by)
one_said asked text a b d e (inr (none, is, made)) (inr (also, same, done)) = (is ∙ sym same, made ∙ sym done)

-- one with the name of no algorithm that is known before a colon says none
pub none_said : (asked : Algorithm) (text : List ℕ) → ((a : Algorithm) → ¬ IsBy a text) → ¬ Lacks 58 text → (algorithm : Algorithm) (digest : List ℕ) → ¬ IsSaid asked text algorithm digest
none_said asked text none has algorithm digest (inl (by, is)) = none algorithm by
none_said asked text none has algorithm digest (inr (lacks, same, made)) = has lacks

at_map : {X Y : Type 0} (P : X → Type 0) (f : Y → X) (ys : List Y) (i : ℕ) → i < length ys → HoldsAt (λ y. P (f y)) ys i → HoldsAt P (map f ys) i
at_map P f [] i lt h = absurd (omega arith)
at_map P f (y ∷ ys) zero lt h = λ d. h y
at_map P f (y ∷ ys) (suc i) lt h = at_map P f ys i (omega arith) h

unmapped : (found : List (Bor (List ℕ))) → map (λ l. l.now) found ≡ [] → found ≡ []
unmapped [] e = refl
unmapped (x ∷ found) e = absurd (cc)

-- what holds of the lines that were found holds of the lines of the text
pub all_match : (holds : List ℕ → Option (List ℕ)) (asked : Algorithm) (text : List ℕ) (found : List (Bor (List ℕ))) → map (λ l. l.now) found ≡ lines text → ¬ (found ≡ [])
    → All (λ l. Matches holds asked l.now) found → AllMatch holds asked text
all_match holds asked text found same some each =
    (λ none. some (unmapped found (same ∙ none)), subst (All (Matches holds asked)) same (All-map (Matches holds asked) (λ l. l.now) found each))

pub one_differs : (holds : List ℕ → Option (List ℕ)) (asked : Algorithm) (text : List ℕ) (found : List (Bor (List ℕ))) (i : ℕ) → map (λ l. l.now) found ≡ lines text → i < length found
    → HoldsAt (λ l. Differs holds asked l.now) found i → OneDiffers holds asked text
one_differs holds asked text found i same lt h =
    subst (λ q. ¬ IsUtf8 text ⊎ ((q ≡ []) ⊎ ((i : ℕ) × (i < length q) × HoldsAt (Differs holds asked) q i))) same
    (inr (inr (i, subst (λ n. i < n) (sym (length-map found (λ l. l.now))) lt, at_map (Differs holds asked) (λ l. l.now) found i lt h)))

-- ---- the parts of a line

pub is_entry : (line name : List ℕ) (t r : Bor (List ℕ)) → IsSplitOnceResult 32 line (Some (t, r)) → r.now ≡ 32 ∷ name → IsEntry line t.now name
is_entry line name t r split strip = let (cut, lacks) = split_parts 32 line (Some (t, r)) split (lit< tt) in (cut ∙ ap (λ q. t.now ++ 32 ∷ q) strip, lacks)

pub one_entry : (line name : List ℕ) (t r : Bor (List ℕ)) → IsSplitOnceResult 32 line (Some (t, r)) → r.now ≡ 32 ∷ name → (text other : List ℕ) → IsEntry line text other → (text ≡ t.now) × (other ≡ name)
one_entry line name t r split strip text other (is, lacks) =
    let (same, rest) = split_after 32 line text (32 ∷ other) (Some (t, r)) split (lit< tt) is lacks in
    (sym same, cc)

pub no_split : (line : List ℕ) → IsSplitOnceResult 32 line None → (text name : List ℕ) → ¬ IsEntry line text name
no_split line split text name (is, lacks) = split_after 32 line text (32 ∷ name) None split (lit< tt) is lacks

pub no_strip : (line : List ℕ) (t r : Bor (List ℕ)) → IsSplitOnceResult 32 line (Some (t, r)) → ((rest : List ℕ) → r.now ≢ 32 ∷ rest) → (text name : List ℕ) → ¬ IsEntry line text name
no_strip line t r split none text name (is, lacks) = let (same, rest) = split_after 32 line text (32 ∷ name) (Some (t, r)) split (lit< tt) is lacks in none name rest

-- ---- what a line says of a file

pub line_differs : (holds : List ℕ → Option (List ℕ)) (asked : Algorithm) (line t n d : List ℕ) (a : Algorithm) → ((text name : List ℕ) → IsEntry line text name → (text ≡ t) × (name ≡ n))
    → IsSaid asked t a d → IfSome (holds n) (λ bytes. d ≢ digest_text a bytes) → Differs holds asked line
line_differs holds asked line t n d a one is other = λ text name digest algorithm entry said.
    let (same, file) = one text name entry in
    let (by, made) = one_said asked t a algorithm d digest is (subst (λ q. IsSaid asked q algorithm digest) same said) in
    let first = subst (λ x. IfSome (holds n) (λ bytes. d ≢ digest_text x bytes)) by other in
    let second = subst (λ x. IfSome (holds n) (λ bytes. x ≢ digest_text algorithm bytes)) made first in
    subst (λ q. IfSome (holds q) (λ bytes. digest ≢ digest_text algorithm bytes)) (sym file) second

pub none_known : (holds : List ℕ → Option (List ℕ)) (asked : Algorithm) (line t n : List ℕ) → ((text name : List ℕ) → IsEntry line text name → (text ≡ t) × (name ≡ n))
    → ((algorithm : Algorithm) (digest : List ℕ) → ¬ IsSaid asked t algorithm digest) → Differs holds asked line
none_known holds asked line t n one none = λ text name digest algorithm entry said.
    let (same, file) = one text name entry in absurd (none algorithm digest (subst (λ q. IsSaid asked q algorithm digest) same said))

pub none_differs : (holds : List ℕ → Option (List ℕ)) (asked : Algorithm) (line : List ℕ) → ((text name : List ℕ) → ¬ IsEntry line text name) → Differs holds asked line
none_differs holds asked line none = λ text name digest algorithm entry said. absurd (none text name entry)

pub line_matches : (holds : List ℕ → Option (List ℕ)) (asked : Algorithm) (line t n d : List ℕ) (a : Algorithm) → IsEntry line t n → IsSaid asked t a d → IfSome (holds n) (λ bytes. d ≡ digest_text a bytes)
    → Matches holds asked line
line_matches holds asked line t n d a entry is same = record { text = t; name = n; algorithm = a; digest = d; is_entry = entry; is_said = is; same = same }
