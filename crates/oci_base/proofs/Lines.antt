-- What an escaped text is.
use Rattle.std.proofs.Common.{◌≡◌, ℕ, suc, ◌<◌, ◌/◌, ◌%◌, List, [], ◌∷◌, ◌++◌, Bool, true, false, ◌&&◌, map, flat_map, chars, encode_utf8_all, IsUtf8, if◌then◌else◌, refl, ap, ◌∙◌, arith}
use Rattle.std.proofs.Math.Utf8.{scalar, scalars, low_scalar}
use Rattle.std.proofs.lemmas.Bool.Decides.{leb_tells}
use Rattle.std.proofs.lemmas.Nat.{mod_below}
use Rattle.std.proofs.lemmas.Str.{chars-encodes, encodes-chars, scalars-chars}
use Rattle.std.proofs.lemmas.List.Elements.{All-append, All-nil, All-cons}
use Rattle.std.specs.List.{All}
use Rattle.std.specs.Char.{digit_char}
use Rattle.oci_base.specs.Escaped.{is_unsafe, escape, shown_as, escaped, IsOneLine}

-- characters that are not escaped
abbrev AreSafe : List ℕ → Type 0
AreSafe cs = All (λ c. is_unsafe c ≡ false) cs

with_one : (c : ℕ) (cs : List ℕ) → is_unsafe c ≡ false → AreSafe cs → AreSafe (c ∷ cs)
with_one c cs one more = All-cons (λ c. is_unsafe c ≡ false) c cs one more

none : AreSafe []
none = All-nil (λ c. is_unsafe c ≡ false)

both : (a b : Bool) → (a && b) ≡ true → (a ≡ true) × (b ≡ true)
both true b e = (refl, e)
both false b e = search e

scalars-append : (cs ds : List ℕ) → scalars cs ≡ true → scalars ds ≡ true → scalars (cs ++ ds) ≡ true
scalars-append [] ds p q = q
scalars-append (c ∷ cs) ds p q =
    let h = both (scalar c) (scalars cs) p in
    ap (λ y. y && scalars (cs ++ ds)) h.0 ∙ scalars-append cs ds h.1 q

-- printable ASCII is shown as it is
printable : (c : ℕ) → 31 < c → c < 127 → is_unsafe c ≡ false
printable c low high = grind (arith, leb_tells)

digit_low : (n : ℕ) → 31 < digit_char (n % 16)
digit_low n = grind (arith, leb_tells)

digit_high : (n : ℕ) → digit_char (n % 16) < 127
digit_high n = let small : n % 16 < 16 = mod_below n 16 (omega arith) in grind (arith, leb_tells)

-- the digits of an escape
abbrev digit : ℕ → ℕ
digit n = digit_char (n % 16)

digits_are_safe : (ns : List ℕ) → AreSafe (map digit ns)
digits_are_safe [] = none
digits_are_safe (n ∷ ns) = with_one (digit n) (map digit ns) (printable (digit n) (digit_low n) (digit_high n)) (digits_are_safe ns)

escape_is_safe : (c : ℕ) → AreSafe (escape c)
escape_is_safe c =
    let digits = map digit (c / 4096 ∷ c / 256 ∷ c / 16 ∷ c ∷ []) in
    with_one 92 (117 ∷ digits) refl (with_one 117 digits refl (digits_are_safe (c / 4096 ∷ c / 256 ∷ c / 16 ∷ c ∷ [])))

digit_is_scalar : (n : ℕ) → scalar (digit_char (n % 16)) ≡ true
digit_is_scalar n = let high : digit_char (n % 16) < 127 = digit_high n in low_scalar (digit_char (n % 16)) (omega arith)

escape_is_scalars : (c : ℕ) → scalars (escape c) ≡ true
escape_is_scalars c = rw (digit_is_scalar (c / 4096), digit_is_scalar (c / 256), digit_is_scalar (c / 16), digit_is_scalar c)

shown_is_safe : (c : ℕ) (b : Bool) → is_unsafe c ≡ b → AreSafe (if b then escape c else c ∷ [])
shown_is_safe c true is = escape_is_safe c
shown_is_safe c false is = with_one c [] is none

shown_is_scalars : (c : ℕ) (b : Bool) → scalar c ≡ true → scalars (if b then escape c else c ∷ []) ≡ true
shown_is_scalars c true is = escape_is_scalars c
shown_is_scalars c false is = rw is

all_are_safe : (cs : List ℕ) → AreSafe (flat_map shown_as cs)
all_are_safe [] = none
all_are_safe (c ∷ cs) = All-append (λ c. is_unsafe c ≡ false) (shown_as c) (flat_map shown_as cs) (shown_is_safe c (is_unsafe c) refl) (all_are_safe cs)

all_are_scalars : (cs : List ℕ) → scalars cs ≡ true → scalars (flat_map shown_as cs) ≡ true
all_are_scalars [] p = refl
all_are_scalars (c ∷ cs) p =
    let h = both (scalar c) (scalars cs) p in
    scalars-append (shown_as c) (flat_map shown_as cs) (shown_is_scalars c (is_unsafe c) h.0) (all_are_scalars cs h.1)

pub escaped_is_one_line : (text : List ℕ) → IsUtf8 text → IsOneLine (escaped text)
unfolding escaped
escaped_is_one_line text utf8 = rw (chars-encodes (flat_map shown_as (chars text)) (all_are_scalars (chars text) (scalars-chars text utf8))) (all_are_safe (chars text))

-- characters that are safe are shown as they are
shown_as_safe : (cs : List ℕ) → AreSafe cs → flat_map shown_as cs ≡ cs
shown_as_safe [] safe = refl
shown_as_safe (c ∷ cs) safe = rw (safe 0 0 (omega arith), shown_as_safe cs (λ k d less. safe (suc k) d (omega arith)))

pub escaped_is_kept : (text : List ℕ) → IsUtf8 text → IsOneLine text → escaped text ≡ text
unfolding escaped
escaped_is_kept text utf8 safe = ap encode_utf8_all (shown_as_safe (chars text) safe) ∙ encodes-chars text utf8
