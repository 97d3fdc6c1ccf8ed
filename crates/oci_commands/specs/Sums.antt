-- Lists of digests, as `digest` and sha256sum write them, and whether files have these digests.
use Rattle.std.specs.Prelude.{◌≡◌, ◌≢◌, ◌⊎◌, ◌<◌, ◌++◌, ◌∷◌, [], ℕ, List, Option, length, slice_index, IfSome}
use Rattle.std.specs.List.{All, HoldsAt}
use Rattle.std.specs.Str.{IsUtf8}
use Rattle.std.specs.Str.Lines.{lines}
use Rattle.oci_content.specs.Content.{IsBy, algorithm_name, digest_text}
use Rattle.oci_content.specs.declared.algorithm.Algorithm.{Algorithm}

-- the byte is not in the text
abbrev pub Lacks : ℕ → List ℕ → Type 0
Lacks byte text = (i : ℕ) → i < length text → slice_index text i ≢ byte

-- a line: a text without a space, two spaces, and the name of a file
abbrev pub IsEntry : List ℕ → List ℕ → List ℕ → Type 0
IsEntry line text name = (line ≡ text ++ 32 ∷ (32 ∷ name)) × Lacks 32 text

-- the digest that the text is, by this algorithm; or the text alone, where it has no colon, behind the one that is asked for
abbrev pub IsSaid : Algorithm → List ℕ → Algorithm → List ℕ → Type 0
IsSaid asked text algorithm digest =
    (IsBy algorithm text × (digest ≡ text)) ⊎ (Lacks 58 text × (algorithm ≡ asked) × (digest ≡ algorithm_name asked ++ 58 ∷ text))

-- the file that a line names has the digest that it says, where its bytes are known
pub record Matches (holds : List ℕ → Option (List ℕ)) (asked : Algorithm) (line : List ℕ) : Type 0 where
  pub text : List ℕ
  pub name : List ℕ
  pub algorithm : Algorithm
  pub digest : List ℕ
  pub is_entry : IsEntry line text name
  pub is_said : IsSaid asked text algorithm digest
  pub same : IfSome (holds name) (λ bytes. digest ≡ digest_text algorithm bytes)

-- the line names no file, or says no digest of it by an algorithm that is known, or the file has another digest
abbrev pub Differs : (List ℕ → Option (List ℕ)) → Algorithm → List ℕ → Type 0
Differs holds asked line = (text name digest : List ℕ) (algorithm : Algorithm) → IsEntry line text name → IsSaid asked text algorithm digest
    → IfSome (holds name) (λ bytes. digest ≢ digest_text algorithm bytes)

-- the bytes of a list are lines, one at least, of which each matches
abbrev pub AllMatch : (List ℕ → Option (List ℕ)) → Algorithm → List ℕ → Type 0
AllMatch holds asked bytes = (lines bytes ≢ []) × All (Matches holds asked) (lines bytes)

-- they are no text, have no line, or a line that differs
abbrev pub OneDiffers : (List ℕ → Option (List ℕ)) → Algorithm → List ℕ → Type 0
OneDiffers holds asked bytes = ¬ IsUtf8 bytes ⊎ ((lines bytes ≡ []) ⊎ ((i : ℕ) × (i < length (lines bytes)) × HoldsAt (Differs holds asked) (lines bytes) i))
