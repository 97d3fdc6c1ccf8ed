-- The escapes of a workflow command, character by character.
use Rattle.std.proofs.Common.{◌≡◌, ℕ, List, [], ◌++◌, length, chars, encode_utf8, encode_utf8_all, IsUtf8, ap, ◌∙◌}
use Rattle.std.proofs.lemmas.Str.{chars_past_char, chars-nil, encodes-append}
use Rattle.std.proofs.lemmas.List.{nil_from_length}
use Rattle.oci_findings.specs.Github.{character_text, part_text}
use Rattle.oci_findings.specs.declared.github.Part.{Part}

chars_of_empty : (text : List ℕ) → length text ≡ 0 → chars text ≡ []
chars_of_empty text none = ap chars (nil_from_length text none) ∙ chars-nil

pub part_empty : (part : Part) (text : List ℕ) → length text ≡ 0 → part_text part text ≡ []
unfolding part_text
part_empty part text none = rw (chars_of_empty text none)

pub part_step : (part : Part) (text rest : List ℕ) (c : ℕ) → IsUtf8 text → text ≡ encode_utf8 c ++ rest
    → part_text part text ≡ encode_utf8_all (character_text part c) ++ part_text part rest
unfolding part_text
part_step part text rest c utf8 parts = rw (chars_past_char text rest c utf8 parts, encodes-append)
