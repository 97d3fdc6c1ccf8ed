-- Texts in workflow commands of GitHub (GitHub Docs, "Workflow commands for GitHub Actions").
use Rattle.std.specs.Prelude.{◌==◌, ◌∷◌, [], ℕ, List, codes, chars, encode_utf8_all, if◌then◌else◌}
use Rattle.std.specs.List.{flat_map}
use Rattle.oci_findings.specs.declared.github.Part.{Part}
use Rattle.oci_findings.specs.declared.github.Part.TheVariants.{Property, Message}

-- `%` and what ends a line are escaped
abbrev pub in_message : ℕ → List ℕ
in_message c = if c == 37 then codes "%25" else (if c == 13 then codes "%0D" else (if c == 10 then codes "%0A" else c ∷ []))

-- in the value of a property `:` and `,` too
abbrev pub character_text : Part → ℕ → List ℕ
character_text Message c = in_message c
character_text Property c = if c == 58 then codes "%3A" else (if c == 44 then codes "%2C" else in_message c)

-- a text as it stands in a part of a command
unfoldable pub part_text : Part → List ℕ → List ℕ
part_text part text = encode_utf8_all (flat_map (character_text part) (chars text))
