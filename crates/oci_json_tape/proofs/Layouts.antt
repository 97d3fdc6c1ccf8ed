-- Pretty text of a tree.
use Rattle.std.proofs.Common.{◌≡◌, pos, negsuc, ℕ, List, false, refl, sym, ap, ap₂, ◌∙◌, true≢false}
use Rattle.std.specs.Prelude.{option_and_then}
use Rattle.std.proofs.lemmas.Bool.{or_parts}
use Rattle.json.specs.Token.{Token}
use Rattle.json.specs.Json as json
use Rattle.json.specs.Layout.{pretty}
use Rattle.json.specs.Lex.{tokens}
use Rattle.json.specs.Tree.{json_tokens, HasNumbers, ItemsHaveNumbers, MembersHaveNumbers}
use Rattle.json.proofs.Printed.Decimals.{IsNumber-decimal, IsNumber-signed_decimal}
use Rattle.json.proofs.Printed.Tokens.{tokens-print}
use Rattle.json.proofs.Printed.Trees.{ArePrintable-json_tokens}
use Rattle.serde_json.proofs.Numbers.{number_of-decimal, number_of-negative}
use Rattle.serde_json.proofs.Texts.{print-outline, unless_float-number_of}
use Rattle.serde_json.specs.Data.{unsigned, negative, float, Data, null, boolean, number, string, array, object, Items, no_items, item, Members, no_members, member}
use Rattle.serde_json.specs.Read.{of_json, max_depth}
use Rattle.serde_json.specs.Written.{has_float, items_have_float, members_have_float, number_text, compact_text, outline, items_outline, members_outline, blank, blank_items, blank_members}
use Rattle.oci_json.specs.Engines.{IsPretty}
use Rattle.oci_json.specs.Readable.{IsReadable, AreReadable, HoldReadable}
use Rattle.oci_json.proofs.ReadAgain.{compact_read}
use Rattle.oci_json_tape.specs.Tokens.{data_tokens}

-- the outline of a tree that has no float: its numbers are numbers of JSON, and none of them is left out
mutual
  whole : (d : Data) → IsReadable d → has_float d ≡ false → HasNumbers (outline d) × (blank (outline d) ≡ outline d)
  whole null h none = (tt, refl)
  whole (boolean b) h none = (tt, refl)
  whole (number (unsigned n)) h none = (IsNumber-decimal n h, ap json.number (unless_float-number_of (number_text (unsigned n)) (unsigned n) (number_of-decimal n h)))
  whole (number (negative (pos n))) h none = absurd h
  whole (number (negative (negsuc n))) h none =
      (IsNumber-signed_decimal (negsuc n) h, ap json.number (unless_float-number_of (number_text (negative (negsuc n))) (negative (negsuc n)) (number_of-negative n h)))
  whole (number (float x)) h none = absurd (true≢false none)
  whole (string s) h none = (tt, refl)
  whole (array ds) h none = let w = whole_items ds h none in (w.0, ap json.array w.1)
  whole (object ms) h none = let w = whole_members ms h.1 none in (w.0, ap json.object w.1)

  whole_items : (ds : Items) → AreReadable ds → items_have_float ds ≡ false → ItemsHaveNumbers (items_outline ds) × (blank_items (items_outline ds) ≡ items_outline ds)
  whole_items no_items h none = (tt, refl)
  whole_items (item d ds) h none =
      let n = or_parts (has_float d) (items_have_float ds) none in
      let first = whole d h.0 n.0 in
      let rest = whole_items ds h.1 n.1 in
      ((first.0, rest.0), ap₂ json.item first.1 rest.1)

  whole_members : (ms : Members) → HoldReadable ms → members_have_float ms ≡ false → MembersHaveNumbers (members_outline ms) × (blank_members (members_outline ms) ≡ members_outline ms)
  whole_members no_members h none = (tt, refl)
  whole_members (member k d ms) h none =
      let n = or_parts (has_float d) (members_have_float ms) none in
      let first = whole d h.0 n.0 in
      let rest = whole_members ms h.1 n.1 in
      ((first.0, rest.0), ap₂ (json.member k) first.1 rest.1)

-- the text with a tree's tokens, laid out
pub pretty_of : (ts : List Token) (text : List ℕ) (d : Data) → tokens text ≡ ts → text ≡ pretty ts → ts ≡ data_tokens d → IsReadable d → has_float d ≡ false → IsPretty d text
pretty_of ts text d read layout same readable none =
    let w = whole d readable none in
    let compact : tokens (compact_text d) ≡ data_tokens d = ap tokens (sym (print-outline d)) ∙ tokens-print (json_tokens (outline d)) (ArePrintable-json_tokens (outline d) w.0) in
    let alike : tokens text ≡ tokens (compact_text d) = read ∙ same ∙ sym compact in
    record {
      layout = layout ∙ ap pretty (sym read);
      order = (outline d, read ∙ same, w.1);
      reads_back = λ shallow.
          ap (λ ts. option_and_then of_json (option_and_then (λ p. json.if_last p.0 p.1) (json.value max_depth ts))) alike ∙ compact_read d readable shallow none;
    }
