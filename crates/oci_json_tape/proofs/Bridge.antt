-- A text is JSON to `serde_json` where it is a document to `json`, and its tokens fit.
use Rattle.serde_json.specs.Data.{Data}
use Rattle.std.proofs.Common.{◌≡◌, false, ℕ, ◌≤◌, ◌++◌, List, [], ◌∷◌, true, true≢false, Option, Some, None, option_and_then, refl, sym, ap, ◌∙◌, arith, append-nil}
use Rattle.std.specs.Prelude.{is_some, IsSome}
use Rattle.json.specs.Token.{Token}
use Rattle.json.specs.Lex.{tokens}
use Rattle.json.specs.Json as json
use Rattle.json.specs.Tree.{json_tokens, depth}
use Rattle.json.proofs.Found.{not_found, Some_inj}
use Rattle.json.proofs.Nesting.{value-depth}
use Rattle.json.proofs.Printed.Trees.{value-json_tokens}
use Rattle.json.proofs.Unique.Spelling.{value-json_tokens_back, tokens-document}
use Rattle.serde_json.specs.Read.{of_json, read}
use Rattle.json.specs.Find.{BeginsWith}
use Rattle.oci_json_tape.specs.Fits.{fits}
use Rattle.oci_json_tape.specs.Elements.{BeginsWithData}
use Rattle.oci_json_tape.proofs.Fitting.{fits_gives, fits_passes}

-- the whole of the tokens, at some depth
abbrev whole : ℕ → List Token → Option json.Json
whole d ts = option_and_then (λ p. json.if_last p.0 p.1) (json.value d ts)

last : (o : Option (json.Json × List Token)) (j : json.Json) → option_and_then (λ p. json.if_last p.0 p.1) o ≡ Some j → o ≡ Some (j, [])
last None j e = not_found j e
last (Some (i, [])) j e = ap (λ x. Some (x, [])) (Some_inj i j e)
last (Some (i, t ∷ ts)) j e = not_found j e

-- THE BRIDGE: a value reads at any depth that it does not pass
pub whole_at : (d e : ℕ) (ts : List Token) (j : json.Json) → whole d ts ≡ Some j → depth j ≤ e → whole e ts ≡ Some j
whole_at d e ts j h shallow =
    let spelled = value-json_tokens_back d ts [] j (last _ j h) in
    ap (whole e) spelled ∙ ap (option_and_then (λ p. json.if_last p.0 p.1)) (value-json_tokens j e [] shallow)

pub whole_depth : (d : ℕ) (ts : List Token) (j : json.Json) → whole d ts ≡ Some j → depth j ≤ d
whole_depth d ts j h = value-depth d ts [] j (last _ j h)

some_of : {A : Type 0} (o : Option A) → IsSome o → (a : A) × (o ≡ Some a)
some_of None h = absurd (true≢false (sym h))
some_of (Some a) h = (a, refl)

parts : {A B : Type 0} (f : A → Option B) (o : Option A) → IsSome (option_and_then f o) → (a : A) × (o ≡ Some a) × IsSome (f a)
parts f None h = absurd (true≢false (sym h))
parts f (Some a) h = (a, refl, h)

-- what `read` asks of the value that a document is
pub read_of_document : (text : List ℕ) (j : json.Json) → json.document text ≡ Some j → depth j ≤ 127 → read text ≡ of_json j
read_of_document text j e shallow = ap (option_and_then of_json) (whole_at json.max_depth 127 (tokens text) j e shallow)

pub document_of_read : (text : List ℕ) → IsSome (read text) → (j : json.Json) × (json.document text ≡ Some j) × (depth j ≤ 127) × IsSome (of_json j)
document_of_read text h =
    let p = parts of_json (whole 127 (tokens text)) h in
    let shallow = whole_depth 127 (tokens text) p.0 p.1 in
    (p.0, whole_at 127 json.max_depth (tokens text) p.0 p.1 (omega (arith, shallow)), shallow, p.2)

pub no_document : (text : List ℕ) → json.document text ≡ None → IsSome (read text) → ⊥
no_document text e h = let p = document_of_read text h in not_found p.0 (sym e ∙ p.1)

pub read_from_fits : (text : List ℕ) → IsSome (json.document text) → fits 127 (tokens text) ≡ true → IsSome (read text)
read_from_fits text some h =
    let j = some_of (json.document text) some in
    let spelled : tokens text ≡ json_tokens j.0 ++ [] = tokens-document text j.0 j.1 ∙ sym (append-nil _) in
    let p = fits_gives j.0 127 [] (ap (fits 127) (sym spelled) ∙ h) in
    ap is_some (read_of_document text j.0 j.1 p.0) ∙ p.1

pub fits_from_read : (text : List ℕ) → IsSome (read text) → fits 127 (tokens text) ≡ true
unfolding fits
fits_from_read text h =
    let p = document_of_read text h in
    let spelled : tokens text ≡ json_tokens p.0 ++ [] = tokens-document text p.0 p.1 ∙ sym (append-nil _) in
    ap (fits 127) spelled ∙ fits_passes p.0 127 [] p.2 p.3

-- the data that a document is, where its tokens fit
pub data_from_fits : (text : List ℕ) (ts : List Token) → IsSome (json.document text) → ((j : json.Json) → json.document text ≡ Some j → BeginsWith ts j) → fits 127 (tokens text) ≡ true
    → (d : Data) × (read text ≡ Some d) × BeginsWithData ts d
data_from_fits text ts some begins h =
    let r = some_of (read text) (read_from_fits text some h) in
    let p = document_of_read text (ap is_some r.1) in
    (r.0, r.1, (p.0, begins p.0 p.1, sym (read_of_document text p.0 p.1 p.2) ∙ r.1))

none_of : {A : Type 0} (o : Option A) → (IsSome o → ⊥) → o ≡ None
none_of None h = refl
none_of (Some a) h = absurd (h refl)

pub no_data : (text : List ℕ) → fits 127 (tokens text) ≡ false → read text ≡ None
no_data text h = none_of (read text) (λ some. true≢false (sym (fits_from_read text some) ∙ h))

pub no_data_at_all : (text : List ℕ) → json.document text ≡ None → read text ≡ None
no_data_at_all text h = none_of (read text) (no_document text h)
