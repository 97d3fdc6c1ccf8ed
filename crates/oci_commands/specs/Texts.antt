-- What commands on texts and on the bytes of files write, a line or some lines for each.
use Rattle.std.specs.Prelude.{◌≡◌, ◌++◌, ◌∷◌, [], ℕ, List, Option, IfSome, codes}
use Rattle.json.specs.Token.{Token, begin_object, end_object}
use Rattle.oci_content.specs.Content.{digest_text}
use Rattle.oci_content.specs.declared.algorithm.Algorithm.{Algorithm}
use Rattle.oci_doc_run.specs.Outputs.{reference_lines, digest_lines}
use Rattle.oci_base.specs.Escaped.{escaped}
use Rattle.oci_reference.specs.Accepted.{Accepted}
use Rattle.oci_reference.specs.Parts.{Parts, resolved}
use Rattle.oci_reference.specs.Whole.{whole}
use Rattle.oci_findings.specs.declared.style.Style.{Style}
use Rattle.oci_findings.specs.declared.style.Style.TheVariants.{Text, Color, Json, Sarif, Github}
use Rattle.oci_commands.specs.Objects.{line_of, text_member, text_member_if}
use Rattle.oci_base.specs.Digest.{IsDigest}

-- the text is a reference within the limits, and these are the lines of its parts
abbrev pub AreReferenceLines : List ℕ → List ℕ → Type 0
AreReferenceLines text lines = (parts : Parts) × Accepted text parts × (lines ≡ reference_lines parts)

-- behind these tokens, the members of a text that is a reference of these parts
abbrev pub part_tokens : List Token → List ℕ → Parts → List Token
part_tokens before text r =
    before
    ++ text_member (codes "input") text
    ++ text_member (codes "registry") r.registry
    ++ text_member (codes "repository") r.repository
    ++ text_member_if (codes "tag") r.tag
    ++ text_member_if (codes "digest") r.digest

-- its object
abbrev pub reference_tokens : List ℕ → Parts → List Token
reference_tokens text r =
    part_tokens (begin_object ∷ []) text r ++ text_member (codes "whole") (whole r) ++ text_member (codes "resolve") (resolved r) ++ end_object ∷ []

abbrev pub IsReferenceObject : List ℕ → List ℕ → Type 0
IsReferenceObject text line = (parts : Parts) × Accepted text parts × (line ≡ line_of (reference_tokens text parts))

-- what is written of a reference: lines, or one of JSON
abbrev pub IsShownReference : Style → List ℕ → List ℕ → Type 0
IsShownReference Text text shown = AreReferenceLines text shown
IsShownReference Color text shown = AreReferenceLines text shown
IsShownReference Json text shown = IsReferenceObject text shown
IsShownReference Sarif text shown = AreReferenceLines text shown
IsShownReference Github text shown = AreReferenceLines text shown

-- the text is a digest, and these are the lines of its parts
abbrev pub AreDigestLines : List ℕ → List ℕ → Type 0
AreDigestLines text lines = (algorithm : List ℕ) × (encoded : List ℕ) × IsDigest text algorithm encoded × (lines ≡ digest_lines algorithm encoded)

-- the object of a text that is a digest of these parts
abbrev pub digest_tokens : List ℕ → List ℕ → List ℕ → List Token
digest_tokens text algorithm encoded =
    begin_object ∷ [] ++ text_member (codes "input") text ++ text_member (codes "algorithm") algorithm ++ text_member (codes "encoded") encoded ++ end_object ∷ []

abbrev pub IsDigestObject : List ℕ → List ℕ → Type 0
IsDigestObject text line = (algorithm : List ℕ) × (encoded : List ℕ) × IsDigest text algorithm encoded × (line ≡ line_of (digest_tokens text algorithm encoded))

-- what is written of a digest
abbrev pub IsShownDigest : Style → List ℕ → List ℕ → Type 0
IsShownDigest Text text shown = AreDigestLines text shown
IsShownDigest Color text shown = AreDigestLines text shown
IsShownDigest Json text shown = IsDigestObject text shown
IsShownDigest Sarif text shown = AreDigestLines text shown
IsShownDigest Github text shown = AreDigestLines text shown

-- the line of a file of this name (third): the digest of its bytes, where they are known, and behind two spaces its name, escaped
abbrev pub IsFileLine : Algorithm → Option (List ℕ) → List ℕ → List ℕ → Type 0
IsFileLine algorithm held name line =
    (digest : List ℕ) × IfSome held (λ bytes. digest ≡ digest_text algorithm bytes) × (line ≡ digest ++ (codes "  " ++ (escaped name ++ 10 ∷ [])))

-- the text is what is written of each item, one behind the other
abbrev pub Joins : {A : Type 0} → (A → List ℕ → Type 0) → List A → List ℕ → Type 0
Joins Is [] text = text ≡ []
Joins Is (x ∷ xs) text = (first : List ℕ) × (rest : List ℕ) × (text ≡ first ++ rest) × Is x first × Joins Is xs rest
