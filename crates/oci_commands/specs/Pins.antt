-- To which digest `pin` pins a reference.
use Rattle.std.specs.Prelude.{◌≡◌, ◌≢◌, ◌<◌, ◌++◌, ◌∷◌, [], ℕ, List, Option, Some, IfSome, option_and_then, string_bytes, codes, ⊤}
use Rattle.std.specs.Io.KnownBytes.{Appends}
use Rattle.serde_json.specs.Data.{Data}
use Rattle.serde_json.specs.Find.{get, at, as_str}
use Rattle.oci_base.specs.Digest.{IsDigestText}
use Rattle.oci_json.specs.Engines.{ReadsAs}
use Rattle.oci_model.specs.Means.{Means}
use Rattle.oci_model.specs.Plain.{Plain}
use Rattle.oci_schemas.specs.Kinds.{shape_of}
use Rattle.oci_schemas.specs.declared.kind.Kind.TheVariants.{Index}
use Rattle.oci_findings.specs.Checks.{HasNamesOnce}
use Rattle.oci_content.specs.Content.{digest_text}
use Rattle.oci_content.specs.declared.algorithm.Algorithm.TheVariants.{Sha256}
use Rattle.oci_reference.specs.Accepted.{Accepted}
use Rattle.oci_reference.specs.Parts.{Parts}
use Rattle.oci_reference.specs.Replaced.{pinned}
use Rattle.oci_reference.specs.Whole.{whole}
use Rattle.oci_commands.specs.declared.asked.Target.{Target}
use Rattle.oci_commands.specs.declared.asked.Target.TheVariants.{Given, Manifest, Tagged}
use Rattle.oci_commands.specs.declared.pins.Named.{Named}
use Rattle.oci_commands.specs.declared.pins.Named.TheVariants.{Nothing, One, Several}
use Rattle.oci_commands.specs.declared.pins.Sought.{Sought}
use Rattle.oci_commands.specs.declared.pins.Sought.TheVariants.{Found, Wrong, Unread}
use Rattle.oci_commands.specs.Refused.{IsNoDigest}

-- the name that a descriptor of an index has, and its digest (image specification, "Pre-Defined Annotation Keys")
abbrev pub ref_name : Data → Option (List ℕ)
ref_name manifest = option_and_then as_str (option_and_then (get (codes "org.opencontainers.image.ref.name")) (get (codes "annotations") manifest))

abbrev pub digest_of : Data → Option (List ℕ)
digest_of manifest = option_and_then as_str (get (codes "digest") manifest)

-- the descriptor at a place of an index has this name and this digest
abbrev pub IsTaggedAt : Data → List ℕ → ℕ → List ℕ → Type 0
IsTaggedAt index tag place digest =
    (manifest : Data) × (option_and_then (at place) (get (codes "manifests") index) ≡ Some manifest) × (ref_name manifest ≡ Some tag) × (digest_of manifest ≡ Some digest)

-- the same of a place below a limit
abbrev pub IsTaggedBelow : Data → List ℕ → ℕ → ℕ → List ℕ → Type 0
IsTaggedBelow index tag limit place digest = (place < limit) × IsTaggedAt index tag place digest

-- P holds of this digest at a place, and at no other place of any
abbrev pub HoldsOnlyOf : (ℕ → List ℕ → Type 0) → List ℕ → Type 0
HoldsOnlyOf P digest = (place : ℕ) × P place digest × ((other : ℕ) (d : List ℕ) → P other d → other ≡ place)

-- the bytes are an index, in which no object has a name twice, and the one descriptor with the name has this digest
abbrev pub IsTagged : List ℕ → List ℕ → List ℕ → Type 0
IsTagged tag digest bytes =
    (index : Data) × ReadsAs bytes index × ((p : Plain) × Means (shape_of Index) index p) × HasNamesOnce bytes × HoldsOnlyOf (IsTaggedAt index tag) digest

-- the digest that is asked for: a digest itself, that of the bytes of a file, or that of a descriptor by its name, where the bytes are known
abbrev pub IsTarget : (List ℕ → Option (List ℕ)) → Target → List ℕ → Type 0
IsTarget holds (Given text) digest = IsDigestText text.now × (digest ≡ text.now)
IsTarget holds (Manifest file) digest = IfSome (holds file.now) (λ bytes. digest ≡ digest_text Sha256 bytes)
IsTarget holds (Tagged file tag) digest = IfSome (holds file.now) (IsTagged tag.now digest)

-- the reference that the text is was written with that digest in place of its tag and digest, and a newline
abbrev pub PinsTo : (List ℕ → Option (List ℕ)) → List ℕ → Target → Option (List ℕ) → Option (List ℕ) → Type 0
PinsTo holds text target old new =
    (digest : List ℕ) × (parts : Parts) × IsTarget holds target digest × Accepted text parts × Appends old new (whole (pinned parts digest) ++ 10 ∷ [])

-- there is no such digest
abbrev pub HasNoTarget : (List ℕ → Option (List ℕ)) → Target → Type 0
HasNoTarget holds (Given text) = IsNoDigest text.now
HasNoTarget holds (Manifest file) = ⊥
HasNoTarget holds (Tagged file tag) = IfSome (holds file.now) (λ bytes. (digest : List ℕ) → ¬ IsTagged tag.now digest bytes)

-- what is known of a digest that was looked for: P where it was found, N where there is none
abbrev pub OnSought : (List ℕ → Type 0) → Type 0 → Sought → Type 0
OnSought P N (Found digest) = P (string_bytes digest)
OnSought P N Wrong = N
OnSought P N Unread = ⊤

-- at how many places P holds: at none, at one, with this digest, or at several
abbrev pub HoldsOf : (ℕ → List ℕ → Type 0) → Named → Type 0
HoldsOf P Nothing = (place : ℕ) (digest : List ℕ) → ¬ P place digest
HoldsOf P (One digest) = HoldsOnlyOf P digest.now
HoldsOf P Several = (place other : ℕ) × (digest d : List ℕ) × P place digest × P other d × (place ≢ other)
