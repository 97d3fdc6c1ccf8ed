-- What bytes mean by a schema, of which it was found out what they are read as.
use Rattle.std.proofs.Common.{◌≡◌, ℕ, List, [], true, false, Option, Some, None, Result, Ok, Err, sym, ap, ◌∙◌, subst}
use Rattle.std.specs.Prelude.{◌↔◌, IfSome, IfErr, Vec}
use Rattle.std.specs.declared.alloc.Global.{Global}
use Rattle.serde_json.specs.Data.{Data}
use Rattle.serde_json.specs.Written.{has_float, compact_text}
use Rattle.oci_base.specs.Refused.{IsMemory, IsSchema, IsJson, IsMemoryOrSerDe}
use Rattle.oci_base.specs.declared.error.OciSpecError.{OciSpecError}
use Rattle.oci_base.specs.declared.error.OciSpecError.TheVariants.{Other, Io, SerDe, Builder, Memory}
use Rattle.oci_model.specs.Plain.{Plain}
use Rattle.oci_model.specs.Shape.{Shape}
use Rattle.oci_model.specs.Means.{Means}
use Rattle.oci_model.specs.Value.{value}
use Rattle.oci_model.specs.WellFormed.{WellFormed}
use Rattle.oci_model.specs.Writable.{Writable}
use Rattle.oci_json.specs.Engines.{ReadsAs, MeansBytes, IsPretty}
use Rattle.oci_json.specs.Readable.{IsReadable}
use Rattle.oci_json.proofs.OneMeaning.{one_meaning}
use Rattle.oci_json.proofs.ReadAgain.{compact_read}
use Rattle.oci_model.proofs.NoFloat.{none_written}
use Rattle.oci_schema.specs.Normalized.{accepts, normalized}
use Rattle.oci_schema.specs.Violations.{violations}
use Rattle.oci_schema.proofs.Empty.{none_is_meant}
use Rattle.oci_schema.proofs.Accepted.{sound, accepted}
use Rattle.oci_schema.proofs.NormalForms.{told}
use Rattle.oci_schema.specs.Canonical.{IsNormalText, IsNormalPretty, IsDocumentText, IsDocumentPretty, Makes}

-- bytes are read as one value
one_value : (bytes : List ℕ) (d e : Data) → ReadsAs bytes d → ReadsAs bytes e → d ≡ e
one_value bytes d e a b = let same : Some d ≡ Some e = sym a.1 ∙ b.1 in cc

-- what is accepted is a document, which is written as the normal form
pub accepted_document : (s : Shape) (bytes : List ℕ) (d : Data) → WellFormed s → ReadsAs bytes d → accepts s d ≡ true
    → (p : Plain) × MeansBytes s bytes p × Writable s p × (normalized s d ≡ value s p)
accepted_document s bytes d well read h =
    let m = accepted s (sound s well) d h in
    (m.0, (d, read, m.1), m.2, (told s d m.0 m.1 m.2).1)

-- the text of its normal form is that of the document, and is read as its value again
pub document_text : (s : Shape) (bytes : List ℕ) (d : Data) (text : List ℕ) → WellFormed s → ReadsAs bytes d → IsNormalText s d text → IsDocumentText s (Some bytes) text
document_text s bytes d text well read (accepts_it, is, readable) =
    let m = accepted_document s bytes d well read accepts_it in
    (m.0, m.1, is ∙ ap compact_text m.3, λ shallow. compact_read (value s m.0) (subst IsReadable m.3 readable) shallow (none_written s m.0 m.2))

-- so is a pretty one
pub document_pretty : (s : Shape) (bytes : List ℕ) (d : Data) (text : List ℕ) → WellFormed s → ReadsAs bytes d → IsNormalPretty s d text → IsDocumentPretty s (Some bytes) text
document_pretty s bytes d text well read (accepts_it, is) =
    let m = accepted_document s bytes d well read accepts_it in
    (m.0, m.1, subst (λ n. IsPretty n text) m.3 (is (subst (λ n. has_float n ≡ false) (sym m.3) (none_written s m.0 m.2))))

-- whatever the same bytes mean is written as one text
pub same_text : (s : Shape) (bytes : List ℕ) (p q : Plain) → MeansBytes s bytes p → MeansBytes s bytes q → compact_text (value s p) ≡ compact_text (value s q)
same_text s bytes p q a b =
    let same = one_value bytes a.0 b.0 a.1 b.1 in
    ap (λ x. compact_text (value s x)) (one_meaning s a.0 p q a.2 (subst (λ d. Means s d q) (sym same) b.2))

-- what the value means, the bytes mean
pub valid_bytes : (s : Shape) (bytes : List ℕ) (d : Data) (P : Type 0) → ReadsAs bytes d → P ↔ ((p : Plain) × Means s d p) → P ↔ ((p : Plain) × MeansBytes s bytes p)
valid_bytes s bytes d P read told = (
  (λ h. let m = told.0 h in (m.0, (d, read, m.1))),
  (λ m. told.1 (m.0, subst (λ x. Means s x m.0) (one_value bytes m.1.0 d m.1.1 read) m.1.2)),
)

-- what is accepted has no violations
pub none_listed : (s : Shape) (d : Data) → WellFormed s → accepts s d ≡ true → violations s [] d ≡ []
none_listed s d well h = let m = accepted s (sound s well) d h in (none_is_meant s [] d).1 (m.0, m.1)

-- what was made of the bytes that were read was made of the input, where that is known
pub where_known : (F : Option (List ℕ) → List ℕ → Type 0) → ((bytes text : List ℕ) → F (Some bytes) text → F None text) → (s : Shape) (input : Option (List ℕ)) (bytes : List ℕ)
    → (r : Result (Vec ℕ Global) OciSpecError) → IfSome input (λ all. bytes ≡ all) → Makes F s (Some bytes) r → Makes F s input r
where_known F forget s None bytes (Ok text) is made = record { ok = forget bytes text.items made.ok; json = tt; schema = tt }
where_known F forget s None bytes (Err e) is made = record { ok = tt; json = λ h. tt; schema = λ h. tt }
where_known F forget s (Some all) bytes r is made = subst (λ b. Makes F s (Some b) r) is made

-- ---- where memory was wanted

pub memory_no_json : {A : Type 0} (r : Result A OciSpecError) (P : Type 0) → IfErr r IsMemory → IfErr r (λ e. IsJson e → P)
memory_no_json (Ok x) P h = tt
memory_no_json (Err Memory) P h = λ is. absurd is
memory_no_json (Err (Other t)) P h = absurd h
memory_no_json (Err (Io e)) P h = absurd h
memory_no_json (Err (SerDe e)) P h = absurd h
memory_no_json (Err (Builder e)) P h = absurd h

pub memory_no_schema : {A : Type 0} (r : Result A OciSpecError) (P : Type 0) → IfErr r IsMemory → IfErr r (λ e. IsSchema e → P)
memory_no_schema (Ok x) P h = tt
memory_no_schema (Err Memory) P h = λ is. absurd is
memory_no_schema (Err (Other t)) P h = absurd h
memory_no_schema (Err (Io e)) P h = absurd h
memory_no_schema (Err (SerDe e)) P h = absurd h
memory_no_schema (Err (Builder e)) P h = absurd h

pub memory_kind : {A : Type 0} (r : Result A OciSpecError) → IfErr r IsMemory → IfErr r IsMemoryOrSerDe
memory_kind (Ok x) h = tt
memory_kind (Err Memory) h = tt
memory_kind (Err (Other t)) h = absurd h
memory_kind (Err (Io e)) h = absurd h
memory_kind (Err (SerDe e)) h = absurd h
memory_kind (Err (Builder e)) h = absurd h
