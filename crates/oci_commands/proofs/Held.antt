-- What holds of the bytes of a file, where they are known.
use Rattle.std.proofs.Common.{◌≡◌, ◌⊎◌, ◌++◌, ◌∙◌, [], inl, inr, ℕ, List, Bool, true, false, Option, Some, None, Result, Ok, Err, ap, refl, sym, subst}
use Rattle.std.proofs.lemmas.Option.{IfSome_then}
use Rattle.std.specs.Borrow.{Bor}
use Rattle.std.specs.Prelude.{IfSome, IsSome, OnOk}
use Rattle.oci_model.specs.Shape.{Shape}
use Rattle.oci_json.specs.Engines.{WritesDocument}
use Rattle.oci_schema.specs.Normalizes.{WritesPretty}
use Rattle.oci_schemas.specs.declared.kind.Kind.{Kind}
use Rattle.oci_schemas.specs.Kinds.{shape_of}
use Rattle.oci_doc_run.specs.Outputs.{WritesPinned}
use Rattle.oci_findings.specs.Checks.{IsKindIn}
use Rattle.oci_findings.proofs.Allowed.{kind_held}
use Rattle.oci_findings.specs.Forms.{IsForm}
use Rattle.oci_findings.specs.declared.style.Style.{Style}
use Rattle.oci_commands.specs.Kinds.{IsKindLine}
use Rattle.oci_commands.specs.Formats.{Formats, FormatsAs, FormatsBy, FormatsTo, HasNoUnknown, HoldsPut, IsKeptText}
use Rattle.oci_commands.specs.declared.asked.Format.{Format}

-- what holds of the bytes that were read
pub held : (P : List ℕ → Type 0) (known : Option (List ℕ)) (bytes : List ℕ) → IfSome known (λ b. bytes ≡ b) → P bytes → IfSome known P
held P None bytes is h = tt
held P (Some b) bytes is h = subst P is h

-- what is known of files that nothing changed
pub moved : (new old : List ℕ → Option (List ℕ)) (P : List ℕ → Type 0) (name : List ℕ) → new ≡ old → IfSome (new name) P → IfSome (old name) P
moved new old P name same h = subst (λ f. IfSome (f name) P) same h

-- what holds of files and a text holds of the same files
pub same_files : (P : (List ℕ → Option (List ℕ)) → List ℕ → Type 0) (new old : List ℕ → Option (List ℕ)) (text : List ℕ) → new ≡ old → P new text → P old text
same_files P new old text same h = subst (λ f. P f text) same h

-- what holds of the bytes that were read, and of the files that nothing changed
pub read_held : (P : (List ℕ → Option (List ℕ)) → List ℕ → Type 0) (new old : List ℕ → Option (List ℕ)) (name items bytes : List ℕ) → new ≡ old → bytes ≡ items → IfSome (old name) (λ b. items ≡ b) → P new bytes → IfSome (old name) (P old)
read_held P new old name items bytes same are is h = held (P old) (old name) items is (subst (P old) are (subst (λ f. P f bytes) same h))

-- the line of a document whose bytes were read
pub line_held : (style : Style) (name : List ℕ) (known : Option (List ℕ)) (bytes line : List ℕ) → IfSome known (λ b. bytes ≡ b) → IsKindLine style (Some bytes) name line → IsKindLine style known name line
line_held style name known bytes line is (kind, fits, shown) = (kind, kind_held None name known bytes kind is fits, shown)

-- what holds in any case
pub on_any : {A E : Type 0} (r : Result A E) {P : Type 0} → P → OnOk r P
on_any (Ok x) h = h
on_any (Err e) h = tt

pub document_written : (s : Shape) (input : Option (List ℕ)) (W V : List ℕ → Type 0) → ((t : List ℕ) → W t → V t) → WritesDocument s input W → WritesDocument s input V
document_written s input W V f h = let (p, means, wrote) = h in (p, means, f _ wrote)

pub pretty_written : (s : Shape) (input : Option (List ℕ)) (W V : List ℕ → Type 0) → ((t : List ℕ) → W t → V t) → WritesPretty s input W → WritesPretty s input V
pretty_written s input W V f h = let (p, means, rest) = h in let (text, is, wrote) = rest in (p, means, (text, is, f text wrote))

-- what was put behind nothing is all that is there
pub compact_made : (s : Shape) (bytes old new : List ℕ) → WritesDocument s (Some bytes) (λ t. new ≡ old ++ t) → old ≡ [] → WritesDocument s (Some bytes) (λ t. t ≡ new)
compact_made s bytes old new h e = document_written s (Some bytes) (λ t. new ≡ old ++ t) (λ t. t ≡ new) (λ t is. sym (is ∙ ap (λ q. q ++ t) e)) h

pub pretty_made : (s : Shape) (bytes old new : List ℕ) → WritesPretty s (Some bytes) (λ t. new ≡ old ++ t) → old ≡ [] → WritesPretty s (Some bytes) (λ t. t ≡ new)
pretty_made s bytes old new h e = pretty_written s (Some bytes) (λ t. new ≡ old ++ t) (λ t. t ≡ new) (λ t is. sym (is ∙ ap (λ q. q ++ t) e)) h

-- a form that was found out is one that is written
pub form_made : (pretty : Bool) (kind : Kind) (bytes text : List ℕ) → IsForm pretty kind bytes text → FormatsAs kind pretty (Some bytes) (λ t. t ≡ text)
form_made false kind bytes text h = let (p, means, is, back) = h in (p, means, sym is)
form_made true kind bytes text h = let (p, means, is) = h in (p, means, (text, is, refl))

pub as_written : (kind : Kind) (pretty : Bool) (input : Option (List ℕ)) (W V : List ℕ → Type 0) → ((t : List ℕ) → W t → V t) → FormatsAs kind pretty input W → FormatsAs kind pretty input V
as_written kind false input W V f h = document_written (shape_of kind) input W V f h
as_written kind true input W V f h = pretty_written (shape_of kind) input W V f h

-- the same of a text with unknown members
pub by_written : (keep : Bool) (kind : Kind) (pretty : Bool) (input : Option (List ℕ)) (W V : List ℕ → Type 0) → ((t : List ℕ) → W t → V t) → FormatsBy keep kind pretty input W → FormatsBy keep kind pretty input V
by_written false kind pretty input W V f h = as_written kind pretty input W V f h
by_written true kind pretty input W V f (inl (none, h)) = inl (none, as_written kind pretty input W V f h)
by_written true kind pretty input W V f (inr (text, made, wrote)) = inr (text, made, f text wrote)

-- where neither is asked for, it is the compact text of the canonical form
pub as_compact : (keep pretty : Bool) (kind : Kind) (input : Option (List ℕ)) (W : List ℕ → Type 0) → pretty ≡ false → keep ≡ false → FormatsBy keep kind pretty input W → FormatsAs kind false input W
as_compact keep pretty kind input W compact drops h = subst (λ k. FormatsBy k kind false input W) drops (subst (λ p. FormatsBy keep kind p input W) compact h)

-- what is written of the kind that was found is that of the document
pub formats_asked : (a : Format) (kind : Kind) (input : Option (List ℕ)) (W : List ℕ → Type 0) → IsKindIn a.kind a.file.now input kind → FormatsBy a.keep_unknown kind a.pretty input W → Formats a input W
formats_asked a kind input W fits h = (kind, fits, h)

pub formats_to : (a : Format) (kind : Kind) (input : Option (List ℕ)) (text : List ℕ) → IsKindIn a.kind a.file.now input kind
    → IsKindIn a.kind a.file.now (Some text) kind × FormatsBy a.keep_unknown kind a.pretty input (λ t. t ≡ text) → FormatsTo a input text
formats_to a kind input text fits h = (kind, fits, h.0, h.1)

document_held : (s : Shape) (known : Option (List ℕ)) (bytes : List ℕ) (Writes : List ℕ → Type 0) → IfSome known (λ b. bytes ≡ b) → WritesDocument s (Some bytes) Writes → WritesDocument s known Writes
document_held s None bytes Writes is h = let (p, means, wrote) = h in (p, tt, wrote)
document_held s (Some b) bytes Writes is h = subst (λ x. WritesDocument s (Some x) Writes) is h

pretty_held : (s : Shape) (known : Option (List ℕ)) (bytes : List ℕ) (Writes : List ℕ → Type 0) → IfSome known (λ b. bytes ≡ b) → WritesPretty s (Some bytes) Writes → WritesPretty s known Writes
pretty_held s None bytes Writes is h = let (p, means, wrote) = h in (p, tt, wrote)
pretty_held s (Some b) bytes Writes is h = subst (λ x. WritesPretty s (Some x) Writes) is h

as_held : (kind : Kind) (pretty : Bool) (known : Option (List ℕ)) (bytes : List ℕ) (Writes : List ℕ → Type 0) → IfSome known (λ b. bytes ≡ b) → FormatsAs kind pretty (Some bytes) Writes → FormatsAs kind pretty known Writes
as_held kind false known bytes Writes is h = document_held (shape_of kind) known bytes Writes is h
as_held kind true known bytes Writes is h = pretty_held (shape_of kind) known bytes Writes is h

by_held : (keep : Bool) (kind : Kind) (pretty : Bool) (known : Option (List ℕ)) (bytes : List ℕ) (Writes : List ℕ → Type 0) → IfSome known (λ b. bytes ≡ b) → FormatsBy keep kind pretty (Some bytes) Writes
    → FormatsBy keep kind pretty known Writes
by_held false kind pretty known bytes Writes is h = as_held kind pretty known bytes Writes is h
by_held true kind pretty known bytes Writes is (inl (none, h)) = inl (held (HasNoUnknown kind) known bytes is none, as_held kind pretty known bytes Writes is h)
by_held true kind pretty known bytes Writes is (inr (text, made, wrote)) = inr (text, held (λ b. IsKeptText kind pretty b text × ¬ HasNoUnknown kind b) known bytes is made, wrote)

pub formats_held : (a : Format) (known : Option (List ℕ)) (bytes : List ℕ) (Writes : List ℕ → Type 0) → IfSome known (λ b. bytes ≡ b) → Formats a (Some bytes) Writes → Formats a known Writes
formats_held a known bytes Writes is h =
    let (kind, fits, writes) = h in (kind, kind_held a.kind a.file.now known bytes kind is fits, by_held a.keep_unknown kind a.pretty known bytes Writes is writes)

pub to_held : (a : Format) (known : Option (List ℕ)) (bytes text : List ℕ) → IfSome known (λ b. bytes ≡ b) → FormatsTo a (Some bytes) text → FormatsTo a known text
to_held a known bytes text is h =
    let (kind, fits, after, writes) = h in (kind, kind_held a.kind a.file.now known bytes kind is fits, after, by_held a.keep_unknown kind a.pretty known bytes (λ t. t ≡ text) is writes)

pub pinned_held : (text : List ℕ) (known : Option (List ℕ)) (bytes : List ℕ) (Writes : List ℕ → Type 0) → IfSome known (λ b. bytes ≡ b) → WritesPinned text (Some bytes) Writes → WritesPinned text known Writes
pinned_held text None bytes Writes is h = let (parts, d, accepted, means, wrote) = h in (parts, d, accepted, tt, wrote)
pinned_held text (Some b) bytes Writes is h = subst (λ x. WritesPinned text (Some x) Writes) is h

-- what is at fault in the bytes that were read, or elsewhere
pub fault_held : (N : Type 0) (P : List ℕ → Type 0) (known : Option (List ℕ)) (bytes : List ℕ) → IfSome known (λ b. bytes ≡ b) → N ⊎ P bytes → N ⊎ IfSome known P
fault_held N P known bytes is (inl none) = inl none
fault_held N P known bytes is (inr h) = inr (held P known bytes is h)

-- what follows of the bytes of an output
pub put_then : (holds : List ℕ → Option (List ℕ)) (output : Option (Bor (List ℕ))) (P Q : List ℕ → Type 0) → ((bytes : List ℕ) → P bytes → Q bytes) → HoldsPut holds output P → HoldsPut holds output Q
put_then holds output P Q f h = IfSome_then output h (λ name known. IfSome_then (holds name.now) known f)

-- the same, with what holds if there is an output
pub put_kept : (holds : List ℕ → Option (List ℕ)) (output : Option (Bor (List ℕ))) (P Q : List ℕ → Type 0) → (IsSome output → (bytes : List ℕ) → P bytes → Q bytes) → HoldsPut holds output P → HoldsPut holds output Q
put_kept holds None P Q f h = tt
put_kept holds (Some name) P Q f h = IfSome_then (holds name.now) h (f refl)
