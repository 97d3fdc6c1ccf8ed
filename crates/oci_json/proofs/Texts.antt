-- The texts of a document's value.
use Rattle.std.proofs.Common.{◌≡◌, ◌≤◌, List, ℕ, Some, false, subst, sym}
use Rattle.std.specs.Prelude.{IsTrue}
use Rattle.json.specs.Layout.{pretty}
use Rattle.json.specs.Lex.{tokens}
use Rattle.serde_json.specs.Data.{Data, depth}
use Rattle.serde_json.specs.Read.{read, max_depth}
use Rattle.serde_json.specs.Written.{has_float, compact_text, IsInOrder}
use Rattle.oci_base.specs.Refused.{IsMemory, IsSchema, IsMemoryOrSchema}
use Rattle.oci_base.specs.declared.error.OciSpecError.{OciSpecError}
use Rattle.oci_base.specs.declared.error.OciSpecError.TheVariants.{Memory, SerDe}
use Rattle.oci_model.specs.Plain.{Plain}
use Rattle.oci_model.specs.Shape.{Shape}
use Rattle.oci_model.specs.Value.{value}
use Rattle.oci_model.specs.Writable.{Writable, is_always_writable}
use Rattle.oci_model.proofs.AlwaysWritable.{always_writable}
use Rattle.oci_model.proofs.NoFloat.{none_written}
use Rattle.oci_json.specs.Engines.{IsPretty, ReadsBack}

-- the value of a writable document holds 64-bit whole numbers alone
pub none_in : (s : Shape) (p : Plain) (d : Data) → d ≡ value s p → Writable s p → has_float d ≡ false
none_in s p d e h = subst (λ c. has_float c ≡ false) (sym e) (none_written s p h)

-- its compact text is read as it again
pub read_back : (s : Shape) (p : Plain) (d : Data) (t : List ℕ) → d ≡ value s p → Writable s p → (has_float d ≡ false → t ≡ compact_text d)
    → (depth d ≤ max_depth → read t ≡ Some d) → ReadsBack (value s p)
read_back s p d t e h text back =
    let same = text (none_in s p d e h) in
    subst ReadsBack e (λ shallow. subst (λ u. read u ≡ Some d) same (back shallow))

-- its pretty text
pub is_pretty : (c d : Data) (t : List ℕ) → d ≡ c → t ≡ pretty (tokens t) → IsInOrder t d → (depth d ≤ max_depth → read t ≡ Some d) → IsPretty c t
is_pretty c d t e layout order back = subst (λ b. IsPretty b t) e (record { layout = layout; order = order; reads_back = back })

-- ---- refusals

-- where each document is writable, memory was wanted
pub memory_alone : (s : Shape) (p : Plain) (e : OciSpecError) → (IsSchema e → ¬ Writable s p) → IsMemoryOrSchema e → IsTrue (is_always_writable s) → IsMemory e
memory_alone s p Memory not_writable kind always = tt
memory_alone s p (SerDe e) not_writable kind always = absurd (not_writable kind (always_writable s p always))
memory_alone s p _ not_writable kind always = absurd kind
