-- Open names as members: what a text means, and what is written.
use Rattle.std.proofs.Common.{◌≡◌, ℕ, List, Bool, true, false, cond, Some, refl, sym, ap, ◌∙◌}
use Rattle.std.specs.Prelude.{IfOk, IsTrue, Result, Ok, Err}
use Rattle.serde_json.specs.Data.{Data}
use Rattle.serde_json.specs.Find.{as_str}
use Rattle.oci_base.specs.declared.error.OciSpecError.{OciSpecError}
use Rattle.oci_base.specs.Names as names
use Rattle.oci_base.specs.Names.{Name, variant, other, is_listed, is_other, name_text}
use Rattle.oci_model.specs.Shape.{open_name}
use Rattle.oci_model.specs.Plain as plain
use Rattle.oci_model.specs.Plain.{text_of}
use Rattle.oci_model.specs.Means.{opened, Means}
use Rattle.oci_model.specs.Fits.{FitsOpen}
use Rattle.oci_model.specs.Types.{name_plain}

same_choice : (b : Bool) (t : List ℕ) → name_plain (cond b (variant t) (other t)) ≡ cond b (plain.variant t) (plain.other t)
same_choice true t = refl
same_choice false t = refl

opens : (table : List (List ℕ)) (t : List ℕ) (n : Name) → n ≡ names.opened table t → name_plain n ≡ opened table t
opens table t n e = ap name_plain e ∙ same_choice (is_listed table t) t

-- a text means the name that it opens
pub name_means : (table : List (List ℕ)) (t : List ℕ) (d : Data) (n : Name) → Some t ≡ as_str d → n ≡ names.opened table t → Means (open_name table) d (name_plain n)
name_means table t d n found e = (t, sym found, opens table t n e)

-- what is written is the name's text
pub text_of_name : (n : Name) → text_of (name_plain n) ≡ name_text n
text_of_name (variant t) = refl
text_of_name (other t) = refl

-- a variant that is read from its own text is listed
pub fits : (table : List (List ℕ)) (n : Name) → (is_other n ≡ false → names.opened table (name_text n) ≡ n) → FitsOpen table (name_plain n)
fits table (variant t) back = go (is_listed table t) refl
  where
    go : (b : Bool) → is_listed table t ≡ b → IsTrue (is_listed table t)
    go true e = e
    go false e = let clash = rw e at (back refl) in cc clash
fits table (other t) back = tt
