-- Two documents that are the same, or are not.
use Rattle.std.proofs.Common.{◌≡◌, ℕ, List, Option, Some, None, inl, inr, sym, subst}
use Rattle.std.specs.Prelude.{IfSome}
use Rattle.serde_json.specs.Data.{Data}
use Rattle.oci_json.specs.Engines.{ReadsAs}
use Rattle.oci_model.specs.Means.{Means}
use Rattle.oci_model.specs.Value.{value as json_of}
use Rattle.oci_findings.specs.Checks.{IsAsked, IsKindIn}
use Rattle.oci_findings.proofs.Allowed.{kind_in, kind_held}
use Rattle.oci_model.specs.Plain.{Plain}
use Rattle.oci_schemas.specs.Kinds.{shape_of}
use Rattle.serde_json.specs.View.{view}
use Rattle.serde_json.specs.declared.value.Value.{Value}
use Rattle.oci_diff.specs.Same.{AreSame}
use Rattle.oci_schemas.specs.declared.kind.Kind.{Kind}
use Rattle.oci_commands.specs.Compared.{HoldSame, HoldUnequal, IsFormOf, IsSide}
use Rattle.oci_commands.specs.declared.compare.Side.{Side}
use Rattle.oci_commands.specs.declared.compare.Side.TheVariants.{Document, Unread, Wrong}

pub hold_same : (asked : Option Kind) (name : List ℕ) (before : Option (List ℕ)) (next : List ℕ) (after : Option (List ℕ)) (x y : Side) (kind other : Kind) (v w : Value) → IsSide asked name before x → IsSide asked next after y
    → x ≡ Document kind v → y ≡ Document other w → kind ≡ other → AreSame (view v) (view w) → HoldSame asked name before next after
hold_same asked name before next after x y kind other v w one two is also same are =
    let (fits, form) = subst (IsSide asked name before) is one in
    let second = subst (IsSide asked next after) also two in
    (kind, view v, view w, fits, subst (IsKindIn asked next after) (sym same) second.0, form, subst (λ k. IsFormOf k after (view w)) (sym same) second.1, are)

pub hold_other : (asked : Option Kind) (name : List ℕ) (before : Option (List ℕ)) (next : List ℕ) (after : Option (List ℕ)) (x y : Side) (kind other : Kind) (v w : Value) → IsSide asked name before x → IsSide asked next after y
    → x ≡ Document kind v → y ≡ Document other w → kind ≡ other → ¬ AreSame (view v) (view w) → HoldUnequal asked name before next after
hold_other asked name before next after x y kind other v w one two is also same apart =
    let (fits, form) = subst (IsSide asked name before) is one in
    let second = subst (IsSide asked next after) also two in
    inr (inr (inl (kind, view v, view w, fits, subst (IsKindIn asked next after) (sym same) second.0, form, subst (λ k. IsFormOf k after (view w)) (sym same) second.1, apart)))

pub of_two_kinds : (asked : Option Kind) (name : List ℕ) (before : Option (List ℕ)) (next : List ℕ) (after : Option (List ℕ)) (x y : Side) (kind other : Kind) (v w : Value) → IsSide asked name before x → IsSide asked next after y
    → x ≡ Document kind v → y ≡ Document other w → ¬ (kind ≡ other) → HoldUnequal asked name before next after
of_two_kinds asked name before next after x y kind other v w one two is also apart =
    inr (inr (inr (kind, other, (subst (IsSide asked name before) is one).0, (subst (IsSide asked next after) also two).0, apart)))

-- the canonical form of a value that was read
pub form_held : (asked : Option Kind) (name : List ℕ) (kind : Kind) (bytes : List ℕ) (d : Data) (v : Value) → IsAsked asked name d kind → ReadsAs bytes d
    → (p : Plain) × Means (shape_of kind) d p × (view v ≡ json_of (shape_of kind) p) → IsSide asked name (Some bytes) (Document kind v)
form_held asked name kind bytes d v is reads (p, means, same) = (kind_in asked name bytes d kind reads is, (p, (d, reads, means), same))

-- the same of the bytes of a file, where they are known
pub side_held : (asked : Option Kind) (name : List ℕ) (known : Option (List ℕ)) (bytes : List ℕ) (x : Side) → IfSome known (λ b. bytes ≡ b) → IsSide asked name (Some bytes) x → IsSide asked name known x
side_held asked name (Some b) bytes x is h = subst (λ q. IsSide asked name (Some q) x) is h
side_held asked name None bytes (Document kind v) is (fits, (p, means, same)) = (kind_held asked name None bytes kind tt fits, (p, tt, same))
side_held asked name None bytes Wrong is h = tt
side_held asked name None bytes Unread is h = tt
