-- What `diff` compares.
use Rattle.std.specs.Prelude.{◌≡◌, ◌⊎◌, ⊤, ℕ, List, Option, IfSome}
use Rattle.serde_json.specs.Data.{Data}
use Rattle.serde_json.specs.View.{view}
use Rattle.oci_findings.specs.Checks.{IsAllowed, IsKindIn}
use Rattle.oci_diff.specs.Same.{AreSame}
use Rattle.oci_json.specs.Engines.{MeansBytes}
use Rattle.oci_model.specs.Plain.{Plain}
use Rattle.oci_model.specs.Value.{value as json_of}
use Rattle.oci_schemas.specs.declared.kind.Kind.{Kind}
use Rattle.oci_schemas.specs.Kinds.{shape_of}
use Rattle.oci_commands.specs.declared.compare.Side.{Side}
use Rattle.oci_commands.specs.declared.compare.Side.TheVariants.{Document, Wrong, Unread}

-- the canonical form of a document of the kind, which the bytes mean where they are known
abbrev pub IsFormOf : Kind → Option (List ℕ) → Data → Type 0
IsFormOf kind held d = (p : Plain) × IfSome held (λ bytes. MeansBytes (shape_of kind) bytes p) × (d ≡ json_of (shape_of kind) p)

-- the files of these two names hold documents of one kind, which is the one that is asked for, or the one that is found, and their canonical forms are the same
abbrev pub HoldSame : Option Kind → List ℕ → Option (List ℕ) → List ℕ → Option (List ℕ) → Type 0
HoldSame asked name before other after =
    (kind : Kind) × (d : Data) × (e : Data) × IsKindIn asked name before kind × IsKindIn asked other after kind × IsFormOf kind before d × IsFormOf kind after e × AreSame d e

-- the file of this name holds no document of the kind that is asked for, or of one that is found
abbrev pub HoldsNone : Option Kind → List ℕ → Option (List ℕ) → Type 0
HoldsNone asked name held = IfSome held (λ bytes. ¬ IsAllowed asked name bytes)

-- they hold documents of one kind, and their canonical forms are not the same
abbrev pub HoldOther : Option Kind → List ℕ → Option (List ℕ) → List ℕ → Option (List ℕ) → Type 0
HoldOther asked name before other after =
    (kind : Kind) × (d : Data) × (e : Data) × IsKindIn asked name before kind × IsKindIn asked other after kind × IsFormOf kind before d × IsFormOf kind after e × ¬ AreSame d e

-- or of two kinds
abbrev pub HoldTwoKinds : Option Kind → List ℕ → Option (List ℕ) → List ℕ → Option (List ℕ) → Type 0
HoldTwoKinds asked name before other after = (kind : Kind) × (second : Kind) × IsKindIn asked name before kind × IsKindIn asked other after second × ¬ (kind ≡ second)

-- one holds none, or they hold other ones
abbrev pub HoldUnequal : Option Kind → List ℕ → Option (List ℕ) → List ℕ → Option (List ℕ) → Type 0
HoldUnequal asked name before other after =
    HoldsNone asked name before ⊎ (HoldsNone asked other after ⊎ (HoldOther asked name before other after ⊎ HoldTwoKinds asked name before other after))

-- what was read of a file of this name
abbrev pub IsSide : Option Kind → List ℕ → Option (List ℕ) → Side → Type 0
IsSide asked name held (Document kind value) = IsKindIn asked name held kind × IsFormOf kind held (view value)
IsSide asked name held Wrong = HoldsNone asked name held
IsSide asked name held Unread = ⊤
