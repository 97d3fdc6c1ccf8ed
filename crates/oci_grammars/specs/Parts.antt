-- Ways in which a text is made of parts, beside those of `oci_base`.
use Rattle.std.specs.Prelude.{ℕ, ◌≡◌, ◌⊎◌, Bool, List, ◌∷◌, ◌++◌, length, IsTrue}
use Rattle.oci_base.specs.Classes.{IsIn}

-- any text
abbrev pub IsAny : List ℕ → Type 0
IsAny text = Unit {0}

-- this many bytes of the class
abbrev pub IsCounted : (ℕ → Bool) → ℕ → List ℕ → Type 0
IsCounted class count text = IsIn class text × (length text ≡ count)

-- a byte of one class, and then bytes of another
pub record IsHeaded (head tail : ℕ → Bool) (text : List ℕ) : Type 0 where
  pub first : ℕ
  pub rest : List ℕ
  pub spelled : text ≡ first ∷ rest
  pub begins : IsTrue (head first)
  pub goes_on : IsIn tail rest

-- a part, a mark and a part
pub record IsPair (mark : ℕ) (Front Back : List ℕ → Type 0) (text : List ℕ) : Type 0 where
  pub front : List ℕ
  pub back : List ℕ
  pub spelled : text ≡ front ++ mark ∷ back
  pub is_front : Front front
  pub is_back : Back back

-- a part, and perhaps a mark and another part behind it
abbrev pub IsExtended : ℕ → (List ℕ → Type 0) → (List ℕ → Type 0) → List ℕ → Type 0
IsExtended mark Front Back text = Front text ⊎ IsPair mark Front Back text

-- a part, and perhaps another part and a mark before it
abbrev pub IsPrefaced : ℕ → (List ℕ → Type 0) → (List ℕ → Type 0) → List ℕ → Type 0
IsPrefaced mark Front Back text = Back text ⊎ IsPair mark Front Back text

-- these bytes, and then a part
pub record IsBehind (prefix : List ℕ) (Part : List ℕ → Type 0) (text : List ℕ) : Type 0 where
  pub rest : List ℕ
  pub spelled : text ≡ prefix ++ rest
  pub is_rest : Part rest

-- a part and a part
pub record IsRun (Front Back : List ℕ → Type 0) (text : List ℕ) : Type 0 where
  pub front : List ℕ
  pub back : List ℕ
  pub spelled : text ≡ front ++ back
  pub is_front : Front front
  pub is_back : Back back
