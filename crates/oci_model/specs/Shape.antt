-- What a type allows in JSON (image specification, "Canonicalization" and "Extensibility"; runtime specification, "Configuration": the tables of properties).
use Rattle.std.specs.Prelude.{ℕ, ℤ, List, [], ◌∷◌, Option, Some, None}
use Rattle.oci_model.specs.Plain.{Plain}

-- how a listed member is asked for and written
pub data Presence : Type 0 where
  -- it has to be there
  required : Presence
  -- where it is absent, this is meant
  defaulted : Plain → Presence
  -- it may be absent or null, and is then omitted
  optional : Presence
  -- it may be absent or null, and is then written as null
  nullable : Presence
  -- it may be absent or null, and is omitted then and where it is an empty list
  unless_empty : Presence

mutual
  pub data Shape : Type 0 where
    text : Shape
    truth : Shape
    -- a 64-bit whole number, from the one bound to the other
    whole : ℤ → ℤ → Shape
    -- a text of the table
    named : List (List ℕ) → Shape
    -- any text; those of the table are named variants
    open_name : List (List ℕ) → Shape
    digest_text : Shape
    cpu_text : Shape
    -- texts of capabilities, whose names are in the table
    cap_set : List (List ℕ) → Shape
    list : Shape → Shape
    map : Shape → Shape
    -- an object of objects, of which the names count
    key_set : Shape
    -- any tree, kept as its compact text
    detail : Shape
    -- any object, kept as trees
    free_map : Shape
    rows : Rows → Shape

  -- The listed members of a record, in table order: each with its name, and with a second name if it has one, under which it is read too.
  pub data Rows : Type 0 where
    no_rows : Rows
    row : List ℕ → Option (List ℕ) → Presence → Shape → Rows → Rows

-- a member with one name
abbrev pub listed : List ℕ → Presence → Shape → Rows → Rows
listed name presence s rs = row name None presence s rs

abbrev pub with_second : Option (List ℕ) → List (List ℕ) → List (List ℕ)
with_second None ts = ts
with_second (Some name) ts = name ∷ ts

-- all names, second ones too
abbrev pub names : Rows → List (List ℕ)
names no_rows = []
names (row name second presence s rs) = name ∷ with_second second (names rs)
