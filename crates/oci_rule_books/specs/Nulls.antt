-- Rules to which no member that is null matters in a document that its schema allows.
use Rattle.std.specs.Prelude.{ℕ, ◌&&◌, Bool, true, false, not, List, [], ◌∷◌, Option, Some, None, codes}
use Rattle.std.specs.List.{filter}
use Rattle.oci_base.specs.Names.{is_listed}
use Rattle.oci_model.specs.Shape as shape
use Rattle.oci_model.specs.Shape.{Shape}
use Rattle.oci_schemas.specs.declared.kind.Kind.{Kind}
use Rattle.oci_rules.specs.Nulls.{looks_at_values, asks_of_values}
use Rattle.oci_rules.specs.Rules.{Test, not_null, not_empty, length_at_most, Place, here, under, each_item, each_member, each_name, if_so, Rule}
use Rattle.oci_rule_books.specs.Kinds.{rules_of}
use Rattle.oci_rule_books.specs.Stands.{under_shape, item_shape, each_shape}

-- what is so may have a member that is null: a record, and what is free
abbrev pub may_hold_null : Shape → Bool
may_hold_null (shape.rows rs) = true
may_hold_null shape.detail = true
may_hold_null shape.free_map = true
may_hold_null _ = false

-- the test asks nothing that a null decides of a part of this shape
abbrev pub asks_safely : Test → Shape → Bool
asks_safely (not_null name) s = false
asks_safely not_empty s = not (may_hold_null s)
asks_safely (length_at_most most) s = not (may_hold_null s)
asks_safely _ s = true

-- nor at the place, from a value of this shape on; where there is no shape it asks of values alone
abbrev pub is_safe : Place → Test → Option Shape → Bool
is_safe p t None = looks_at_values p && asks_of_values t
is_safe here t (Some s) = asks_safely t s
is_safe (under name p) t (Some s) = is_safe p t (under_shape name s)
is_safe (each_item p) t (Some s) = is_safe p t (item_shape s)
is_safe (each_member p) t (Some s) = is_safe p t (each_shape s)
is_safe (each_name p) t (Some s) = not (may_hold_null s)
is_safe (if_so c p) t (Some s) = is_safe p t (Some s)

-- the rules that ask for a null, or for a name, which a null has too
abbrev pub minding : List (List ℕ)
minding = codes "annotations-not-null" ∷ codes "features-no-other-members" ∷ []

-- all others of a kind
abbrev pub unminding : Kind → List Rule
unminding kind = filter (λ r. not (is_listed minding r.name)) (rules_of kind)
