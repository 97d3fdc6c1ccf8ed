-- Whether all that rules name stands in the shape of a document: each place, what a condition looks at, and the members that a test asks of.
use Rattle.std.specs.Prelude.{ℕ, ◌&&◌, ◌||◌, Bool, true, false, bytes_eq, List, [], ◌∷◌, Option, Some, None, option_and_then, if◌then◌else◌}
use Rattle.std.specs.List.{list_all, list_any}
use Rattle.oci_model.specs.Shape as shape
use Rattle.oci_model.specs.Shape.{Shape, Rows, no_rows, row}
use Rattle.oci_rules.specs.Rules.{Origin, the_part, the_document, is_there, has_item, Condition, asks, members, Test, there, not_null, either, at_most, versions_in_order, sum_at_most, as_many, among, lists_item, apart, distinct, Place, here, under, each_item, each_member, each_name, if_so, Rule}
use Rattle.oci_rule_books.specs.Beside.{unlisted}

-- a member that the specifications have and the records do not
abbrev pub is_unlisted : List ℕ → Bool
is_unlisted name = list_any (bytes_eq name) unlisted

abbrev pub is_second : List ℕ → Option (List ℕ) → Bool
is_second name None = false
is_second name (Some other) = bytes_eq name other

-- the shape of the member of this name
abbrev pub member_of : List ℕ → Rows → Option Shape
member_of name no_rows = None
member_of name (row n second presence s rs) = if bytes_eq name n || is_second name second then Some s else member_of name rs

abbrev pub under_shape : List ℕ → Shape → Option Shape
under_shape name (shape.rows rs) = member_of name rs
under_shape name (shape.map s) = Some s
under_shape name _ = None

abbrev pub item_shape : Shape → Option Shape
item_shape (shape.list s) = Some s
item_shape (shape.cap_set names) = Some shape.text
item_shape _ = None

abbrev pub each_shape : Shape → Option Shape
each_shape (shape.map s) = Some s
each_shape _ = None

-- objects, whose members have names
abbrev pub name_shape : Shape → Option Shape
name_shape (shape.map s) = Some shape.text
name_shape shape.key_set = Some shape.text
name_shape (shape.rows rs) = Some shape.text
name_shape _ = None

-- the shape to which these names lead
abbrev pub led_shape : List (List ℕ) → Shape → Option Shape
led_shape [] s = Some s
led_shape (name ∷ names) s = option_and_then (led_shape names) (under_shape name s)

abbrev pub of_some : (Shape → Bool) → Option Shape → Bool
of_some f None = false
of_some f (Some s) = f s

abbrev pub is_member : Shape → List ℕ → Bool
is_member s name = of_some (λ c. true) (under_shape name s)

abbrev pub is_led : Shape → List (List ℕ) → Bool
is_led s names = of_some (λ c. true) (led_shape names s)

abbrev pub start_of : Origin → Shape → Shape → Shape
start_of the_part root s = s
start_of the_document root s = root

-- a member that is to be there, or not, may be one that is not listed
abbrev pub condition_stands : Condition → Shape → Shape → Bool
condition_stands (asks origin way holds is_there) root s = true
condition_stands (asks origin way holds (has_item name ts with without)) root s =
    of_some (λ e. list_all (is_member e) (name ∷ with) && list_all (is_member e) without) (option_and_then item_shape (led_shape way (start_of origin root s)))
condition_stands (asks origin way holds check) root s = is_led (start_of origin root s) way

abbrev pub test_stands : Test → Shape → Bool
test_stands (there name) s = is_member s name
test_stands (not_null name) s = is_member s name
test_stands (either names) s = list_all (is_member s) names
test_stands (at_most a b) s = is_member s a && is_member s b
test_stands (versions_in_order a b) s = is_member s a && is_member s b
test_stands (sum_at_most a b most) s = is_member s a && is_member s b
test_stands (as_many a name b) s = of_some (λ e. is_member e name) (option_and_then item_shape (led_shape a s)) && is_led s b
test_stands (among a b) s = is_member s a && is_member s b
test_stands (lists_item name t) s = of_some (λ e. is_member e name) (item_shape s)
test_stands (apart name) s = of_some (λ e. is_member e name) (item_shape s)
test_stands (distinct (members ways)) s = of_some (λ e. list_all (is_led e) ways) (item_shape s)
test_stands test s = true

abbrev pub place_stands : Place → Test → Shape → Shape → Bool
place_stands here test root s = test_stands test s
place_stands (under name p) test root s = is_unlisted name || of_some (place_stands p test root) (under_shape name s)
place_stands (each_item p) test root s = of_some (place_stands p test root) (item_shape s)
place_stands (each_member p) test root s = of_some (place_stands p test root) (each_shape s)
place_stands (each_name p) test root s = of_some (place_stands p test root) (name_shape s)
place_stands (if_so c p) test root s = condition_stands c root s && place_stands p test root s

abbrev pub stands_in : Shape → List Rule → Bool
stands_in s rules = list_all (λ r. place_stands r.place r.test s s) rules
