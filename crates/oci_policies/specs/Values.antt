-- What values of a TOML document hold, each as what it has to be, or nothing.
use Rattle.std.specs.Prelude.{ℕ, ℤ, pos, int_le, List, [], ◌∷◌, ◌++◌, length, ◌==◌, Bool, true, false, Option, Some, None, is_some, option_and_then, if◌then◌else◌, ◌≡◌, unsigned_abs, MatchResult, Result}
use Rattle.toml.specs.Data.{Data, Items, no_items, item, Members, no_members, member, as_str, as_bool, as_integer, as_array, as_table, get_member}
use Rattle.oci_base.specs.Names.{is_listed}
use Rattle.oci_patterns.specs.Expressions.{expression_of}
use Rattle.oci_policies.specs.declared.error.Fault.{Fault}
use Rattle.oci_policies.specs.declared.error.Fault.TheVariants.{Memory, TooBig}

-- what is read is the expected value, and what is refused, but for memory and for an expression that is too big, has none
abbrev pub Reads : {A B : Type 0} → (A → B) → Result A Fault → Option B → Type 0
Reads f r o = MatchResult r (λ x. o ≡ Some (f x)) (λ e. (e ≡ Memory → ⊥) → (e ≡ TooBig → ⊥) → o ≡ None)

-- both, if there are both
abbrev pub both : {A B : Type 0} → Option A → Option B → Option (A × B)
both None b = None
both (Some x) None = None
both (Some x) (Some y) = Some (x, y)

-- one more in front, and some more in front
abbrev pub before : {A : Type 0} → Option A → Option (List A) → Option (List A)
before None os = None
before (Some x) None = None
before (Some x) (Some xs) = Some (x ∷ xs)

abbrev pub behind : {A : Type 0} → List A → Option (List A) → Option (List A)
behind xs None = None
behind xs (Some ys) = Some (xs ++ ys)

-- what each of a list is, if each is
abbrev pub all : {A B : Type 0} → (A → Option B) → List A → Option (List B)
all f [] = Some []
all f (x ∷ xs) = before (f x) (all f xs)

-- what each item holds, if each does
abbrev pub each : {A : Type 0} → (Data → Option A) → Items → Option (List A)
each f no_items = Some []
each f (item d ds) = before (f d) (each f ds)

-- an array, item by item
abbrev pub list_in : {A : Type 0} → (Data → Option A) → Data → Option (List A)
list_in f d = option_and_then (each f) (as_array d)

abbrev pub texts_in : Data → Option (List (List ℕ))
texts_in d = list_in as_str d

-- ---- what may not be empty

abbrev pub some_text : List ℕ → Option (List ℕ)
some_text t = if length t == 0 then None else Some t

abbrev pub some_text_in : Data → Option (List ℕ)
some_text_in d = option_and_then some_text (as_str d)

-- a text that is a regular expression
abbrev pub expression : List ℕ → Option (List ℕ)
expression t = if is_some (expression_of t) then Some t else None

abbrev pub expression_in : Data → Option (List ℕ)
expression_in d = option_and_then expression (some_text_in d)

-- the items, if there are some
abbrev pub some_items : Items → Option Items
some_items no_items = None
some_items (item d ds) = Some (item d ds)

-- the items of an array that has some
abbrev pub some_items_in : Data → Option Items
some_items_in d = option_and_then some_items (as_array d)

-- an array that has items, item by item
abbrev pub some_in : {A : Type 0} → (Data → Option A) → Data → Option (List A)
some_in f d = option_and_then (each f) (some_items_in d)

abbrev pub some_texts_in : Data → Option (List (List ℕ))
some_texts_in d = some_in as_str d

-- an array of two
abbrev pub two : {A : Type 0} → List A → Option (A × A)
two (s ∷ t ∷ []) = Some (s, t)
two _ = None

abbrev pub pair_in : Data → Option (List ℕ × List ℕ)
pair_in d = option_and_then two (texts_in d)

-- an integer that is not negative
abbrev pub natural : ℤ → Option ℕ
natural z = if int_le (pos 0) z then Some (unsigned_abs z) else None

abbrev pub natural_in : Data → Option ℕ
natural_in d = option_and_then natural (as_integer d)

abbrev pub bounds_in : Data → Option (ℤ × ℤ)
bounds_in d = option_and_then two (list_in as_integer d)

-- what has to be `true` where it stands
abbrev pub yes : Bool → Option Bool
yes true = Some true
yes false = None

abbrev pub yes_in : Data → Option Bool
yes_in d = option_and_then yes (as_bool d)

-- ---- tables

-- what stands under a name
abbrev pub under : {A : Type 0} → (Data → Option A) → List ℕ → Members → Option A
under f name ms = option_and_then f (get_member name ms)

-- the same, or what is meant where nothing stands there
abbrev pub or_else : {A : Type 0} → A → (Data → Option A) → Option Data → Option A
or_else x f None = Some x
or_else x f (Some d) = f d

abbrev pub under_or : {A : Type 0} → A → (Data → Option A) → List ℕ → Members → Option A
under_or x f name ms = or_else x f (get_member name ms)

-- the members under other names than these
abbrev pub others : List (List ℕ) → Members → Members
others names no_members = no_members
others names (member k d ms) = if is_listed names k then others names ms else member k d (others names ms)

-- the only member
abbrev pub sole : Members → Option (List ℕ × Data)
sole (member k d no_members) = Some (k, d)
sole _ = None

-- the only member under another name than these
abbrev pub sole_other : List (List ℕ) → Members → Option (List ℕ × Data)
sole_other names ms = sole (others names ms)

-- a table with no names but these
abbrev pub has_only : List (List ℕ) → Members → Bool
has_only names no_members = true
has_only names (member k d ms) = if is_listed names k then has_only names ms else false

abbrev pub table_of : List (List ℕ) → Data → Option Members
table_of names d = option_and_then (λ ms. if has_only names ms then Some ms else None) (as_table d)
