-- The shapes and plain trees of the types that stand in records.
use Rattle.std.specs.Prelude.{◌^◌, ◌-◌, ℕ, ℤ, pos, negsuc, Bool, List, [], ◌∷◌, String, Vec, string_bytes, Option, option_map}
use Rattle.std.specs.Prelude as std
use Rattle.std.specs.BTreeMap.{BTreeMap}
use Rattle.std.specs.declared.alloc.Global.{Global}
use Rattle.oci_base.specs.Names.{Name, variant, other}
use Rattle.oci_model.specs.Plain as plain
use Rattle.oci_model.specs.Plain.{Plain, Slot, filled, slot_of, plains, entries}
use Rattle.oci_model.specs.Shape.{Shape, whole}

-- ---- whole numbers

abbrev pub u16 : Shape
u16 = whole (pos 0) (pos (2 ^ 16 - 1))

abbrev pub u32 : Shape
u32 = whole (pos 0) (pos (2 ^ 32 - 1))

abbrev pub u64 : Shape
u64 = whole (pos 0) (pos (2 ^ 64 - 1))

abbrev pub usize : Shape
usize = u64

abbrev pub i32 : Shape
i32 = whole (negsuc (2 ^ 31 - 1)) (pos (2 ^ 31 - 1))

abbrev pub i64 : Shape
i64 = whole (negsuc (2 ^ 63 - 1)) (pos (2 ^ 63 - 1))

-- ---- plain trees

abbrev pub truth_plain : Bool → Plain
truth_plain b = plain.truth b

abbrev pub text_plain : String Global → Plain
text_plain s = plain.text (string_bytes s)

abbrev pub number_plain : ℕ → Plain
number_plain n = plain.whole (pos n)

abbrev pub integer_plain : ℤ → Plain
integer_plain z = plain.whole z

abbrev pub variant_plain : {T : Type 0} → (T → List ℕ) → T → Plain
variant_plain name x = plain.variant (name x)

abbrev pub name_plain : Name → Plain
name_plain (variant t) = plain.variant t
name_plain (other t) = plain.other t

abbrev pub list_plain : {T : Type 0} → (T → Plain) → Vec T Global → Plain
list_plain f v = plain.list (plains (std.map f v.items))

abbrev pub map_plain : {T : Type 0} → (T → Plain) → BTreeMap (String Global) T → Plain
map_plain f m = plain.map (entries (std.map (λ e. (string_bytes e.0, f e.1)) m.entries))

-- a member that has to be there, and one that may be absent
abbrev pub given : {T : Type 0} → (T → Plain) → T → Slot
given f x = filled (f x)

abbrev pub perhaps : {T : Type 0} → (T → Plain) → Option T → Slot
perhaps f x = slot_of (option_map f x)
