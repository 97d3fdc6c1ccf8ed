-- How large a value is, so that a walk is seen to end.
use Rattle.std.proofs.Common.{◌≡◌, ℕ, suc, ◌<◌, ◌≤◌, List, Option, Some, refl, arith}
use Rattle.std.specs.Ordering.{nat_cmp, match_ordering}
use Rattle.std.specs.declared.cmp.Ordering.{Ordering}
use Rattle.std.specs.declared.cmp.Ordering.TheVariants.{Less, Equal, Greater}
use Rattle.std.specs.Cmp.Lexicographic.{slice_cmp}
use Rattle.serde_json.specs.Data.{Data, null, boolean, number, string, array, object, Items, Members, no_members, member}
use Rattle.serde_json.specs.Find.{get, get_member, as_array, as_object}
use Rattle.oci_model.specs.Sizes.{size, items_size, members_size, found_size}

one_of : (o : Ordering) (a b c : Option Data) (n : ℕ) → found_size a ≤ n → found_size b ≤ n → found_size c ≤ n → found_size (match_ordering o a b c) ≤ n
one_of Less a b c n x y z = x
one_of Equal a b c n x y z = y
one_of Greater a b c n x y z = z

member_within : (k : List ℕ) (ms : Members) → found_size (get_member k ms) ≤ members_size ms
member_within k no_members = omega arith
member_within k (member l d ms) = one_of (slice_cmp nat_cmp k l) _ _ _ _ (omega (arith, member_within k ms)) (omega arith) (omega (arith, member_within k ms))

pub get_smaller : (k : List ℕ) (d : Data) → found_size (get k d) < size d
get_smaller k null = omega arith
get_smaller k (boolean b) = omega arith
get_smaller k (number n) = omega arith
get_smaller k (string s) = omega arith
get_smaller k (array ds) = omega arith
get_smaller k (object ms) = omega (arith, member_within k ms)

pub array_smaller : (d : Data) (ds : Items) → as_array d ≡ Some ds → suc (items_size ds) ≡ size d
array_smaller null ds is = absurd cc
array_smaller (boolean b) ds is = absurd cc
array_smaller (number n) ds is = absurd cc
array_smaller (string s) ds is = absurd cc
array_smaller (array es) ds is = let e : es ≡ ds = cc in rw e refl
array_smaller (object ms) ds is = absurd cc

pub object_smaller : (d : Data) (ms : Members) → as_object d ≡ Some ms → suc (members_size ms) ≡ size d
object_smaller null ms is = absurd cc
object_smaller (boolean b) ms is = absurd cc
object_smaller (number n) ms is = absurd cc
object_smaller (string s) ms is = absurd cc
object_smaller (array es) ms is = absurd cc
object_smaller (object ns) ms is = let e : ns ≡ ms = cc in rw e refl

-- a member that is found is smaller than the object
pub member_smaller : (k : List ℕ) (d : Data) (o : Option Data) → o ≡ get k d → found_size o < size d
member_smaller k d o is = rw is (get_smaller k d)
