-- What is read in parts.
use Rattle.std.proofs.Common.{◌≡◌, Option, Some, None, refl, option_map}
use Rattle.oci_policies.specs.Values.{both}

-- nothing, where one part is nothing
pub first_missing : {A B : Type 0} (a : Option A) (b : Option B) → a ≡ None → both a b ≡ None
first_missing a b h = rw h refl

pub second_missing : {A B : Type 0} (a : Option A) (b : Option B) → b ≡ None → both a b ≡ None
second_missing None b h = refl
second_missing (Some x) b h = rw h refl

pub both_there : {A B : Type 0} (a : Option A) (b : Option B) (x : A) (y : B) → a ≡ Some x → b ≡ Some y → both a b ≡ Some (x, y)
both_there a b x y h k = rw (h, k) refl

pub mapped_missing : {A B : Type 0} (f : A → B) (o : Option A) → o ≡ None → option_map f o ≡ None
mapped_missing f o h = rw h refl
