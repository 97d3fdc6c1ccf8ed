-- What members are read as, by their presence: of what stood under their names.
use Rattle.std.proofs.Common.{◌≡◌, Option, Some, None, is_some, Bool, true, false, true≢false, refl, subst, ap}
use Rattle.serde_json.specs.Data.{Data, null, boolean, number, string, array, object}
use Rattle.serde_json.specs.Find.{as_null}
use Rattle.oci_model.specs.Plain.{Plain, Slot, empty, filled}
use Rattle.oci_model.specs.Shape.{required, defaulted, optional, nullable, unless_empty, Shape}
use Rattle.oci_model.specs.Means.{Means, MeansMember}
use Rattle.oci_model.specs.Refused.{IsRefused, IsMemberRefused}

-- ---- it has to be there

pub missing : (s : Shape) → IsMemberRefused required s None None
unfolding IsMemberRefused
missing s x m = m

pub required_refused : (s : Shape) (d : Data) → IsRefused s d → IsMemberRefused required s (Some d) None
unfolding IsRefused IsMemberRefused
required_refused s d refused empty m = m
required_refused s d refused (filled p) m = refused p m

-- ---- it may be absent or null

pub optional_refused : (s : Shape) (d : Data) → is_some (as_null d) ≡ false → IsRefused s d → IsMemberRefused optional s (Some d) None
unfolding IsRefused IsMemberRefused
optional_refused s null not_null refused x m = true≢false not_null
optional_refused s (boolean b) not_null refused (filled p) m = refused p m
optional_refused s (number n) not_null refused (filled p) m = refused p m
optional_refused s (string t) not_null refused (filled p) m = refused p m
optional_refused s (array ds) not_null refused (filled p) m = refused p m
optional_refused s (object ms) not_null refused (filled p) m = refused p m
optional_refused s (boolean b) not_null refused empty m = m
optional_refused s (number n) not_null refused empty m = m
optional_refused s (string t) not_null refused empty m = m
optional_refused s (array ds) not_null refused empty m = m
optional_refused s (object ms) not_null refused empty m = m

-- a value by its shape, unless it is null
pub optional_means : (M : Data → Plain → Type 0) (d : Data) (p : Plain) → is_some (as_null d) ≡ false → M d p → MeansMember optional M (Some d) (filled p)
optional_means M null p not_null m = absurd (true≢false not_null)
optional_means M (boolean b) p not_null m = m
optional_means M (number n) p not_null m = m
optional_means M (string t) p not_null m = m
optional_means M (array ds) p not_null m = m
optional_means M (object ms) p not_null m = m

pub optional_null : (M : Data → Plain → Type 0) (d : Data) → is_some (as_null d) ≡ true → MeansMember optional M (Some d) empty
optional_null M null is_null = refl
optional_null M (boolean b) is_null = cc
optional_null M (number n) is_null = cc
optional_null M (string t) is_null = cc
optional_null M (array ds) is_null = cc
optional_null M (object ms) is_null = cc

-- what an optional member refuses is refused where it is written as null, or omitted where it is empty
pub nullable_refused : (s : Shape) (found : Option Data) → IsMemberRefused optional s found None → IsMemberRefused nullable s found None
unfolding IsMemberRefused
nullable_refused s found refused x m = refused x m

pub unless_empty_refused : (s : Shape) (found : Option Data) → IsMemberRefused optional s found None → IsMemberRefused unless_empty s found None
unfolding IsMemberRefused
unless_empty_refused s found refused x m = refused x m

-- ---- with a default

pub defaulted_refused : (p : Plain) (s : Shape) (d : Data) → IsRefused s d → IsMemberRefused (defaulted p) s (Some d) None
unfolding IsRefused IsMemberRefused
defaulted_refused p s d refused empty m = m
defaulted_refused p s d refused (filled q) m = refused q m

-- nothing there, and the default
pub absent_means : (p q : Plain) (M : Data → Plain → Type 0) → q ≡ p → MeansMember (defaulted p) M None (filled q)
absent_means p q M is = ap filled is
