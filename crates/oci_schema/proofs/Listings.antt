-- Names that are among others.
use Rattle.std.proofs.Common.{◌≡◌, ℕ, List, ◌∷◌, Bool, true, false, ◌||◌, Option, Some, None, bytes_eq, refl}
use Rattle.std.specs.Prelude.{not}
use Rattle.std.proofs.lemmas.Slice.Eq.{bytes_eq-Decides}
use Rattle.oci_base.specs.Names.{is_listed, no_text_twice}
use Rattle.oci_model.specs.Shape.{with_second}
use Rattle.oci_schema.proofs.Decides.{later_of}
use Rattle.oci_schema.proofs.Texts.{or_right}

pub is_itself : (name : List ℕ) → bytes_eq name name ≡ true
is_itself name = (bytes_eq-Decides name name).1 refl

pub listed_first : (name : List ℕ) (ts : List (List ℕ)) → is_listed (name ∷ ts) name ≡ true
listed_first name ts = rw (is_itself name) refl

pub later_listed : (alias : Option (List ℕ)) (ts : List (List ℕ)) (q : List ℕ) → is_listed ts q ≡ true → is_listed (with_second alias ts) q ≡ true
later_listed None ts q e = e
later_listed (Some t) ts q e = or_right (bytes_eq q t) (is_listed ts q) e

pub rest_once : (name : List ℕ) (alias : Option (List ℕ)) (ts : List (List ℕ)) → no_text_twice (name ∷ with_second alias ts) ≡ true → no_text_twice ts ≡ true
rest_once name None ts once = later_of (not (is_listed ts name)) (no_text_twice ts) once
rest_once name (Some t) ts once = later_of (not (is_listed ts t)) (no_text_twice ts) (later_of (not (is_listed (t ∷ ts) name)) (no_text_twice (t ∷ ts)) once)
