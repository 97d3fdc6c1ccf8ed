-- Base64 is decided at the first byte that is no digit of it.
use Rattle.std.proofs.Common.{ℕ, ◌||◌, ◌%◌, List, Bool, length, refl, sym, subst, inl, inr}
use Rattle.std.specs.Prelude.{codes, bytes_eq, ◌==◌}
use Rattle.std.specs.List.{list_all}
use Rattle.std.proofs.lemmas.Bool.Decides.{Decides-and, Decides-or, Decides-eqb}
use Rattle.std.proofs.lemmas.Slice.Eq.{bytes_eq-Decides}
use Rattle.oci_base.specs.Classes.{IsIn}
use Rattle.oci_grammars.specs.Base64.{IsPadding, IsBase64}
use Rattle.oci_grammars.specs.Classes.{is_base64_byte}
use Rattle.oci_grammars.specs.Decided.{is_base64}
use Rattle.oci_grammars.proofs.Deciding.{Tells, Stops, empty_tells, in_tells, run_tells}

abbrev is_padding : List ℕ → Bool
is_padding t = (length t == 0) || (bytes_eq t (codes "=") || bytes_eq t (codes "=="))

padding_tells : Tells is_padding IsPadding
padding_tells t = Decides-or _ _ (empty_tells t) (Decides-or _ _ (bytes_eq-Decides t (codes "=")) (bytes_eq-Decides t (codes "==")))

padding_stops : (t : List ℕ) → IsPadding t → Stops is_base64_byte t
padding_stops t (inl e) = subst (Stops is_base64_byte) (sym e) tt
padding_stops t (inr (inl e)) = subst (Stops is_base64_byte) (sym e) refl
padding_stops t (inr (inr e)) = subst (Stops is_base64_byte) (sym e) refl

pub base64 : Tells is_base64 IsBase64
base64 t =
    Decides-and _ _ (run_tells is_base64_byte (list_all is_base64_byte) is_padding (IsIn is_base64_byte) IsPadding (in_tells is_base64_byte) padding_tells (λ x h. h) padding_stops t)
    (Decides-eqb (length t % 4) 0)
