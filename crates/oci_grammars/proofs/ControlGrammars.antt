-- Texts of a container's configuration are decided at their marks.
use Rattle.std.proofs.Common.{◌≡◌, ℕ, ◌<◌, ◌&&◌, ◌||◌, List, [], ◌∷◌, Bool, true, false, length, refl, sym, subst, inl, inr, arith}
use Rattle.std.specs.Prelude.{codes, bytes_eq, nat_le}
use Rattle.std.specs.Char.{is_ascii_digit, is_ascii_graphic}
use Rattle.std.specs.List.{list_all}
use Rattle.std.proofs.lemmas.Bool.Decides.{Decides-and, Decides-or, Decides-not}
use Rattle.std.proofs.lemmas.Slice.Eq.{bytes_eq-Decides}
use Rattle.oci_base.specs.Classes.{dot, colon, until, after, IsIn, IsSomeOf}
use Rattle.oci_base.proofs.Lacks.{both, lacks_in, lacks_some}
use Rattle.oci_grammars.specs.Classes.{is_access_byte, is_capability_byte, is_context_byte, is_file_start, is_interface_byte, is_not_slash, is_positive, is_scale}
use Rattle.oci_grammars.specs.Controls.{IsPageUnit, IsPageSize, IsSelinuxLabel, IsNoDots, IsInterfaceName, IsOneDirectory, IsCgroupFile, IsDeviceAccess, IsCapabilityName, IsScale, IsScaledNumber, IsDecimalNumber}
use Rattle.oci_grammars.specs.Decided.{is_page_size, is_selinux_tail, is_selinux_label, is_no_dots, is_interface_name, is_one_directory, is_cgroup_file, is_once, is_device_access, is_capability_name, is_scaled_number, is_decimal_number, is_some_of, is_headed}
use Rattle.oci_grammars.specs.Numbers.{IsPlainNumber}
use Rattle.oci_grammars.specs.Parts.{IsExtended, IsPair}
use Rattle.oci_grammars.proofs.Deciding.{Tells, Stops, Decides-le, Decides-itself, also, in_tells, some_tells, headed_tells, pair_tells, extended_tells, behind_tells, run_tells}

-- ---- page sizes

positive_digit : (b : ℕ) → is_positive b ≡ true → is_ascii_digit b ≡ true
positive_digit b h = let k = both (nat_le 49 b) (nat_le b 57) h in also _ _ ((Decides-le 48 b).1 (omega (arith, (Decides-le 49 b).0 k.0))) k.1

plain_digits : (x : List ℕ) → IsPlainNumber x → IsIn is_ascii_digit x
plain_digits x h = subst (IsIn is_ascii_digit) (sym h.spelled) (also _ _ (positive_digit h.first h.begins) h.goes_on)

unit_tells : Tells (λ t. bytes_eq t (codes "KB") || (bytes_eq t (codes "MB") || bytes_eq t (codes "GB"))) IsPageUnit
unit_tells t = Decides-or _ _ (bytes_eq-Decides t (codes "KB")) (Decides-or _ _ (bytes_eq-Decides t (codes "MB")) (bytes_eq-Decides t (codes "GB")))

unit_stops : (t : List ℕ) → IsPageUnit t → Stops is_ascii_digit t
unit_stops t (inl e) = subst (Stops is_ascii_digit) (sym e) refl
unit_stops t (inr (inl e)) = subst (Stops is_ascii_digit) (sym e) refl
unit_stops t (inr (inr e)) = subst (Stops is_ascii_digit) (sym e) refl

pub page_size : Tells is_page_size IsPageSize
page_size =
    run_tells is_ascii_digit (is_headed is_positive is_ascii_digit) (λ t. bytes_eq t (codes "KB") || (bytes_eq t (codes "MB") || bytes_eq t (codes "GB"))) IsPlainNumber IsPageUnit
    (headed_tells is_positive is_ascii_digit) unit_tells plain_digits unit_stops

-- ---- labels

abbrev IsContext : List ℕ → Type 0
IsContext text = IsSomeOf is_context_byte text

context_tells : Tells (is_some_of is_context_byte) IsContext
context_tells = some_tells is_context_byte

abbrev IsTail : List ℕ → Type 0
IsTail text = IsExtended colon IsContext (IsSomeOf is_ascii_graphic) text

tail_tells : Tells is_selinux_tail IsTail
tail_tells =
    extended_tells colon (is_some_of is_context_byte) (is_some_of is_ascii_graphic) IsContext (IsSomeOf is_ascii_graphic) context_tells (some_tells is_ascii_graphic)
    (lacks_some is_context_byte colon refl)

pub selinux_label : Tells is_selinux_label IsSelinuxLabel
selinux_label =
    pair_tells colon (is_some_of is_context_byte) (λ t. is_some_of is_context_byte (until colon t) && is_selinux_tail (after colon t)) IsContext (IsPair colon IsContext IsTail) context_tells
    (pair_tells colon (is_some_of is_context_byte) is_selinux_tail IsContext IsTail context_tells tail_tells (lacks_some is_context_byte colon refl) refl)
    (lacks_some is_context_byte colon refl) refl

-- ---- names

no_dots : Tells is_no_dots IsNoDots
no_dots t = Decides-and _ _ (Decides-not _ (bytes_eq-Decides t (codes "."))) (Decides-not _ (bytes_eq-Decides t (codes "..")))

pub interface_name : Tells is_interface_name IsInterfaceName
interface_name t = Decides-and _ _ (Decides-and _ _ (some_tells is_interface_byte t) (Decides-le (length t) 15)) (no_dots t)

pub one_directory : Tells is_one_directory IsOneDirectory
one_directory t = Decides-and _ _ (some_tells is_not_slash t) (no_dots t)

pub cgroup_file : Tells is_cgroup_file IsCgroupFile
cgroup_file =
    pair_tells dot (is_some_of is_file_start) (is_some_of is_not_slash) (IsSomeOf is_file_start) (IsSomeOf is_not_slash) (some_tells is_file_start) (some_tells is_not_slash)
    (lacks_some is_file_start dot refl) refl

pub device_access : Tells is_device_access IsDeviceAccess
device_access t =
    Decides-and _ _ (some_tells is_access_byte t)
    (Decides-and _ _ (Decides-itself (is_once 114 t)) (Decides-and _ _ (Decides-itself (is_once 119 t)) (Decides-itself (is_once 109 t))))

pub capability_name : Tells is_capability_name IsCapabilityName
capability_name = behind_tells (is_some_of is_capability_byte) (IsSomeOf is_capability_byte) (some_tells is_capability_byte) (codes "CAP_")

-- ---- numbers

scale_tells : Tells (λ t. list_all is_scale t && nat_le (length t) 1) IsScale
scale_tells t = Decides-and _ _ (in_tells is_scale t) (Decides-le (length t) 1)

scale_above : (b : ℕ) → is_scale b ≡ true → 57 < b
scale_above b h = grind arith

no_digit : (b : ℕ) → 57 < b → is_ascii_digit b ≡ false
no_digit b h = go (is_ascii_digit b) refl
  where
    go : (d : Bool) → is_ascii_digit b ≡ d → is_ascii_digit b ≡ false
    go true e = let k = both (nat_le 48 b) (nat_le b 57) e in absurd (omega (arith, (Decides-le b 57).0 k.1))
    go false e = e

scale_stops : (t : List ℕ) → IsScale t → Stops is_ascii_digit t
scale_stops [] h = tt
scale_stops (b ∷ t) h = no_digit b (scale_above b (both (is_scale b) (list_all is_scale t) h.0).0)

pub scaled_number : Tells is_scaled_number IsScaledNumber
scaled_number =
    run_tells is_ascii_digit (is_some_of is_ascii_digit) (λ t. list_all is_scale t && nat_le (length t) 1) (IsSomeOf is_ascii_digit) IsScale (some_tells is_ascii_digit) scale_tells
    (λ x h. h.1) scale_stops

pub decimal_number : Tells is_decimal_number IsDecimalNumber
decimal_number t =
    Decides-or _ _ (some_tells is_ascii_digit t)
    (pair_tells dot (list_all is_ascii_digit) (is_some_of is_ascii_digit) (IsIn is_ascii_digit) (IsSomeOf is_ascii_digit) (in_tells is_ascii_digit) (some_tells is_ascii_digit)
    (lacks_in is_ascii_digit dot refl) refl t)
