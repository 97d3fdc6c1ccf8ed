-- Texts of an image's configuration are decided at their marks.
use Rattle.std.proofs.Common.{◌≡◌, ℕ, false, List, refl, sym, subst, inl, inr, lit<}
use Rattle.std.specs.Prelude.{codes}
use Rattle.std.specs.Char.{is_ascii_alphabetic}
use Rattle.std.proofs.lemmas.Bool.Decides.{Decides-or}
use Rattle.std.proofs.lemmas.Slice.Eq.{bytes_eq-Decides}
use Rattle.oci_base.specs.Classes.{slash, colon, IsSomeOf}
use Rattle.oci_base.proofs.Lacks.{Lacks, lacks_in, lacks_some}
use Rattle.oci_grammars.specs.Classes.{is_not_colon}
use Rattle.oci_grammars.specs.Controls.{IsAscendingCpuList}
use Rattle.oci_grammars.specs.Decided.{is_protocol, is_port_spec, is_user_spec, is_number_or_range, is_some_of, are_joined, part_of}
use Rattle.oci_grammars.specs.Numbers.{IsNumberOrRange}
use Rattle.oci_grammars.specs.Settings.{IsProtocol, IsPortSpec, IsExposedPorts, IsUserSpec}
use Rattle.oci_grammars.specs.declared.parts.Part.TheVariants.{PortSpec, CpuRange}
use Rattle.oci_grammars.proofs.Deciding.{Tells, some_tells, pair_lacks, extended_tells, joined_tells}
use Rattle.oci_grammars.proofs.Numerals.{number_or_range_tells, range_lacks}

protocol_tells : Tells is_protocol IsProtocol
protocol_tells t = Decides-or _ _ (bytes_eq-Decides t (codes "tcp")) (Decides-or _ _ (bytes_eq-Decides t (codes "udp")) (bytes_eq-Decides t (codes "sctp")))

protocol_lacks : (mark : ℕ) → is_ascii_alphabetic mark ≡ false → (t : List ℕ) → IsProtocol t → Lacks mark t
protocol_lacks mark out t (inl e) = subst (Lacks mark) (sym e) (lacks_in is_ascii_alphabetic mark out (codes "tcp") refl)
protocol_lacks mark out t (inr (inl e)) = subst (Lacks mark) (sym e) (lacks_in is_ascii_alphabetic mark out (codes "udp") refl)
protocol_lacks mark out t (inr (inr e)) = subst (Lacks mark) (sym e) (lacks_in is_ascii_alphabetic mark out (codes "sctp") refl)

pub port_spec : Tells is_port_spec IsPortSpec
port_spec =
    extended_tells slash (is_number_or_range 1 65535) is_protocol (IsNumberOrRange 1 65535) IsProtocol (number_or_range_tells 1 65535 (lit< tt) (lit< tt)) protocol_tells
    (range_lacks slash 1 65535 refl refl)

port_lacks : (t : List ℕ) → IsPortSpec t → Lacks 44 t
port_lacks t (inl h) = range_lacks 44 1 65535 refl refl t h
port_lacks t (inr h) = pair_lacks 44 slash (IsNumberOrRange 1 65535) IsProtocol refl (range_lacks 44 1 65535 refl refl) (protocol_lacks 44 refl) t h

pub exposed_ports : Tells (are_joined PortSpec 44) IsExposedPorts
exposed_ports = joined_tells 44 (part_of PortSpec) IsPortSpec port_spec port_lacks

pub ascending_cpu_list : Tells (are_joined CpuRange 44) IsAscendingCpuList
ascending_cpu_list =
    joined_tells 44 (part_of CpuRange) (IsNumberOrRange 0 4294967295) (number_or_range_tells 0 4294967295 (lit< tt) (lit< tt)) (range_lacks 44 0 4294967295 refl refl)

pub user_spec : Tells is_user_spec IsUserSpec
user_spec =
    extended_tells colon (is_some_of is_not_colon) (is_some_of is_not_colon) (IsSomeOf is_not_colon) (IsSomeOf is_not_colon) (some_tells is_not_colon) (some_tells is_not_colon)
    (lacks_some is_not_colon colon refl)
