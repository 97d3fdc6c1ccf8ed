-- Each test decides its grammar.
use Rattle.std.proofs.Common.{ℕ, List}
use Rattle.std.specs.Bool.{Decides}
use Rattle.std.proofs.lemmas.Bool.Decides.{Decides-not}
use Rattle.oci_grammars.specs.Classes.{is_not_line_feed, is_not_nul, is_ref_name_byte}
use Rattle.oci_grammars.specs.Grammars.{IsOf}
use Rattle.oci_grammars.specs.Tests.{is_of}
use Rattle.oci_grammars.specs.declared.grammar.Grammar.{Grammar}
use Rattle.oci_grammars.specs.declared.grammar.Grammar.TheVariants.{AbsolutePath, AscendingCpuList, Base64, CapabilityName, CgroupFile, CpuList, DateTime, DecimalNumber, DeviceAccess, Digest, Domain, EnvironmentEntry, ExposedPorts, FullReference, Guid, HttpUri, InterfaceName, LocalDirectory, MediaType, NoNul, NoParent, OneDirectory, OneLine, PageSize, Port, PortableEntry, RefName, RefNameCharacters, Reference, Repository, ReverseDomain, RootfsPath, ScaledNumber, SelinuxLabel, SemVer, Signal, SpdxExpression, Tag, Uri, User, VolumeGuidPath, WindowsPath}
use Rattle.oci_grammars.proofs.Deciding.{in_tells}
use Rattle.oci_grammars.proofs.Base64Grammar.{base64}
use Rattle.oci_grammars.proofs.ControlGrammars.{capability_name, cgroup_file, decimal_number, device_access, interface_name, one_directory, page_size, scaled_number, selinux_label}
use Rattle.oci_grammars.proofs.Dates.{date_time}
use Rattle.oci_grammars.proofs.Domains.{domain}
use Rattle.oci_grammars.proofs.EntryGrammars.{environment_entry, portable_entry, reverse_domain}
use Rattle.oci_grammars.proofs.LicenseGrammar.{spdx_expression}
use Rattle.oci_grammars.proofs.MediaTypeGrammar.{media_type}
use Rattle.oci_grammars.proofs.NameGrammars.{cpu_list, digest, full_reference, ref_name, reference, repository, tag}
use Rattle.oci_grammars.proofs.PathGrammars.{absolute_path, guid, rootfs_path, unc, volume_guid_path, windows_path, without_parents}
use Rattle.oci_grammars.proofs.SettingGrammars.{ascending_cpu_list, exposed_ports, port_spec, user_spec}
use Rattle.oci_grammars.proofs.SignalGrammars.{signal}
use Rattle.oci_grammars.proofs.UriGrammars.{http_uri, uri}
use Rattle.oci_grammars.proofs.VersionGrammars.{semver}

pub is_of_decides : (g : Grammar) (t : List ℕ) → Decides (is_of g t) (IsOf g t)
unfolding is_of
is_of_decides AbsolutePath t = absolute_path t
is_of_decides AscendingCpuList t = ascending_cpu_list t
is_of_decides Base64 t = base64 t
is_of_decides CapabilityName t = capability_name t
is_of_decides CgroupFile t = cgroup_file t
is_of_decides CpuList t = cpu_list t
is_of_decides DateTime t = date_time t
is_of_decides DecimalNumber t = decimal_number t
is_of_decides DeviceAccess t = device_access t
is_of_decides Digest t = digest t
is_of_decides Domain t = domain t
is_of_decides EnvironmentEntry t = environment_entry t
is_of_decides ExposedPorts t = exposed_ports t
is_of_decides FullReference t = full_reference t
is_of_decides Guid t = guid t
is_of_decides HttpUri t = http_uri t
is_of_decides InterfaceName t = interface_name t
is_of_decides LocalDirectory t = Decides-not _ (unc t)
is_of_decides MediaType t = media_type t
is_of_decides NoNul t = in_tells is_not_nul t
is_of_decides NoParent t = without_parents t
is_of_decides OneDirectory t = one_directory t
is_of_decides OneLine t = in_tells is_not_line_feed t
is_of_decides PageSize t = page_size t
is_of_decides Port t = port_spec t
is_of_decides PortableEntry t = portable_entry t
is_of_decides RefName t = ref_name t
is_of_decides RefNameCharacters t = in_tells is_ref_name_byte t
is_of_decides Reference t = reference t
is_of_decides Repository t = repository t
is_of_decides ReverseDomain t = reverse_domain t
is_of_decides RootfsPath t = rootfs_path t
is_of_decides ScaledNumber t = scaled_number t
is_of_decides SelinuxLabel t = selinux_label t
is_of_decides SemVer t = semver t
is_of_decides Signal t = signal t
is_of_decides SpdxExpression t = spdx_expression t
is_of_decides Tag t = tag t
is_of_decides Uri t = uri t
is_of_decides User t = user_spec t
is_of_decides VolumeGuidPath t = volume_guid_path t
is_of_decides WindowsPath t = windows_path t
