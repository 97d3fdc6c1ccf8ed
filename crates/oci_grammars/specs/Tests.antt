-- The tests of the grammars. That each decides its grammar is proved (`proofs/Grammars.antt`, `is_of_decides`), and the grammars alone stand in public contracts.
use Rattle.std.specs.Prelude.{ℕ, Bool, not, List, codes, is_none, is_some}
use Rattle.std.specs.List.{fold, list_all}
use Rattle.oci_text.specs.CpuScan.{is_cpu_text}
use Rattle.oci_reference.specs.Scanner.{start, step, found}
use Rattle.oci_base.specs.Digest.{digest_refusal}
use Rattle.oci_grammars.specs.Classes.{is_not_nul, is_not_line_feed, is_ref_name_byte}
use Rattle.oci_grammars.specs.Decided.{are_cpu_ranges, are_no_parents, are_port_specs, begins_with, is_base64, is_capability_name, is_cgroup_file, is_date_time, is_decimal_number, is_device_access, is_domain, is_environment_entry, is_guid, is_interface_name, is_media_type, is_one_directory, is_page_size, is_port_spec, is_portable_entry, is_ref_name, is_repository, is_reverse_domain, is_rootfs_path, is_scaled_number, is_selinux_label, is_semver, is_tag, is_unc_path, is_user_spec, is_volume_guid_path, is_windows_path}
use Rattle.oci_grammars.specs.DecidedLicenses.{is_spdx_expression}
use Rattle.oci_grammars.specs.DecidedSignals.{is_signal}
use Rattle.oci_grammars.specs.FullTexts.{is_full_text}
use Rattle.oci_grammars.specs.DecidedUris.{is_http_uri, is_uri}
use Rattle.oci_grammars.specs.declared.grammar.Grammar.{Grammar}
use Rattle.oci_grammars.specs.declared.grammar.Grammar.TheVariants.{AbsolutePath, AscendingCpuList, Base64, CapabilityName, CgroupFile, CpuList, DateTime, DecimalNumber, DeviceAccess, Digest, Domain, EnvironmentEntry, ExposedPorts, FullReference, Guid, HttpUri, InterfaceName, LocalDirectory, MediaType, NoNul, NoParent, OneDirectory, OneLine, PageSize, Port, PortableEntry, RefName, RefNameCharacters, Reference, Repository, ReverseDomain, RootfsPath, ScaledNumber, SelinuxLabel, SemVer, Signal, SpdxExpression, Tag, Uri, User, VolumeGuidPath, WindowsPath}

unfoldable pub is_of : Grammar → List ℕ → Bool
is_of AbsolutePath text = begins_with (codes "/") text
is_of AscendingCpuList text = are_cpu_ranges text
is_of Base64 text = is_base64 text
is_of CapabilityName text = is_capability_name text
is_of CgroupFile text = is_cgroup_file text
is_of CpuList text = is_cpu_text text
is_of DateTime text = is_date_time text
is_of DecimalNumber text = is_decimal_number text
is_of DeviceAccess text = is_device_access text
is_of Digest text = is_none (digest_refusal text)
is_of Domain text = is_domain text
is_of EnvironmentEntry text = is_environment_entry text
is_of ExposedPorts text = are_port_specs text
is_of FullReference text = is_full_text text
is_of Guid text = is_guid text
is_of HttpUri text = is_http_uri text
is_of InterfaceName text = is_interface_name text
is_of LocalDirectory text = not (is_unc_path text)
is_of MediaType text = is_media_type text
is_of NoNul text = list_all is_not_nul text
is_of NoParent text = are_no_parents text
is_of OneDirectory text = is_one_directory text
is_of OneLine text = list_all is_not_line_feed text
is_of PageSize text = is_page_size text
is_of Port text = is_port_spec text
is_of PortableEntry text = is_portable_entry text
is_of RefName text = is_ref_name text
is_of RefNameCharacters text = list_all is_ref_name_byte text
is_of Reference text = is_some (found (fold step start text))
is_of Repository text = is_repository text
is_of ReverseDomain text = is_reverse_domain text
is_of RootfsPath text = is_rootfs_path text
is_of ScaledNumber text = is_scaled_number text
is_of SelinuxLabel text = is_selinux_label text
is_of SemVer text = is_semver text
is_of Signal text = is_signal text
is_of SpdxExpression text = is_spdx_expression text
is_of Tag text = is_tag text
is_of Uri text = is_uri text
is_of User text = is_user_spec text
is_of VolumeGuidPath text = is_volume_guid_path text
is_of WindowsPath text = is_windows_path text
