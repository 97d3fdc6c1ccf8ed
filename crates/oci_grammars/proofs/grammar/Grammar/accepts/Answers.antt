-- Each test decides its grammar.
use Rattle.std.proofs.Common.{◌≡◌, Bool, List, ℕ, not, sym, ap, ◌∙◌, subst}
use Rattle.std.specs.Bool.{Decides}
use Rattle.std.proofs.lemmas.Bool.Decides.{Decides-at}
use Rattle.oci_grammars.specs.Grammars.{IsOf}
use Rattle.oci_grammars.specs.Tests.{is_of}
use Rattle.oci_grammars.specs.declared.grammar.Grammar.{Grammar}
use Rattle.oci_grammars.specs.declared.grammar.Grammar.TheVariants.{AbsolutePath, AscendingCpuList, Base64, CapabilityName, CgroupFile, CpuList, DateTime, DecimalNumber, DeviceAccess, Digest, Domain, EnvironmentEntry, ExposedPorts, FullReference, Guid, HttpUri, InterfaceName, LocalDirectory, MediaType, NoNul, NoParent, OneDirectory, OneLine, PageSize, Port, PortableEntry, RefName, RefNameCharacters, Reference, Repository, ReverseDomain, RootfsPath, ScaledNumber, SelinuxLabel, SemVer, Signal, SpdxExpression, Tag, Uri, User, VolumeGuidPath, WindowsPath}
use Rattle.oci_grammars.proofs.Grammars.{is_of_decides}
use Rattle.oci_grammars.proofs.NameGrammars.{reference_decides}
use Rattle.oci_grammars.proofs.grammar.Grammar.accepts.Goals as goal

is : (x g : Grammar) (t : List ℕ) (r : Bool) → g ≡ x → Decides r (IsOf x t) → Decides r (IsOf g t)
is x g t r e d = subst (λ z. Decides r (IsOf z t)) (sym e) d

-- a test of the bytes decides what the text is
at : (x g : Grammar) (b t : List ℕ) (r : Bool) → g ≡ x → b ≡ t → r ≡ is_of x b → Decides r (IsOf g t)
at x g b t r e same k = is x g t r e (Decides-at r (is_of x t) (k ∙ ap (is_of x) same) (is_of_decides x t))

pub returns-in-AbsolutePath : goal.returns-in-AbsolutePath
unfolding is_of
returns-in-AbsolutePath c = at AbsolutePath c.args.self _ c.args.text.now _ c.in-AbsolutePath.is c.as_bytes-bytes.ensures.value (c.starts_with.ensures.value)

pub returns-in-AscendingCpuList : goal.returns-in-AscendingCpuList
unfolding is_of
returns-in-AscendingCpuList c = at AscendingCpuList c.args.self _ c.args.text.now _ c.in-AscendingCpuList.is c.as_bytes-bytes.ensures.value (c.joins.ensures)

pub returns-in-Base64 : goal.returns-in-Base64
unfolding is_of
returns-in-Base64 c = at Base64 c.args.self _ c.args.text.now _ c.in-Base64.is c.as_bytes-bytes.ensures.value (c.is_base64.ensures)

pub returns-in-CapabilityName : goal.returns-in-CapabilityName
unfolding is_of
returns-in-CapabilityName c = at CapabilityName c.args.self _ c.args.text.now _ c.in-CapabilityName.is c.as_bytes-bytes.ensures.value (c.is_capability_name.ensures)

pub returns-in-CgroupFile : goal.returns-in-CgroupFile
unfolding is_of
returns-in-CgroupFile c = at CgroupFile c.args.self _ c.args.text.now _ c.in-CgroupFile.is c.as_bytes-bytes.ensures.value (c.is_cgroup_file.ensures)

pub returns-in-CpuList : goal.returns-in-CpuList
returns-in-CpuList c = is CpuList c.args.self c.args.text.now _ c.in-CpuList.is (c.is_cpu_list.ensures)

pub returns-in-DateTime : goal.returns-in-DateTime
unfolding is_of
returns-in-DateTime c = at DateTime c.args.self _ c.args.text.now _ c.in-DateTime.is c.as_bytes-bytes.ensures.value (c.is_date_time.ensures)

pub returns-in-DecimalNumber : goal.returns-in-DecimalNumber
unfolding is_of
returns-in-DecimalNumber c = at DecimalNumber c.args.self _ c.args.text.now _ c.in-DecimalNumber.is c.as_bytes-bytes.ensures.value (c.is_decimal_number.ensures)

pub returns-in-DeviceAccess : goal.returns-in-DeviceAccess
unfolding is_of
returns-in-DeviceAccess c = at DeviceAccess c.args.self _ c.args.text.now _ c.in-DeviceAccess.is c.as_bytes-bytes.ensures.value (c.is_device_access.ensures)

pub returns-in-Digest : goal.returns-in-Digest
returns-in-Digest c = is Digest c.args.self c.args.text.now _ c.in-Digest.is (c.is_digest.ensures)

pub returns-in-Domain : goal.returns-in-Domain
unfolding is_of
returns-in-Domain c = at Domain c.args.self _ c.args.text.now _ c.in-Domain.is c.as_bytes-bytes.ensures.value (c.is_domain.ensures)

pub returns-in-EnvironmentEntry : goal.returns-in-EnvironmentEntry
unfolding is_of
returns-in-EnvironmentEntry c = at EnvironmentEntry c.args.self _ c.args.text.now _ c.in-EnvironmentEntry.is c.as_bytes-bytes.ensures.value (c.is_environment_entry.ensures)

pub returns-in-ExposedPorts : goal.returns-in-ExposedPorts
unfolding is_of
returns-in-ExposedPorts c = at ExposedPorts c.args.self _ c.args.text.now _ c.in-ExposedPorts.is c.as_bytes-bytes.ensures.value (c.joins-in-ExposedPorts.ensures)

pub returns-in-FullReference : goal.returns-in-FullReference
returns-in-FullReference c = is FullReference c.args.self c.args.text.now _ c.in-FullReference.is (c.is_full_reference.ensures)

pub returns-in-Guid : goal.returns-in-Guid
unfolding is_of
returns-in-Guid c = at Guid c.args.self _ c.args.text.now _ c.in-Guid.is c.as_bytes-bytes.ensures.value (c.is_guid.ensures)

pub returns-in-HttpUri : goal.returns-in-HttpUri
unfolding is_of
returns-in-HttpUri c = at HttpUri c.args.self _ c.args.text.now _ c.in-HttpUri.is c.as_bytes-bytes.ensures.value (c.is_http_uri.ensures)

pub returns-in-InterfaceName : goal.returns-in-InterfaceName
unfolding is_of
returns-in-InterfaceName c = at InterfaceName c.args.self _ c.args.text.now _ c.in-InterfaceName.is c.as_bytes-bytes.ensures.value (c.is_interface_name.ensures)

pub returns-in-LocalDirectory : goal.returns-in-LocalDirectory
unfolding is_of
returns-in-LocalDirectory c = at LocalDirectory c.args.self _ c.args.text.now _ c.in-LocalDirectory.is c.as_bytes-bytes.ensures.value (ap not c.is_unc_path.ensures)

pub returns-in-MediaType : goal.returns-in-MediaType
unfolding is_of
returns-in-MediaType c = at MediaType c.args.self _ c.args.text.now _ c.in-MediaType.is c.as_bytes-bytes.ensures.value (c.is_media_type.ensures)

pub returns-in-NoNul : goal.returns-in-NoNul
unfolding is_of
returns-in-NoNul c = at NoNul c.args.self _ c.args.text.now _ c.in-NoNul.is c.as_bytes-bytes.ensures.value (c.has_all.ensures)

pub returns-in-NoParent : goal.returns-in-NoParent
unfolding is_of
returns-in-NoParent c = at NoParent c.args.self _ c.args.text.now _ c.in-NoParent.is c.as_bytes-bytes.ensures.value (c.joins-in-NoParent.ensures)

pub returns-in-OneDirectory : goal.returns-in-OneDirectory
unfolding is_of
returns-in-OneDirectory c = at OneDirectory c.args.self _ c.args.text.now _ c.in-OneDirectory.is c.as_bytes-bytes.ensures.value (c.is_one_directory.ensures)

pub returns-in-OneLine : goal.returns-in-OneLine
unfolding is_of
returns-in-OneLine c = at OneLine c.args.self _ c.args.text.now _ c.in-OneLine.is c.as_bytes-bytes.ensures.value (c.has_all-in-OneLine.ensures)

pub returns-in-PageSize : goal.returns-in-PageSize
unfolding is_of
returns-in-PageSize c = at PageSize c.args.self _ c.args.text.now _ c.in-PageSize.is c.as_bytes-bytes.ensures.value (c.is_page_size.ensures)

pub returns-in-Port : goal.returns-in-Port
unfolding is_of
returns-in-Port c = at Port c.args.self _ c.args.text.now _ c.in-Port.is c.as_bytes-bytes.ensures.value (c.is_port_spec.ensures)

pub returns-in-PortableEntry : goal.returns-in-PortableEntry
unfolding is_of
returns-in-PortableEntry c = at PortableEntry c.args.self _ c.args.text.now _ c.in-PortableEntry.is c.as_bytes-bytes.ensures.value (c.is_portable_entry.ensures)

pub returns-in-RefName : goal.returns-in-RefName
unfolding is_of
returns-in-RefName c = at RefName c.args.self _ c.args.text.now _ c.in-RefName.is c.as_bytes-bytes.ensures.value (c.joins-in-RefName.ensures)

pub returns-in-RefNameCharacters : goal.returns-in-RefNameCharacters
unfolding is_of
returns-in-RefNameCharacters c = at RefNameCharacters c.args.self _ c.args.text.now _ c.in-RefNameCharacters.is c.as_bytes-bytes.ensures.value (c.has_all-in-RefNameCharacters.ensures)

pub returns-in-Reference : goal.returns-in-Reference
returns-in-Reference c = is Reference c.args.self c.args.text.now _ c.in-Reference.is (reference_decides c.args.text.now c.parts.result c.is_ok.result c.is_ok.ensures.value c.parts.ensures.ok c.parts.ensures.only)

pub returns-in-Repository : goal.returns-in-Repository
unfolding is_of
returns-in-Repository c = at Repository c.args.self _ c.args.text.now _ c.in-Repository.is c.as_bytes-bytes.ensures.value (c.joins-in-Repository.ensures)

pub returns-in-ReverseDomain : goal.returns-in-ReverseDomain
unfolding is_of
returns-in-ReverseDomain c = at ReverseDomain c.args.self _ c.args.text.now _ c.in-ReverseDomain.is c.as_bytes-bytes.ensures.value (c.is_reverse_domain.ensures)

pub returns-in-RootfsPath : goal.returns-in-RootfsPath
unfolding is_of
returns-in-RootfsPath c = at RootfsPath c.args.self _ c.args.text.now _ c.in-RootfsPath.is c.as_bytes-bytes.ensures.value (c.is_rootfs_path.ensures)

pub returns-in-ScaledNumber : goal.returns-in-ScaledNumber
unfolding is_of
returns-in-ScaledNumber c = at ScaledNumber c.args.self _ c.args.text.now _ c.in-ScaledNumber.is c.as_bytes-bytes.ensures.value (c.is_scaled_number.ensures)

pub returns-in-SelinuxLabel : goal.returns-in-SelinuxLabel
unfolding is_of
returns-in-SelinuxLabel c = at SelinuxLabel c.args.self _ c.args.text.now _ c.in-SelinuxLabel.is c.as_bytes-bytes.ensures.value (c.is_selinux_label.ensures)

pub returns-in-SemVer : goal.returns-in-SemVer
unfolding is_of
returns-in-SemVer c = at SemVer c.args.self _ c.args.text.now _ c.in-SemVer.is c.as_bytes-bytes.ensures.value (c.is_semver.ensures)

pub returns-in-Signal : goal.returns-in-Signal
unfolding is_of
returns-in-Signal c = at Signal c.args.self _ c.args.text.now _ c.in-Signal.is c.as_bytes-bytes.ensures.value (c.is_signal.ensures)

pub returns-in-SpdxExpression : goal.returns-in-SpdxExpression
unfolding is_of
returns-in-SpdxExpression c = at SpdxExpression c.args.self _ c.args.text.now _ c.in-SpdxExpression.is c.as_bytes-bytes.ensures.value (c.is_spdx_expression.ensures)

pub returns-in-Tag : goal.returns-in-Tag
unfolding is_of
returns-in-Tag c = at Tag c.args.self _ c.args.text.now _ c.in-Tag.is c.as_bytes-bytes.ensures.value (c.is_tag.ensures)

pub returns-in-Uri : goal.returns-in-Uri
unfolding is_of
returns-in-Uri c = at Uri c.args.self _ c.args.text.now _ c.in-Uri.is c.as_bytes-bytes.ensures.value (c.is_uri.ensures)

pub returns-in-User : goal.returns-in-User
unfolding is_of
returns-in-User c = at User c.args.self _ c.args.text.now _ c.in-User.is c.as_bytes-bytes.ensures.value (c.is_user_spec.ensures)

pub returns-in-VolumeGuidPath : goal.returns-in-VolumeGuidPath
unfolding is_of
returns-in-VolumeGuidPath c = at VolumeGuidPath c.args.self _ c.args.text.now _ c.in-VolumeGuidPath.is c.as_bytes-bytes.ensures.value (c.is_volume_guid_path.ensures)

pub returns-in-WindowsPath : goal.returns-in-WindowsPath
unfolding is_of
returns-in-WindowsPath c = at WindowsPath c.args.self _ c.args.text.now _ c.in-WindowsPath.is c.as_bytes-bytes.ensures.value (c.is_windows_path.ensures)
