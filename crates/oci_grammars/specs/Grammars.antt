-- Which texts are of a grammar.
use Rattle.std.specs.Prelude.{ℕ, List}
use Rattle.oci_base.specs.Classes.{IsIn}
use Rattle.oci_grammars.specs.Base64.{IsBase64}
use Rattle.oci_grammars.specs.Classes.{is_ref_name_byte}
use Rattle.oci_grammars.specs.Controls.{IsAscendingCpuList, IsCapabilityName, IsCgroupFile, IsDecimalNumber, IsDeviceAccess, IsInterfaceName, IsOneDirectory, IsPageSize, IsScaledNumber, IsSelinuxLabel}
use Rattle.oci_grammars.specs.DateTimes.{IsDateTime}
use Rattle.oci_grammars.specs.Entries.{IsEnvironmentEntry, IsNoNul, IsOneLine, IsPortableEntry, IsReverseDomain}
use Rattle.oci_grammars.specs.Licenses.{IsSpdxExpression}
use Rattle.oci_grammars.specs.MediaTypes.{IsMediaType}
use Rattle.oci_grammars.specs.Paths.{IsAbsolutePath, IsGuid, IsLocalDirectory, IsRootfsPath, IsVolumeGuidPath, IsWindowsPath, IsWithoutParents}
use Rattle.oci_reference.specs.Reference.{IsDomain, IsPath, IsTag}
use Rattle.oci_base.specs.CpuList.{IsCpuList}
use Rattle.oci_base.specs.Digest.{IsDigestText}
use Rattle.oci_grammars.specs.RefNames.{IsFullReference, IsRefName, IsSomeReference}
use Rattle.oci_grammars.specs.Settings.{IsExposedPorts, IsPortSpec, IsUserSpec}
use Rattle.oci_grammars.specs.Signals.{IsSignal}
use Rattle.oci_grammars.specs.Uris.{IsHttpUri, IsUri}
use Rattle.oci_grammars.specs.Versions.{IsSemver}
use Rattle.oci_grammars.specs.declared.grammar.Grammar.{Grammar}
use Rattle.oci_grammars.specs.declared.grammar.Grammar.TheVariants.{AbsolutePath, AscendingCpuList, Base64, CapabilityName, CgroupFile, CpuList, DateTime, DecimalNumber, DeviceAccess, Digest, Domain, EnvironmentEntry, ExposedPorts, FullReference, Guid, HttpUri, InterfaceName, LocalDirectory, MediaType, NoNul, NoParent, OneDirectory, OneLine, PageSize, Port, PortableEntry, RefName, RefNameCharacters, Reference, Repository, ReverseDomain, RootfsPath, ScaledNumber, SelinuxLabel, SemVer, Signal, SpdxExpression, Tag, Uri, User, VolumeGuidPath, WindowsPath}

abbrev pub IsOf : Grammar → List ℕ → Type 0
IsOf AbsolutePath text = IsAbsolutePath text
IsOf AscendingCpuList text = IsAscendingCpuList text
IsOf Base64 text = IsBase64 text
IsOf CapabilityName text = IsCapabilityName text
IsOf CgroupFile text = IsCgroupFile text
IsOf CpuList text = IsCpuList text
IsOf DateTime text = IsDateTime text
IsOf DecimalNumber text = IsDecimalNumber text
IsOf DeviceAccess text = IsDeviceAccess text
IsOf Digest text = IsDigestText text
IsOf Domain text = IsDomain text
IsOf EnvironmentEntry text = IsEnvironmentEntry text
IsOf ExposedPorts text = IsExposedPorts text
IsOf FullReference text = IsFullReference text
IsOf Guid text = IsGuid text
IsOf HttpUri text = IsHttpUri text
IsOf InterfaceName text = IsInterfaceName text
IsOf LocalDirectory text = IsLocalDirectory text
IsOf MediaType text = IsMediaType text
IsOf NoNul text = IsNoNul text
IsOf NoParent text = IsWithoutParents text
IsOf OneDirectory text = IsOneDirectory text
IsOf OneLine text = IsOneLine text
IsOf PageSize text = IsPageSize text
IsOf Port text = IsPortSpec text
IsOf PortableEntry text = IsPortableEntry text
IsOf RefName text = IsRefName text
IsOf RefNameCharacters text = IsIn is_ref_name_byte text
IsOf Reference text = IsSomeReference text
IsOf Repository text = IsPath text
IsOf ReverseDomain text = IsReverseDomain text
IsOf RootfsPath text = IsRootfsPath text
IsOf ScaledNumber text = IsScaledNumber text
IsOf SelinuxLabel text = IsSelinuxLabel text
IsOf SemVer text = IsSemver text
IsOf Signal text = IsSignal text
IsOf SpdxExpression text = IsSpdxExpression text
IsOf Tag text = IsTag text
IsOf Uri text = IsUri text
IsOf User text = IsUserSpec text
IsOf VolumeGuidPath text = IsVolumeGuidPath text
IsOf WindowsPath text = IsWindowsPath text
