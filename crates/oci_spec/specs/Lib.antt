pub use Rattle.oci_base.specs.Capabilities
pub use Rattle.oci_base.specs.Classes
pub use Rattle.oci_base.specs.CpuList
pub use Rattle.oci_base.specs.Digest
pub use Rattle.oci_base.specs.Names
pub use Rattle.oci_base.specs.Refused
pub use Rattle.oci_cgroups.specs.LinuxBlockIo
pub use Rattle.oci_cgroups.specs.LinuxCpu
pub use Rattle.oci_cgroups.specs.LinuxDeviceCgroup
pub use Rattle.oci_cgroups.specs.LinuxHugepageLimit
pub use Rattle.oci_cgroups.specs.LinuxInterfacePriority
pub use Rattle.oci_cgroups.specs.LinuxMemory
pub use Rattle.oci_cgroups.specs.LinuxNetwork
pub use Rattle.oci_cgroups.specs.LinuxPids
pub use Rattle.oci_cgroups.specs.LinuxRdma
pub use Rattle.oci_cgroups.specs.LinuxResources
pub use Rattle.oci_cgroups.specs.LinuxThrottleDevice
pub use Rattle.oci_cgroups.specs.LinuxWeightDevice
pub use Rattle.oci_descriptor.specs.Descriptor
pub use Rattle.oci_descriptor.specs.DescriptorBuilder
pub use Rattle.oci_descriptor.specs.DescriptorOwn
pub use Rattle.oci_descriptor.specs.Platform
pub use Rattle.oci_descriptor.specs.PlatformBuilder
pub use Rattle.oci_distribution.specs.ErrorInfo
pub use Rattle.oci_distribution.specs.ErrorInfoBuilder
pub use Rattle.oci_distribution.specs.ErrorResponse
pub use Rattle.oci_distribution.specs.ErrorResponseBuilder
pub use Rattle.oci_distribution.specs.RepositoryList
pub use Rattle.oci_distribution.specs.RepositoryListBuilder
pub use Rattle.oci_distribution.specs.TagList
pub use Rattle.oci_distribution.specs.TagListBuilder
pub use Rattle.oci_features.specs.Apparmor
pub use Rattle.oci_features.specs.Cgroup
pub use Rattle.oci_features.specs.Features
pub use Rattle.oci_features.specs.IDMap
pub use Rattle.oci_features.specs.IntelRdt
pub use Rattle.oci_features.specs.LinuxFeature
pub use Rattle.oci_features.specs.MemoryPolicy
pub use Rattle.oci_features.specs.MountExtensions
pub use Rattle.oci_features.specs.NetDevices
pub use Rattle.oci_features.specs.Seccomp
pub use Rattle.oci_features.specs.Selinux
pub use Rattle.oci_grammars.specs.Grammars
pub use Rattle.oci_image.specs.ArtifactManifest
pub use Rattle.oci_image.specs.ArtifactManifestBuilder
pub use Rattle.oci_image.specs.Config
pub use Rattle.oci_image.specs.History
pub use Rattle.oci_image.specs.ImageConfiguration
pub use Rattle.oci_image.specs.ImageConfigurationOwn
pub use Rattle.oci_image.specs.ImageIndex
pub use Rattle.oci_image.specs.ImageIndexBuilder
pub use Rattle.oci_image.specs.ImageManifest
pub use Rattle.oci_image.specs.ImageManifestBuilder
pub use Rattle.oci_image.specs.OciLayout
pub use Rattle.oci_image.specs.OciLayoutBuilder
pub use Rattle.oci_image.specs.RootFs
pub use Rattle.oci_json.specs.Engines
pub use Rattle.oci_linux.specs.DefaultResources
pub use Rattle.oci_linux.specs.Defaults
pub use Rattle.oci_linux.specs.DeviceRule
pub use Rattle.oci_linux.specs.Linux
pub use Rattle.oci_linux.specs.LinuxDevice
pub use Rattle.oci_linux.specs.LinuxIdMapping
pub use Rattle.oci_linux.specs.LinuxIntelRdt
pub use Rattle.oci_linux.specs.LinuxMemoryPolicy
pub use Rattle.oci_linux.specs.LinuxMemoryPolicyBuilder
pub use Rattle.oci_linux.specs.LinuxNamespace
pub use Rattle.oci_linux.specs.LinuxNetDevice
pub use Rattle.oci_linux.specs.LinuxPersonality
pub use Rattle.oci_linux.specs.LinuxSeccomp
pub use Rattle.oci_linux.specs.LinuxSeccompArg
pub use Rattle.oci_linux.specs.LinuxSyscall
pub use Rattle.oci_linux.specs.LinuxTimeOffset
pub use Rattle.oci_linux.specs.Rootless
pub use Rattle.oci_model.specs.Built
pub use Rattle.oci_model.specs.ClosedNames
pub use Rattle.oci_model.specs.DefaultMembers
pub use Rattle.oci_model.specs.Fits
pub use Rattle.oci_model.specs.Keys
pub use Rattle.oci_model.specs.Means
pub use Rattle.oci_model.specs.Plain
pub use Rattle.oci_model.specs.Shape
pub use Rattle.oci_model.specs.Types
pub use Rattle.oci_model.specs.Value
pub use Rattle.oci_model.specs.Variants
pub use Rattle.oci_model.specs.WellFormed
pub use Rattle.oci_model.specs.Writable
pub use Rattle.oci_platforms.specs.Solaris
pub use Rattle.oci_platforms.specs.SolarisAnet
pub use Rattle.oci_platforms.specs.SolarisCappedCPU
pub use Rattle.oci_platforms.specs.SolarisCappedMemory
pub use Rattle.oci_platforms.specs.VM
pub use Rattle.oci_platforms.specs.VMHypervisor
pub use Rattle.oci_platforms.specs.VMImage
pub use Rattle.oci_platforms.specs.VMKernel
pub use Rattle.oci_platforms.specs.Windows
pub use Rattle.oci_platforms.specs.WindowsCPUResources
pub use Rattle.oci_platforms.specs.WindowsDevice
pub use Rattle.oci_platforms.specs.WindowsHyperV
pub use Rattle.oci_platforms.specs.WindowsMemoryResources
pub use Rattle.oci_platforms.specs.WindowsNetwork
pub use Rattle.oci_platforms.specs.WindowsResources
pub use Rattle.oci_platforms.specs.WindowsStorageResources
pub use Rattle.oci_platforms.specs.ZOS
pub use Rattle.oci_platforms.specs.ZOSNamespace
pub use Rattle.oci_policies.specs.Policies
pub use Rattle.oci_policies.specs.Steps
pub use Rattle.oci_process.specs.Box
pub use Rattle.oci_process.specs.ExecCPUAffinity
pub use Rattle.oci_process.specs.LinuxCapabilities
pub use Rattle.oci_process.specs.LinuxIOPriority
pub use Rattle.oci_process.specs.PosixRlimit
pub use Rattle.oci_process.specs.Process
pub use Rattle.oci_process.specs.ProcessDefaults
pub use Rattle.oci_process.specs.RefusedAffinities
pub use Rattle.oci_process.specs.Scheduler
pub use Rattle.oci_process.specs.User
pub use Rattle.oci_reference.specs.Accepted
pub use Rattle.oci_reference.specs.Equal
pub use Rattle.oci_reference.specs.Named
pub use Rattle.oci_reference.specs.Parts
pub use Rattle.oci_reference.specs.Pieces
pub use Rattle.oci_reference.specs.Record
pub use Rattle.oci_reference.specs.Reference
pub use Rattle.oci_reference.specs.Replaced
pub use Rattle.oci_reference.specs.Scanner
pub use Rattle.oci_reference.specs.Whole
pub use Rattle.oci_reference.specs.Written
pub use Rattle.oci_rules.specs.Breaks
pub use Rattle.oci_rules.specs.Documents
pub use Rattle.oci_rules.specs.Listed
pub use Rattle.oci_rules.specs.Tables
pub use Rattle.oci_rules.specs.Words
pub use Rattle.oci_runtime.specs.RootlessSpec
pub use Rattle.oci_runtime.specs.Spec
pub use Rattle.oci_runtime_records.specs.Answers
pub use Rattle.oci_runtime_records.specs.Canonical
pub use Rattle.oci_runtime_records.specs.ContainerProcessState
pub use Rattle.oci_runtime_records.specs.DefaultMounts
pub use Rattle.oci_runtime_records.specs.Hook
pub use Rattle.oci_runtime_records.specs.Hooks
pub use Rattle.oci_runtime_records.specs.Mount
pub use Rattle.oci_runtime_records.specs.MountBuilder
pub use Rattle.oci_runtime_records.specs.Root
pub use Rattle.oci_runtime_records.specs.State
pub use Rattle.oci_schema.specs.Allows
pub use Rattle.oci_schema.specs.Canonical as CanonicalSchema
pub use Rattle.oci_schema.specs.Lines
pub use Rattle.oci_schema.specs.Normalized
pub use Rattle.oci_schema.specs.Normalizes
pub use Rattle.oci_schema.specs.Reported
pub use Rattle.oci_schema.specs.Shapes
pub use Rattle.oci_schema.specs.Twice
pub use Rattle.oci_schema.specs.Unknown
pub use Rattle.oci_schema.specs.Violations
pub use Rattle.oci_schema.specs.Walks
pub use Rattle.oci_schema.specs.Wants
pub use Rattle.oci_schemas.specs.Kinds
pub use Rattle.oci_schemas.specs.Table
pub use Rattle.oci_shapes.specs.Apparmor as ApparmorShape
pub use Rattle.oci_shapes.specs.ArtifactManifest as ArtifactManifestShape
pub use Rattle.oci_shapes.specs.Box as BoxShape
pub use Rattle.oci_shapes.specs.Cgroup as CgroupShape
pub use Rattle.oci_shapes.specs.Config as ConfigShape
pub use Rattle.oci_shapes.specs.ContainerProcessState as ContainerProcessStateShape
pub use Rattle.oci_shapes.specs.Descriptor as DescriptorShape
pub use Rattle.oci_shapes.specs.ErrorInfo as ErrorInfoShape
pub use Rattle.oci_shapes.specs.ErrorResponse as ErrorResponseShape
pub use Rattle.oci_shapes.specs.ExecCPUAffinity as ExecCPUAffinityShape
pub use Rattle.oci_shapes.specs.Features as FeaturesShape
pub use Rattle.oci_shapes.specs.History as HistoryShape
pub use Rattle.oci_shapes.specs.Hook as HookShape
pub use Rattle.oci_shapes.specs.Hooks as HooksShape
pub use Rattle.oci_shapes.specs.IDMap as IDMapShape
pub use Rattle.oci_shapes.specs.ImageConfiguration as ImageConfigurationShape
pub use Rattle.oci_shapes.specs.ImageIndex as ImageIndexShape
pub use Rattle.oci_shapes.specs.ImageManifest as ImageManifestShape
pub use Rattle.oci_shapes.specs.IntelRdt as IntelRdtShape
pub use Rattle.oci_shapes.specs.Linux as LinuxShape
pub use Rattle.oci_shapes.specs.LinuxBlockIo as LinuxBlockIoShape
pub use Rattle.oci_shapes.specs.LinuxCapabilities as LinuxCapabilitiesShape
pub use Rattle.oci_shapes.specs.LinuxCpu as LinuxCpuShape
pub use Rattle.oci_shapes.specs.LinuxDevice as LinuxDeviceShape
pub use Rattle.oci_shapes.specs.LinuxDeviceCgroup as LinuxDeviceCgroupShape
pub use Rattle.oci_shapes.specs.LinuxFeature as LinuxFeatureShape
pub use Rattle.oci_shapes.specs.LinuxHugepageLimit as LinuxHugepageLimitShape
pub use Rattle.oci_shapes.specs.LinuxIOPriority as LinuxIOPriorityShape
pub use Rattle.oci_shapes.specs.LinuxIdMapping as LinuxIdMappingShape
pub use Rattle.oci_shapes.specs.LinuxIntelRdt as LinuxIntelRdtShape
pub use Rattle.oci_shapes.specs.LinuxInterfacePriority as LinuxInterfacePriorityShape
pub use Rattle.oci_shapes.specs.LinuxMemory as LinuxMemoryShape
pub use Rattle.oci_shapes.specs.LinuxMemoryPolicy as LinuxMemoryPolicyShape
pub use Rattle.oci_shapes.specs.LinuxNamespace as LinuxNamespaceShape
pub use Rattle.oci_shapes.specs.LinuxNetDevice as LinuxNetDeviceShape
pub use Rattle.oci_shapes.specs.LinuxNetwork as LinuxNetworkShape
pub use Rattle.oci_shapes.specs.LinuxPersonality as LinuxPersonalityShape
pub use Rattle.oci_shapes.specs.LinuxPids as LinuxPidsShape
pub use Rattle.oci_shapes.specs.LinuxRdma as LinuxRdmaShape
pub use Rattle.oci_shapes.specs.LinuxResources as LinuxResourcesShape
pub use Rattle.oci_shapes.specs.LinuxSeccomp as LinuxSeccompShape
pub use Rattle.oci_shapes.specs.LinuxSeccompArg as LinuxSeccompArgShape
pub use Rattle.oci_shapes.specs.LinuxSyscall as LinuxSyscallShape
pub use Rattle.oci_shapes.specs.LinuxThrottleDevice as LinuxThrottleDeviceShape
pub use Rattle.oci_shapes.specs.LinuxTimeOffset as LinuxTimeOffsetShape
pub use Rattle.oci_shapes.specs.LinuxWeightDevice as LinuxWeightDeviceShape
pub use Rattle.oci_shapes.specs.MemoryPolicy as MemoryPolicyShape
pub use Rattle.oci_shapes.specs.Mount as MountShape
pub use Rattle.oci_shapes.specs.MountExtensions as MountExtensionsShape
pub use Rattle.oci_shapes.specs.NetDevices as NetDevicesShape
pub use Rattle.oci_shapes.specs.OciLayout as OciLayoutShape
pub use Rattle.oci_shapes.specs.Platform as PlatformShape
pub use Rattle.oci_shapes.specs.PosixRlimit as PosixRlimitShape
pub use Rattle.oci_shapes.specs.Process as ProcessShape
pub use Rattle.oci_shapes.specs.Reference as ReferenceShape
pub use Rattle.oci_shapes.specs.RepositoryList as RepositoryListShape
pub use Rattle.oci_shapes.specs.Root as RootShape
pub use Rattle.oci_shapes.specs.RootFs as RootFsShape
pub use Rattle.oci_shapes.specs.Scheduler as SchedulerShape
pub use Rattle.oci_shapes.specs.Seccomp as SeccompShape
pub use Rattle.oci_shapes.specs.Selinux as SelinuxShape
pub use Rattle.oci_shapes.specs.Solaris as SolarisShape
pub use Rattle.oci_shapes.specs.SolarisAnet as SolarisAnetShape
pub use Rattle.oci_shapes.specs.SolarisCappedCPU as SolarisCappedCPUShape
pub use Rattle.oci_shapes.specs.SolarisCappedMemory as SolarisCappedMemoryShape
pub use Rattle.oci_shapes.specs.Spec as SpecShape
pub use Rattle.oci_shapes.specs.State as StateShape
pub use Rattle.oci_shapes.specs.TagList as TagListShape
pub use Rattle.oci_shapes.specs.User as UserShape
pub use Rattle.oci_shapes.specs.VM as VMShape
pub use Rattle.oci_shapes.specs.VMHypervisor as VMHypervisorShape
pub use Rattle.oci_shapes.specs.VMImage as VMImageShape
pub use Rattle.oci_shapes.specs.VMKernel as VMKernelShape
pub use Rattle.oci_shapes.specs.Windows as WindowsShape
pub use Rattle.oci_shapes.specs.WindowsCPUResources as WindowsCPUResourcesShape
pub use Rattle.oci_shapes.specs.WindowsDevice as WindowsDeviceShape
pub use Rattle.oci_shapes.specs.WindowsHyperV as WindowsHyperVShape
pub use Rattle.oci_shapes.specs.WindowsMemoryResources as WindowsMemoryResourcesShape
pub use Rattle.oci_shapes.specs.WindowsNetwork as WindowsNetworkShape
pub use Rattle.oci_shapes.specs.WindowsResources as WindowsResourcesShape
pub use Rattle.oci_shapes.specs.WindowsStorageResources as WindowsStorageResourcesShape
pub use Rattle.oci_shapes.specs.ZOS as ZOSShape
pub use Rattle.oci_shapes.specs.ZOSNamespace as ZOSNamespaceShape
pub use Rattle.oci_text.specs.Affinities
pub use Rattle.oci_text.specs.Algorithms
pub use Rattle.oci_text.specs.Arch
pub use Rattle.oci_text.specs.BareTexts
pub use Rattle.oci_text.specs.Capability
pub use Rattle.oci_text.specs.CapabilitySets
pub use Rattle.oci_text.specs.ContainerState
pub use Rattle.oci_text.specs.CpuScan
pub use Rattle.oci_text.specs.CutDigests
pub use Rattle.oci_text.specs.DigestInside
pub use Rattle.oci_text.specs.ErrorCode
pub use Rattle.oci_text.specs.Explained
pub use Rattle.oci_text.specs.IOPriorityClass
pub use Rattle.oci_text.specs.LinuxDeviceType
pub use Rattle.oci_text.specs.LinuxNamespaceType
pub use Rattle.oci_text.specs.LinuxPersonalityDomain
pub use Rattle.oci_text.specs.LinuxSchedulerFlag
pub use Rattle.oci_text.specs.LinuxSchedulerPolicy
pub use Rattle.oci_text.specs.LinuxSeccompAction
pub use Rattle.oci_text.specs.LinuxSeccompFilterFlag
pub use Rattle.oci_text.specs.LinuxSeccompOperator
pub use Rattle.oci_text.specs.MediaType
pub use Rattle.oci_text.specs.MemoryPolicyFlagType
pub use Rattle.oci_text.specs.MemoryPolicyModeType
pub use Rattle.oci_text.specs.Os
pub use Rattle.oci_text.specs.PosixRlimitType
pub use Rattle.oci_text.specs.SArch
pub use Rattle.oci_text.specs.SeccompNumbers
pub use Rattle.oci_text.specs.ZOSNamespaceType
