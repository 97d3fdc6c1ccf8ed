-- What a policy asks of a container's specification (runtime specification, "Linux Process", `capabilities`; "Linux Container
-- Configuration", "Namespaces"; "Mounts").
use Rattle.std.specs.Prelude.{ℕ, List, [], ◌∷◌, ◌++◌, map, codes, ◌≡◌, ◌≢◌, ◌⊎◌, ◌↔◌, Bool, true, false, if◌then◌else◌, bytes_eq, Option, Some, None, String, Vec, IfSome, IsSomeAnd, IsTrue}
use Rattle.std.specs.List.{Any, slice_get}
use Rattle.std.specs.String.{string_bytes}
use Rattle.std.specs.HashSet.{HashSet, contains}
use Rattle.oci_spec.specs.CapabilitySets.{capability_eq}
use Rattle.oci_spec.specs.declared.runtime.Capability.{Capability}
use Rattle.oci_spec.specs.declared.runtime.LinuxCapabilities.{LinuxCapabilities}
use Rattle.oci_spec.specs.declared.runtime.LinuxNamespace.{LinuxNamespace}
use Rattle.oci_spec.specs.declared.runtime.LinuxNamespaceType.{LinuxNamespaceType}
use Rattle.oci_spec.specs.declared.runtime.Mount.{Mount}
use Rattle.oci_spec.specs.declared.runtime.Spec.{Spec}
use Rattle.oci_examples.specs.Paths.{cleaned}

module _ {S : Type 0} where
  -- the set is there and has the capability
  abbrev pub IsIn : Capability → Option (HashSet Capability S) → Type 0
  IsIn c set = IsSomeAnd set (λ s. IsTrue (contains capability_eq s c))

  -- each capability but this one is in the second set exactly if it is in the first
  unfoldable pub HasOthers : Capability → Option (HashSet Capability S) → Option (HashSet Capability S) → Type 0
  HasOthers dropped set kept = (c : Capability) → capability_eq dropped c ≡ false → IsIn c kept ↔ IsIn c set

-- one of the five sets has it
abbrev pub HasCapability : LinuxCapabilities → Capability → Type 0
HasCapability x c = IsIn c x.bounding ⊎ IsIn c x.effective ⊎ IsIn c x.inheritable ⊎ IsIn c x.permitted ⊎ IsIn c x.ambient

-- each of the five sets has the others of the same set before
abbrev pub HaveOthers : Capability → LinuxCapabilities → LinuxCapabilities → Type 0
HaveOthers dropped x y = HasOthers dropped x.bounding y.bounding × HasOthers dropped x.effective y.effective × HasOthers dropped x.inheritable y.inheritable × HasOthers dropped x.permitted y.permitted × HasOthers dropped x.ambient y.ambient

-- the container's process has it in one of its sets
abbrev pub MayUse : Spec → Capability → Type 0
MayUse x c = IsSomeAnd x.process (λ p. IsSomeAnd p.capabilities (λ sets. HasCapability sets c))

-- the policy lets a container join the namespace at this path
abbrev pub MayJoin : List ℕ → Type 0
MayJoin path = path ≡ codes "/var/run/netns/web"

-- it is of this kind, and a new one, or one that the container may join
abbrev pub IsOwn : LinuxNamespaceType → LinuxNamespace → Type 0
IsOwn kind x = (x.typ ≡ kind) × IfSome x.path (λ path. MayJoin (string_bytes path))

-- one of those that are listed is
abbrev pub HasOwn : LinuxNamespaceType → Spec → Type 0
HasOwn kind x = IsSomeAnd x.linux (λ l. IsSomeAnd l.namespaces (λ ns. Any (IsOwn kind) ns.items))

-- the text is none of these
abbrev pub Lacks : List (List ℕ) → List ℕ → Type 0
Lacks texts t = (k : ℕ) → slice_get texts k ≢ Some t

-- one of the options is `ro`, and none behind it is `rw`
abbrev pub LastIsReadOnly : List (List ℕ) → Type 0
LastIsReadOnly [] = ⊥
LastIsReadOnly (option ∷ behind) = LastIsReadOnly behind ⊎ ((option ≡ codes "ro") × Lacks behind (codes "rw"))

-- the same by going through the options from the first on
abbrev pub read_only_after : Bool → List ℕ → Bool
read_only_after read_only option = if bytes_eq option (codes "ro") then true else if bytes_eq option (codes "rw") then false else read_only

-- so it is with the mount's options
abbrev pub IsReadOnly : Mount → Type 0
IsReadOnly x = IsSomeAnd x.options (λ options. LastIsReadOnly (map string_bytes options.items))

-- it puts something at `/proc`, however that is spelled, and is not read-only
abbrev pub IsWritableProc : Mount → Type 0
IsWritableProc x = (cleaned (string_bytes x.destination) ≡ codes "/proc") × ¬ IsReadOnly x

-- the texts of a list, none where there is no list
abbrev pub texts : {Y Z : Type 0} → Option (Vec (String Y) Z) → List (List ℕ)
texts None = []
texts (Some ts) = map string_bytes ts.items

-- where there is a Linux part, the path is masked behind those that were
abbrev pub Masks : Spec → List ℕ → Spec → Type 0
Masks before path after = IfSome before.linux (λ old. IsSomeAnd after.linux (λ new. texts new.masked_paths ≡ texts old.masked_paths ++ path ∷ []))
