-- Paths (runtime specification, "Configuration"; POSIX, XBD 3.2; Windows, "Naming a Volume" and "Naming Files, Paths, and Namespaces").
use Rattle.std.specs.Prelude.{ℕ, ◌≡◌, ◌≢◌, ◌⊎◌, List, [], ◌++◌, codes}
use Rattle.std.specs.Char.{is_ascii_alphabetic, is_ascii_hexdigit}
use Rattle.oci_base.specs.Classes.{dash, slash, colon, IsIn, IsSomeOf, IsMark, IsJoined}
use Rattle.oci_grammars.specs.Classes.{is_not_nul, is_not_slash, is_path_separator, is_share_byte}
use Rattle.oci_grammars.specs.Parts.{IsAny, IsBehind, IsCounted, IsHeaded, IsPair, IsRun}

-- it begins with a slash (POSIX, XBD 3.2, "Absolute Pathname")
abbrev pub IsAbsolutePath : List ℕ → Type 0
IsAbsolutePath text = IsBehind (codes "/") IsAny text

-- a drive's letter, ":", "\" or "/", and what is no byte 0
abbrev pub IsDrivePath : List ℕ → Type 0
IsDrivePath text = IsPair colon (IsCounted is_ascii_alphabetic 1) (IsHeaded is_path_separator is_not_nul) text

-- this many hexadecimal digits
abbrev pub IsHex : ℕ → List ℕ → Type 0
IsHex count text = IsCounted is_ascii_hexdigit count text

-- 8, 4, 4, 4 and 12 hexadecimal digits, joined by "-" (RFC 4122, section 3)
abbrev pub IsGuid : List ℕ → Type 0
IsGuid text = IsPair dash (IsHex 8) (IsPair dash (IsHex 4) (IsPair dash (IsHex 4) (IsPair dash (IsHex 4) (IsHex 12)))) text

-- `\\?\Volume{` GUID `}\`
abbrev pub IsVolumeGuidPath : List ℕ → Type 0
IsVolumeGuidPath text = IsBehind (codes "\\\\?\\Volume{") (IsPair 125 IsGuid (λ t. t ≡ codes "\\")) text

-- nothing, or a path from the root
abbrev pub IsPathEnd : List ℕ → Type 0
IsPathEnd text = (text ≡ []) ⊎ IsHeaded is_path_separator is_not_nul text

-- a share's name, and perhaps a path on it
abbrev pub IsShare : List ℕ → Type 0
IsShare text = IsRun (IsSomeOf is_share_byte) IsPathEnd text

abbrev pub IsBehindSeparator : List ℕ → Type 0
IsBehindSeparator text = IsBehind (codes "\\") IsShare text ⊎ IsBehind (codes "/") IsShare text

-- a server's name, which is neither `.` nor `?`
abbrev pub IsServer : List ℕ → Type 0
IsServer text = IsSomeOf is_share_byte text × ((text ≢ codes ".") × (text ≢ codes "?"))

-- server, "\", share, and perhaps a path
abbrev pub IsServerShare : List ℕ → Type 0
IsServerShare text = IsRun IsServer IsBehindSeparator text

-- `\\server\share`, and perhaps a path
abbrev pub IsUncShare : List ℕ → Type 0
IsUncShare text = IsBehind (codes "\\\\") IsServerShare text ⊎ IsBehind (codes "//") IsServerShare text

-- `\\?\` and a path on a drive, `\\?\UNC\` and one on a share, `\\?\Volume{` GUID `}` and one on the volume
abbrev pub IsLongPath : List ℕ → Type 0
IsLongPath text =
    IsBehind (codes "\\\\?\\") IsDrivePath text
    ⊎ (IsBehind (codes "\\\\?\\UNC\\") IsServerShare text ⊎ IsBehind (codes "\\\\?\\Volume{") (IsPair 125 IsGuid (IsHeaded is_path_separator is_not_nul)) text)

-- `\\.\pipe\` and a name
abbrev pub IsPipe : List ℕ → Type 0
IsPipe text = IsBehind (codes "\\\\.\\pipe\\") (IsSomeOf is_not_nul) text

-- an absolute path (Windows, "Naming Files, Paths, and Namespaces")
abbrev pub IsWindowsPath : List ℕ → Type 0
IsWindowsPath text = IsDrivePath text ⊎ (IsUncShare text ⊎ (IsLongPath text ⊎ IsPipe text))

-- two slashes or backslashes in front, but not `\\?\` nor `\\.\`; or `\\?\UNC\` in front
abbrev pub IsUncPath : List ℕ → Type 0
IsUncPath text =
    (((IsBehind (codes "\\\\") IsAny text ⊎ IsBehind (codes "//") IsAny text) × ¬ (IsBehind (codes "\\\\?\\") IsAny text ⊎ IsBehind (codes "\\\\.\\") IsAny text)))
    ⊎ IsBehind (codes "\\\\?\\UNC\\") IsAny text

-- no UNC path ("Mounts", `source`)
abbrev pub IsLocalDirectory : List ℕ → Type 0
IsLocalDirectory text = ¬ IsUncPath text

-- its last part is `rootfs` ("Root", `path`)
abbrev pub IsRootfsPath : List ℕ → Type 0
IsRootfsPath text = (text ≡ codes "rootfs") ⊎ ((front : List ℕ) × (text ≡ front ++ codes "/rootfs"))

-- a part that is not `..`
abbrev pub IsNoParent : List ℕ → Type 0
IsNoParent part = IsIn is_not_slash part × (part ≢ codes "..")

-- none of its parts is `..` ("Control groups", "Cgroups Path")
abbrev pub IsWithoutParents : List ℕ → Type 0
IsWithoutParents text = IsJoined (IsMark slash) IsNoParent text
