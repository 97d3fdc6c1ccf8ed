-- Paths are decided by their first bytes and at their marks.
use Rattle.std.proofs.Common.{◌≡◌, ℕ, ◌-◌, ◌&&◌, not, List, ◌++◌, Bool, true, false, length, take, drop, refl, sym, ap, ◌∙◌, subst, inl, inr}
use Rattle.std.specs.Prelude.{codes, bytes_eq, nat_eq, ◌==◌}
use Rattle.std.specs.Bool.{Decides}
use Rattle.std.specs.Char.{is_ascii_alphabetic, is_ascii_hexdigit}
use Rattle.std.specs.List.{ends_with}
use Rattle.std.proofs.lemmas.Bool.Decides.{Decides-and, Decides-or, Decides-not}
use Rattle.std.proofs.lemmas.List.{take-append-drop}
use Rattle.std.proofs.lemmas.List.Prefix.{end_rest}
use Rattle.std.proofs.lemmas.Slice.Eq.{bytes_eq-Decides}
use Rattle.oci_base.specs.Classes.{dash, slash, colon, until, after, IsSomeOf}
use Rattle.oci_base.proofs.Lacks.{Lacks, lacks_in}
use Rattle.oci_grammars.specs.Classes.{is_not_nul, is_not_slash, is_path_separator, is_share_byte}
use Rattle.oci_grammars.specs.Decided.{begins_with, is_counted, is_headed, is_hex, is_some_of, is_drive_path, is_path_end, is_share, is_behind_separator, is_server, is_server_share, is_unc_share, is_volume_path, is_long_path, is_pipe, is_windows_path, is_guid, is_volume_guid_path, is_unc_path, is_rootfs_path, is_no_parent, are_joined, part_of}
use Rattle.oci_grammars.specs.Parts.{IsCounted, IsHeaded, IsPair}
use Rattle.oci_grammars.specs.Paths.{IsAbsolutePath, IsDrivePath, IsPathEnd, IsShare, IsBehindSeparator, IsServer, IsServerShare, IsUncShare, IsLongPath, IsPipe, IsWindowsPath, IsHex, IsGuid, IsVolumeGuidPath, IsUncPath, IsRootfsPath, IsNoParent, IsWithoutParents}
use Rattle.oci_grammars.specs.declared.parts.Part.TheVariants.{NotParent}
use Rattle.oci_grammars.proofs.Deciding.{Tells, Stops, in_tells, some_tells, empty_tells, run_tells, counted_tells, headed_tells, pair_tells, pair_lacks, behind_tells, any_behind_tells, joined_tells}

pub absolute_path : Tells (begins_with (codes "/")) IsAbsolutePath
absolute_path = any_behind_tells (codes "/")

drive_path : Tells is_drive_path IsDrivePath
drive_path =
    pair_tells colon (is_counted is_ascii_alphabetic 1) (is_headed is_path_separator is_not_nul) (IsCounted is_ascii_alphabetic 1) (IsHeaded is_path_separator is_not_nul)
    (counted_tells is_ascii_alphabetic 1) (headed_tells is_path_separator is_not_nul) (λ x h. lacks_in is_ascii_alphabetic colon refl x h.0) refl

-- ---- GUIDs

hex_tells : (count : ℕ) → Tells (is_hex count) (IsHex count)
hex_tells count = counted_tells is_ascii_hexdigit count

hex_lacks : (mark count : ℕ) → is_ascii_hexdigit mark ≡ false → (x : List ℕ) → IsHex count x → Lacks mark x
hex_lacks mark count out x h = lacks_in is_ascii_hexdigit mark out x h.0

abbrev is_2 : List ℕ → Bool
is_2 t = is_hex 4 (until dash t) && is_hex 12 (after dash t)

abbrev is_3 : List ℕ → Bool
is_3 t = is_hex 4 (until dash t) && is_2 (after dash t)

abbrev is_4 : List ℕ → Bool
is_4 t = is_hex 4 (until dash t) && is_3 (after dash t)

abbrev Is2 : List ℕ → Type 0
Is2 t = IsPair dash (IsHex 4) (IsHex 12) t

abbrev Is3 : List ℕ → Type 0
Is3 t = IsPair dash (IsHex 4) Is2 t

abbrev Is4 : List ℕ → Type 0
Is4 t = IsPair dash (IsHex 4) Is3 t

tells_2 : Tells is_2 Is2
tells_2 = pair_tells dash (is_hex 4) (is_hex 12) (IsHex 4) (IsHex 12) (hex_tells 4) (hex_tells 12) (hex_lacks dash 4 refl) refl

tells_3 : Tells is_3 Is3
tells_3 = pair_tells dash (is_hex 4) is_2 (IsHex 4) Is2 (hex_tells 4) tells_2 (hex_lacks dash 4 refl) refl

tells_4 : Tells is_4 Is4
tells_4 = pair_tells dash (is_hex 4) is_3 (IsHex 4) Is3 (hex_tells 4) tells_3 (hex_lacks dash 4 refl) refl

pub guid : Tells is_guid IsGuid
guid = pair_tells dash (is_hex 8) is_4 (IsHex 8) Is4 (hex_tells 8) tells_4 (hex_lacks dash 8 refl) refl

guid_lacks : (x : List ℕ) → IsGuid x → Lacks 125 x
guid_lacks =
    pair_lacks 125 dash (IsHex 8) Is4 refl (hex_lacks 125 8 refl)
    (pair_lacks 125 dash (IsHex 4) Is3 refl (hex_lacks 125 4 refl)
    (pair_lacks 125 dash (IsHex 4) Is2 refl (hex_lacks 125 4 refl)
    (pair_lacks 125 dash (IsHex 4) (IsHex 12) refl (hex_lacks 125 4 refl) (hex_lacks 125 12 refl))))

abbrev IsEnd : List ℕ → Type 0
IsEnd t = t ≡ codes "\\"

pub volume_guid_path : Tells is_volume_guid_path IsVolumeGuidPath
volume_guid_path =
    behind_tells (λ t. is_guid (until 125 t) && bytes_eq (after 125 t) (codes "\\")) (IsPair 125 IsGuid IsEnd)
    (pair_tells 125 is_guid (λ t. bytes_eq t (codes "\\")) IsGuid IsEnd guid (λ t. bytes_eq-Decides t (codes "\\")) guid_lacks refl) (codes "\\\\?\\Volume{")

-- ---- absolute paths of Windows

end_tells : Tells is_path_end IsPathEnd
end_tells t = Decides-or _ _ (empty_tells t) (headed_tells is_path_separator is_not_nul t)

separator_stops : (b : ℕ) → is_path_separator b ≡ true → is_share_byte b ≡ false
separator_stops b h = ap (λ z. not z && not (b == 0)) h

end_stops : (t : List ℕ) → IsPathEnd t → Stops is_share_byte t
end_stops t (inl e) = subst (Stops is_share_byte) (sym e) tt
end_stops t (inr h) = subst (Stops is_share_byte) (sym h.spelled) (separator_stops h.first h.begins)

share_tells : Tells is_share IsShare
share_tells = run_tells is_share_byte (is_some_of is_share_byte) is_path_end (IsSomeOf is_share_byte) IsPathEnd (some_tells is_share_byte) end_tells (λ x h. h.1) end_stops

behind_separator : Tells is_behind_separator IsBehindSeparator
behind_separator t = Decides-or _ _ (behind_tells is_share IsShare share_tells (codes "\\") t) (behind_tells is_share IsShare share_tells (codes "/") t)

behind_stops : (t : List ℕ) → IsBehindSeparator t → Stops is_share_byte t
behind_stops t (inl h) = subst (Stops is_share_byte) (sym h.spelled) refl
behind_stops t (inr h) = subst (Stops is_share_byte) (sym h.spelled) refl

server_tells : Tells is_server IsServer
server_tells t =
    Decides-and _ _ (some_tells is_share_byte t) (Decides-and _ _ (Decides-not _ (bytes_eq-Decides t (codes "."))) (Decides-not _ (bytes_eq-Decides t (codes "?"))))

server_share : Tells is_server_share IsServerShare
server_share = run_tells is_share_byte is_server is_behind_separator IsServer IsBehindSeparator server_tells behind_separator (λ x h. h.0.1) behind_stops

unc_share : Tells is_unc_share IsUncShare
unc_share t =
    Decides-or _ _ (behind_tells is_server_share IsServerShare server_share (codes "\\\\") t) (behind_tells is_server_share IsServerShare server_share (codes "//") t)

abbrev IsVolumePath : List ℕ → Type 0
IsVolumePath t = IsPair 125 IsGuid (IsHeaded is_path_separator is_not_nul) t

volume_path : Tells is_volume_path IsVolumePath
volume_path =
    pair_tells 125 is_guid (is_headed is_path_separator is_not_nul) IsGuid (IsHeaded is_path_separator is_not_nul) guid (headed_tells is_path_separator is_not_nul) guid_lacks refl

long_path : Tells is_long_path IsLongPath
long_path t =
    Decides-or _ _ (behind_tells is_drive_path IsDrivePath drive_path (codes "\\\\?\\") t)
    (Decides-or _ _ (behind_tells is_server_share IsServerShare server_share (codes "\\\\?\\UNC\\") t)
    (behind_tells is_volume_path IsVolumePath volume_path (codes "\\\\?\\Volume{") t))

pipe_tells : Tells is_pipe IsPipe
pipe_tells = behind_tells (is_some_of is_not_nul) (IsSomeOf is_not_nul) (some_tells is_not_nul) (codes "\\\\.\\pipe\\")

pub windows_path : Tells is_windows_path IsWindowsPath
windows_path t = Decides-or _ _ (drive_path t) (Decides-or _ _ (unc_share t) (Decides-or _ _ (long_path t) (pipe_tells t)))

-- ---- others

pub unc : Tells is_unc_path IsUncPath
unc t =
    Decides-or _ _
    (Decides-and _ _ (Decides-or _ _ (any_behind_tells (codes "\\\\") t) (any_behind_tells (codes "//") t))
    (Decides-not _ (Decides-or _ _ (any_behind_tells (codes "\\\\?\\") t) (any_behind_tells (codes "\\\\.\\") t))))
    (any_behind_tells (codes "\\\\?\\UNC\\") t)

pub local_directory : (t : List ℕ) (r : Bool) → r ≡ is_unc_path t → Decides r (IsUncPath t)
local_directory t r e = ((λ h. (unc t).0 (sym e ∙ h)), (λ h. e ∙ (unc t).1 h))

pub ends_tells : (end : List ℕ) (t : List ℕ) → Decides (ends_with nat_eq t end) ((front : List ℕ) × (t ≡ front ++ end))
ends_tells end t = (
  (λ e.
      let same = (bytes_eq-Decides end (drop (length t - length end) t)).0 e in
      (take (length t - length end) t, sym (ap (λ z. take (length t - length end) t ++ z) same ∙ take-append-drop (length t - length end) t))),
  (λ h. (bytes_eq-Decides end (drop (length t - length end) t)).1 (sym (end_rest t end h.0 h.1))),
)

pub rootfs_path : Tells is_rootfs_path IsRootfsPath
rootfs_path t = Decides-or _ _ (bytes_eq-Decides t (codes "rootfs")) (ends_tells (codes "/rootfs") t)

no_parent_tells : Tells is_no_parent IsNoParent
no_parent_tells t = Decides-and _ _ (in_tells is_not_slash t) (Decides-not _ (bytes_eq-Decides t (codes "..")))

pub without_parents : Tells (are_joined NotParent slash) IsWithoutParents
without_parents = joined_tells slash (part_of NotParent) IsNoParent no_parent_tells (λ x h. lacks_in is_not_slash slash refl x h.0)
