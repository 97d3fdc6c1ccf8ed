-- What the deciders compute. That it is what the grammars say is proved, and only the grammars stand in public contracts.
use Rattle.std.specs.Prelude.{ℕ, ◌+◌, ◌-◌, ◌*◌, ◌%◌, ◌&&◌, ◌||◌, ◌==◌, Bool, false, not, List, [], ◌∷◌, length, drop, nat_le, nat_eq, min, codes, bytes_eq, if◌then◌else◌}
use Rattle.std.specs.Char.{is_ascii_digit, is_ascii_alphabetic, is_ascii_alphanumeric, is_ascii_graphic, is_ascii_hexdigit}
use Rattle.std.specs.List.{fold, list_all, slice_split, starts_with, ends_with}
use Rattle.oci_base.specs.Classes.{plus, dash, dot, slash, colon, has, until, after, is_word, is_host_byte, is_tag_byte}
use Rattle.oci_grammars.specs.Classes.{hash, is_positive, is_restricted_byte, is_name_start, is_label_byte, is_base64_byte, is_context_byte, is_interface_byte, is_capability_byte, is_access_byte, is_scale, is_path_separator, is_share_byte, is_file_start, is_not_slash, is_not_colon, is_not_equals, is_not_nul}
use Rattle.oci_grammars.specs.DecidedNames.{is_ref_component, is_path_component, is_host_label}
use Rattle.oci_grammars.specs.declared.parts.Part.{Part}
use Rattle.oci_grammars.specs.declared.parts.Part.TheVariants.{KeyLabel, PreIdentifier, BuildIdentifier, NotParent, RefComponent, PathComponent, HostLabel, PortSpec, CpuRange}
use Rattle.oci_grammars.specs.DateTimes.{days_in}

-- ---- parts

abbrev pub is_some_of : (ℕ → Bool) → List ℕ → Bool
is_some_of class text = not (length text == 0) && list_all class text

abbrev pub is_counted : (ℕ → Bool) → ℕ → List ℕ → Bool
is_counted class count text = (length text == count) && list_all class text

abbrev pub is_headed : (ℕ → Bool) → (ℕ → Bool) → List ℕ → Bool
is_headed head tail [] = false
is_headed head tail (b ∷ text) = head b && list_all tail text

-- the bytes of a class that a text begins with, and what stands behind them
abbrev pub front_in : (ℕ → Bool) → List ℕ → List ℕ
front_in class [] = []
front_in class (b ∷ text) = if class b then b ∷ front_in class text else []

abbrev pub back_in : (ℕ → Bool) → List ℕ → List ℕ
back_in class [] = []
back_in class (b ∷ text) = if class b then back_in class text else b ∷ text

-- ---- numbers

-- the number that digits write, or 2^32 where it is larger
abbrev pub capped_from : ℕ → List ℕ → ℕ
capped_from n digits = fold (λ n b. min (n * 10 + (b - 48)) 4294967296) n digits

unfoldable pub capped : List ℕ → ℕ
capped digits = capped_from 0 digits

abbrev pub is_within : ℕ → ℕ → ℕ → Bool
is_within low high n = nat_le low n && nat_le n high

abbrev pub is_number : ℕ → ℕ → List ℕ → Bool
is_number low high text = is_some_of is_ascii_digit text && is_within low high (capped text)

abbrev pub is_number_or_range : ℕ → ℕ → List ℕ → Bool
is_number_or_range low high text =
    is_number low high (until dash text)
    && (not (has dash text) || (is_number low high (after dash text) && nat_le (capped (until dash text)) (capped (after dash text))))

abbrev pub is_field : ℕ → ℕ → ℕ → List ℕ → Bool
is_field count low high text = is_counted is_ascii_digit count text && is_within low high (capped text)

abbrev pub is_numeric : List ℕ → Bool
is_numeric text = bytes_eq text (codes "0") || is_headed is_positive is_ascii_digit text

-- ---- dates and times

unfoldable pub is_date : List ℕ → Bool
is_date text =
    is_counted is_ascii_digit 4 (until dash text)
    && (is_field 2 1 12 (until dash (after dash text))
    && is_field 2 1 (days_in (capped (until dash text)) (capped (until dash (after dash text)))) (after dash (after dash text)))

abbrev pub is_hour_minute : List ℕ → Bool
is_hour_minute text = is_field 2 0 23 (until colon text) && is_field 2 0 59 (after colon text)

unfoldable pub is_offset : List ℕ → Bool
is_offset text =
    (bytes_eq text (codes "Z") || bytes_eq text (codes "z"))
    || ((starts_with nat_eq text (codes "+") && is_hour_minute (drop 1 text)) || (starts_with nat_eq text (codes "-") && is_hour_minute (drop 1 text)))

abbrev pub is_fraction : List ℕ → Bool
is_fraction text = is_some_of is_ascii_digit (front_in is_ascii_digit text) && is_offset (back_in is_ascii_digit text)

unfoldable pub is_fraction_offset : List ℕ → Bool
is_fraction_offset text = is_offset text || (starts_with nat_eq text (codes ".") && is_fraction (drop 1 text))

abbrev pub is_seconds : List ℕ → Bool
is_seconds text = is_field 2 0 60 (front_in is_ascii_digit text) && is_fraction_offset (back_in is_ascii_digit text)

abbrev pub is_minutes : List ℕ → Bool
is_minutes text = is_field 2 0 59 (until colon text) && is_seconds (after colon text)

unfoldable pub is_time : List ℕ → Bool
is_time text = is_field 2 0 23 (until colon text) && is_minutes (after colon text)

abbrev pub is_date_time_at : ℕ → List ℕ → Bool
is_date_time_at mark text = is_date (until mark text) && is_time (after mark text)

abbrev pub is_date_time : List ℕ → Bool
is_date_time text = is_date_time_at 84 text || is_date_time_at 116 text

-- ---- ports

abbrev pub is_protocol : List ℕ → Bool
is_protocol text = bytes_eq text (codes "tcp") || (bytes_eq text (codes "udp") || bytes_eq text (codes "sctp"))

abbrev pub is_port_spec : List ℕ → Bool
is_port_spec text = is_number_or_range 1 65535 (until slash text) && (not (has slash text) || is_protocol (after slash text))

-- ---- parts that are joined

abbrev pub is_pre_identifier : List ℕ → Bool
is_pre_identifier text = is_numeric text || (list_all is_host_byte text && not (list_all is_ascii_digit text))

abbrev pub is_no_parent : List ℕ → Bool
is_no_parent text = list_all is_not_slash text && not (bytes_eq text (codes ".."))

abbrev pub part_of : Part → List ℕ → Bool
part_of KeyLabel text = is_some_of is_label_byte text
part_of PreIdentifier text = is_pre_identifier text
part_of BuildIdentifier text = is_some_of is_host_byte text
part_of NotParent text = is_no_parent text
part_of RefComponent text = is_ref_component text
part_of PathComponent text = is_path_component text
part_of HostLabel text = is_host_label text
part_of PortSpec text = is_port_spec text
part_of CpuRange text = is_number_or_range 0 4294967295 text

abbrev pub are_joined : Part → ℕ → List ℕ → Bool
are_joined part mark text = list_all (part_of part) (slice_split (λ b. b == mark) text)

-- ---- media types

abbrev pub is_restricted_name : List ℕ → Bool
is_restricted_name text = is_headed is_ascii_alphanumeric is_restricted_byte text && nat_le (length text) 127

abbrev pub is_media_type : List ℕ → Bool
is_media_type text = is_restricted_name (until slash text) && is_restricted_name (after slash text)

-- ---- paths

abbrev pub begins_with : List ℕ → List ℕ → Bool
begins_with prefix text = starts_with nat_eq text prefix

abbrev pub is_drive_path : List ℕ → Bool
is_drive_path text = is_counted is_ascii_alphabetic 1 (until colon text) && is_headed is_path_separator is_not_nul (after colon text)

abbrev pub is_hex : ℕ → List ℕ → Bool
is_hex count text = is_counted is_ascii_hexdigit count text

abbrev pub is_guid : List ℕ → Bool
is_guid text =
    is_hex 8 (until dash text)
    && (is_hex 4 (until dash (after dash text))
    && (is_hex 4 (until dash (after dash (after dash text)))
    && (is_hex 4 (until dash (after dash (after dash (after dash text)))) && is_hex 12 (after dash (after dash (after dash (after dash text)))))))

abbrev pub is_volume_guid_path : List ℕ → Bool
is_volume_guid_path text =
    starts_with nat_eq text (codes "\\\\?\\Volume{") && (is_guid (until 125 (drop 11 text)) && bytes_eq (after 125 (drop 11 text)) (codes "\\"))

abbrev pub is_path_end : List ℕ → Bool
is_path_end text = (length text == 0) || is_headed is_path_separator is_not_nul text

abbrev pub is_share : List ℕ → Bool
is_share text = is_some_of is_share_byte (front_in is_share_byte text) && is_path_end (back_in is_share_byte text)

abbrev pub is_behind_separator : List ℕ → Bool
is_behind_separator text = (begins_with (codes "\\") text && is_share (drop 1 text)) || (begins_with (codes "/") text && is_share (drop 1 text))

abbrev pub is_server : List ℕ → Bool
is_server text = is_some_of is_share_byte text && (not (bytes_eq text (codes ".")) && not (bytes_eq text (codes "?")))

abbrev pub is_server_share : List ℕ → Bool
is_server_share text = is_server (front_in is_share_byte text) && is_behind_separator (back_in is_share_byte text)

abbrev pub is_unc_share : List ℕ → Bool
is_unc_share text = (begins_with (codes "\\\\") text && is_server_share (drop 2 text)) || (begins_with (codes "//") text && is_server_share (drop 2 text))

abbrev pub is_volume_path : List ℕ → Bool
is_volume_path text = is_guid (until 125 text) && is_headed is_path_separator is_not_nul (after 125 text)

abbrev pub is_long_path : List ℕ → Bool
is_long_path text =
    (begins_with (codes "\\\\?\\") text && is_drive_path (drop 4 text))
    || ((begins_with (codes "\\\\?\\UNC\\") text && is_server_share (drop 8 text)) || (begins_with (codes "\\\\?\\Volume{") text && is_volume_path (drop 11 text)))

abbrev pub is_pipe : List ℕ → Bool
is_pipe text = begins_with (codes "\\\\.\\pipe\\") text && is_some_of is_not_nul (drop 9 text)

abbrev pub is_windows_path : List ℕ → Bool
is_windows_path text = is_drive_path text || (is_unc_share text || (is_long_path text || is_pipe text))

abbrev pub is_unc_path : List ℕ → Bool
is_unc_path text =
    ((begins_with (codes "\\\\") text || begins_with (codes "//") text) && not (begins_with (codes "\\\\?\\") text || begins_with (codes "\\\\.\\") text))
    || begins_with (codes "\\\\?\\UNC\\") text

abbrev pub is_rootfs_path : List ℕ → Bool
is_rootfs_path text = bytes_eq text (codes "rootfs") || ends_with nat_eq text (codes "/rootfs")

-- ---- entries

abbrev pub is_environment_entry : List ℕ → Bool
is_environment_entry text = has 61 text && is_some_of is_not_equals (until 61 text)

abbrev pub is_portable_entry : List ℕ → Bool
is_portable_entry text = has 61 text && is_headed is_name_start is_word (until 61 text)

abbrev pub are_dotted_labels : List ℕ → Bool
are_dotted_labels text = is_some_of is_label_byte (until dot text) && are_joined KeyLabel dot (after dot text)

abbrev pub is_reverse_domain : List ℕ → Bool
is_reverse_domain text = are_dotted_labels (until hash (until slash text))

-- ---- an image's settings

abbrev pub is_user_spec : List ℕ → Bool
is_user_spec text = is_some_of is_not_colon (until colon text) && (not (has colon text) || is_some_of is_not_colon (after colon text))

-- ---- a container's controls

abbrev pub is_page_size : List ℕ → Bool
is_page_size text =
    is_headed is_positive is_ascii_digit (front_in is_ascii_digit text)
    && (bytes_eq (back_in is_ascii_digit text) (codes "KB") || (bytes_eq (back_in is_ascii_digit text) (codes "MB") || bytes_eq (back_in is_ascii_digit text) (codes "GB")))

abbrev pub is_selinux_tail : List ℕ → Bool
is_selinux_tail text = is_some_of is_context_byte (until colon text) && (not (has colon text) || is_some_of is_ascii_graphic (after colon text))

abbrev pub is_selinux_label : List ℕ → Bool
is_selinux_label text =
    is_some_of is_context_byte (until colon text)
    && (is_some_of is_context_byte (until colon (after colon text)) && is_selinux_tail (after colon (after colon text)))

abbrev pub is_no_dots : List ℕ → Bool
is_no_dots text = not (bytes_eq text (codes ".")) && not (bytes_eq text (codes ".."))

abbrev pub is_interface_name : List ℕ → Bool
is_interface_name text = (is_some_of is_interface_byte text && nat_le (length text) 15) && is_no_dots text

abbrev pub is_one_directory : List ℕ → Bool
is_one_directory text = is_some_of is_not_slash text && is_no_dots text

abbrev pub is_cgroup_file : List ℕ → Bool
is_cgroup_file text = is_some_of is_file_start (until dot text) && is_some_of is_not_slash (after dot text)

abbrev pub is_once : ℕ → List ℕ → Bool
is_once mark text = not (has mark (after mark text))

abbrev pub is_device_access : List ℕ → Bool
is_device_access text = is_some_of is_access_byte text && (is_once 114 text && (is_once 119 text && is_once 109 text))

abbrev pub is_capability_name : List ℕ → Bool
is_capability_name text = starts_with nat_eq text (codes "CAP_") && is_some_of is_capability_byte (drop 4 text)

abbrev pub is_scaled_number : List ℕ → Bool
is_scaled_number text =
    is_some_of is_ascii_digit (front_in is_ascii_digit text) && (list_all is_scale (back_in is_ascii_digit text) && nat_le (length (back_in is_ascii_digit text)) 1)

abbrev pub is_decimal_number : List ℕ → Bool
is_decimal_number text = is_some_of is_ascii_digit text || (list_all is_ascii_digit (until dot text) && is_some_of is_ascii_digit (after dot text))

-- ---- versions

abbrev pub is_version_core : List ℕ → Bool
is_version_core text = is_numeric (until dot text) && (is_numeric (until dot (after dot text)) && is_numeric (after dot (after dot text)))

abbrev pub is_pre_release : List ℕ → Bool
is_pre_release text = is_version_core (until dash text) && (not (has dash text) || are_joined PreIdentifier dot (after dash text))

abbrev pub is_semver : List ℕ → Bool
is_semver text = is_pre_release (until plus text) && (not (has plus text) || are_joined BuildIdentifier dot (after plus text))

-- ---- base64

abbrev pub is_base64 : List ℕ → Bool
is_base64 text =
    (list_all is_base64_byte (front_in is_base64_byte text)
    && ((length (back_in is_base64_byte text) == 0) || (bytes_eq (back_in is_base64_byte text) (codes "=") || bytes_eq (back_in is_base64_byte text) (codes "=="))))
    && (length text % 4 == 0)

-- ---- tags

abbrev pub is_tag : List ℕ → Bool
is_tag text = is_headed is_word is_tag_byte text && nat_le (length text) 128

-- ---- joined parts

abbrev pub are_no_parents : List ℕ → Bool
are_no_parents text = are_joined NotParent slash text

abbrev pub is_ref_name : List ℕ → Bool
is_ref_name text = are_joined RefComponent slash text

abbrev pub are_port_specs : List ℕ → Bool
are_port_specs text = are_joined PortSpec 44 text

abbrev pub are_cpu_ranges : List ℕ → Bool
are_cpu_ranges text = are_joined CpuRange 44 text

abbrev pub is_repository : List ℕ → Bool
is_repository text = are_joined PathComponent slash text

-- ---- full references

abbrev pub is_qualified : List ℕ → Bool
is_qualified name = has slash name && (has dot (until slash name) || (has colon (until slash name) || bytes_eq (until slash name) (codes "localhost")))

-- ---- domains

abbrev pub is_host : List ℕ → Bool
is_host text = are_joined HostLabel dot text

abbrev pub is_domain : List ℕ → Bool
is_domain text = is_host (until colon text) && (not (has colon text) || is_some_of is_ascii_digit (after colon text))
