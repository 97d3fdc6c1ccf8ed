-- What is a media type is decided at the first slash.
use Rattle.std.proofs.Common.{length, refl}
use Rattle.std.specs.Char.{is_ascii_alphanumeric}
use Rattle.std.proofs.lemmas.Bool.Decides.{Decides-and}
use Rattle.oci_base.specs.Classes.{slash}
use Rattle.oci_grammars.specs.Classes.{is_restricted_byte}
use Rattle.oci_grammars.specs.MediaTypes.{IsRestrictedName, IsMediaType}
use Rattle.oci_grammars.specs.Decided.{is_restricted_name, is_media_type}
use Rattle.oci_grammars.proofs.Deciding.{Tells, headed_tells, headed_lacks, pair_tells, Decides-le}

name : Tells is_restricted_name IsRestrictedName
name t = Decides-and _ _ (headed_tells is_ascii_alphanumeric is_restricted_byte t) (Decides-le (length t) 127)

pub media_type : Tells is_media_type IsMediaType
media_type t = pair_tells slash is_restricted_name is_restricted_name IsRestrictedName IsRestrictedName name name (λ x h. headed_lacks slash is_ascii_alphanumeric is_restricted_byte refl refl x h.0) refl t
