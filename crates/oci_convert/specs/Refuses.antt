-- Why an image configuration is not converted.
use Rattle.std.specs.Prelude.{ℕ, List, Option, IsNone, option_and_then}
use Rattle.oci_image.specs.declared.image_configuration.ImageConfiguration.{ImageConfiguration}
use Rattle.oci_process.specs.declared.process.Process.{Process}
use Rattle.oci_convert.specs.declared.error.ConvertError.{ConvertError}
use Rattle.oci_convert.specs.declared.error.ConvertError.TheVariants.{NoProcess, Memory}
use Rattle.oci_convert.specs.Texts.{said}
use Rattle.oci_convert.specs.Users.{is_windows}
use Rattle.oci_convert.specs.Refusals.{RefusesUserFor}

-- why an image configuration is not converted, from a configuration with this process
abbrev pub Refuses : (List ℕ → ℕ → ℕ → Type 0) → (List ℕ → ℕ → Type 0) → ImageConfiguration → Option Process → ConvertError → Type 0
Refuses is_user is_group image before Memory = Unit {0}
Refuses is_user is_group image before NoProcess = IsNone before
Refuses is_user is_group image before e = RefusesUserFor is_user is_group (is_windows image.os) (option_and_then (λ c. said c.user) image.config) e
