-- The rule for a device that a container has (runtime specification, "Linux Container Configuration", "Allowed Device list").
use Rattle.std.specs.Prelude.{[], ◌∷◌, true, codes}
use Rattle.oci_model.specs.Plain as plain
use Rattle.oci_model.specs.Plain.{Plain, document, slots, filled}
use Rattle.oci_text.specs.LinuxDeviceType.{linux_device_type_name}
use Rattle.oci_linux.specs.declared.linux_device.LinuxDevice.{LinuxDevice}

-- it allows the device of this type and of these numbers to be read, written and made
abbrev pub device_rule : LinuxDevice → Plain
device_rule device = document (slots (
    filled (plain.truth true)
    ∷ filled (plain.variant (linux_device_type_name device.typ))
    ∷ filled (plain.whole device.major)
    ∷ filled (plain.whole device.minor)
    ∷ filled (plain.text (codes "rwm"))
    ∷ []))
