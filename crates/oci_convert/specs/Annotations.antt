-- The annotations of an image configuration (image specification, "Conversion to OCI Runtime Configuration", "Annotation Fields",
-- `Config.ExposedPorts` and "Annotations").
use Rattle.std.specs.Prelude.{ℕ, List, [], ◌∷◌, ◌++◌, codes, Option, Some, option_and_then}
use Rattle.std.specs.Option.{option_or}
use Rattle.oci_base.specs.Names.{name_text}
use Rattle.oci_text.specs.Os.{os_name}
use Rattle.oci_text.specs.Arch.{arch_name}
use Rattle.oci_image.specs.declared.config.Config.{Config}
use Rattle.oci_image.specs.declared.image_configuration.ImageConfiguration.{ImageConfiguration}
use Rattle.oci_convert.specs.Texts.{text_of, list_of}
use Rattle.oci_convert.specs.Maps.{Annotation, value_of, joined, look_in}

-- the annotations that its platform stands for
abbrev pub of_platform : ImageConfiguration → List Annotation
of_platform x =
    (codes "org.opencontainers.image.os", Some (name_text (os_name x.os)))
    ∷ (codes "org.opencontainers.image.architecture", Some (name_text (arch_name x.architecture)))
    ∷ (codes "org.opencontainers.image.variant", text_of x.variant)
    ∷ (codes "org.opencontainers.image.os.version", text_of x.os_version)
    ∷ (codes "org.opencontainers.image.os.features", joined (list_of x.os_features))
    ∷ []

-- those that its `config` stands for
abbrev pub of_config : Option Config → List Annotation
of_config config =
    (codes "org.opencontainers.image.stopSignal", option_and_then (λ c. text_of c.stop_signal) config)
    ∷ (codes "org.opencontainers.image.exposedPorts", option_and_then (λ c. joined (list_of c.exposed_ports)) config)
    ∷ []

-- the annotations that the fields of an image configuration stand for
abbrev pub implied : ImageConfiguration → List Annotation
implied x = of_platform x ++ ((codes "org.opencontainers.image.author", text_of x.author) ∷ (codes "org.opencontainers.image.created", text_of x.created) ∷ of_config x.config)

-- the label of a key
abbrev pub label_of : Option Config → List ℕ → Option (List ℕ)
label_of config key = option_and_then (λ c. look_in c.labels key) config

-- the annotation of a key: the label, else what the fields stand for, else what was there
abbrev pub annotation : ImageConfiguration → (List ℕ → Option (List ℕ)) → List ℕ → Option (List ℕ)
annotation x before key = option_or (label_of x.config key) (option_or (value_of (implied x) key) (before key))
