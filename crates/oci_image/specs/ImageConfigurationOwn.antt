-- Look-ups of a configuration's labels (image specification, "Image Configuration", `config.Labels`, and "Annotations").
use Rattle.std.specs.Prelude.{codes, Option, ℕ, List, String, string_bytes, option_map, option_and_then}
use Rattle.std.specs.Option.{option_or}
use Rattle.std.specs.BTreeMap.{BTreeMap, get_by_text}
use Rattle.std.specs.declared.alloc.Global.{Global}
use Rattle.oci_image.specs.declared.image_configuration.ImageConfiguration.{ImageConfiguration}

-- the labels of the container, where both are there
abbrev pub labels_of : ImageConfiguration → Option (BTreeMap (String Global) (String Global))
labels_of x = option_and_then (λ c. c.labels) x.config

-- the label of a key
abbrev pub label_of : ImageConfiguration → List ℕ → Option (List ℕ)
label_of x key = option_map string_bytes (option_and_then (λ m. get_by_text m key) (labels_of x))

-- the label of the specification's own key, else that of the older one
abbrev pub version_of : ImageConfiguration → Option (List ℕ)
version_of x = option_or (label_of x (codes "org.opencontainers.image.version")) (label_of x (codes "version"))
