-- Which errors are those of a layer's bytes.
use Rattle.std.specs.Prelude.{◌≡◌, ⊤}
use Rattle.gzip.specs.Errors.{IsRefused}
use Rattle.gzip.specs.declared.error.GzipError.{GzipError}
use Rattle.oci_layers.specs.declared.error.LayerError.{LayerError}
use Rattle.oci_layers.specs.declared.error.LayerError.TheVariants.{NotGzip, NotDecoded, Io, Memory}

-- the bytes are refused as no gzip file
abbrev pub IsNotGzip : LayerError → Type 0
IsNotGzip (NotGzip g) = ⊤
IsNotGzip NotDecoded = ⊥
IsNotGzip (Io e) = ⊥
IsNotGzip Memory = ⊥

-- what an error of the decoder is to a layer: a refusal of the bytes, or no word on them
abbrev pub Splits : GzipError → LayerError → Type 0
Splits g (NotGzip h) = (h ≡ g) × IsRefused g
Splits g NotDecoded = ⊥
Splits g (Io e) = ¬ IsRefused g
Splits g Memory = ¬ IsRefused g

-- a read failed, or memory ran out
abbrev pub IsOutside : LayerError → Type 0
IsOutside (NotGzip g) = ⊥
IsOutside NotDecoded = ⊥
IsOutside (Io e) = ⊤
IsOutside Memory = ⊤
