-- The default state is a state (runtime specification, "The Container Process State", `state`).
use Rattle.std.specs.Prelude.{[], refl}
use Rattle.oci_model.specs.Fits.{Fits}
use Rattle.oci_shapes.specs.State.{state, default_state}

pub default_state_fits : Fits state default_state
default_state_fits = (_, refl, (([], refl), (([], refl), ((_, refl, refl), (tt, (([], refl), (tt, tt)))))))
