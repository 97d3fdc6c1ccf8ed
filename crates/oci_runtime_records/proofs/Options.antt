-- Options of a mount, where there are any.
use Rattle.std.proofs.Common.{◌≡◌, List, [], ◌∷◌, true, false, length, map, refl, ne_eqb, arith}
use Rattle.std.specs.Prelude.{◌==◌}
use Rattle.oci_model.specs.Plain as plain
use Rattle.oci_model.specs.Plain.{Plain, empty, filled, plains}
use Rattle.oci_runtime_records.specs.DefaultMounts.{options_slot}

pub no_options : {T : Type 0} (f : T → Plain) (ts : List T) → (length ts == 0) ≡ true → empty ≡ options_slot (map f ts)
no_options f [] e = refl
no_options f (t ∷ ts) e = let no = ne_eqb (length (t ∷ ts)) 0 (omega arith) in cc

pub some_options : {T : Type 0} (f : T → Plain) (ts : List T) (p : Plain) → (length ts == 0) ≡ false → p ≡ plain.list (plains (map f ts)) → filled p ≡ options_slot (map f ts)
some_options f [] p e is = cc
some_options f (t ∷ ts) p e is = rw is refl
