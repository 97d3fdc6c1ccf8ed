-- Sets of capabilities (runtime specification, "Configuration", "Linux Process", `capabilities`).
use Rattle.std.proofs.Common.{◌≡◌, ℕ, List, [], ◌∷◌, Bool, true, false, Some, bytes_eq, cond, refl, ap}
use Rattle.std.specs.Prelude.{◌↔◌, map}
use Rattle.std.specs.HashSet.{HashSet, contains, hash_set_eq}
use Rattle.std.specs.Cmp.{IsEquivalence, decided}
use Rattle.std.proofs.lemmas.Map.Lookups.{hash_set_eq_decides}
use denote.Enum.Bare.{sameb, same_true, true_same}
use Rattle.oci_model.specs.Variants.{variant_of}
use Rattle.oci_text.specs.declared.capability.Capability.{Capability}
use Rattle.oci_text.specs.declared.capability.Capability.TheVariants.{AuditWrite, Kill, NetBindService}
use Rattle.oci_text.specs.contracts.capability.Capability.{the_type}
use Rattle.oci_text.specs.Capability.{capability_name, all_capability, capability_back}
use Rattle.oci_model.specs.Plain as plain
use Rattle.oci_model.specs.Plain.{Plain}

abbrev pub capability_eq : Capability → Capability → Bool
capability_eq = sameb the_type

capability_equiv : IsEquivalence capability_eq
capability_equiv = decided capability_eq (λ x y. (same_true the_type tt x y, true_same the_type x y))

module _ {S : Type 0} where
  -- for each name of the table, whether it is in
  abbrev pub set_plain : HashSet Capability S → Plain
  set_plain s = plain.set (map (contains capability_eq s) all_capability)

pub each_same : (f g : Capability → Bool) (cs : List Capability) → ((c : Capability) → f c ≡ g c) → map f cs ≡ map g cs
each_same f g [] h = refl
each_same f g (c ∷ cs) h = rw (h c, each_same f g cs h) refl

same_each : (f g : Capability → Bool) (cs : List Capability) (t : List ℕ) (c : Capability) → map f cs ≡ map g cs → variant_of capability_name cs t ≡ Some c → f c ≡ g c
same_each f g [] t c e found = cc
same_each f g (x ∷ xs) t c e found = here (bytes_eq t (capability_name x)) found (same_each f g xs t c (cc))
  where
    here : (b : Bool) → cond b (Some x) (variant_of capability_name xs t) ≡ Some c → (variant_of capability_name xs t ≡ Some c → f c ≡ g c) → f c ≡ g c
    here true k later = let same : x ≡ c = cc in let first : f x ≡ g x = cc in cc
    here false k later = later k

-- sets are equal exactly if they have the same names
pub same_sets : {S : Type 0} (s t : HashSet Capability S) → (hash_set_eq capability_eq s t ≡ true) ↔ (set_plain s ≡ set_plain t)
same_sets s t = (
  (λ e. ap plain.set (each_same (contains capability_eq s) (contains capability_eq t) all_capability ((hash_set_eq_decides capability_equiv s t).0 e))),
  (λ e. (hash_set_eq_decides capability_equiv s t).1 (λ c. same_each (contains capability_eq s) (contains capability_eq t) all_capability (capability_name c) c (cc) (capability_back c))),
)

-- the capabilities of a default process
abbrev pub is_default : Capability → Bool
is_default AuditWrite = true
is_default Kill = true
is_default NetBindService = true
is_default _ = false

abbrev pub default_set : Plain
default_set = plain.set (map is_default all_capability)
