-- The values of keys in a table of annotations, as they are set one after the other.
use Rattle.std.proofs.Common.{◌≡◌, ℕ, List, [], ◌∷◌, ◌++◌, Bool, true, false, cond, Option, Some, None, refl, sym, ap, ◌∙◌}
use Rattle.std.specs.Prelude.{bytes_eq, codes}
use Rattle.std.specs.Option.{option_or}
use Rattle.oci_convert.specs.Maps.{Annotation, value_of, Sets}
use Rattle.oci_convert.specs.Annotations.{of_config}

or_assoc : {X : Type 0} (a b c : Option X) → option_or a (option_or b c) ≡ option_or (option_or a b) c
or_assoc None b c = refl
or_assoc (Some x) b c = refl

-- one annotation more
pub value_more : (k : List ℕ) (v w : Option (List ℕ)) (others : List Annotation) (before now next : List ℕ → Option (List ℕ)) → v ≡ w
    → ((q : List ℕ) → now q ≡ option_or (value_of others q) (before q)) → Sets k v now next → (q : List ℕ) → next q ≡ option_or (value_of ((k, w) ∷ others) q) (before q)
value_more k v w others before now next e here sets q =
    sets q ∙ ap (λ (x : Option (List ℕ)). option_or (cond (bytes_eq k q) x None) (now q)) e ∙ ap (option_or (cond (bytes_eq k q) w None)) (here q)
    ∙ or_assoc (cond (bytes_eq k q) w None) (value_of others q) (before q)

-- a table before another
pub value_append : (a b : List Annotation) (q : List ℕ) → value_of (a ++ b) q ≡ option_or (value_of a q) (value_of b q)
value_append [] b q = refl
value_append (x ∷ a) b q = ap (option_or (cond (bytes_eq x.0 q) x.1 None)) (value_append a b q) ∙ or_assoc (cond (bytes_eq x.0 q) x.1 None) (value_of a q) (value_of b q)

pub values_more : (a b : List Annotation) (before now next : List ℕ → Option (List ℕ)) → ((q : List ℕ) → now q ≡ option_or (value_of b q) (before q))
    → ((q : List ℕ) → next q ≡ option_or (value_of a q) (now q)) → (q : List ℕ) → next q ≡ option_or (value_of (a ++ b) q) (before q)
values_more a b before now next here step q =
    step q ∙ ap (option_or (value_of a q)) (here q) ∙ or_assoc (value_of a q) (value_of b q) (before q) ∙ ap (λ (x : Option (List ℕ)). option_or x (before q)) (sym (value_append a b q))

-- no `config` says nothing
pub no_config : (before : List ℕ → Option (List ℕ)) (q : List ℕ) → before q ≡ option_or (value_of (of_config None) q) (before q)
no_config before q = go (bytes_eq (codes "org.opencontainers.image.stopSignal") q) (bytes_eq (codes "org.opencontainers.image.exposedPorts") q)
  where
    go : (a b : Bool) → before q ≡ option_or (option_or (cond a None None) (option_or (cond b None None) None)) (before q)
    go true true = refl
    go true false = refl
    go false true = refl
    go false false = refl
