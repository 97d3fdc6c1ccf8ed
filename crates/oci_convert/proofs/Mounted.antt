-- Volumes that were mounted are mounted.
use Rattle.std.proofs.Common.{◌≡◌, ℕ, List, [], ◌∷◌, true, Option, Some, None, refl, string_bytes}
use Rattle.std.specs.Prelude.{bytes_eq}
use Rattle.std.proofs.lemmas.Slice.Eq.{bytes_eq-Decides}
use Rattle.oci_runtime_records.specs.declared.mount.Mount.{Mount}
use Rattle.oci_convert.specs.Volumes.{is_mounted, MountsVolumes, done, kept, added, MountsGiven}
use Rattle.oci_convert.proofs.Again.{any_left, any_at}

grows : {volume : Mount} {paths : List (List ℕ)} {before after : List Mount} → MountsVolumes volume paths before after → (path : List ℕ) → is_mounted before path ≡ true → is_mounted after path ≡ true
grows (done mounts) path h = h
grows (kept p paths mounts after is rest) path h = grows rest path h
grows (added p paths mounts after m is copy rest) path h = grows rest path (any_left (λ (x : Mount). bytes_eq (string_bytes x.destination) path) mounts (m ∷ []) h)

EachMounted : List Mount → List (List ℕ) → Type 0
EachMounted mounts [] = Unit {0}
EachMounted mounts (p ∷ paths) = (is_mounted mounts p ≡ true) × EachMounted mounts paths

each : {volume : Mount} {paths : List (List ℕ)} {before after : List Mount} → MountsVolumes volume paths before after → EachMounted after paths
unfolding EachMounted
each (done mounts) = tt
each (kept p paths mounts after is rest) = (grows rest p is, each rest)
each (added p paths mounts after m is copy rest) =
    (grows rest p (any_at (λ (x : Mount). bytes_eq (string_bytes x.destination) p) mounts m [] ((bytes_eq-Decides (string_bytes m.destination) p).1 copy.is_there)), each rest)

all_kept : (volume : Mount) (paths : List (List ℕ)) (mounts : List Mount) → EachMounted mounts paths → MountsVolumes volume paths mounts mounts
unfolding EachMounted
all_kept volume [] mounts h = done mounts
all_kept volume (p ∷ paths) mounts h = kept p paths mounts mounts h.0 (all_kept volume paths mounts h.1)

pub mounts_twice : (volume : Option Mount) (paths : List (List ℕ)) (before after : List Mount) → MountsGiven volume paths before after → MountsGiven volume paths after after
mounts_twice None paths before after h = refl
mounts_twice (Some volume) paths before after h = all_kept volume paths after (each h)
