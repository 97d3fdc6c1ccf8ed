-- Mounts of volumes, one path after the other.
use Rattle.std.proofs.Common.{◌≡◌, ℕ, ◌+◌, ◌<◌, ◌≤◌, List, [], ◌∷◌, length, get_or, drop, map, String, Global, Vec, Option, Some, None, true, false, string_bytes, refl, sym, ap, ◌∙◌, subst, add-one, drop-cons}
use Rattle.std.proofs.lemmas.List.{drop_all}
use Rattle.std.specs.Prelude.{◌==◌}
use Rattle.oci_runtime_records.specs.declared.mount.Mount.{Mount}
use Rattle.oci_convert.specs.Volumes.{MountsVolumes, done, kept, added, MountsGiven}
use Rattle.oci_convert.specs.Texts.{texts_of}
use Rattle.oci_convert.proofs.Commands.{Texts, not_zero}

one_more : (volume : Mount) (p : List ℕ) (paths : List (List ℕ)) (before now after : List Mount) → MountsVolumes volume (p ∷ []) before now → MountsVolumes volume paths now after → MountsVolumes volume (p ∷ paths) before after
one_more volume p paths before now after (kept _ _ _ _ is (done _)) rest = kept p paths before after is rest
one_more volume p paths before now after (added _ _ _ _ m is copy (done _)) rest = added p paths before after m is copy rest

-- what is mounted for the paths from the i-th on completes what is there
abbrev pub Completes : Mount → List (String Global) → ℕ → List Mount → List Mount → Type 0
Completes volume items i before now = (after : List Mount) → MountsVolumes volume (map string_bytes (drop i items)) now after → MountsVolumes volume (map string_bytes items) before after

pub completes_more : (volume : Mount) (items : List (String Global)) (i : ℕ) (d : String Global) (p : List ℕ) (before now next : List Mount) → i < length items → p ≡ string_bytes (get_or items i d)
    → Completes volume items i before now → MountsVolumes volume (p ∷ []) now next → Completes volume items (i + 1) before next
completes_more volume items i d p before now next lt e here step after rest =
    let cut : map string_bytes (drop i items) ≡ string_bytes (get_or items i d) ∷ map string_bytes (drop (i + 1) items) =
    ap (map string_bytes) (drop-cons items i d lt ∙ ap (λ k. get_or items i d ∷ drop k items) (sym (add-one i))) in
    here after (subst (λ (paths : List (List ℕ)). MountsVolumes volume paths now after) (sym cut)
    (one_more volume (string_bytes (get_or items i d)) (map string_bytes (drop (i + 1) items)) now next after (subst (λ (t : List ℕ). MountsVolumes volume (t ∷ []) now next) e step) rest))

pub completes_all : (volume : Mount) (items more : List (String Global)) (i : ℕ) (before now : List Mount) → length items ≤ i → items ≡ more → Completes volume items i before now → MountsVolumes volume (map string_bytes more) before now
completes_all volume items more i before now far e here =
    subst (λ (xs : List (String Global)). MountsVolumes volume (map string_bytes xs) before now) e
    (here now (subst (λ (paths : List (List ℕ)). MountsVolumes volume paths now now) (sym (ap (map string_bytes) (drop_all i items far))) (done now)))

-- no path, and paths that are there
pub none_given : (volume : Mount) (o : Texts) (mounts : List Mount) → None ≡ o → MountsVolumes volume (texts_of o) mounts mounts
none_given volume o mounts e = subst (λ (t : Texts). MountsVolumes volume (texts_of t) mounts mounts) e (done mounts)

pub empty_given : (volume : Mount) (o : Texts) (paths : Vec (String Global) Global) (mounts : List Mount) → Some paths ≡ o → (length paths.items == 0) ≡ true → MountsVolumes volume (texts_of o) mounts mounts
empty_given volume o paths mounts e h = subst (λ (t : Texts). MountsVolumes volume (texts_of t) mounts mounts) e (nothing paths.items h)
  where
    nothing : (items : List (String Global)) → (length items == 0) ≡ true → MountsVolumes volume (map string_bytes items) mounts mounts
    nothing [] k = done mounts
    nothing (x ∷ items) k = let clash : true ≡ false = sym k ∙ not_zero (length items) in absurd (cc clash)

pub some_given : (volume : Mount) (o : Texts) (paths : Vec (String Global) Global) (before after : List Mount) → Some paths ≡ o → MountsVolumes volume (map string_bytes paths.items) before after → MountsVolumes volume (texts_of o) before after
some_given volume o paths before after e h = subst (λ (t : Texts). MountsVolumes volume (texts_of t) before after) e h

-- no mount is added where there is no path, whether volumes are mounted or not
pub no_paths : (volume : Option Mount) (o : Texts) (mounts : List Mount) → None ≡ o → MountsGiven volume (texts_of o) mounts mounts
no_paths None o mounts e = refl
no_paths (Some volume) o mounts e = none_given volume o mounts e

pub empty_paths : (volume : Option Mount) (o : Texts) (paths : Vec (String Global) Global) (mounts : List Mount) → Some paths ≡ o → (length paths.items == 0) ≡ true → MountsGiven volume (texts_of o) mounts mounts
empty_paths None o paths mounts e h = refl
empty_paths (Some volume) o paths mounts e h = empty_given volume o paths mounts e h
