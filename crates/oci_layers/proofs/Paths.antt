-- The paths of entries, one after the other.
use Rattle.std.proofs.Common.{◌≡◌, ℕ, List, [], ◌∷◌, ◌++◌, bytes_eq, Bool, true, false, ◌||◌, Option, None, String, Global, refl, sym, ap, ◌∙◌}
use Rattle.std.specs.Prelude.{if◌then◌else◌}
use Rattle.std.specs.BTreeSet.{BTreeSet, contains_text}
use Rattle.std.proofs.lemmas.List.Folds.{list_any-append}
use Rattle.oci_rules.specs.Decided.{there_and}
use Rattle.oci_rules.specs.Listed.{with_text}
use Rattle.tar.specs.Entries.{Member}
use Rattle.tar_folder.specs.Paths.{entry_path, is_directory}
use Rattle.oci_layers.specs.Decided.{is_among, HasPaths}
use Rattle.oci_layers.specs.Rules.{directory_path, other_path}

to_first : (x a b : Bool) → (x || (a || b)) ≡ ((x || a) || (false || b))
to_first true a b = refl
to_first false a b = refl

to_second : (x a b : Bool) → (x || (a || b)) ≡ ((false || a) || (x || b))
to_second true true b = refl
to_second true false b = refl
to_second false a b = refl

pub among_either : (before : List Member) (path : List ℕ) → is_among entry_path before path ≡ (is_among directory_path before path || is_among other_path before path)
among_either [] path = refl
among_either (d ∷ ds) path = ap (λ (b : Bool). there_and (bytes_eq path) (entry_path d) || b) (among_either ds path) ∙ go (is_directory d.kind)
  where
    go : (b : Bool) → (there_and (bytes_eq path) (entry_path d) || (is_among directory_path ds path || is_among other_path ds path))
        ≡ ((there_and (bytes_eq path) (if b then entry_path d else None) || is_among directory_path ds path) || (there_and (bytes_eq path) (if b then None else entry_path d) || is_among other_path ds path))
    go true = to_first (there_and (bytes_eq path) (entry_path d)) (is_among directory_path ds path) (is_among other_path ds path)
    go false = to_second (there_and (bytes_eq path) (entry_path d)) (is_among directory_path ds path) (is_among other_path ds path)

-- ---- one more entry

to_back : (x a : Bool) → (x || a) ≡ (a || (x || false))
to_back true true = refl
to_back true false = refl
to_back false true = refl
to_back false false = refl

and_none : (a : Bool) → a ≡ (a || (false || false))
and_none true = refl
and_none false = refl

pub put_more : (path_of : Member → Option (List ℕ)) (old new : BTreeSet (String Global)) (text : Option (List ℕ)) (before : List Member) (m : Member) → HasPaths old path_of before
    → ((q : List ℕ) → contains_text new q ≡ with_text text (contains_text old) q) → text ≡ path_of m → HasPaths new path_of (before ++ m ∷ [])
put_more path_of old new text before m has put e = λ q.
    put q ∙ ap (λ (t : Option (List ℕ)). there_and (bytes_eq q) t || contains_text old q) e ∙ ap (λ (b : Bool). there_and (bytes_eq q) (path_of m) || b) (has q)
    ∙ to_back (there_and (bytes_eq q) (path_of m)) (is_among path_of before q) ∙ sym (list_any-append (λ d. there_and (bytes_eq q) (path_of d)) before (m ∷ []))

pub keep_more : (path_of : Member → Option (List ℕ)) (set : BTreeSet (String Global)) (before : List Member) (m : Member) → HasPaths set path_of before → path_of m ≡ None
    → HasPaths set path_of (before ++ m ∷ [])
keep_more path_of set before m has none = λ q.
    has q ∙ and_none (is_among path_of before q) ∙ ap (λ (t : Option (List ℕ)). is_among path_of before q || (there_and (bytes_eq q) t || false)) (sym none)
    ∙ sym (list_any-append (λ d. there_and (bytes_eq q) (path_of d)) before (m ∷ []))

pub of_directory : (m : Member) → is_directory m.kind ≡ true → (entry_path m ≡ directory_path m) × (other_path m ≡ None)
of_directory m e = (sym (ap (λ (b : Bool). if b then entry_path m else None) e), ap (λ (b : Bool). if b then None else entry_path m) e)

pub of_other : (m : Member) → is_directory m.kind ≡ false → (entry_path m ≡ other_path m) × (directory_path m ≡ None)
of_other m e = (sym (ap (λ (b : Bool). if b then None else entry_path m) e), ap (λ (b : Bool). if b then entry_path m else None) e)
