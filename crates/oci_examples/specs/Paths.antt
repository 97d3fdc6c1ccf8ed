-- Paths by their text alone (POSIX, "Pathname Resolution", where no name is a symbolic link). A relative path begins at the root.
use Rattle.std.specs.Prelude.{ℕ, List, [], ◌∷◌, ◌++◌, ◌==◌, ◌-◌, ◌||◌, length, take, codes, bytes_eq, fold, if◌then◌else◌}
use Rattle.std.specs.List.{slice_split, flat_map}

-- the names after one more part: nothing and one dot lead nowhere, two dots lead back, and from the root nowhere
abbrev pub next : List (List ℕ) → List ℕ → List (List ℕ)
next names part =
    if bytes_eq part (codes "") || bytes_eq part (codes ".") then names
    else if bytes_eq part (codes "..") then take (length names - 1) names
    else names ++ part ∷ []

-- the names that a path leads through, from the root on
abbrev pub names : List ℕ → List (List ℕ)
names path = fold next [] (slice_split (λ b. b == 47) path)

-- each name behind a slash; of no name, the root
abbrev pub spelled : List (List ℕ) → List ℕ
spelled [] = codes "/"
spelled (name ∷ names) = flat_map (λ n. codes "/" ++ n) (name ∷ names)

-- the shortest text of a path that leads through the same names
abbrev pub cleaned : List ℕ → List ℕ
cleaned path = spelled (names path)
