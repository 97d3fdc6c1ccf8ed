-- The whole text of a reference, with each mark by itself.
use Rattle.std.specs.Prelude.{◌&&◌, ◌||◌, Bool, true, false, ℕ, List, [], ◌∷◌, ◌++◌, codes, is_some, unwrap_or, if◌then◌else◌}
use Rattle.oci_reference.specs.Parts.{Parts}

-- the text is not empty
abbrev pub some_text : List ℕ → Bool
some_text [] = false
some_text (b ∷ text) = true

-- the mark, if it is wanted
abbrev pub mark_if : Bool → List ℕ → List ℕ
mark_if wanted mark = if wanted then mark else []

abbrev pub named : Parts → Bool
named r = some_text r.registry || some_text r.repository

abbrev pub spelled : Parts → List ℕ
spelled r =
    r.registry ++ (mark_if (some_text r.registry && some_text r.repository) (codes "/") ++ (r.repository
    ++ (mark_if (named r && is_some r.tag) (codes ":") ++ (unwrap_or r.tag []
    ++ (mark_if ((named r || is_some r.tag) && is_some r.digest) (codes "@") ++ unwrap_or r.digest [])))))
