-- Runs of a class with separators between, read byte by byte.
use Rattle.std.proofs.Common.{◌≡◌, ℕ, ◌||◌, Bool, true, false, List, [], ◌∷◌, ◌++◌, refl, sym, ap, ◌∙◌, subst, inl, inr, append_assoc, true≢false}
use Rattle.std.specs.Prelude.{◌==◌}
use Rattle.std.specs.Char.{is_ascii_alphanumeric}
use Rattle.std.specs.List.{fold}
use Rattle.std.proofs.lemmas.Bool.{eqb-true}
use Rattle.oci_reference.specs.Reference.{IsSeparator, IsComponent}
use Rattle.oci_base.specs.Classes.{dash, dot, underscore, is_lower, IsSomeOf, IsJoined, one, more}
use Rattle.oci_base.proofs.Runs.{by_test, run_some, run_joined, run_describes, some_first, some_push}
use Rattle.oci_grammars.specs.DecidedNames.{next_ref, next_path, ends_run, is_ref_component, is_path_component}
use Rattle.oci_grammars.specs.RefNames.{is_ref_mark, IsRefSeparator, IsRefComponent}
use Rattle.oci_grammars.specs.declared.names.Spot.{Spot}
use Rattle.oci_grammars.specs.declared.names.Spot.TheVariants.{BeforeRun, InRun, AfterOne, InDashes, NoName}
use Rattle.oci_grammars.proofs.Deciding.{Tells}

mark_is : (mark b : ℕ) → (b == mark) ≡ true → b ∷ [] ≡ mark ∷ []
mark_is mark b h = ap (λ z. z ∷ []) (eqb-true b mark h)

-- a mark is no byte of a run
no_run : (class : ℕ → Bool) (mark b : ℕ) → class mark ≡ false → (b == mark) ≡ true → class b ≡ false
no_run class mark b out h = ap class (eqb-true b mark h) ∙ out

module _ (class : ℕ → Bool) (Separator : List ℕ → Type 0) where
  abbrev Whole : List ℕ → Type 0
  Whole t = IsJoined Separator (IsSomeOf class) t

  -- a run may follow
  abbrev Open : List ℕ → Type 0
  Open t = (run : List ℕ) → IsSomeOf class run → Whole (t ++ run)

  -- it ends with a run
  abbrev Runs : List ℕ → Type 0
  Runs t = (u x : List ℕ) × Open u × IsSomeOf class x × (t ≡ u ++ x)

  -- it ends with a separator
  abbrev Separated : List ℕ → List ℕ → Type 0
  Separated s t = (u : List ℕ) × Whole u × (t ≡ u ++ s)

  whole : (t : List ℕ) → Runs t → Whole t
  whole t (u, x, open', h, e) = subst Whole (sym e) (open' x h)

  enters : (t : List ℕ) (b : ℕ) → Open t → class b ≡ true → Runs (t ++ b ∷ [])
  enters t b open' h = (t, b ∷ [], open', some_first class b h, refl)

  grows : (t : List ℕ) (b : ℕ) → Runs t → class b ≡ true → Runs (t ++ b ∷ [])
  grows t b (u, x, open', h, e) k = (u, x ++ b ∷ [], open', some_push class x b h k, ap (λ z. z ++ b ∷ []) e ∙ append_assoc u x (b ∷ []))

  opens : (t s : List ℕ) → Separated s t → Separator s → Open t
  opens t s (u, j, e) k = λ run h. subst (λ z. Whole (z ++ run)) (sym e) (more u s run j k h)

  -- a separator grows by a byte
  longer : (t s : List ℕ) (b : ℕ) → Separated s t → Separated (s ++ b ∷ []) (t ++ b ∷ [])
  longer t s b (u, j, e) = (u, j, ap (λ z. z ++ b ∷ []) e ∙ append_assoc u s (b ∷ []))

-- ---- components of reference names

abbrev is_alpha : ℕ → Bool
is_alpha b = is_ascii_alphanumeric b

abbrev RefSays : Spot → List ℕ → Type 0
RefSays BeforeRun t = Open is_alpha IsRefSeparator t
RefSays InRun t = Runs is_alpha IsRefSeparator t
RefSays AfterOne t = Separated is_alpha IsRefSeparator (dash ∷ []) t
RefSays InDashes t = Unit {0}
RefSays NoName t = Unit {0}

dash_separates : IsRefSeparator (dash ∷ [])
dash_separates = inl (dash, refl, refl)

ref_keeps : (s : Spot) (t : List ℕ) (b : ℕ) → RefSays s t → RefSays (next_ref s b) (t ++ b ∷ [])
ref_keeps BeforeRun t b d =
    let P : Spot → Type 0 = λ s. RefSays s (t ++ b ∷ []) in
    by_test P (is_ascii_alphanumeric b) _ _ (λ h. enters is_alpha IsRefSeparator t b d h) (λ _. tt)
ref_keeps InRun t b d =
    let P : Spot → Type 0 = λ s. RefSays s (t ++ b ∷ []) in
    by_test P (is_ascii_alphanumeric b) _ _ (λ h. grows is_alpha IsRefSeparator t b d h)
    (λ _. by_test P (b == dash) _ _ (λ h. (t, whole is_alpha IsRefSeparator t d, ap (λ z. t ++ z) (mark_is dash b h)))
    (λ _. by_test P (is_ref_mark b) _ _ (λ h. opens is_alpha IsRefSeparator (t ++ b ∷ []) (b ∷ []) (t, whole is_alpha IsRefSeparator t d, refl) (inl (b, h, refl))) (λ _. tt)))
ref_keeps AfterOne t b d =
    let P : Spot → Type 0 = λ s. RefSays s (t ++ b ∷ []) in
    by_test P (is_ascii_alphanumeric b) _ _ (λ h. enters is_alpha IsRefSeparator t b (opens is_alpha IsRefSeparator t (dash ∷ []) d dash_separates) h)
    (λ _. by_test P (b == dash) _ _
    (λ h. opens is_alpha IsRefSeparator (t ++ b ∷ []) (dash ∷ b ∷ []) (longer is_alpha IsRefSeparator t (dash ∷ []) b d) (inr (ap (λ z. dash ∷ z) (mark_is dash b h))))
    (λ _. tt))
ref_keeps InDashes t b d = tt
ref_keeps NoName t b d = tt

ref_whole : (s : Spot) (t : List ℕ) → RefSays s t → ends_run s ≡ true → IsRefComponent t
ref_whole BeforeRun t d e = cc e
ref_whole InRun t d e = whole is_alpha IsRefSeparator t d
ref_whole AfterOne t d e = cc e
ref_whole InDashes t d e = cc e
ref_whole NoName t d e = cc e

-- a run may come
abbrev ref_ready : Spot → Bool
ref_ready BeforeRun = true
ref_ready InRun = false
ref_ready AfterOne = true
ref_ready InDashes = false
ref_ready NoName = false

abbrev RefReady : Spot → Type 0
RefReady s = ref_ready s ≡ true

abbrev AtEnd : Spot → Type 0
AtEnd s = ends_run s ≡ true

ref_enters : (s : Spot) (b : ℕ) → is_ascii_alphanumeric b ≡ true → RefReady s → AtEnd (next_ref s b)
ref_enters BeforeRun b h e = rw h refl
ref_enters InRun b h e = cc e
ref_enters AfterOne b h e = rw h refl
ref_enters InDashes b h e = cc e
ref_enters NoName b h e = cc e

ref_goes_on : (s : Spot) (b : ℕ) → is_ascii_alphanumeric b ≡ true → AtEnd s → AtEnd (next_ref s b)
ref_goes_on BeforeRun b h e = cc e
ref_goes_on InRun b h e = rw h refl
ref_goes_on AfterOne b h e = cc e
ref_goes_on InDashes b h e = cc e
ref_goes_on NoName b h e = cc e

by_or : (a b : Bool) (P : Type 0) → (a ≡ true → P) → (b ≡ true → P) → (a || b) ≡ true → P
by_or true b P f g e = f refl
by_or false b P f g e = g e

-- no mark is a letter or digit
mark_apart : (b : ℕ) → is_ref_mark b ≡ true → is_ascii_alphanumeric b ≡ false
mark_apart b =
    by_or (45 == b) _ _ (turned 45 refl) (by_or (46 == b) _ _ (turned 46 refl) (by_or (95 == b) _ _ (turned 95 refl)
    (by_or (58 == b) _ _ (turned 58 refl) (by_or (64 == b) _ _ (turned 64 refl) (by_or (43 == b) _ _ (turned 43 refl) (λ e. absurd (true≢false (sym e))))))))
  where
    turned : (m : ℕ) → is_ascii_alphanumeric m ≡ false → (m == b) ≡ true → is_ascii_alphanumeric b ≡ false
    turned m out e = ap is_ascii_alphanumeric (sym (eqb-true m b e)) ∙ out

ref_leaves : (b : ℕ) → is_ref_mark b ≡ true → RefReady (next_ref InRun b)
ref_leaves b h = go (b == dash) refl
  where
    go : (m : Bool) → (b == dash) ≡ m → RefReady (next_ref InRun b)
    go true e = rw (mark_apart b h, e) refl
    go false e = rw (mark_apart b h, e, h) refl

ref_over_separator : (t : List ℕ) → IsRefSeparator t → (s : Spot) → AtEnd s → RefReady (fold next_ref s t)
ref_over_separator t (inl (b, h, e)) BeforeRun k = cc k
ref_over_separator t (inl (b, h, e)) InRun k = subst (λ z. RefReady (fold next_ref InRun z)) (sym e) (ref_leaves b h)
ref_over_separator t (inl (b, h, e)) AfterOne k = cc k
ref_over_separator t (inl (b, h, e)) InDashes k = cc k
ref_over_separator t (inl (b, h, e)) NoName k = cc k
ref_over_separator t (inr e) BeforeRun k = cc k
ref_over_separator t (inr e) InRun k = subst (λ z. RefReady (fold next_ref InRun z)) (sym e) refl
ref_over_separator t (inr e) AfterOne k = cc k
ref_over_separator t (inr e) InDashes k = cc k
ref_over_separator t (inr e) NoName k = cc k

pub ref_component : Tells is_ref_component IsRefComponent
unfolding is_ref_component
ref_component t = (
  ref_whole (fold next_ref BeforeRun t) t (run_describes next_ref RefSays ref_keeps [] t BeforeRun (λ run k. one run k)),
  (λ j. run_joined next_ref RefReady AtEnd IsRefSeparator (IsSomeOf is_ascii_alphanumeric) (run_some next_ref is_ascii_alphanumeric RefReady AtEnd ref_enters ref_goes_on) ref_over_separator t j BeforeRun refl),
)

-- ---- components of repositories

abbrev PathSays : Spot → List ℕ → Type 0
PathSays BeforeRun t = Open is_lower IsSeparator t
PathSays InRun t = Runs is_lower IsSeparator t
PathSays AfterOne t = Separated is_lower IsSeparator (underscore ∷ []) t
PathSays InDashes t = (d : List ℕ) × Separated is_lower IsSeparator d t × IsSomeOf (λ b. b == dash) d
PathSays NoName t = Unit {0}

path_keeps : (s : Spot) (t : List ℕ) (b : ℕ) → PathSays s t → PathSays (next_path s b) (t ++ b ∷ [])
path_keeps BeforeRun t b d =
    let P : Spot → Type 0 = λ s. PathSays s (t ++ b ∷ []) in
    by_test P (is_lower b) _ _ (λ h. enters is_lower IsSeparator t b d h) (λ _. tt)
path_keeps InRun t b d =
    let P : Spot → Type 0 = λ s. PathSays s (t ++ b ∷ []) in
    by_test P (is_lower b) _ _ (λ h. grows is_lower IsSeparator t b d h)
    (λ _. by_test P (b == dot) _ _ (λ h. opens is_lower IsSeparator (t ++ b ∷ []) (b ∷ []) (t, whole is_lower IsSeparator t d, refl) (inl (mark_is dot b h)))
    (λ _. by_test P (b == underscore) _ _ (λ h. (t, whole is_lower IsSeparator t d, ap (λ z. t ++ z) (mark_is underscore b h)))
    (λ _. by_test P (b == dash) _ _ (λ h. (b ∷ [], (t, whole is_lower IsSeparator t d, refl), some_first (λ c. c == dash) b h)) (λ _. tt))))
path_keeps AfterOne t b d =
    let P : Spot → Type 0 = λ s. PathSays s (t ++ b ∷ []) in
    by_test P (is_lower b) _ _ (λ h. enters is_lower IsSeparator t b (opens is_lower IsSeparator t (underscore ∷ []) d (inr (inl refl))) h)
    (λ _. by_test P (b == underscore) _ _
    (λ h. opens is_lower IsSeparator (t ++ b ∷ []) (underscore ∷ b ∷ []) (longer is_lower IsSeparator t (underscore ∷ []) b d) (inr (inr (inl (ap (λ z. underscore ∷ z) (mark_is underscore b h))))))
    (λ _. tt))
path_keeps InDashes t b (d, s, k) =
    let P : Spot → Type 0 = λ s. PathSays s (t ++ b ∷ []) in
    by_test P (is_lower b) _ _ (λ h. enters is_lower IsSeparator t b (opens is_lower IsSeparator t d s (inr (inr (inr k)))) h)
    (λ _. by_test P (b == dash) _ _ (λ h. (d ++ b ∷ [], longer is_lower IsSeparator t d b s, some_push (λ c. c == dash) d b k h)) (λ _. tt))
path_keeps NoName t b d = tt

path_whole : (s : Spot) (t : List ℕ) → PathSays s t → ends_run s ≡ true → IsComponent t
path_whole BeforeRun t d e = cc e
path_whole InRun t d e = whole is_lower IsSeparator t d
path_whole AfterOne t d e = cc e
path_whole InDashes t d e = cc e
path_whole NoName t d e = cc e

abbrev path_ready : Spot → Bool
path_ready BeforeRun = true
path_ready InRun = false
path_ready AfterOne = true
path_ready InDashes = true
path_ready NoName = false

abbrev PathReady : Spot → Type 0
PathReady s = path_ready s ≡ true

path_enters : (s : Spot) (b : ℕ) → is_lower b ≡ true → PathReady s → AtEnd (next_path s b)
path_enters BeforeRun b h e = rw h refl
path_enters InRun b h e = cc e
path_enters AfterOne b h e = rw h refl
path_enters InDashes b h e = rw h refl
path_enters NoName b h e = cc e

path_goes_on : (s : Spot) (b : ℕ) → is_lower b ≡ true → AtEnd s → AtEnd (next_path s b)
path_goes_on BeforeRun b h e = cc e
path_goes_on InRun b h e = rw h refl
path_goes_on AfterOne b h e = cc e
path_goes_on InDashes b h e = cc e
path_goes_on NoName b h e = cc e

abbrev IsInDashes : Spot → Type 0
IsInDashes s = s ≡ InDashes

dashes_enter : (s : Spot) (b : ℕ) → (b == dash) ≡ true → s ≡ InRun → IsInDashes (next_path s b)
dashes_enter s b h e = let is : b ≡ dash = eqb-true b dash h in rw (e, is) refl

dashes_go : (s : Spot) (b : ℕ) → (b == dash) ≡ true → IsInDashes s → IsInDashes (next_path s b)
dashes_go s b h e = let is : b ≡ dash = eqb-true b dash h in rw (e, is) refl

at_end : (s : Spot) → AtEnd s → s ≡ InRun
at_end BeforeRun k = cc k
at_end InRun k = refl
at_end AfterOne k = cc k
at_end InDashes k = cc k
at_end NoName k = cc k

path_over_separator : (t : List ℕ) → IsSeparator t → (s : Spot) → AtEnd s → PathReady (fold next_path s t)
path_over_separator t (inl e) s k = rw (at_end s k) (subst (λ z. PathReady (fold next_path InRun z)) (sym e) refl)
path_over_separator t (inr (inl e)) s k = rw (at_end s k) (subst (λ z. PathReady (fold next_path InRun z)) (sym e) refl)
path_over_separator t (inr (inr (inl e))) s k = rw (at_end s k) (subst (λ z. PathReady (fold next_path InRun z)) (sym e) refl)
path_over_separator t (inr (inr (inr h))) s k =
    let dashes : fold next_path s t ≡ InDashes = run_some next_path (λ b. b == dash) (λ z. z ≡ InRun) IsInDashes dashes_enter dashes_go t h s (at_end s k) in
    ap path_ready dashes

pub path_component : Tells is_path_component IsComponent
unfolding is_path_component
path_component t = (
  path_whole (fold next_path BeforeRun t) t (run_describes next_path PathSays path_keeps [] t BeforeRun (λ run k. one run k)),
  (λ j. run_joined next_path PathReady AtEnd IsSeparator (IsSomeOf is_lower) (run_some next_path is_lower PathReady AtEnd path_enters path_goes_on) path_over_separator t j BeforeRun refl),
)
