-- Cuts of names, and names made anew.
use Rattle.std.proofs.Common.{◌≡◌, ℕ, ◌<◌, ◌||◌, ◌&&◌, ◌⊎◌, Bool, true, false, not, List, [], ◌∷◌, ◌++◌, length, refl, sym, ap, ◌∙◌, subst, inl, inr, append_assoc, length-append, arith}
use Rattle.std.specs.Prelude.{◌==◌}
use Rattle.std.specs.Char.{is_ascii_alphanumeric, is_ascii_uppercase}
use Rattle.std.specs.List.{list_all, fold}
use Rattle.std.proofs.lemmas.Bool.{eqb-true}
use Rattle.std.proofs.lemmas.List.Folds.{list_all-append}
use Rattle.oci_reference.specs.declared.scanner.path.PathState.{PathState}
use Rattle.oci_reference.specs.declared.scanner.path.PathState.TheVariants.{BeforeRun, InRun, AfterUnderscore, InDashes, NoPath}
use Rattle.oci_base.specs.Classes.{dash, dot, slash, colon, is_lower, is_host_byte, IsIn, IsSomeOf, IsOneOf, one, more, has}
use Rattle.oci_reference.specs.Reference.{IsSeparator, IsComponent, IsPath, IsDomainComponent, IsDomain, IsName}
use Rattle.oci_reference.specs.Scanner.{path_next}
use Rattle.oci_base.proofs.Marks.{lacks_not_has, first_cut}
use Rattle.oci_base.proofs.Lacks.{Lacks, both, lacks_some, lacks_joined, cut_once}
use Rattle.oci_reference.proofs.Readings.{lacks_separator, lacks_domain, not_both}
use Rattle.oci_base.proofs.Runs.{run_class, run_one, run_append, run_describes}
use Rattle.oci_reference.proofs.Complete.{or_cases}
use Rattle.oci_reference.proofs.Sound.{PathSays, path_keeps}

-- Paths.
component_no_slash : (t : List ℕ) → IsComponent t → Lacks slash t
component_no_slash = lacks_joined slash IsSeparator (IsSomeOf is_lower) (lacks_separator slash (omega arith) (omega arith) (omega arith)) (lacks_some is_lower slash refl)

-- a domain has no slash
pub domain_no_slash : (t : List ℕ) → IsDomain t → Lacks slash t
domain_no_slash = lacks_domain slash (omega arith) refl refl refl (omega arith)

-- a path before a path
pub path_before : (x y : List ℕ) → IsPath x → IsPath y → IsPath (x ++ slash ∷ y)
path_before x y h (one part k) = subst IsPath (append_assoc x (slash ∷ []) part) (more x (slash ∷ []) part h refl k)
path_before x _ h (more text mark part j m k) =
    let e : (x ++ slash ∷ text) ++ mark ++ part ≡ x ++ slash ∷ (text ++ mark ++ part) = simp append_assoc in
    subst IsPath e (more (x ++ slash ∷ text) mark part (path_before x text h j) m k)

-- what stands behind the first slash of a path is a path
path_tail : (n : List ℕ) → IsPath n → (x y : List ℕ) → Lacks slash x → n ≡ x ++ slash ∷ y → IsPath y
path_tail n (one part k) x y l e = absurd (not_both slash n x y (component_no_slash n k) e)
path_tail _ (more text mark part j m k) x y l e = go (has slash text) refl (path_tail text j)
  where
    joined : text ++ slash ∷ part ≡ x ++ slash ∷ y
    joined = sym (append_assoc text (slash ∷ []) part) ∙ ap (λ z. text ++ z ++ part) (sym m) ∙ e

    go : (inner : Bool) → has slash text ≡ inner → ((x y : List ℕ) → Lacks slash x → text ≡ x ++ slash ∷ y → IsPath y) → IsPath y
    go false h rec = let cut = cut_once slash text x part y (lacks_not_has slash text h) l joined in subst IsPath cut.1 (one part k)
    go true h rec =
        let (x', y', l', s) = first_cut slash text h in
        let regrouped : x' ++ slash ∷ (y' ++ slash ∷ part) ≡ x ++ slash ∷ y =
        sym (append_assoc x' (slash ∷ y') (slash ∷ part)) ∙ ap (λ z. z ++ slash ∷ part) (sym s) ∙ joined in
        let cut = cut_once slash x' x (y' ++ slash ∷ part) y l' l regrouped in
        subst IsPath cut.1 (path_before y' part (rec x' y' l' s) (one part k))

-- what stands behind the first slash of a name is a path
pub name_tail : (n x y : List ℕ) → IsName n → Lacks slash x → n ≡ x ++ slash ∷ y → IsPath y
name_tail n x y (inl path) k e = path_tail n path x y k e
name_tail n x y (inr h) k e =
    let cut = cut_once slash h.domain x h.path y (domain_no_slash h.domain h.is_domain) k (sym h.spelled ∙ e) in
    subst IsPath cut.1 h.is_path

-- a name without a slash is a path
pub bare_path : (n : List ℕ) → IsName n → Lacks slash n → IsPath n
bare_path n (inl path) k = path
bare_path n (inr h) k = absurd (not_both slash n h.domain h.path k h.spelled)

-- a path is not empty
pub path_some : (t : List ℕ) → IsPath t → 0 < length t
path_some t (one part k) = component_some t k
  where
    component_some : (t : List ℕ) → IsComponent t → 0 < length t
    component_some t (one part k) = k.0
    component_some _ (more text mark part j m k) = omega (arith, length-append (text ++ mark) part, k.0)
path_some _ (more text mark part j m k) = omega (arith, length-append (text ++ mark) part, length-append text mark, path_some text j)

-- A lowercase domain without dot and colon is a path: its letters, digits and dashes lead the path's automaton to the end of a name.
abbrev pub is_small : ℕ → Bool
is_small b = not (is_ascii_uppercase b)

-- a text of a class is one of it on both sides of a cut
pub in_split : (class : ℕ → Bool) (x y : List ℕ) → IsIn class (x ++ y) → IsIn class x × IsIn class y
in_split class x y h = both (list_all class x) (list_all class y) (sym (list_all-append class x y) ∙ h)

-- a text of two classes
in_both : (class other : ℕ → Bool) (t : List ℕ) → IsIn class t → IsIn other t → IsIn (λ b. class b && other b) t
in_both class other [] h k = refl
in_both class other (b ∷ t) h k =
    let p = both (class b) (list_all class t) h in
    let q = both (other b) (list_all other t) k in
    rw (p.0, q.0) (in_both class other t p.1 q.1)

-- a letter or digit that is no uppercase letter
small_lower : (b : ℕ) → is_ascii_alphanumeric b ≡ true → is_small b ≡ true → is_lower b ≡ true
small_lower b h k = grind arith

-- a host byte that is no uppercase letter
small_host : (b : ℕ) → (is_host_byte b && is_small b) ≡ true → (is_lower b || (b == dash)) ≡ true
small_host b h = grind arith

-- within a run or its dashes
abbrev within : PathState → Bool
within BeforeRun = false
within InRun = true
within AfterUnderscore = false
within InDashes = true
within NoPath = false

-- before the first run
abbrev Begins : PathState → Type 0
Begins p = p ≡ BeforeRun

-- the path is within a run or its dashes
abbrev Within : PathState → Type 0
Within p = within p ≡ true

-- the path is in a run
abbrev Ends : PathState → Type 0
Ends p = p ≡ InRun

-- lowercase letters, digits and dashes stay within
within_next : (p : PathState) (b : ℕ) → (is_lower b ≡ true) ⊎ ((is_lower b ≡ false) × ((b == dash) ≡ true)) → Within p → Within (path_next p b)
within_next BeforeRun b h w = cc w
within_next InRun b (inl h) w = rw h refl
within_next InRun b (inr (h, k)) w = rw (eqb-true b dash k) refl
within_next AfterUnderscore b h w = cc w
within_next InDashes b (inl h) w = rw h refl
within_next InDashes b (inr (h, k)) w = rw (h, k) refl
within_next NoPath b h w = cc w

-- a lowercase letter or digit ends in a run
ends_next : (p : PathState) (b : ℕ) → is_lower b ≡ true → Within p → Ends (path_next p b)
ends_next BeforeRun b h w = cc w
ends_next InRun b h w = rw h refl
ends_next AfterUnderscore b h w = cc w
ends_next InDashes b h w = rw h refl
ends_next NoPath b h w = cc w

-- a digit or a lowercase letter
abbrev is_small_alnum : ℕ → Bool
is_small_alnum b = is_ascii_alphanumeric b && is_small b

-- a letter or digit of a lowercase text
one_small : (t : List ℕ) → IsOneOf is_ascii_alphanumeric t → IsIn is_small t → IsOneOf is_small_alnum t
one_small t (b, h, e) m =
    let small = subst (IsIn is_small) e m in
    (b, rw (h, (both (is_small b) true small).0) refl, e)

-- such a byte may stand in a run
small_ends : (b : ℕ) → is_small_alnum b ≡ true → is_lower b ≡ true
small_ends b h = let parts = both (is_ascii_alphanumeric b) (is_small b) h in small_lower b parts.0 parts.1

-- a lowercase domain component leads the path into a run
component_run : (t : List ℕ) → IsDomainComponent t → IsIn is_small t → (p : PathState) → Begins p → Ends (fold path_next p t)
component_run t (inl h) m =
    run_one path_next is_small_alnum Begins Ends (λ p b k e. rw (e, small_ends b k) refl) t (one_small t h m)
component_run t (inr (first, middle, last, h, k, l, e)) m =
    let parts = in_split is_small (first ++ middle) last (subst (IsIn is_small) e m) in
    let fronts = in_split is_small first middle parts.0 in
    subst (λ z. (p : PathState) → Begins p → Ends (fold path_next p z)) (sym e)
    (run_append path_next Begins Within Ends (first ++ middle) last
    (run_append path_next Begins Within Within first middle
    (run_one path_next is_small_alnum Begins Within (λ p b k e. rw (e, small_ends b k) refl) first (one_small first h fronts.0))
    (run_class path_next (λ b. is_host_byte b && is_small b) Within
    (λ p b k w. within_next p b (or_cases (is_lower b) (b == dash) (small_host b k)) w)
    middle (in_both is_host_byte is_small middle k fronts.1)))
    (run_one path_next is_small_alnum Within Ends (λ p b k w. ends_next p b (small_ends b k) w) last (one_small last l parts.1)))

-- a lowercase domain component is a path
plain_component : (t : List ℕ) → IsDomainComponent t → IsIn is_small t → IsPath t
plain_component t c m =
    let says = run_describes path_next PathSays path_keeps [] t BeforeRun (λ r k. inl (one r (one r k))) in
    let name : IsName t = subst (λ p. PathSays p t) (component_run t c m BeforeRun refl) says in
    bare_path t name (domain_no_slash t (inl (one t c)))

-- a lowercase domain without dot and colon is a path
pub plain_domain : (t : List ℕ) → IsDomain t → Lacks dot t → Lacks colon t → IsIn is_small t → IsPath t
plain_domain t (inl (one part c)) k l m = plain_component t c m
plain_domain _ (inl (more text mark part j e c)) k l m =
    absurd (not_both dot (text ++ mark ++ part) text part k (ap (λ z. text ++ z ++ part) e ∙ append_assoc text (dot ∷ []) part))
plain_domain t (inr p) k l m = absurd (not_both colon t p.host p.port l p.spelled)
