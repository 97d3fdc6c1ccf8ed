-- Domains: labels joined by dots, and perhaps a port.
use Rattle.std.proofs.Common.{◌≡◌, ℕ, ◌||◌, Bool, true, false, List, [], ◌∷◌, ◌++◌, refl, sym, ap, ◌∙◌, subst, inl, inr}
use Rattle.std.specs.Prelude.{◌==◌}
use Rattle.std.specs.Char.{is_ascii_digit, is_ascii_alphanumeric}
use Rattle.std.specs.List.{fold}
use Rattle.std.proofs.lemmas.Bool.Decides.{Decides-like}
use Rattle.oci_reference.specs.Reference.{IsDomainComponent, IsHost, IsDomain}
use Rattle.oci_base.specs.Classes.{dash, dot, colon, is_host_byte, IsIn, IsSomeOf, IsMark}
use Rattle.oci_base.proofs.Lacks.{Lacks, lacks_in, lacks_one, lacks_append, lacks_joined}
use Rattle.oci_base.proofs.Runs.{by_test, run_class, run_one, run_append, run_describes, in_push}
use Rattle.oci_grammars.specs.Decided.{is_some_of, is_domain, is_host, part_of}
use Rattle.oci_grammars.specs.DecidedNames.{next_label, ends_run, is_host_label}
use Rattle.oci_grammars.specs.Parts.{IsExtended}
use Rattle.oci_grammars.specs.declared.names.Spot.{Spot}
use Rattle.oci_grammars.specs.declared.names.Spot.TheVariants.{BeforeRun, InRun, AfterOne, InDashes, NoName}
use Rattle.oci_grammars.specs.declared.parts.Part.TheVariants.{HostLabel}
use Rattle.oci_grammars.proofs.Deciding.{Tells, some_tells, extended_tells, joined_tells}

is_alpha_host : (b : ℕ) → is_ascii_alphanumeric b ≡ true → is_host_byte b ≡ true
is_alpha_host b e = rw e refl

is_dash_host : (b : ℕ) → (b == dash) ≡ true → is_host_byte b ≡ true
is_dash_host b e = go (is_ascii_alphanumeric b)
  where
    go : (a : Bool) → (a || (b == dash)) ≡ true
    go true = refl
    go false = e

-- a first letter or digit, and then bytes of a host
abbrev Begun : List ℕ → Type 0
Begun t = (first : ℕ) × (middle : List ℕ) × (is_ascii_alphanumeric first ≡ true) × IsIn is_host_byte middle × (t ≡ first ∷ middle)

abbrev LabelSays : Spot → List ℕ → Type 0
LabelSays BeforeRun t = t ≡ []
LabelSays InRun t = IsDomainComponent t
LabelSays AfterOne t = Unit {0}
LabelSays InDashes t = Begun t
LabelSays NoName t = Unit {0}

begun : (t : List ℕ) → IsDomainComponent t → Begun t
begun t (inl (b, h, e)) = (b, [], h, refl, e)
begun t (inr (first, middle, last, (b, h, e), m, (c, k, f), s)) =
    (b, middle ++ c ∷ [], h, in_push is_host_byte middle c m (is_alpha_host c k), s ∙ ap (λ z. (z ++ middle) ++ last) e ∙ ap (λ z. b ∷ (middle ++ z)) f)

closes : (t : List ℕ) (b : ℕ) → Begun t → is_ascii_alphanumeric b ≡ true → IsDomainComponent (t ++ b ∷ [])
closes t b (first, middle, h, m, e) k =
    inr (first ∷ [], middle, b ∷ [], (first, h, refl), m, (b, k, refl), ap (λ z. z ++ b ∷ []) e)

goes_on : (t : List ℕ) (b : ℕ) → Begun t → (b == dash) ≡ true → Begun (t ++ b ∷ [])
goes_on t b (first, middle, h, m, e) k = (first, middle ++ b ∷ [], h, in_push is_host_byte middle b m (is_dash_host b k), ap (λ z. z ++ b ∷ []) e)

label_keeps : (s : Spot) (t : List ℕ) (b : ℕ) → LabelSays s t → LabelSays (next_label s b) (t ++ b ∷ [])
label_keeps BeforeRun t b d =
    let P : Spot → Type 0 = λ s. LabelSays s (t ++ b ∷ []) in
    by_test P (is_ascii_alphanumeric b) _ _ (λ h. inl (b, h, ap (λ z. z ++ b ∷ []) d)) (λ _. tt)
label_keeps InRun t b d =
    let P : Spot → Type 0 = λ s. LabelSays s (t ++ b ∷ []) in
    by_test P (is_ascii_alphanumeric b) _ _ (λ h. closes t b (begun t d) h) (λ _. by_test P (b == dash) _ _ (λ h. goes_on t b (begun t d) h) (λ _. tt))
label_keeps AfterOne t b d = tt
label_keeps InDashes t b d =
    let P : Spot → Type 0 = λ s. LabelSays s (t ++ b ∷ []) in
    by_test P (is_ascii_alphanumeric b) _ _ (λ h. closes t b d h) (λ _. by_test P (b == dash) _ _ (λ h. goes_on t b d h) (λ _. tt))
label_keeps NoName t b d = tt

label_whole : (s : Spot) (t : List ℕ) → LabelSays s t → ends_run s ≡ true → IsDomainComponent t
label_whole BeforeRun t d e = cc e
label_whole InRun t d e = d
label_whole AfterOne t d e = cc e
label_whole InDashes t d e = cc e
label_whole NoName t d e = cc e

-- inside a label
abbrev inside : Spot → Bool
inside BeforeRun = false
inside InRun = true
inside AfterOne = false
inside InDashes = true
inside NoName = false

abbrev IsInside : Spot → Type 0
IsInside s = inside s ≡ true

abbrev AtEnd : Spot → Type 0
AtEnd s = ends_run s ≡ true

stays : (s : Spot) (b : ℕ) → is_host_byte b ≡ true → IsInside s → IsInside (next_label s b)
stays s b h i = go s i (is_ascii_alphanumeric b) refl (b == dash) refl h
  where
    go : (s : Spot) → IsInside s → (a : Bool) → is_ascii_alphanumeric b ≡ a → (m : Bool) → (b == dash) ≡ m → (is_ascii_alphanumeric b || (b == dash)) ≡ true → IsInside (next_label s b)
    go BeforeRun i a e m f h = cc i
    go InRun i true e m f h = rw e refl
    go InRun i false e true f h = rw (e, f) refl
    go InRun i false e false f h = let clash : false ≡ true = sym (rw (e, f) refl) ∙ h in cc clash
    go AfterOne i a e m f h = cc i
    go InDashes i true e m f h = rw e refl
    go InDashes i false e true f h = rw (e, f) refl
    go InDashes i false e false f h = let clash : false ≡ true = sym (rw (e, f) refl) ∙ h in cc clash
    go NoName i a e m f h = cc i

ends : (s : Spot) (b : ℕ) → is_ascii_alphanumeric b ≡ true → IsInside s → AtEnd (next_label s b)
ends BeforeRun b h i = cc i
ends InRun b h i = rw h refl
ends AfterOne b h i = cc i
ends InDashes b h i = rw h refl
ends NoName b h i = cc i

abbrev IsBefore : Spot → Type 0
IsBefore s = s ≡ BeforeRun

starts : (s : Spot) (b : ℕ) → is_ascii_alphanumeric b ≡ true → IsBefore s → AtEnd (next_label s b)
starts s b h e = rw (e, h) refl

starts_inside : (s : Spot) (b : ℕ) → is_ascii_alphanumeric b ≡ true → IsBefore s → IsInside (next_label s b)
starts_inside s b h e = rw (e, h) refl

over_label : (t : List ℕ) → IsDomainComponent t → AtEnd (fold next_label BeforeRun t)
over_label t (inl h) = run_one next_label is_ascii_alphanumeric IsBefore AtEnd starts t h BeforeRun refl
over_label t (inr (first, middle, last, f, m, l, e)) =
    subst (λ z. AtEnd (fold next_label BeforeRun z)) (sym e)
    (run_append next_label IsBefore IsInside AtEnd (first ++ middle) last
    (run_append next_label IsBefore IsInside IsInside first middle (run_one next_label is_ascii_alphanumeric IsBefore IsInside starts_inside first f) (run_class next_label is_host_byte IsInside stays middle m))
    (run_one next_label is_ascii_alphanumeric IsInside AtEnd ends last l) BeforeRun refl)

host_label : Tells is_host_label IsDomainComponent
unfolding is_host_label
host_label t = (label_whole (fold next_label BeforeRun t) t (run_describes next_label LabelSays label_keeps [] t BeforeRun refl), over_label t)

label_lacks : (mark : ℕ) → is_ascii_alphanumeric mark ≡ false → is_host_byte mark ≡ false → (t : List ℕ) → IsDomainComponent t → Lacks mark t
label_lacks mark out off t (inl h) = lacks_one is_ascii_alphanumeric mark out t h
label_lacks mark out off t (inr (first, middle, last, f, m, l, e)) =
    subst (Lacks mark) (sym e)
    (lacks_append mark (first ++ middle) last (lacks_append mark first middle (lacks_one is_ascii_alphanumeric mark out first f) (lacks_in is_host_byte mark off middle m)) (lacks_one is_ascii_alphanumeric mark out last l))

host_tells : Tells is_host IsHost
host_tells = joined_tells dot (part_of HostLabel) IsDomainComponent host_label (label_lacks dot refl refl)

dot_lacks : (s : List ℕ) → IsMark dot s → Lacks colon s
dot_lacks s e = subst (Lacks colon) (sym e) (lacks_in (λ b. b == dot) colon refl (dot ∷ []) refl)

to_domain : (t : List ℕ) → IsExtended colon IsHost (IsSomeOf is_ascii_digit) t → IsDomain t
to_domain t (inl h) = inl h
to_domain t (inr p) = inr (record { host = p.front; port = p.back; is_host = p.is_front; is_port = p.is_back; spelled = p.spelled })

from_domain : (t : List ℕ) → IsDomain t → IsExtended colon IsHost (IsSomeOf is_ascii_digit) t
from_domain t (inl h) = inl h
from_domain t (inr p) = inr (record { front = p.host; back = p.port; spelled = p.spelled; is_front = p.is_host; is_back = p.is_port })

pub domain : Tells is_domain IsDomain
domain t =
    Decides-like (is_domain t) (to_domain t) (from_domain t)
    (extended_tells colon is_host (is_some_of is_ascii_digit) IsHost (IsSomeOf is_ascii_digit) host_tells (some_tells is_ascii_digit)
    (lacks_joined colon (IsMark dot) IsDomainComponent dot_lacks (label_lacks colon refl refl)) t)
