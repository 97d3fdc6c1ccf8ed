-- What the findings in a value say of the bytes that it was read from.
use Rattle.std.proofs.Common.{◌≡◌, ℕ, List, [], ◌++◌, length, true, false, codes, Option, Some, None, ap, inl, inr, subst, sym, ◌∙◌, Result, Ok, Err}
use Rattle.std.specs.Prelude.{◌↔◌, ◌&&◌, not, if◌then◌else◌, IfOk, IfSome}
use Rattle.std.specs.List.{filter}
use Rattle.serde_json.specs.Data.{Data}
use Rattle.oci_model.specs.Plain.{Plain}
use Rattle.oci_model.specs.Means.{Means}
use Rattle.oci_json.specs.Engines.{ReadsAs, IsNoJson}
use Rattle.oci_schemas.specs.declared.kind.Kind.{Kind}
use Rattle.oci_schemas.specs.Kinds.{shape_of}
use Rattle.oci_schema.specs.Unknown.{unknown}
use Rattle.oci_rules.specs.Listed.{all_broken}
use Rattle.oci_rules.specs.Rules.{Rule}
use Rattle.oci_findings.specs.declared.finding.Finding.{Finding}
use Rattle.oci_findings.specs.Asked.{denies, denies_if, ignores}
use Rattle.oci_findings.specs.Checks.{HasKeysOnce, HasNoKind, HasShape, IsAllowed, IsAsked, IsKindIn, IsOpen, IsPassedOver, IsRight, IsRightValue, IsWrong, counted, denied, is_error, platform_asked, rules_for, rules_if}
use Rattle.oci_findings.specs.FoundKind.{kind_for}
use Rattle.oci_findings.specs.declared.asked.Check.{Check}
use Rattle.oci_findings.specs.declared.asked.Unknown.TheVariants.{Allow}

one_value : (bytes : List ℕ) (d e : Data) → ReadsAs bytes d → ReadsAs bytes e → e ≡ d
one_value bytes d e is was = let k = was.1 in let j = is.1 in cc

no_value : (bytes : List ℕ) (d : Data) → IsNoJson bytes → ReadsAs bytes d → ⊥
no_value bytes d none is = let e = none is.0 in let k = is.1 in cc

one_kind : (asked : Option Kind) (name : List ℕ) (d e : Data) (kind other : Kind) → e ≡ d → IsAsked asked name d kind → IsAsked asked name e other → other ≡ kind
one_kind asked name d e kind other same is was =
    let both : Some other ≡ Some kind = sym was ∙ (ap (kind_for asked name) same ∙ is) in
    cc

-- ---- what bytes hold

-- the kind of a value that was read
pub kind_read : (asked : Option Kind) (name bytes : List ℕ) (d : Data) (found : Option Kind) (kind : Kind) → ReadsAs bytes d → found ≡ Some kind → found ≡ kind_for asked name d → IsAsked asked name d kind × ReadsAs bytes d
kind_read asked name bytes d found kind reads is of = (sym of ∙ is, reads)

pub no_kind_read : (asked : Option Kind) (name bytes : List ℕ) (d : Data) (found : Option Kind) → ReadsAs bytes d → found ≡ None → found ≡ kind_for asked name d → HasNoKind asked name bytes
no_kind_read asked name bytes d found reads is of = inr (d, reads, sym of ∙ is)

pub no_json_read : (asked : Option Kind) (name bytes : List ℕ) → IsNoJson bytes → HasNoKind asked name bytes
no_json_read asked name bytes none = inl none

-- the bytes hold one value
pub asked_at : (asked : Option Kind) (name bytes : List ℕ) (d e : Data) (kind : Kind) → ReadsAs bytes d → ReadsAs bytes e → IsAsked asked name d kind → IsAsked asked name e kind
asked_at asked name bytes d e kind reads was is = subst (λ x. IsAsked asked name x kind) (sym (one_value bytes d e reads was)) is

-- the kind of the bytes that were read
pub kind_in : (asked : Option Kind) (name bytes : List ℕ) (d : Data) (kind : Kind) → ReadsAs bytes d → IsAsked asked name d kind → IsKindIn asked name (Some bytes) kind
kind_in None name bytes d kind reads is = (d, reads, is)
kind_in (Some k) name bytes d kind reads is = cc

-- the same of the bytes of a file, where they are known
pub kind_held : (asked : Option Kind) (name : List ℕ) (known : Option (List ℕ)) (bytes : List ℕ) (kind : Kind) → IfSome known (λ b. bytes ≡ b) → IsKindIn asked name (Some bytes) kind → IsKindIn asked name known kind
kind_held (Some k) name known bytes kind same is = is
kind_held None name None bytes kind same is = tt
kind_held None name (Some b) bytes kind same is = subst (λ q. IsKindIn None name (Some q) kind) same is

-- what has a kind is not open
kind_is_found : (asked : Option Kind) (name bytes : List ℕ) (d : Data) (kind : Kind) → IsAsked asked name d kind → ReadsAs bytes d → IsOpen asked name bytes → ⊥
kind_is_found asked name bytes d kind is reads (e, was, none) =
    let same : e ≡ d = one_value bytes d e reads was in
    let both : None ≡ Some kind = sym none ∙ (ap (kind_for asked name) same ∙ is) in
    cc

-- what has no kind is no document of one
no_document : (asked : Option Kind) (name bytes : List ℕ) (d : Data) (kind : Kind) → HasNoKind asked name bytes → IsAsked asked name d kind → ReadsAs bytes d → ⊥
no_document asked name bytes d kind (inl none) is reads = no_value bytes d none reads
no_document asked name bytes d kind (inr found) is reads = kind_is_found asked name bytes d kind is reads found

pub not_allowed : (asked : Option Kind) (name bytes : List ℕ) → HasNoKind asked name bytes → ¬ IsAllowed asked name bytes
not_allowed asked name bytes none (kind, d, is, reads, means) = no_document asked name bytes d kind none is reads

-- ---- schemas

-- there are no findings: the bytes are a document of the kind
pub allowed_of : (asked : Option Kind) (name bytes : List ℕ) (kind : Kind) (d : Data) (xs : List Finding) → IsAsked asked name d kind → ReadsAs bytes d → (xs ≡ []) ↔ ((p : Plain) × Means (shape_of kind) d p) → xs ≡ []
    → IsAllowed asked name bytes
allowed_of asked name bytes kind d xs is reads h e = (kind, d, is, reads, h.0 e)

-- they are such a document: there are none
pub none_of : (asked : Option Kind) (name bytes : List ℕ) (kind : Kind) (d : Data) (xs : List Finding) → IsAsked asked name d kind → ReadsAs bytes d → (xs ≡ []) ↔ ((p : Plain) × Means (shape_of kind) d p)
    → IsAllowed asked name bytes → xs ≡ []
none_of asked name bytes kind d xs is reads h (other, e, asks, was, (p, means)) =
    let same : e ≡ d = one_value bytes d e reads was in
    h.1 (p, subst (λ x. Means (shape_of kind) x p) same (subst (λ k. Means (shape_of k) e p) (one_kind asked name d e kind other same is asks) means))

pub none_of_no_kind : (asked : Option Kind) (name bytes : List ℕ) (xs : List Finding) → HasNoKind asked name bytes → IsAllowed asked name bytes → xs ≡ []
none_of_no_kind asked name bytes xs none allowed = absurd (not_allowed asked name bytes none allowed)

-- ---- all that is asked

-- what holds in any case
pub in_any : {A E : Type 0} (r : Result A E) {P : A → Type 0} → ((x : A) → P x) → IfOk r P
in_any (Ok x) h = h x
in_any (Err e) h = tt

pub shape_ignored : (a : Check) (kind : Kind) (d : Data) (xs : List Finding) → ignores a (codes "schema") ≡ true → xs ≡ [] → (xs ≡ []) ↔ HasShape a kind d
shape_ignored a kind d xs ignored none = ((λ e asked. absurd (let both : true ≡ false = sym ignored ∙ asked in cc)), (λ h. none))

pub shape_asked : (a : Check) (kind : Kind) (d : Data) (xs : List Finding) → ignores a (codes "schema") ≡ false → (xs ≡ []) ↔ ((p : Plain) × Means (shape_of kind) d p) → (xs ≡ []) ↔ HasShape a kind d
shape_asked a kind d xs asked h = ((λ e same. h.0 e), (λ f. h.1 (f asked)))

pub all_denied : (a : Check) (kind : Kind) (d : Data) (n : ℕ) → denies a ≡ true → n ≡ length (unknown (shape_of kind) [] d) → n ≡ length (denied a kind d)
all_denied a kind d n denied_all e = e ∙ ap (λ b. length (if b then unknown (shape_of kind) [] d else [])) (sym denied_all)

pub none_denied : (a : Check) (kind : Kind) (d : Data) (n : ℕ) → denies a ≡ false → n ≡ 0 → n ≡ length (denied a kind d)
none_denied a kind d n allowed e = e ∙ ap (λ b. length (if b then unknown (shape_of kind) [] d else [])) (sym allowed)

-- nothing is asked but the schema
pub alone : (books : Kind → List Rule) (a : Check) (kind : Kind) (d : Data) → a.rules ≡ false → a.policy.now ≡ [] → a.unknown ≡ Allow → ((p : Plain) × Means (shape_of kind) d p) → IsRightValue books a kind d
alone books a kind d no_rules no_policy allowed means =
    let counts : counted books a kind d ≡ [] =
    ap (λ r. filter (λ x. is_error a x.0) (all_broken (rules_if r (books kind) ++ rules_for kind a.policy.now) (platform_asked a.platform d) d)) no_rules
    ∙ ap (λ p. filter (λ x. is_error a x.0) (all_broken ([] ++ rules_for kind p) (platform_asked a.platform d) d)) no_policy in
    let listed : denied a kind d ≡ [] = ap (λ u. if denies_if u a.strict && not (ignores a (codes "unknown")) then unknown (shape_of kind) [] d else []) allowed in
    ((λ no. means), (counts, listed))

pub right_of : (books : Kind → List Rule) (a : Check) (name bytes : List ℕ) (kind : Kind) (d : Data) (xs : List Finding) → IsAsked a.kind name d kind → ReadsAs bytes d → (xs ≡ []) ↔ (IsRightValue books a kind d × HasKeysOnce a kind bytes) → xs ≡ []
    → IsRight books a name bytes
right_of books a name bytes kind d xs is reads h e = let (holds, once) = h.0 e in inl (kind, d, is, reads, holds, once)

pub wrong_of : (books : Kind → List Rule) (a : Check) (name bytes : List ℕ) (kind : Kind) (d : Data) (xs : List Finding) → IsAsked a.kind name d kind → ReadsAs bytes d → (xs ≡ []) ↔ (IsRightValue books a kind d × HasKeysOnce a kind bytes) → ¬ (xs ≡ [])
    → IsWrong books a name bytes
wrong_of books a name bytes kind d xs is reads h some (inr (skips, none)) = kind_is_found a.kind name bytes d kind is reads none
wrong_of books a name bytes kind d xs is reads h some (inl (other, e, asks, was, holds, once)) =
    let same : e ≡ d = one_value bytes d e reads was in
    let one : other ≡ kind = one_kind a.kind name d e kind other same is asks in
    some (h.1 (subst (λ x. IsRightValue books a kind x) same (subst (λ k. IsRightValue books a k e) one holds), subst (λ k. HasKeysOnce a k bytes) one once))

pub wrong_of_no_kind : (books : Kind → List Rule) (a : Check) (name bytes : List ℕ) → HasNoKind a.kind name bytes → ¬ IsPassedOver a name bytes → IsWrong books a name bytes
wrong_of_no_kind books a name bytes none over (inl (kind, d, is, reads, holds, once)) = no_document a.kind name bytes d kind none is reads
wrong_of_no_kind books a name bytes none over (inr passed) = over passed

-- ---- what is passed over

pub passed_over : (books : Kind → List Rule) (a : Check) (name bytes : List ℕ) → IsPassedOver a name bytes → IsRight books a name bytes
passed_over books a name bytes h = inr h

pub open_read : (a : Check) (name bytes : List ℕ) (d : Data) (found : Option Kind) → a.skip_unknown ≡ true → ReadsAs bytes d → found ≡ None → found ≡ kind_for a.kind name d → IsPassedOver a name bytes
open_read a name bytes d found skips reads is of = (skips, (d, reads, sym of ∙ is))

pub not_open_of_kind : (a : Check) (name bytes : List ℕ) (d : Data) (found : Option Kind) (kind : Kind) → ReadsAs bytes d → found ≡ Some kind → found ≡ kind_for a.kind name d → ¬ IsPassedOver a name bytes
not_open_of_kind a name bytes d found kind reads is of (skips, none) = kind_is_found a.kind name bytes d kind (sym of ∙ is) reads none

pub not_open_of_no_json : (a : Check) (name bytes : List ℕ) → IsNoJson bytes → ¬ IsPassedOver a name bytes
not_open_of_no_json a name bytes none (skips, (d, reads, found)) = no_value bytes d none reads

pub not_asked_to : (a : Check) (name bytes : List ℕ) → a.skip_unknown ≡ false → ¬ IsPassedOver a name bytes
not_asked_to a name bytes asked (skips, found) = let both : true ≡ false = sym skips ∙ asked in cc
