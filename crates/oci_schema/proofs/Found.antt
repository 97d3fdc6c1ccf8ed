-- What the pointer of a violation finds.
use Rattle.std.proofs.Common.{◌≡◌, ℕ, List, [], ◌∷◌, ◌++◌, true, Some, is_some, option_and_then, refl, sym, ap, ◌∙◌, append-nil}
use Rattle.std.specs.List.{All}
use Rattle.std.proofs.lemmas.List.Elements.{All-contains_itself}
use Rattle.serde_json.specs.Data.{Data, null, boolean, number, string, array, object}
use Rattle.serde_json.specs.Find.{get, get_member, step, walk, pointer}
use Rattle.serde_json.proofs.Paths.{walk_part, walk_last}
use Rattle.oci_model.specs.Means.{is_object}
use Rattle.oci_model.specs.Shape.{Shape}
use Rattle.oci_schema.specs.Leads.{Step, to_member, spelled, Goes, IsOrderly}
use Rattle.oci_schema.specs.Places.{escaped, under_name}
use Rattle.oci_schema.specs.Violations.{Expectation, a_value, a_member, no_alias, violations}
use Rattle.oci_schema.specs.Wants.{Wants, IsWrong, Finds}
use Rattle.oci_schema.proofs.Complete.{has_members}
use Rattle.oci_schema.proofs.Pointers.{token, tokens, spelled_tokens, name_lacks, name_back, took, reads}
use Rattle.oci_schema.proofs.Sound.{listed_is}
use Rattle.oci_schema.proofs.Ways.{spelled_on, goes}

-- ---- one step on, to a member that may be missing

step_gets : (name : List ℕ) (d : Data) → is_object d ≡ true → step (escaped name) d ≡ get name d
step_gets name null is = cc
step_gets name (boolean b) is = cc
step_gets name (number n) is = cc
step_gets name (string t) is = cc
step_gets name (array ds) is = cc
step_gets name (object ms) is = ap (λ t. get_member t ms) (name_back name)

-- what follows the first slash
abbrev after : List Step → List ℕ → List ℕ
after [] name = escaped name ++ []
after (x ∷ way) name = token x ++ tokens (way ++ to_member name ∷ [])

begins : (way : List Step) (name : List ℕ) → tokens (way ++ to_member name ∷ []) ≡ 47 ∷ after way name
begins [] name = refl
begins (x ∷ way) name = refl

gets_on : (way : List Step) (d outer : Data) (name : List ℕ) → IsOrderly d → Goes way d outer → is_object outer ≡ true → walk [] (after way name) d ≡ get name outer
gets_on [] d outer name orderly same is =
    ap (λ t. walk [] t d) (append-nil (escaped name)) ∙ walk_last (escaped name) d (name_lacks name) ∙ ap (step (escaped name)) same ∙ step_gets name outer is
gets_on (x ∷ way) d outer name orderly goes is =
    let (lacks, rest) = took x way d outer orderly goes in
    let (c, there, inner, more) = rest in
    ap (λ t. walk [] (token x ++ t) d) (begins way name) ∙ walk_part (token x) (after way name) d lacks ∙ ap (option_and_then (walk [] (after way name))) there
    ∙ gets_on way c outer name inner more is

gets : (way : List Step) (d outer : Data) (name : List ℕ) → IsOrderly d → Goes way d outer → is_object outer ≡ true → pointer (under_name (spelled [] way) name) d ≡ get name outer
gets way d outer name orderly goes is =
    ap (λ t. pointer t d) (sym (spelled_on way (to_member name ∷ []) []) ∙ spelled_tokens (way ++ to_member name ∷ []) [] ∙ begins way name) ∙ gets_on way d outer name orderly goes is

leads_to : (way : List Step) (d part : Data) → IsOrderly d → Goes way d part → pointer (spelled [] way) d ≡ Some part
leads_to way d part orderly goes = ap (λ t. pointer t d) (spelled_tokens way []) ∙ reads way d part orderly goes

-- ---- violations

finds : (way : List Step) (s t : Shape) (d part : Data) (at : List ℕ) (x : Expectation) → IsOrderly d → Wants s d way t part → IsWrong t part (spelled [] way) at x → Finds d at x
finds way s t d part at (a_value k) orderly wants wrong =
    let (e, h, bad) = wrong in
    (part, ap (λ p. pointer p d) e ∙ leads_to way d part orderly (goes way s t d part wants), bad)
finds way s t d part at (a_member k) orderly wants wrong =
    let (name, alias, u, lists, e, h, is, absent, none) = wrong in
    let on = goes way s t d part wants in
    (spelled [] way, name, part, e, leads_to way d part orderly on, is, ap (λ p. pointer p d) e ∙ gets way d part name orderly on is ∙ absent)
finds way s t d part at (no_alias alias) orderly wants wrong =
    let (name, presence, u, lists, e, this, that) = wrong in
    let on = goes way s t d part wants in
    let is = has_members name part this in
    (spelled [] way, name, e, ap (λ p. is_some (pointer p d)) e ∙ ap is_some (gets way d part name orderly on is) ∙ this, ap is_some (gets way d part alias orderly on is) ∙ that)

pub each_finds : (s : Shape) (d : Data) → IsOrderly d → All (λ x. Finds d x.0 x.1) (violations s [] d)
each_finds s d orderly = λ k x less.
    let (way, t, part, wants, wrong) = listed_is s [] d _ (All-contains_itself (violations s [] d) k x less) in
    finds way s t d part _ _ orderly wants wrong
