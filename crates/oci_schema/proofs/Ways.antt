-- The pointer of each violation leads to what is reported of it.
use Rattle.std.proofs.Common.{◌≡◌, inl, inr, ℕ, List, [], ◌∷◌, ◌++◌, Some, Ordering, Less, Equal, Greater, nat_cmp, refl, sym, subst}
use Rattle.std.specs.List.{All}
use Rattle.std.specs.Ordering.{match_ordering}
use Rattle.std.specs.Cmp.Lexicographic.{slice_cmp}
use Rattle.std.proofs.lemmas.List.Elements.{All-contains_itself}
use Rattle.std.proofs.lemmas.Map.Lookups.{exact_bytes}
use Rattle.serde_json.specs.Data.{Data, null, boolean, number, string, array, object, Members, no_members, member}
use Rattle.serde_json.specs.Find.{get, get_member}
use Rattle.oci_model.specs.Shape.{Shape}
use Rattle.oci_schema.specs.Leads.{Step, to_member, to_item, spelled, Have, HasMember, Goes, LeadsTo, HoldsAt, IsSo}
use Rattle.oci_schema.specs.Places.{under_name, under_index}
use Rattle.oci_schema.specs.Violations.{Expectation, Report, a_value, a_member, no_alias, violations}
use Rattle.oci_schema.specs.Wants.{StepsTo, Wants, IsWrong, IsViolation}
use Rattle.oci_schema.proofs.Complete.{has_members}
use Rattle.oci_schema.proofs.Sound.{listed_is}

-- ---- ways

pub spelled_on : (way more : List Step) (at : List ℕ) → spelled at (way ++ more) ≡ spelled (spelled at way) more
spelled_on [] more at = refl
spelled_on (to_member name ∷ way) more at = spelled_on way more (under_name at name)
spelled_on (to_item i ∷ way) more at = spelled_on way more (under_index at i)

-- ---- what is found under a name is a member

have_by : (name k : List ℕ) (d c : Data) (ms : Members) (o : Ordering) → slice_cmp nat_cmp name k ≡ o → (get_member name ms ≡ Some c → Have ms name c)
    → match_ordering o (get_member name ms) (Some d) (get_member name ms) ≡ Some c → Have (member k d ms) name c
have_by name k d c ms Less is rest e = inr (rest e)
have_by name k d c ms Equal is rest e = inl (exact_bytes name k is, cc)
have_by name k d c ms Greater is rest e = inr (rest e)

have : (name : List ℕ) (ms : Members) (c : Data) → get_member name ms ≡ Some c → Have ms name c
have name no_members c e = cc
have name (member k d ms) c e = have_by name k d c ms (slice_cmp nat_cmp name k) refl (λ h. have name ms c h) e

pub has : (name : List ℕ) (d c : Data) → get name d ≡ Some c → HasMember d name c
has name null c e = cc
has name (boolean b) c e = cc
has name (number n) c e = cc
has name (string s) c e = cc
has name (array ds) c e = cc
has name (object ms) c e = (ms, refl, have name ms c e)

-- ---- a way to a part of which a shape is wanted

step_goes : (step : Step) (s t : Shape) (d c : Data) → StepsTo s d step t c → Goes (step ∷ []) d c
step_goes (to_item i) s t d c steps = (c, steps.1, refl)
step_goes (to_member key) s t d c (inl steps) = (c, steps.1, refl)
step_goes (to_member key) s t d c (inr (name, alias, presence, lists, under, counts)) = (c, has key d c under.0, refl)

pub goes : (way : List Step) (s t : Shape) (d part : Data) → Wants s d way t part → Goes way d part
goes [] s t d part (same, is) = sym is
goes (to_item i ∷ way) s t d part (u, c, steps, wants) = (c, steps.1, goes way u t c part wants)
goes (to_member key ∷ way) s t d part (u, c, steps, wants) = (c, on, goes way u t c part wants)
  where
    on : HasMember d key c
    on = let (b, there, same) = step_goes (to_member key) s u d c steps in subst (HasMember d key) same there

-- ---- what is wrong is so

leads : (way : List Step) (s t : Shape) (d part : Data) → Wants s d way t part → LeadsTo d (spelled [] way) part
leads way s t d part wants = (way, refl, goes way s t d part wants)

wrong_so : (way : List Step) (s t : Shape) (d part : Data) (at : List ℕ) (x : Expectation) → Wants s d way t part → IsWrong t part (spelled [] way) at x → HoldsAt d at x
wrong_so way s t d part at (a_value k) wants (e, h, bad) = (part, subst (λ p. LeadsTo d p part) (sym e) (leads way s t d part wants), bad)
wrong_so way s t d part at (a_member k) wants (name, alias, u, lists, e, h, is, absent, none) =
    (name, part, (spelled [] way, sym e, leads way s t d part wants, is), absent)
wrong_so way s t d part at (no_alias alias) wants (name, presence, u, lists, e, this, that) =
    (name, part, (spelled [] way, sym e, leads way s t d part wants, has_members name part this), this, that)

is_so : (s : Shape) (d : Data) (x : Report) → IsViolation s d x → IsSo d x
is_so s d x (way, t, part, wants, wrong) = wrong_so way s t d part x.0 x.1 wants wrong

pub each_is_so : (s : Shape) (d : Data) → All (IsSo d) (violations s [] d)
each_is_so s d = λ k x less. is_so s d _ (listed_is s [] d _ (All-contains_itself (violations s [] d) k x less))
