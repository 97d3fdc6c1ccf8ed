-- Where the parts of a value are.
use Rattle.std.proofs.Common.{◌≡◌, ℕ, List, [], ◌∷◌, ◌++◌, refl, sym, ap, ◌∙◌, subst}
use Rattle.serde_json.specs.Data.{Data, Members}
use Rattle.oci_schema.specs.Places.{under_name, under_index}
use Rattle.oci_schema.specs.Leads.{Step, to_member, to_item, spelled, Have, HasMember, HasItem, Goes, LeadsTo}
use Rattle.oci_schema.proofs.Ways.{spelled_on}

goes_on : (way more : List Step) (d c part : Data) → Goes way d c → Goes more c part → Goes (way ++ more) d part
goes_on [] more d c part e after = subst (λ x. Goes more x part) (sym e) after
goes_on (to_member name ∷ way) more d c part goes after = let (b, has, then) = goes in (b, has, goes_on way more b c part then after)
goes_on (to_item i ∷ way) more d c part goes after = let (b, has, then) = goes in (b, has, goes_on way more b c part then after)

pub to_itself : (root : Data) → LeadsTo root [] root
to_itself root = ([], refl, refl)

one_step : (root d c : Data) (place : List ℕ) (step : Step) → LeadsTo root place d → Goes (step ∷ []) d c → LeadsTo root (spelled place (step ∷ [])) c
one_step root d c place step leads goes =
    let (way, is, before) = leads in
    (way ++ step ∷ [], spelled_on way (step ∷ []) [] ∙ ap (λ p. spelled p (step ∷ [])) is, goes_on way (step ∷ []) root d c before goes)

pub member_step : (root d c : Data) (place name : List ℕ) → LeadsTo root place d → HasMember d name c → LeadsTo root (under_name place name) c
member_step root d c place name leads has = one_step root d c place (to_member name) leads (c, has, refl)

pub item_step : (root d c : Data) (place : List ℕ) (i : ℕ) → LeadsTo root place d → HasItem d i c → LeadsTo root (under_index place i) c
item_step root d c place i leads has = one_step root d c place (to_item i) leads (c, has, refl)

-- ---- members among others

abbrev pub AreAmong : Members → Members → Type 0
AreAmong ms all = (name : List ℕ) (c : Data) → Have ms name c → Have all name c
