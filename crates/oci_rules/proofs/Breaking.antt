-- What is listed is what breaks the rules.
use Rattle.std.proofs.Common.{◌≡◌, inl, inr, ℕ, ◌+◌, List, [], ◌∷◌, ◌++◌, true, Option, Some, None, map, refl, sym, ap, ◌∙◌, subst, arith}
use Rattle.std.specs.Prelude.{◌↔◌, ◌⊎◌, IsTrue}
use Rattle.std.specs.List.{Contains}
use Rattle.std.proofs.lemmas.List.Elements.{Contains-append_right, Contains-append_cases}
use Rattle.serde_json.specs.Data.{Data, string, Items, Members, no_members, member}
use Rattle.serde_json.specs.Find.{as_array, as_object}
use Rattle.oci_schema.specs.Places.{under_name, under_index}
use Rattle.oci_schema.specs.Leads.{Have, HasMember}
use Rattle.oci_rules.specs.Rules.{Platform, Condition, Place, here, under, each_item, each_member, each_name, if_so, Rule}
use Rattle.oci_rules.specs.Platforms.{is_for}
use Rattle.oci_rules.specs.Parts.{present}
use Rattle.oci_rules.specs.Tests.{Passes}
use Rattle.oci_rules.specs.Breaks.{Told, Stands, Shows, Breaks, KeepsAll}
use Rattle.oci_rules.specs.Decided.{holds}
use Rattle.oci_rules.specs.Listed.{told_by, of_each_name, of_names, when, told_at, told_of, all_broken}
use Rattle.oci_rules.specs.Tables.{told}
use Rattle.oci_rules.specs.declared.rule.Broken.{Broken}
use Rattle.oci_rules.proofs.Deciding.{holds_tells}
use Rattle.oci_schema.specs.EachPart.{of_each_member, of_members}
use Rattle.oci_schema.proofs.EachPart.{nothing_in, no_some, one_in, in_both, back_members, Claim as ClaimOf, Tells, InEach, part_in, items_in}
use Rattle.oci_rules.proofs.Found.{first_in, none_if, none_of, in_when}
use Rattle.oci_rules.proofs.Telling.{Fails, law}

abbrev Listing : Type 0
Listing = List ℕ → Data → List Told

abbrev Claim : Type 1
Claim = ClaimOf Told

-- ---- each member, by its value or by its name

abbrev InMembers : (List ℕ → Data → Told → Type 0) → Members → Told → Type 0
InMembers C ms x = (name : List ℕ) × (c : Data) × Have ms name c × C name c x

-- by what is listed of each member
members_in : (g : List ℕ → Data → List Told) (C : List ℕ → Data → Told → Type 0) (all : Members → List Told) → all no_members ≡ []
    → ((k : List ℕ) (d : Data) (ms : Members) → all (member k d ms) ≡ g k d ++ all ms) → ((k : List ℕ) (d : Data) (x : Told) → Contains (g k d) x ↔ C k d x) → (ms : Members) (x : Told)
    → Contains (all ms) x ↔ InMembers C ms x
members_in g C all none more is no_members x = ((λ h. nothing_in x (subst (λ (xs : List Told). Contains xs x) none h)), (λ h. let (name, c, have, so) = h in absurd have))
members_in g C all none more is (member k d ms) x =
    let both = in_both (g k d) (all ms) x (C k d x) (InMembers C ms x) (is k d x) (members_in g C all none more is ms x) in
    ((λ h. joined (both.0 (subst (λ (xs : List Told). Contains xs x) (more k d ms) h))), (λ h. subst (λ (xs : List Told). Contains xs x) (sym (more k d ms)) (both.1 (split h))))
  where
    joined : C k d x ⊎ InMembers C ms x → InMembers C (member k d ms) x
    joined (inl h) = (k, d, inl (refl, refl), h)
    joined (inr h) = let (name, c, have, so) = h in (name, c, inr have, so)

    split : InMembers C (member k d ms) x → C k d x ⊎ InMembers C ms x
    split (name, c, inl same, so) = inl (subst (λ n. C n d x) same.0 (subst (λ b. C name b x) same.1 so))
    split (name, c, inr have, so) = inr (name, c, have, so)

-- ---- places

-- so of a part that stands at the place
abbrev pub SoAt : Data → Place → Claim → Claim
SoAt root p C at d x = (there : List ℕ) × (part : Data) × Stands root p at d there part × C there part x

object_in : (g : List ℕ → Data → List Told) (C : List ℕ → Data → Told → Type 0) (all : Members → List Told) (of : Option Members → List Told) → of None ≡ []
    → ((ms : Members) → of (Some ms) ≡ all ms) → ((ms : Members) (x : Told) → Contains (all ms) x ↔ InMembers C ms x) → (o : Option Members) (x : Told)
    → Contains (of o) x ↔ ((ms : Members) × (o ≡ Some ms) × InMembers C ms x)
object_in g C all of none some is None x = ((λ h. nothing_in x (subst (λ (xs : List Told). Contains xs x) none h)), (λ h. let (ms, e, so) = h in no_some ms e))
object_in g C all of none some is (Some ms) x =
    ((λ h. (ms, refl, (is ms x).0 (subst (λ (xs : List Told). Contains xs x) (some ms) h))), (λ h. subst (λ (xs : List Told). Contains xs x) (sym (some ms)) (back h)))
  where
    back : (ns : Members) × (Some ms ≡ Some ns) × InMembers C ns x → Contains (all ms) x
    back h =
        let (ns, e, so) = h in
        let same : ns ≡ ms = back_members ns ms e in
        (is ms x).1 (subst (λ (z : Members). InMembers C z x) same so)

abbrev Below : Data → Place → Listing → Claim → Type 0
Below root p f C = Tells (told_at root p f) (SoAt root p C)

here_in : (root : Data) (f : Listing) (C : Claim) → Tells f C → Below root here f C
here_in root f C is at d x = ((λ h. (at, d, (refl, refl), (is at d x).0 h)), (λ h. back h))
  where
    back : SoAt root here C at d x → Contains (f at d) x
    back h = let (there, part, same, so) = h in (is at d x).1 (subst (λ b. C at b x) same.1 (subst (λ a. C a part x) same.0 so))

under_in : (root : Data) (name : List ℕ) (p : Place) (f : Listing) (C : Claim) → Below root p f C → Below root (under name p) f C
under_in root name p f C below at d x =
    let all = part_in (told_at root p f) (SoAt root p C) below (under_name at name) (present name d) x in
    ((λ h. there (all.0 h)), (λ h. all.1 (back h)))
  where
    there : (c : Data) × (present name d ≡ Some c) × SoAt root p C (under_name at name) c x → SoAt root (under name p) C at d x
    there h = let (c, e, inner) = h in let (shown, part, stands, so) = inner in (shown, part, (c, e, stands), so)

    back : SoAt root (under name p) C at d x → (c : Data) × (present name d ≡ Some c) × SoAt root p C (under_name at name) c x
    back h = let (shown, part, way, so) = h in let (c, e, stands) = way in (c, e, (shown, part, stands, so))

item_in : (root : Data) (p : Place) (f : Listing) (C : Claim) → Below root p f C → Below root (each_item p) f C
item_in root p f C below at d x =
    let all = items_in (told_at root p f) (SoAt root p C) below at (as_array d) x in
    ((λ h. there (all.0 h)), (λ h. all.1 (back h)))
  where
    there : (ds : Items) × (as_array d ≡ Some ds) × InEach (SoAt root p C) at 0 ds x → SoAt root (each_item p) C at d x
    there h =
        let (ds, e, each) = h in
        let (j, c, found, inner) = each in
        let z : 0 + j ≡ j = omega arith in
        let (shown, part, stands, so) = inner in
        (shown, part, (j, c, (ds, e, found), subst (λ n. Stands root p (under_index at n) c shown part) z stands), so)

    back : SoAt root (each_item p) C at d x → (ds : Items) × (as_array d ≡ Some ds) × InEach (SoAt root p C) at 0 ds x
    back h =
        let (shown, part, way, so) = h in
        let (j, c, has, stands) = way in
        let (ds, e, found) = has in
        let z : j ≡ 0 + j = omega arith in
        (ds, e, (j, c, found, (shown, part, subst (λ n. Stands root p (under_index at n) c shown part) z stands, so)))

-- by what is looked at of a member
abbrev Named : Data → Place → Claim → (List ℕ → Data → Data) → List ℕ → List ℕ → Data → Told → Type 0
Named root p C of at k c y = SoAt root p C (under_name at k) (of k c) y

abbrev NamedWay : Data → Place → Claim → (List ℕ → Data → Data) → List ℕ → Data → Told → Type 0
NamedWay root p C of at d x =
    (shown : List ℕ) × (part : Data) × ((name : List ℕ) × (c : Data) × HasMember d name c × Stands root p (under_name at name) (of name c) shown part) × C shown part x

named_in : (root : Data) (p : Place) (C : Claim) (of : List ℕ → Data → Data) (at : List ℕ) (d : Data) (x : Told)
    → ((ms : Members) × (as_object d ≡ Some ms) × InMembers (Named root p C of at) ms x) ↔ NamedWay root p C of at d x
named_in root p C of at d x = ((λ h. there h), (λ h. back h))
  where
    there : (ms : Members) × (as_object d ≡ Some ms) × InMembers (Named root p C of at) ms x → NamedWay root p C of at d x
    there h =
        let (ms, e, each) = h in
        let (name, c, have, inner) = each in
        let (shown, part, stands, so) = inner in
        (shown, part, (name, c, (ms, e, have), stands), so)

    back : NamedWay root p C of at d x → (ms : Members) × (as_object d ≡ Some ms) × InMembers (Named root p C of at) ms x
    back h =
        let (shown, part, way, so) = h in
        let (name, c, has, stands) = way in
        let (ms, e, have) = has in
        (ms, e, (name, c, have, (shown, part, stands, so)))

member_in : (root : Data) (p : Place) (f : Listing) (C : Claim) → Below root p f C → Below root (each_member p) f C
member_in root p f C below at d x =
    let g : List ℕ → Data → List Told = λ k c. told_at root p f (under_name at k) c in
    let D : List ℕ → Data → Told → Type 0 = Named root p C (λ k c. c) at in
    let each = members_in g D (of_each_member (told_at root p f) at) refl (λ k c ms. refl) (λ k c y. below (under_name at k) c y) in
    let all = object_in g D (of_each_member (told_at root p f) at) (of_members (told_at root p f) at) refl (λ ms. refl) each (as_object d) x in
    let same = named_in root p C (λ k c. c) at d x in
    ((λ h. same.0 (all.0 h)), (λ h. all.1 (same.1 h)))

name_in : (root : Data) (p : Place) (f : Listing) (C : Claim) → Below root p f C → Below root (each_name p) f C
name_in root p f C below at d x =
    let g : List ℕ → Data → List Told = λ k c. told_at root p f (under_name at k) (string k) in
    let D : List ℕ → Data → Told → Type 0 = Named root p C (λ k c. string k) at in
    let each = members_in g D (of_each_name (told_at root p f) at) refl (λ k c ms. refl) (λ k c y. below (under_name at k) (string k) y) in
    let all = object_in g D (of_each_name (told_at root p f) at) (of_names (told_at root p f) at) refl (λ ms. refl) each (as_object d) x in
    let same = named_in root p C (λ k c. string k) at d x in
    ((λ h. same.0 (all.0 h)), (λ h. all.1 (same.1 h)))

when_in : (root : Data) (c : Condition) (p : Place) (f : Listing) (C : Claim) → Below root p f C → Below root (if_so c p) f C
when_in root c p f C below at d x =
    let all = in_when (holds root c d) (told_at root p f at d) x in
    let inner = below at d x in
    ((λ h. let so = all.0 h in there so.0 (inner.0 so.1)), (λ h. let so = back h in all.1 (so.0, inner.1 so.1)))
  where
    there : holds root c d ≡ true → SoAt root p C at d x → SoAt root (if_so c p) C at d x
    there e h = let (shown, part, stands, so) = h in (shown, part, ((holds_tells root c d).0 e, stands), so)

    back : SoAt root (if_so c p) C at d x → (holds root c d ≡ true) × SoAt root p C at d x
    back h = let (shown, part, way, so) = h in ((holds_tells root c d).1 way.0, (shown, part, way.1, so))

place_in : (root : Data) (p : Place) (f : Listing) (C : Claim) → Tells f C → Below root p f C
place_in root here f C is = here_in root f C is
place_in root (under name p) f C is = under_in root name p f C (place_in root p f C is)
place_in root (each_item p) f C is = item_in root p f C (place_in root p f C is)
place_in root (each_member p) f C is = member_in root p f C (place_in root p f C is)
place_in root (each_name p) f C is = name_in root p f C (place_in root p f C is)
place_in root (if_so c p) f C is = when_in root c p f C (place_in root p f C is)

-- ---- rules

rule_in : (r : Rule) (d : Data) (x : Told) → Contains (told_of r d) x ↔ SoAt d r.place (Fails r.test r) [] d x
rule_in r d x = place_in d r.place (told_by r.test r) (Fails r.test r) (λ at part y. (law r.test r at part).1 y) [] d x

-- one of the rules is for the platform, and it fails of a part at its place
abbrev BreaksOne : List Rule → Platform → Data → Told → Type 0
BreaksOne rs p d x = (r : Rule) × Contains rs r × (is_for p r.platforms ≡ true) × SoAt d r.place (Fails r.test r) [] d x

which : (r : Rule) (rs : List Rule) (p : Platform) (d : Data) (x : Told) (q : Rule) → is_for p q.platforms ≡ true → SoAt d q.place (Fails q.test q) [] d x → Contains (r ∷ []) q ⊎ Contains rs q
    → ((is_for p r.platforms ≡ true) × Contains (told_of r d) x) ⊎ BreaksOne rs p d x
which r rs p d x q meant so (inl has) =
    let same : r ≡ q = one_in r q has in
    inl (subst (λ (z : Rule). (is_for p z.platforms ≡ true) × Contains (told_of z d) x) (sym same) (meant, (rule_in q d x).1 so))
which r rs p d x q meant so (inr has) = inr (q, has, meant, so)

rules_in : (rs : List Rule) (p : Platform) (d : Data) (x : Told) → Contains (all_broken rs p d) x ↔ BreaksOne rs p d x
rules_in [] p d x = ((λ h. nothing_in x h), (λ h. let (r, has, meant, so) = h in nothing_in r has))
rules_in (r ∷ rs) p d x =
    let one = in_when (is_for p r.platforms) (told_of r d) x in
    let both = in_both (when (is_for p r.platforms) (told_of r d)) (all_broken rs p d) x ((is_for p r.platforms ≡ true) × Contains (told_of r d) x) (BreaksOne rs p d x) one (rules_in rs p d x) in
    ((λ h. joined (both.0 h)), (λ h. both.1 (split h)))
  where
    joined : ((is_for p r.platforms ≡ true) × Contains (told_of r d) x) ⊎ BreaksOne rs p d x → BreaksOne (r ∷ rs) p d x
    joined (inl h) = (r, first_in r rs, h.0, (rule_in r d x).0 h.1)
    joined (inr h) = let (q, has, meant, so) = h in (q, Contains-append_right (r ∷ []) rs q has, meant, so)

    split : BreaksOne (r ∷ rs) p d x → ((is_for p r.platforms ≡ true) × Contains (told_of r d) x) ⊎ BreaksOne rs p d x
    split h = let (q, has, meant, so) = h in which r rs p d x q meant so (Contains-append_cases (r ∷ []) rs q has)

-- by the rule that is told
named : (rs : List Rule) (p : Platform) (d : Data) (x : Told) → BreaksOne rs p d x ↔ Breaks rs p d x
named rs p d x = ((λ h. there h), (λ h. back h))
  where
    there : BreaksOne rs p d x → Breaks rs p d x
    there h =
        let (r, has, meant, so) = h in
        let (at, part, stands, fails) = so in
        let (same, breaks, shown) = fails in
        subst (λ (q : Rule). Contains rs q × IsTrue (is_for p q.platforms) × ((a : List ℕ) × (c : Data) × Stands d q.place [] d a c × (Passes q.test c → ⊥) × Shows q.test a c x.1)) (sym same)
        (has, meant, (at, part, stands, breaks, shown))

    back : Breaks rs p d x → BreaksOne rs p d x
    back h =
        let (has, meant, so) = h in
        let (at, part, stands, breaks, shown) = so in
        (x.0, has, meant, (at, part, stands, (refl, breaks, shown)))

listed_in : (rs : List Rule) (p : Platform) (d : Data) (x : Told) → Contains (all_broken rs p d) x ↔ Breaks rs p d x
listed_in rs p d x =
    let one = rules_in rs p d x in
    let same = named rs p d x in
    ((λ h. same.0 (one.0 h)), (λ h. one.1 (same.1 h)))

-- nothing is listed exactly where each part passes
none_in : (rs : List Rule) (p : Platform) (d : Data) → (all_broken rs p d ≡ []) ↔ KeepsAll rs p d
none_in rs p d = ((λ e. keeps e), (λ h. none_if (all_broken rs p d) (λ x has. breaks h x ((listed_in rs p d x).0 has))))
  where
    keeps : all_broken rs p d ≡ [] → KeepsAll rs p d
    keeps e r has meant at part stands =
        (law r.test r at part).0.0
        (none_if (told_by r.test r at part) (λ x is. none_of (all_broken rs p d) x e ((rules_in rs p d x).1 (r, has, meant, (at, part, stands, ((law r.test r at part).1 x).0 is)))))

    breaks : KeepsAll rs p d → (x : Told) → Breaks rs p d x → ⊥
    breaks h x b =
        let (has, meant, so) = b in
        let (at, part, stands, fails, shown) = so in
        fails (h x.0 has meant at part stands)

nothing : (v : List Broken) → map told v ≡ [] → v ≡ []
nothing [] e = refl
nothing (x ∷ v) e = cc

-- ---- of the list that is made

pub exactly : (rs : List Rule) (p : Platform) (d : Data) (v : List Broken) → map told v ≡ all_broken rs p d → (x : Told) → Contains (map told v) x ↔ Breaks rs p d x
exactly rs p d v e x = subst (λ (xs : List Told). Contains xs x ↔ Breaks rs p d x) (sym e) (listed_in rs p d x)

pub none_broken : (rs : List Rule) (p : Platform) (d : Data) (v : List Broken) → map told v ≡ all_broken rs p d → (v ≡ []) ↔ KeepsAll rs p d
none_broken rs p d v e = ((λ h. (none_in rs p d).0 (sym e ∙ ap (map told) h)), (λ k. nothing v (e ∙ (none_in rs p d).1 k)))
