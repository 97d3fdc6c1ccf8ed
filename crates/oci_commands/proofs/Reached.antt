-- The records that a schema names, and those that they name.
use Rattle.std.proofs.Common.{◌≡◌, ◌<◌, ◌≤◌, ◌+◌, ◌∙◌, ℕ, Bor, List, [], ◌∷◌, ◌++◌, length, take, map, get_or, refl, sym, ap, subst, arith, length-append}
use Rattle.std.specs.List.{AllZip, flat_map}
use Rattle.std.proofs.lemmas.List.{append-nil, flat_map_more, take_all}
use Rattle.oci_model.specs.Shape.{Shape}
use Rattle.oci_schema.specs.declared.record.Record.{Record}
use Rattle.oci_findings.proofs.Each.{map_both}
use Rattle.oci_commands.specs.Tables.{IsRecordAt, each_place, places_of}
use Rattle.oci_commands.proofs.Once.{each_place_both, each_place_more, zip_place}

-- what these records name, behind what is named before
abbrev pub all_named : List ℕ → List (Bor Record) → List ℕ
all_named named rs = named ++ flat_map (λ r. places_of r.members.now) (map (λ r. r.now) rs)

pub named_first : (named places first : List ℕ) (rs : List (Bor Record)) → first ≡ [] → rs ≡ [] → places ≡ each_place first named → places ≡ each_place [] (all_named named rs)
named_first named places first rs e none made =
    subst (λ l. places ≡ each_place [] (all_named named l)) (sym none) (made ∙ ap (λ l. each_place l named) e ∙ ap (each_place []) (sym (append-nil named)))

-- one record more
pub named_more : (named places new : List ℕ) (rs more : List (Bor Record)) (r : Bor Record) → more ≡ rs ++ r ∷ [] → new ≡ each_place places (places_of r.now.members.now)
    → places ≡ each_place [] (all_named named rs) → new ≡ each_place [] (all_named named more)
named_more named places new rs more r added made before =
    let f = λ (q : Record). places_of q.members.now in
    let behind : all_named named rs ++ f r.now ≡ all_named named more =
    flat_map_more f named (map (λ q. q.now) rs) r.now ∙ ap (λ l. named ++ flat_map f l) (sym (map_both (λ (q : Bor Record). q.now) rs r)) ∙ ap (all_named named) (sym added) in
    made ∙ ap (λ l. each_place l (f r.now)) before ∙ sym (each_place_both [] (all_named named rs) (f r.now)) ∙ ap (each_place []) behind

pub each_more : (f : ℕ → Shape) (places new : List ℕ) (i : ℕ) (rs more : List (Bor Record)) (r : Bor Record) → i < length places → more ≡ rs ++ r ∷ []
    → new ≡ each_place places (places_of r.now.members.now) → IsRecordAt f (get_or places i 0) r.now → AllZip (IsRecordAt f) (take i places) (map (λ q. q.now) rs)
    → AllZip (IsRecordAt f) (take (i + 1) new) (map (λ q. q.now) more)
each_more f places new i rs more r below added made at before =
    let (extra, is) = each_place_more places (places_of r.now.members.now) in
    subst (λ l. AllZip (IsRecordAt f) (take (i + 1) new) l) (sym (ap (map (λ (q : Bor Record). q.now)) added ∙ map_both (λ (q : Bor Record). q.now) rs r))
    (zip_place (IsRecordAt f) places extra new i (map (λ q. q.now) rs) r.now below (made ∙ is) before at)

pub within_more : (places new ps : List ℕ) (i : ℕ) → i < length places → new ≡ each_place places ps → i + 1 ≤ length new
within_more places new ps i below made =
    let (extra, is) = each_place_more places ps in
    let long : length new ≡ length places + length extra = ap length (made ∙ is) ∙ length-append places extra in
    omega arith

pub each_all : (f : ℕ → Shape) (places : List ℕ) (i : ℕ) (rs : List Record) → length places ≤ i → AllZip (IsRecordAt f) (take i places) rs → AllZip (IsRecordAt f) places rs
each_all f places i rs over h = subst (λ l. AllZip (IsRecordAt f) l rs) (take_all i places over) h
