-- What is told is told by its agreement, and by no other.
use Rattle.std.proofs.Common.{◌≡◌, inl, inr, ℕ, ◌+◌, List, [], ◌∷◌, ◌++◌, Bool, true, false, not, bytes_eq, codes, Option, Some, None, option_map, option_and_then, map, refl, sym, ap, ◌∙◌, subst}
use Rattle.std.specs.Prelude.{◌↔◌, ◌⊎◌, ⊤}
use Rattle.std.specs.List.{Contains}
use Rattle.std.proofs.lemmas.List.Elements.{Contains-append_left, Contains-append_right, Contains-append_cases}
use Rattle.serde_json.specs.Data.{Data, Items, no_items, item, Members, no_members, member}
use Rattle.serde_json.specs.Find.{as_str, as_object}
use Rattle.oci_rules.specs.Decided.{begins_with}
use Rattle.oci_rules.specs.Parts.{without}
use Rattle.oci_schema.proofs.EachPart.{nothing_in, one_in}
use Rattle.oci_rules.proofs.Found.{first_in, not_nil, none_of, no_more, none_first, none_later}
use Rattle.oci_agreement.specs.Agree.{image_keys, Agree}
use Rattle.oci_agreement.specs.Images.{Image, text_in, items_in, count_of, artifact_type, config_of, platform_of, layers_of, diff_ids_of, history_of, labels_of, annotations_of, variant_in}
use Rattle.oci_agreement.specs.Types.{docker_config, oci_config}
use Rattle.oci_agreement.specs.Listed.{Seat, Told, Shown, text, at, diff_ids_at, artifact_type_at, is_filesystem_image, is_mixed, tell, unless, when, texts_told, counts_told, lists_told, have_same_texts, is_same_digest, plain_digest, diff_id_seat, diff_ids_told, layers_told, copy_seat, copy_told, of_keys, of_members, copies_told, told_by, told_each, every, all_told, IsToldBy}
use Rattle.oci_agreement.specs.declared.agreement.Agreement.{Agreement}
use Rattle.oci_agreement.specs.declared.agreement.Agreement.TheVariants.{DiffIdsCount, DiffId, HistoryCount, PlatformOs, PlatformArchitecture, PlatformVariant, PlatformOsVersion, PlatformOsFeatures, ArtifactType, AnnotationCopies, TypesMixed}
use Rattle.oci_agreement.specs.declared.broken.Document.{Document}
use Rattle.oci_agreement.specs.declared.broken.Document.TheVariants.{Manifest, Configuration}
use Rattle.oci_agreement.proofs.Laws.{law}

-- all of this is told by the agreement
abbrev pub AreOf : Agreement → List Told → Type 0
AreOf a [] = ⊤
AreOf a (t ∷ ts) = (t.seat.agreement ≡ a) × AreOf a ts

both_of : (a : Agreement) (xs ys : List Told) → AreOf a xs → AreOf a ys → AreOf a (xs ++ ys)
both_of a [] ys h k = k
both_of a (x ∷ xs) ys h k = (h.0, both_of a xs ys h.1 k)

unless_of : (a : Agreement) (b : Bool) (at : Seat) (x y : Shown) → at.agreement ≡ a → AreOf a (unless b (tell at x y))
unless_of a true at x y e = tt
unless_of a false at x y e = (e, tt)

when_of : (a : Agreement) (b : Bool) (ts : List Told) → AreOf a ts → AreOf a (when b ts)
when_of a true ts h = h
when_of a false ts h = tt

texts_of : (a : Agreement) (same : List ℕ → List ℕ → Bool) (at : Seat) (x y : Option (List ℕ)) → at.agreement ≡ a → AreOf a (texts_told same at x y)
texts_of a same at None y e = tt
texts_of a same at (Some s) None e = tt
texts_of a same at (Some s) (Some t) e = unless_of a (same s t) at _ _ e

counts_of : (a : Agreement) (at : Seat) (x y : Option ℕ) → at.agreement ≡ a → AreOf a (counts_told at x y)
counts_of a at None y e = tt
counts_of a at (Some m) None e = tt
counts_of a at (Some m) (Some n) e = unless_of a _ at _ _ e

lists_of : (a : Agreement) (at : Seat) (x y : Option Items) → at.agreement ≡ a → AreOf a (lists_told at x y)
lists_of a at None y e = tt
lists_of a at (Some ds) None e = tt
lists_of a at (Some ds) (Some es) e = unless_of a (have_same_texts ds es) at _ _ e

pairs_of : (n : ℕ) (ds es : Items) → AreOf DiffId (diff_ids_told n ds es)
pairs_of n no_items es = tt
pairs_of n (item d ds) no_items = tt
pairs_of n (item d ds) (item e es) =
    both_of DiffId (texts_told is_same_digest (diff_id_seat n) (plain_digest d) (as_str e)) (diff_ids_told (n + 1) ds es)
    (texts_of DiffId is_same_digest (diff_id_seat n) (plain_digest d) (as_str e) refl) (pairs_of (n + 1) ds es)

layers_are : (x y : Option Items) → AreOf DiffId (layers_told x y)
layers_are None y = tt
layers_are (Some ds) None = tt
layers_are (Some ds) (Some es) = pairs_of 0 ds es

keys_of : (document : Document) (front : List ℕ) (x y : Option Data) (ms : Members) → AreOf AnnotationCopies (of_keys (copy_told document front x y) ms)
keys_of document front x y no_members = tt
keys_of document front x y (member key d ms) =
    both_of AnnotationCopies (copy_told document front x y key) (of_keys (copy_told document front x y) ms)
    (when_of AnnotationCopies (begins_with image_keys key) (texts_told bytes_eq (copy_seat document front key) (text_in key x) (text_in key y)) (texts_of AnnotationCopies bytes_eq (copy_seat document front key) (text_in key x) (text_in key y) refl))
    (keys_of document front x y ms)

copies_are : (document : Document) (front : List ℕ) (x y : Option Data) → AreOf AnnotationCopies (copies_told document front x y)
copies_are document front x y = go (option_and_then as_object y)
  where
    go : (o : Option Members) → AreOf AnnotationCopies (of_members (copy_told document front x y) o)
    go None = tt
    go (Some ms) = keys_of document front x y ms

are_of : (a : Agreement) (i : Image) → AreOf a (told_by a i)
are_of DiffIdsCount i =
    when_of DiffIdsCount (is_filesystem_image i) (counts_told (at DiffIdsCount Configuration diff_ids_at) (count_of (layers_of i)) (count_of (diff_ids_of i)))
    (counts_of DiffIdsCount (at DiffIdsCount Configuration diff_ids_at) (count_of (layers_of i)) (count_of (diff_ids_of i)) refl)
are_of DiffId i = when_of DiffId (is_filesystem_image i) (layers_told (layers_of i) (diff_ids_of i)) (layers_are (layers_of i) (diff_ids_of i))
are_of HistoryCount i =
    when_of HistoryCount (is_filesystem_image i) (counts_told (at HistoryCount Configuration (codes "/history")) (count_of (diff_ids_of i)) (option_map (without (codes "empty_layer")) (history_of i)))
    (counts_of HistoryCount (at HistoryCount Configuration (codes "/history")) (count_of (diff_ids_of i)) (option_map (without (codes "empty_layer")) (history_of i)) refl)
are_of PlatformOs i = texts_of PlatformOs bytes_eq (at PlatformOs Configuration (codes "/os")) (text_in (codes "os") (platform_of i)) (text_in (codes "os") (config_of i)) refl
are_of PlatformArchitecture i =
    texts_of PlatformArchitecture bytes_eq (at PlatformArchitecture Configuration (codes "/architecture")) (text_in (codes "architecture") (platform_of i)) (text_in (codes "architecture") (config_of i)) refl
are_of PlatformVariant i = texts_of PlatformVariant bytes_eq (at PlatformVariant Configuration (codes "/variant")) (variant_in (platform_of i)) (variant_in (config_of i)) refl
are_of PlatformOsVersion i =
    texts_of PlatformOsVersion bytes_eq (at PlatformOsVersion Configuration (codes "/os.version")) (text_in (codes "os.version") (platform_of i)) (text_in (codes "os.version") (config_of i)) refl
are_of PlatformOsFeatures i =
    lists_of PlatformOsFeatures (at PlatformOsFeatures Configuration (codes "/os.features")) (items_in (codes "os.features") (platform_of i)) (items_in (codes "os.features") (config_of i)) refl
are_of ArtifactType i = texts_of ArtifactType bytes_eq (at ArtifactType Manifest (artifact_type_at i.manifest)) (text_in (codes "artifactType") i.descriptor) (artifact_type i.manifest) refl
are_of AnnotationCopies i =
    let own : Option Data = annotations_of (Some i.manifest) in
    let said : Option Data = annotations_of i.descriptor in
    let labels : Option Data = labels_of i in
    both_of AnnotationCopies (copies_told Manifest (codes "/annotations") labels own) (copies_told Manifest (codes "/annotations") said own ++ copies_told Configuration (codes "/config/Labels") said labels)
    (copies_are Manifest (codes "/annotations") labels own)
    (both_of AnnotationCopies (copies_told Manifest (codes "/annotations") said own) (copies_told Configuration (codes "/config/Labels") said labels) (copies_are Manifest (codes "/annotations") said own)
    (copies_are Configuration (codes "/config/Labels") said labels))
are_of TypesMixed i = unless_of TypesMixed (not (is_mixed i.manifest)) (at TypesMixed Manifest (codes "/config/mediaType")) (text docker_config) (text oci_config) refl

one_of_these : (a : Agreement) (ts : List Told) (t : Told) → AreOf a ts → Contains ts t → t.seat.agreement ≡ a
one_of_these a [] t h held = nothing_in t held
one_of_these a (x ∷ xs) t h held = go (λ k. one_of_these a xs t h.1 k) (Contains-append_cases (x ∷ []) xs t held)
  where
    go : (Contains xs t → t.seat.agreement ≡ a) → Contains (x ∷ []) t ⊎ Contains xs t → t.seat.agreement ≡ a
    go rest (inl k) = ap (λ (y : Told). y.seat.agreement) (sym (one_in x t k)) ∙ h.0
    go rest (inr k) = rest k

-- ---- all agreements

abbrev AgreeOn : List Agreement → Image → Type 0
AgreeOn [] i = ⊤
AgreeOn (a ∷ rest) i = Agree a i × AgreeOn rest i

none_each : (rest : List Agreement) (i : Image) → (told_each rest i ≡ []) ↔ AgreeOn rest i
none_each [] i = ((λ e. tt), (λ h. refl))
none_each (a ∷ rest) i =
    let one = law a i in
    let others = none_each rest i in
    ((λ e. (one.0 (none_first (told_by a i) (told_each rest i) e), others.0 (none_later (told_by a i) (told_each rest i) e))), (λ h. no_more (told_by a i) (told_each rest i) (one.1 h.0) (others.1 h.1)))

chosen : (i : Image) → AgreeOn every i → (a : Agreement) → Agree a i
chosen i h DiffIdsCount = h.0
chosen i h DiffId = h.1.0
chosen i h HistoryCount = h.1.1.0
chosen i h PlatformOs = h.1.1.1.0
chosen i h PlatformArchitecture = h.1.1.1.1.0
chosen i h PlatformVariant = h.1.1.1.1.1.0
chosen i h PlatformOsVersion = h.1.1.1.1.1.1.0
chosen i h PlatformOsFeatures = h.1.1.1.1.1.1.1.0
chosen i h ArtifactType = h.1.1.1.1.1.1.1.1.0
chosen i h AnnotationCopies = h.1.1.1.1.1.1.1.1.1.0
chosen i h TypesMixed = h.1.1.1.1.1.1.1.1.1.1.0

gathered : (i : Image) → ((a : Agreement) → Agree a i) → (rest : List Agreement) → AgreeOn rest i
gathered i h [] = tt
gathered i h (a ∷ rest) = (h a, gathered i h rest)

none_told : (i : Image) → (all_told i ≡ []) ↔ ((a : Agreement) → Agree a i)
none_told i = ((λ e. chosen i ((none_each every i).0 e)), (λ h. (none_each every i).1 (gathered i h every)))

no_told : {A B : Type 0} (f : A → B) (xs : List A) → map f xs ≡ [] → xs ≡ []
no_told f [] e = refl
no_told f (x ∷ xs) e = not_nil (f x) (map f xs) e

-- nothing is listed exactly where all agree
pub none_listed : {A : Type 0} (f : A → Told) (xs : List A) (i : Image) → map f xs ≡ all_told i → (xs ≡ []) ↔ ((a : Agreement) → Agree a i)
none_listed f xs i all = ((λ e. (none_told i).0 (sym all ∙ ap (map f) e)), (λ h. no_told f xs (all ∙ (none_told i).1 h)))

abbrev Has : List Agreement → Agreement → Type 0
Has [] a = ⊥
Has (b ∷ rest) a = (b ≡ a) ⊎ Has rest a

has_every : (a : Agreement) → Has every a
has_every DiffIdsCount = inl refl
has_every DiffId = inr (inl refl)
has_every HistoryCount = inr (inr (inl refl))
has_every PlatformOs = inr (inr (inr (inl refl)))
has_every PlatformArchitecture = inr (inr (inr (inr (inl refl))))
has_every PlatformVariant = inr (inr (inr (inr (inr (inl refl)))))
has_every PlatformOsVersion = inr (inr (inr (inr (inr (inr (inl refl))))))
has_every PlatformOsFeatures = inr (inr (inr (inr (inr (inr (inr (inl refl)))))))
has_every ArtifactType = inr (inr (inr (inr (inr (inr (inr (inr (inl refl))))))))
has_every AnnotationCopies = inr (inr (inr (inr (inr (inr (inr (inr (inr (inl refl)))))))))
has_every TypesMixed = inr (inr (inr (inr (inr (inr (inr (inr (inr (inr (inl refl))))))))))

into_each : (rest : List Agreement) (a : Agreement) (i : Image) (t : Told) → Has rest a → Contains (told_by a i) t → Contains (told_each rest i) t
into_each [] a i t h held = absurd h
into_each (b ∷ rest) a i t (inl e) held = Contains-append_left (told_by b i) (told_each rest i) t (subst (λ (z : Agreement). Contains (told_by z i) t) (sym e) held)
into_each (b ∷ rest) a i t (inr h) held = Contains-append_right (told_by b i) (told_each rest i) t (into_each rest a i t h held)

from_each : (rest : List Agreement) (i : Image) (t : Told) → Contains (told_each rest i) t → (a : Agreement) × Contains (told_by a i) t
from_each [] i t held = nothing_in t held
from_each (b ∷ rest) i t held = go (λ h. from_each rest i t h) (Contains-append_cases (told_by b i) (told_each rest i) t held)
  where
    go : (Contains (told_each rest i) t → (a : Agreement) × Contains (told_by a i) t) → Contains (told_by b i) t ⊎ Contains (told_each rest i) t → (a : Agreement) × Contains (told_by a i) t
    go later (inl h) = (b, h)
    go later (inr h) = later h

told_where : (a : Agreement) (i : Image) → (told_by a i ≡ [] → ⊥) → (t : Told) × Contains (told_by a i) t
told_where a i h = go (told_by a i) h
  where
    go : (ts : List Told) → (ts ≡ [] → ⊥) → (t : Told) × Contains ts t
    go [] h = absurd (h refl)
    go (t ∷ ts) h = (t, first_in t ts)

-- by an agreement something is listed exactly where it is broken
pub listed_by : (ts : List Told) (i : Image) → ts ≡ all_told i → (a : Agreement) → IsToldBy ts a ↔ (Agree a i → ⊥)
listed_by ts i all a = (there, back)
  where
    there : IsToldBy ts a → Agree a i → ⊥
    there h agree =
        let (t, held, is) = h in
        let (b, own) = from_each every i t (subst (λ (z : List Told). Contains z t) all held) in
        let same : b ≡ a = sym (one_of_these b (told_by b i) t (are_of b i) own) ∙ is in
        none_of (told_by a i) t ((law a i).1 agree) (subst (λ (z : Agreement). Contains (told_by z i) t) same own)

    back : (Agree a i → ⊥) → IsToldBy ts a
    back broken =
        let (t, own) = told_where a i (λ e. broken ((law a i).0 e)) in
        (t, subst (λ (z : List Told). Contains z t) (sym all) (into_each every a i t (has_every a) own), one_of_these a (told_by a i) t (are_of a i) own)
