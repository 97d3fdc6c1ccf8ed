-- Of each agreement, nothing is told exactly where it is kept.
use Rattle.std.proofs.Common.{◌≡◌, ◌≢◌, ℕ, ◌+◌, List, [], ◌++◌, Bool, true, false, not, ◌&&◌, bytes_eq, codes, Option, Some, None, IfSome, option_map, option_and_then, Ordering, Less, Equal, Greater, nat_cmp, refl, sym, ap, ◌∙◌, subst, true≢false}
use Rattle.std.specs.Prelude.{◌↔◌, IsTrue, ◌==◌, if◌then◌else◌}
use Rattle.std.specs.Bool.{Decides}
use Rattle.std.specs.Cmp.Lexicographic.{slice_cmp}
use Rattle.std.specs.Ordering.{match_ordering, is_eq}
use Rattle.std.proofs.lemmas.Bool.Decides.{Decides-and, Decides-eqb}
use Rattle.std.proofs.lemmas.Map.Text.{is_eq-slice_cmp}
use Rattle.std.proofs.lemmas.Slice.Eq.{bytes_eq-Decides}
use Rattle.serde_json.specs.Data.{Data, null, boolean, number, string, array, object, Items, no_items, item, Members, no_members, member}
use Rattle.serde_json.specs.Find.{as_str, as_object, get_member}
use Rattle.oci_base.specs.Classes.{until}
use Rattle.oci_rules.specs.Decided.{there_and, if_any, all_items, begins_with}
use Rattle.oci_rules.specs.Listed.{has_text}
use Rattle.oci_rules.specs.Parts.{text_at, without}
use Rattle.oci_rules.specs.Tests.{BeginsWith, EachItem, IsAmong}
use Rattle.oci_rules.proofs.Deciding.{itself, if_any_tells, there_and_tells, all_items_tells, begins_tells, text_tells, then_tells}
use Rattle.oci_rules.proofs.Found.{not_nil, no_more, none_first, none_later}
use Rattle.oci_rules.proofs.Others.{among_tells}
use Rattle.oci_agreement.specs.Agree.{Same, HasImageConfig, IsLayer, IsFilesystemImage, colon, IsSameDigest, IsPlain, HasDiffId, EachPair, HaveSameTexts, image_keys, HaveSameCopies, Agree}
use Rattle.oci_agreement.specs.Images.{Image, text_in, items_in, count_of, config_type, artifact_type, has_image_config, config_of, platform_of, layers_of, diff_ids_of, history_of, labels_of, annotations_of, variant_in}
use Rattle.oci_agreement.specs.Types.{oci_config, docker_manifest, is_config_type, is_plain_type, is_layer_type}
use Rattle.oci_agreement.specs.Listed.{Seat, Told, tell, text, count, texts, unless, when, texts_told, counts_told, have_same_texts, lists_told, is_layer, are_layers, is_filesystem_image, is_same_digest, is_plain, plain_digest, diff_id_seat, diff_ids_told, layers_told, copy_seat, copy_told, of_keys, of_members, copies_told, is_mixed, told_by}
use Rattle.oci_agreement.specs.declared.agreement.Agreement.{Agreement}
use Rattle.oci_agreement.specs.declared.agreement.Agreement.TheVariants.{DiffIdsCount, DiffId, HistoryCount, PlatformOs, PlatformArchitecture, PlatformVariant, PlatformOsVersion, PlatformOsFeatures, ArtifactType, AnnotationCopies, TypesMixed}
use Rattle.oci_agreement.specs.declared.broken.Document.{Document}
use Rattle.oci_agreement.specs.declared.broken.Document.TheVariants.{Manifest, Configuration}

-- ---- lists of one and of two parts

unless_law : (b : Bool) (P : Type 0) (t : Told) → Decides b P → (unless b t ≡ []) ↔ P
unless_law true P t is = ((λ e. is.0 refl), (λ p. refl))
unless_law false P t is = ((λ e. not_nil t [] e), (λ p. absurd (true≢false (sym (is.1 p)))))

when_law : (b : Bool) (P Q : Type 0) (ts : List Told) → Decides b P → (ts ≡ []) ↔ Q → (when b ts ≡ []) ↔ (P → Q)
when_law true P Q ts is law = ((λ e p. law.0 e), (λ h. law.1 (h (is.0 refl))))
when_law false P Q ts is law = ((λ e p. absurd (true≢false (sym (is.1 p)))), (λ h. refl))

both_law : (xs ys : List Told) (P Q : Type 0) → (xs ≡ []) ↔ P → (ys ≡ []) ↔ Q → (xs ++ ys ≡ []) ↔ (P × Q)
both_law xs ys P Q p q = ((λ e. (p.0 (none_first xs ys e), q.0 (none_later xs ys e))), (λ h. no_more xs ys (p.1 h.0) (q.1 h.1)))

-- ---- what is expected and what is found

texts_law : (same : List ℕ → List ℕ → Bool) (R : List ℕ → List ℕ → Type 0) → ((s t : List ℕ) → Decides (same s t) (R s t)) → (at : Seat) (x y : Option (List ℕ))
    → (texts_told same at x y ≡ []) ↔ IfSome x (λ s. IfSome y (R s))
texts_law same R is at None y = ((λ e. tt), (λ h. refl))
texts_law same R is at (Some s) None = ((λ e. tt), (λ h. refl))
texts_law same R is at (Some s) (Some t) = unless_law (same s t) (R s t) (tell at (text s) (text t)) (is s t)

same_law : (at : Seat) (x y : Option (List ℕ)) → (texts_told bytes_eq at x y ≡ []) ↔ Same x y
same_law at x y = texts_law bytes_eq (λ s t. s ≡ t) bytes_eq-Decides at x y

counts_law : (at : Seat) (x y : Option ℕ) → (counts_told at x y ≡ []) ↔ Same x y
counts_law at None y = ((λ e. tt), (λ h. refl))
counts_law at (Some m) None = ((λ e. tt), (λ h. refl))
counts_law at (Some m) (Some n) = unless_law (m == n) (m ≡ n) (tell at (count m) (count n)) (Decides-eqb m n)

same_texts_tells : (ds es : Items) → Decides (have_same_texts ds es) (HaveSameTexts ds es)
same_texts_tells ds es =
    Decides-and (all_items (λ d. if_any (has_text es) (as_str d)) ds) (all_items (λ e. if_any (has_text ds) (as_str e)) es)
    (all_items_tells (λ d. if_any (has_text es) (as_str d)) (IsAmong es) (among_tells es) ds) (all_items_tells (λ e. if_any (has_text ds) (as_str e)) (IsAmong ds) (among_tells ds) es)

lists_law : (at : Seat) (x y : Option Items) → (lists_told at x y ≡ []) ↔ IfSome x (λ ds. IfSome y (HaveSameTexts ds))
lists_law at None y = ((λ e. tt), (λ h. refl))
lists_law at (Some ds) None = ((λ e. tt), (λ h. refl))
lists_law at (Some ds) (Some es) = unless_law (have_same_texts ds es) (HaveSameTexts ds es) (tell at (texts ds) (texts es)) (same_texts_tells ds es)

-- ---- layers

config_tells : (m : Data) → Decides (has_image_config m) (HasImageConfig m)
config_tells m = there_and_tells is_config_type (λ t. IsTrue (is_config_type t)) (λ t. itself (is_config_type t)) (config_type m)

layer_tells : (d : Data) → Decides (is_layer d) (IsLayer d)
layer_tells d = there_and_tells is_layer_type (λ t. IsTrue (is_layer_type t)) (λ t. itself (is_layer_type t)) (text_at (codes "mediaType") d)

filesystem_tells : (i : Image) → Decides (is_filesystem_image i) (IsFilesystemImage i)
filesystem_tells i =
    Decides-and (has_image_config i.manifest) (are_layers (layers_of i)) (config_tells i.manifest)
    (if_any_tells (all_items is_layer) (EachItem IsLayer) (all_items_tells is_layer IsLayer layer_tells) (layers_of i))

digest_tells : (s t : List ℕ) → Decides (is_same_digest s t) (IsSameDigest s t)
digest_tells s t =
    then_tells (bytes_eq (until colon s) (until colon t)) (bytes_eq s t) (until colon s ≡ until colon t) (s ≡ t) (bytes_eq-Decides (until colon s) (until colon t)) (bytes_eq-Decides s t)

plain_tells : (d : Data) → Decides (is_plain d) (IsPlain d)
plain_tells d = there_and_tells is_plain_type (λ t. IsTrue (is_plain_type t)) (λ t. itself (is_plain_type t)) (text_at (codes "mediaType") d)

asked_law : (b : Bool) (P : Type 0) → Decides b P → (at : Seat) (x y : Option (List ℕ))
    → (texts_told is_same_digest at (if b then x else None) y ≡ []) ↔ (P → IfSome x (λ s. IfSome y (IsSameDigest s)))
asked_law true P is at x y = let law = texts_law is_same_digest IsSameDigest digest_tells at x y in ((λ e p. law.0 e), (λ h. law.1 (h (is.0 refl))))
asked_law false P is at x y = ((λ e p. absurd (true≢false (sym (is.1 p)))), (λ h. refl))

pairs_law : (n : ℕ) (ds es : Items) → (diff_ids_told n ds es ≡ []) ↔ EachPair HasDiffId ds es
pairs_law n no_items es = ((λ e. tt), (λ h. refl))
pairs_law n (item d ds) no_items = ((λ e. tt), (λ h. refl))
pairs_law n (item d ds) (item e es) =
    both_law (texts_told is_same_digest (diff_id_seat n) (plain_digest d) (as_str e)) (diff_ids_told (n + 1) ds es) (HasDiffId d e) (EachPair HasDiffId ds es)
    (asked_law (is_plain d) (IsPlain d) (plain_tells d) (diff_id_seat n) (text_at (codes "digest") d) (as_str e)) (pairs_law (n + 1) ds es)

layers_law : (x y : Option Items) → (layers_told x y ≡ []) ↔ IfSome x (λ ds. IfSome y (EachPair HasDiffId ds))
layers_law None y = ((λ e. tt), (λ h. refl))
layers_law (Some ds) None = ((λ e. tt), (λ h. refl))
layers_law (Some ds) (Some es) = pairs_law 0 ds es

-- ---- annotations

same_none : {A : Type 0} (x : Option A) → Same x None
same_none None = tt
same_none (Some a) = tt

copy_law : (document : Document) (front : List ℕ) (x y : Option Data) (key : List ℕ)
    → (copy_told document front x y key ≡ []) ↔ (BeginsWith image_keys key → Same (text_in key x) (text_in key y))
copy_law document front x y key =
    when_law (begins_with image_keys key) (BeginsWith image_keys key) (Same (text_in key x) (text_in key y)) (texts_told bytes_eq (copy_seat document front key) (text_in key x) (text_in key y))
    (begins_tells image_keys key) (same_law (copy_seat document front key) (text_in key x) (text_in key y))

keys_none : (f : List ℕ → List Told) → ((key : List ℕ) → f key ≡ []) → (ms : Members) → of_keys f ms ≡ []
keys_none f none no_members = refl
keys_none f none (member key d ms) = no_more (f key) (of_keys f ms) (none key) (keys_none f none ms)

same_key : (s t : List ℕ) → slice_cmp nat_cmp s t ≡ Equal → s ≡ t
same_key s t is = (bytes_eq-Decides s t).0 (sym (is_eq-slice_cmp s t) ∙ ap is_eq is)

-- of a member that is found nothing is told
found_none : (f : List ℕ → List Told) (ms : Members) → of_keys f ms ≡ [] → (key : List ℕ) (d : Data) → get_member key ms ≡ Some d → f key ≡ []
found_none f no_members e key d found = absurd cc
found_none f (member k c ms) e key d found = go (λ h. found_none f ms (none_later (f k) (of_keys f ms) e) key d h) (slice_cmp nat_cmp key k) refl found
  where
    go : (get_member key ms ≡ Some d → f key ≡ []) → (o : Ordering) → slice_cmp nat_cmp key k ≡ o → match_ordering o (get_member key ms) (Some c) (get_member key ms) ≡ Some d → f key ≡ []
    go rest Less is held = rest held
    go rest Greater is held = rest held
    go rest Equal is held = subst (λ (z : List ℕ). f z ≡ []) (sym (same_key key k is)) (none_first (f k) (of_keys f ms) e)

object_law : (document : Document) (front : List ℕ) (x : Option Data) (ms : Members)
    → of_keys (copy_told document front x (Some (object ms))) ms ≡ [] → (key : List ℕ) → BeginsWith image_keys key → Same (text_in key x) (text_in key (Some (object ms)))
object_law document front x ms e key begins = go (get_member key ms) refl
  where
    go : (o : Option Data) → get_member key ms ≡ o → Same (text_in key x) (text_in key (Some (object ms)))
    go None is = subst (λ (z : Option Data). Same (text_in key x) (option_and_then as_str z)) (sym is) (same_none (text_in key x))
    go (Some d) is = (copy_law document front x (Some (object ms)) key).0 (found_none (copy_told document front x (Some (object ms))) ms e key d is) begins

copies_law : (document : Document) (front : List ℕ) (x y : Option Data) → (copies_told document front x y ≡ []) ↔ HaveSameCopies x y
copies_law document front x y = ((λ e. there y e), back y)
  where
    there : (y : Option Data) → copies_told document front x y ≡ [] → HaveSameCopies x y
    there None e key begins = same_none (text_in key x)
    there (Some null) e key begins = same_none (text_in key x)
    there (Some (boolean b)) e key begins = same_none (text_in key x)
    there (Some (number n)) e key begins = same_none (text_in key x)
    there (Some (string s)) e key begins = same_none (text_in key x)
    there (Some (array ds)) e key begins = same_none (text_in key x)
    there (Some (object ms)) e key begins = object_law document front x ms e key begins

    each : (y : Option Data) → HaveSameCopies x y → (o : Option Members) → of_members (copy_told document front x y) o ≡ []
    each y h None = refl
    each y h (Some ms) = keys_none (copy_told document front x y) (λ key. (copy_law document front x y key).1 (h key)) ms

    back : (y : Option Data) → HaveSameCopies x y → copies_told document front x y ≡ []
    back y h = each y h (option_and_then as_object y)

-- ---- types

not_both_tells : (a b : Bool) (P Q : Type 0) → Decides a P → Decides b Q → Decides (not (a && b)) (P → Q → ⊥)
not_both_tells true true P Q is also = ((λ e. absurd (true≢false (sym e))), (λ h. absurd (h (is.0 refl) (also.0 refl))))
not_both_tells true false P Q is also = ((λ e p q. true≢false (sym (also.1 q))), (λ h. refl))
not_both_tells false b P Q is also = ((λ e p q. true≢false (sym (is.1 p))), (λ h. refl))

mixed_tells : (m : Data) → Decides (not (is_mixed m)) (text_at (codes "mediaType") m ≡ Some docker_manifest → config_type m ≢ Some oci_config)
mixed_tells m =
    not_both_tells (there_and (bytes_eq docker_manifest) (text_at (codes "mediaType") m)) (there_and (bytes_eq oci_config) (config_type m)) (text_at (codes "mediaType") m ≡ Some docker_manifest)
    (config_type m ≡ Some oci_config) (text_tells docker_manifest (text_at (codes "mediaType") m)) (text_tells oci_config (config_type m))

-- ---- all agreements

pub law : (a : Agreement) (i : Image) → (told_by a i ≡ []) ↔ Agree a i
law DiffIdsCount i = when_law (is_filesystem_image i) (IsFilesystemImage i) _ _ (filesystem_tells i) (counts_law _ (count_of (layers_of i)) (count_of (diff_ids_of i)))
law DiffId i = when_law (is_filesystem_image i) (IsFilesystemImage i) _ _ (filesystem_tells i) (layers_law (layers_of i) (diff_ids_of i))
law HistoryCount i =
    when_law (is_filesystem_image i) (IsFilesystemImage i) _ _ (filesystem_tells i) (counts_law _ (count_of (diff_ids_of i)) (option_map (without (codes "empty_layer")) (history_of i)))
law PlatformOs i = same_law _ (text_in (codes "os") (platform_of i)) (text_in (codes "os") (config_of i))
law PlatformArchitecture i = same_law _ (text_in (codes "architecture") (platform_of i)) (text_in (codes "architecture") (config_of i))
law PlatformVariant i = same_law _ (variant_in (platform_of i)) (variant_in (config_of i))
law PlatformOsVersion i = same_law _ (text_in (codes "os.version") (platform_of i)) (text_in (codes "os.version") (config_of i))
law PlatformOsFeatures i = lists_law _ (items_in (codes "os.features") (platform_of i)) (items_in (codes "os.features") (config_of i))
law ArtifactType i = same_law _ (text_in (codes "artifactType") i.descriptor) (artifact_type i.manifest)
law AnnotationCopies i =
    let own : Option Data = annotations_of (Some i.manifest) in
    let said : Option Data = annotations_of i.descriptor in
    let labels : Option Data = labels_of i in
    both_law (copies_told Manifest (codes "/annotations") labels own) (copies_told Manifest (codes "/annotations") said own ++ copies_told Configuration (codes "/config/Labels") said labels)
    (HaveSameCopies labels own) (HaveSameCopies said own × HaveSameCopies said labels) (copies_law Manifest (codes "/annotations") labels own)
    (both_law (copies_told Manifest (codes "/annotations") said own) (copies_told Configuration (codes "/config/Labels") said labels) (HaveSameCopies said own) (HaveSameCopies said labels)
    (copies_law Manifest (codes "/annotations") said own) (copies_law Configuration (codes "/config/Labels") said labels))
law TypesMixed i = unless_law (not (is_mixed i.manifest)) _ _ (mixed_tells i.manifest)
