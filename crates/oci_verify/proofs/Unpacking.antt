-- What the compressed layers of an image unpack to, by the steps in which it is found.
use Rattle.std.proofs.Common.{◌≡◌, ℕ, zero, suc, ◌+◌, ◌<◌, ◌≤◌, Bool, true, false, not, Result, Ok, Err, IfOk, List, [], ◌∷◌, length, slice_get, Option, None, Some, IfSome, refl, sym, ap, subst, ◌∙◌, true≢false, below_more, arith}
use Rattle.std.specs.Prelude.{◌↔◌, codes, IsTrue}
use Rattle.std.specs.declared.io.Error.{Error}
use Rattle.std.proofs.lemmas.Option.{slice_get_within}
use Rattle.serde_json.specs.Data.{Data, Items}
use Rattle.serde_json.specs.Find.{as_str}
use Rattle.serde_json.specs.View.{items_view, view}
use Rattle.serde_json.specs.declared.value.Value.{Value}
use Rattle.deflate.specs.Bits.{AreBelow}
use Rattle.gzip.specs.Gzip.{IsGzip}
use Rattle.gzip.specs.declared.error.GzipError.{GzipError}
use Rattle.gzip.proofs.Behind.{one_text_of_a_file}
use Rattle.oci_content.specs.Content.{IsBy, checksum_of, checksum_text, digest_text}
use Rattle.oci_content.specs.declared.algorithm.Algorithm.{Algorithm}
use Rattle.oci_content.specs.declared.checksum.Checksum.{Checksum}
use Rattle.oci_layout.specs.Looks.{Contents, Gives}
use Rattle.oci_layout.specs.declared.store.Opened.TheVariants.{Missing, Unreadable, Content}
use Rattle.oci_agreement.specs.Agree.{EachPair}
use Rattle.oci_agreement.specs.Descriptors.{Mention, mention_in}
use Rattle.oci_agreement.specs.Images.{Image, diff_ids_of, layers_of}
use Rattle.oci_agreement.specs.Listed.{is_filesystem_image}
use Rattle.oci_findings.specs.Asked.{asks}
use Rattle.oci_findings.specs.declared.asked.Check.{Check}
use Rattle.oci_layers.specs.Encodings.{encoding_of}
use Rattle.oci_layers.specs.declared.encoding.Encoding.TheVariants.{Gzip}
use Rattle.oci_verify.specs.Images.{OverContents}
use Rattle.oci_verify.specs.Kept.{AreBytes, IsKept}
use Rattle.oci_verify.specs.Layers.{ContentUnpacks, HasDiffId, IsDiffIdOf, IsGzipFile, IsSumOf, IsUnpacked, IsWrong, LayerUnpacks, LayersUnpack, MayBe, PlaceUnpacks}
use Rattle.oci_verify.specs.declared.layers.Wrong.{Wrong}
use Rattle.oci_verify.specs.declared.layers.Wrong.TheVariants.{NotGzip, OtherId, Unread}
use Rattle.oci_verify.proofs.Agreeing.{over_both, over_each, over_map}

abbrev File : Type 0
File = List ℕ → Option (List ℕ)

some : {X : Type 0} {x y : X} → Some x ≡ Some y → x ≡ y
some e = cc

-- ---- the checksum of an archive

-- the algorithm is the one that the DiffID names, if it names one that is known
abbrev IsTheOne : Algorithm → Option (List ℕ) → Type 0
IsTheOne a o = IfSome o (λ t. (b : Algorithm) → IsBy b t → b ≡ a)

sum_made : (a b : Algorithm) (sum : Checksum) (archive : List ℕ) → sum ≡ checksum_of a archive → b ≡ a → checksum_text sum ≡ digest_text b archive
sum_made a b sum archive e one = ap checksum_text (e ∙ ap (λ x. checksum_of x archive) (sym one))

sum_id : (o : Option (List ℕ)) (a : Algorithm) (sum : Checksum) (archive : List ℕ) → IsTheOne a o → sum ≡ checksum_of a archive
    → IfSome o (λ t. (b : Algorithm) → IsBy b t → t ≡ checksum_text sum) → IfSome o (λ t. (b : Algorithm) → IsBy b t → t ≡ digest_text b archive)
sum_id None a sum archive one e h = tt
sum_id (Some t) a sum archive one e h = λ b by. h b by ∙ sum_made a b sum archive e (one b by)

id_sum : (o : Option (List ℕ)) (a : Algorithm) (sum : Checksum) (archive : List ℕ) → IsTheOne a o → sum ≡ checksum_of a archive
    → IfSome o (λ t. (b : Algorithm) → IsBy b t → t ≡ digest_text b archive) → IfSome o (λ t. (b : Algorithm) → IsBy b t → t ≡ checksum_text sum)
id_sum None a sum archive one e h = tt
id_sum (Some t) a sum archive one e h = λ b by. h b by ∙ sym (sum_made a b sum archive e (one b by))

-- what `diff_id` says of the bytes
abbrev HasSum : Algorithm → Checksum → List ℕ → Type 0
HasSum a sum bytes = AreBelow 256 bytes → (archive : List ℕ) × IsGzip bytes archive × (sum ≡ checksum_of a archive)

pub right_sum : (known : Option (List ℕ)) (id : Data) (a : Algorithm) (sum : Checksum) → IfSome (as_str id) (λ t. (b : Algorithm) → IsBy b t → b ≡ a) → IfSome known (HasSum a sum) → IsSumOf id sum
    → IfSome known (λ bytes. AreBelow 256 bytes → IsWrong bytes id None)
right_sum None id a sum one h is = tt
right_sum (Some bytes) id a sum one h is = λ below.
    let (archive, gzip, e) = h below in (
      (archive, gzip),
      λ other also. subst (IsDiffIdOf id) (one_text_of_a_file bytes archive other gzip also) (sum_id (as_str id) a sum archive one e is),
    )

pub other_sum : (known : Option (List ℕ)) (id : Data) (a : Algorithm) (sum : Checksum) → IfSome (as_str id) (λ t. (b : Algorithm) → IsBy b t → b ≡ a) → IfSome known (HasSum a sum) → ¬ IsSumOf id sum
    → IfSome known (λ bytes. AreBelow 256 bytes → IsWrong bytes id (Some (OtherId sum)))
other_sum None id a sum one h not = tt
other_sum (Some bytes) id a sum one h not = λ below.
    let (archive, gzip, e) = h below in (
      (archive, gzip),
      λ has. not (id_sum (as_str id) a sum archive one e (has archive gzip)),
    )

pub no_gzip : (known : Option (List ℕ)) (id : Data) (e : GzipError) → IfSome known (λ bytes. AreBelow 256 bytes → (text : List ℕ) → ¬ IsGzip bytes text)
    → IfSome known (λ bytes. AreBelow 256 bytes → IsWrong bytes id (Some (NotGzip e)))
no_gzip None id e none = tt
no_gzip (Some bytes) id e none = λ below file. none below file.0 file.1

-- ---- a content

abbrev IsWrongIn : File → List ℕ → Data → Option Wrong → Type 0
IsWrongIn c digest id o = IfSome (c digest) (λ bytes. IsWrong bytes id o)

pub wrong_missing : {B : Type 0} (remaining : B → Option (List ℕ)) (steady : Bool) (contents : Contents) (digest : List ℕ) (id : Data) → Gives remaining steady contents digest Missing
    → OverContents steady contents (λ c. IsWrongIn c digest id None)
wrong_missing remaining true (Some c) digest id g = λ are. subst (λ (x : Option (List ℕ)). IfSome x (λ bytes. IsWrong bytes id None)) (sym g) tt
wrong_missing remaining true None digest id g = tt
wrong_missing remaining false contents digest id g = tt

pub wrong_unreadable : {B : Type 0} (remaining : B → Option (List ℕ)) (steady : Bool) (contents : Contents) (digest : List ℕ) (id : Data) (why : Error)
    → Gives remaining steady contents digest (Unreadable why) → OverContents steady contents (λ c. IsWrongIn c digest id None)
wrong_unreadable remaining true (Some c) digest id why g = absurd (true≢false g)
wrong_unreadable remaining true None digest id why g = tt
wrong_unreadable remaining false contents digest id why g = tt

wrong_by : (c : File) (digest all : List ℕ) (id : Data) (o : Option Wrong) → AreBytes c → c digest ≡ Some all → (AreBelow 256 all → IsWrong all id o) → IsWrongIn c digest id o
wrong_by c digest all id o are there h =
    subst (λ (x : Option (List ℕ)). IfSome x (λ bytes. IsWrong bytes id o)) (sym there) (h (subst (λ (x : Option (List ℕ)). IfSome x (AreBelow 256)) there (are digest)))

pub wrong_read : {B : Type 0} (remaining : B → Option (List ℕ)) (steady : Bool) (contents : Contents) (digest : List ℕ) (id : Data) (blob : B) (known : Option ℕ) (o : Option Wrong)
    → Gives remaining steady contents digest (Content blob known) → IfSome (remaining blob) (λ bytes. AreBelow 256 bytes → IsWrong bytes id o)
    → OverContents steady contents (λ c. IsWrongIn c digest id o)
wrong_read remaining true (Some c) digest id blob known o (all, is, there, sized) h = λ are.
    wrong_by c digest all id o are there (subst (λ (x : Option (List ℕ)). IfSome x (λ bytes. AreBelow 256 bytes → IsWrong bytes id o)) is h)
wrong_read remaining true None digest id blob known o g h = tt
wrong_read remaining false contents digest id blob known o g h = tt

-- ---- what may be

no_true : (b : Bool) → b ≡ false → IsTrue b → ⊥
no_true b e is = true≢false (sym is ∙ e)

may_archive : (asked : Check) (bytes : List ℕ) (id : Data) (is may : Bool) → asks asked (codes "layer-archive") ≡ is → may ≡ not is → ¬ IsGzipFile bytes → IsTrue may ↔ IsUnpacked asked bytes id
may_archive asked bytes id true may e m wrong = (λ is. absurd (no_true may m is), λ u. absurd (wrong (u.archive e)))
may_archive asked bytes id false may e m wrong = (
  λ is. record { archive = λ asked. absurd (true≢false (sym asked ∙ e)); diff_id = λ asked archive gzip. absurd (wrong (archive, gzip)) },
  λ u. m,
)

may_id : (asked : Check) (bytes : List ℕ) (id : Data) (is may : Bool) → asks asked (codes "image-diff-id") ≡ is → may ≡ not is → IsGzipFile bytes → ¬ HasDiffId bytes id
    → IsTrue may ↔ IsUnpacked asked bytes id
may_id asked bytes id true may e m file wrong = (λ is. absurd (no_true may m is), λ u. absurd (wrong (u.diff_id e)))
may_id asked bytes id false may e m file wrong = (
  λ is. record { archive = λ asked. file; diff_id = λ asked. absurd (true≢false (sym asked ∙ e)) },
  λ u. m,
)

may_unpack : (asked : Check) (bytes : List ℕ) (id : Data) (w : Wrong) (may : Bool) → MayBe asked w may → IsWrong bytes id (Some w) → IsTrue may ↔ IsUnpacked asked bytes id
may_unpack asked bytes id (NotGzip e) may m wrong = may_archive asked bytes id (asks asked (codes "layer-archive")) may refl m wrong
may_unpack asked bytes id (OtherId sum) may m wrong = may_id asked bytes id (asks asked (codes "image-diff-id")) may refl m wrong.0 wrong.1
may_unpack asked bytes id (Unread e) may m wrong = absurd m

-- what is so of the content that is kept
kept_one : (asked : Check) (c : File) (said : Mention) (id : Data) (bytes : List ℕ) → IsKept c said.digest said.size bytes → IsUnpacked asked bytes id ↔ ContentUnpacks asked c said id
kept_one asked c said id bytes kept = (λ u other also. subst (λ b. IsUnpacked asked b id) (some (sym kept.0 ∙ also.0)) u, λ h. h bytes kept)

here : (c : File) (digest bytes : List ℕ) (id : Data) (o : Option Wrong) → c digest ≡ Some bytes → IsWrongIn c digest id o → IsWrong bytes id o
here c digest bytes id o there w = subst (λ (x : Option (List ℕ)). IfSome x (λ b. IsWrong b id o)) there w

content_may : (asked : Check) (c : File) (said : Mention) (id : Data) (w : Wrong) (may : Bool) → MayBe asked w may → IsWrongIn c said.digest id (Some w)
    → (bytes : List ℕ) × IsKept c said.digest said.size bytes → IsTrue may ↔ ContentUnpacks asked c said id
content_may asked c said id w may m wrong (bytes, kept) =
    let one = kept_one asked c said id bytes kept in
    let told = may_unpack asked bytes id w may m (here c said.digest bytes id (Some w) kept.0 wrong) in
    (λ is. one.0 (told.0 is), λ h. told.1 (one.1 h))

abbrev IsThere : File → Mention → Type 0
IsThere c said = (bytes : List ℕ) × IsKept c said.digest said.size bytes

pub content_wrong : {E : Type 0} (steady : Bool) (contents : Contents) (asked : Check) (said : Mention) (id : Data) (w : Wrong) (kept : Bool) (r : Result Bool E)
    → OverContents steady contents (λ c. IsWrongIn c said.digest id (Some w)) → OverContents steady contents (λ c. IsTrue kept ↔ IsThere c said) → kept ≡ true → IfOk r (MayBe asked w)
    → IfOk r (λ may. OverContents steady contents (λ c. IsTrue may ↔ ContentUnpacks asked c said id))
content_wrong steady contents asked said id w kept (Err e) wrong there is m = tt
content_wrong steady contents asked said id w kept (Ok may) wrong there is m =
    over_both steady contents (λ c. IsWrongIn c said.digest id (Some w)) (λ c. IsTrue kept ↔ IsThere c said) (λ c. IsTrue may ↔ ContentUnpacks asked c said id)
    (λ c a b. content_may asked c said id w may m a (b.0 is)) wrong there

pub content_absent : (steady : Bool) (contents : Contents) (asked : Check) (said : Mention) (id : Data) (kept : Bool) → OverContents steady contents (λ c. IsTrue kept ↔ IsThere c said) → kept ≡ false
    → OverContents steady contents (λ c. IsTrue true ↔ ContentUnpacks asked c said id)
content_absent steady contents asked said id kept there not =
    over_map steady contents (λ c. IsTrue kept ↔ IsThere c said) (λ c. IsTrue true ↔ ContentUnpacks asked c said id)
    (λ c a. (λ is bytes k. absurd (true≢false (sym (a.1 (bytes, k)) ∙ not)), λ h. refl)) there

right_content : (asked : Check) (c : File) (said : Mention) (id : Data) → IsWrongIn c said.digest id None → ContentUnpacks asked c said id
right_content asked c said id w bytes kept =
    let right = here c said.digest bytes id None kept.0 w in
    record { archive = λ is. right.0; diff_id = λ is. right.1 }

pub content_right : (steady : Bool) (contents : Contents) (asked : Check) (said : Mention) (id : Data) → OverContents steady contents (λ c. IsWrongIn c said.digest id None)
    → OverContents steady contents (λ c. IsTrue true ↔ ContentUnpacks asked c said id)
content_right steady contents asked said id h =
    over_map steady contents (λ c. IsWrongIn c said.digest id None) (λ c. IsTrue true ↔ ContentUnpacks asked c said id) (λ c w. (λ is. right_content asked c said id w, λ k. refl)) h

-- ---- a layer

pub layer_content : (asked : Check) (c : File) (layer id : Data) (m : Mention) → mention_in layer ≡ Some m → encoding_of m.media_type ≡ Some Gzip
    → ContentUnpacks asked c m id ↔ LayerUnpacks asked c layer id
layer_content asked c layer id m says typed =
    (λ h said also gzip. subst (λ (x : Mention). ContentUnpacks asked c x id) (some (sym says ∙ also)) h, λ h. h m says typed)

pub layer_other : (asked : Check) (c : File) (layer id : Data) (m : Mention) → mention_in layer ≡ Some m → ¬ (encoding_of m.media_type ≡ Some Gzip) → LayerUnpacks asked c layer id
layer_other asked c layer id m says other said also gzip =
    absurd (other (subst (λ (x : Mention). encoding_of x.media_type ≡ Some Gzip) (sym (some (sym says ∙ also))) gzip))

pub layer_silent : (asked : Check) (c : File) (layer id : Data) → mention_in layer ≡ None → LayerUnpacks asked c layer id
layer_silent asked c layer id none said also gzip = let e = sym none ∙ also in cc e

-- ---- one place after the other

pub place_unpacks : (asked : Check) (c : File) (layers ids : List Value) (place : ℕ) (layer id : Value) → slice_get layers place ≡ Some layer → slice_get ids place ≡ Some id
    → LayerUnpacks asked c (view layer) (view id) ↔ PlaceUnpacks asked c layers ids place
place_unpacks asked c layers ids place layer id l i = (
  λ h x y xs ys. subst (λ (v : Value). LayerUnpacks asked c (view x) (view v)) (some (sym i ∙ ys)) (subst (λ (v : Value). LayerUnpacks asked c (view v) (view id)) (some (sym l ∙ xs)) h),
  λ h. h layer id l i,
)

pub no_layer : (asked : Check) (c : File) (layers ids : List Value) (place : ℕ) → slice_get layers place ≡ None → PlaceUnpacks asked c layers ids place
no_layer asked c layers ids place none x y xs ys = let e = sym none ∙ xs in cc e

pub no_id : (asked : Check) (c : File) (layers ids : List Value) (place : ℕ) → slice_get ids place ≡ None → PlaceUnpacks asked c layers ids place
no_id asked c layers ids place none x y xs ys = let e = sym none ∙ ys in cc e

-- at the places before this one
abbrev pub UnpackBelow : Check → File → List Value → List Value → ℕ → Type 0
UnpackBelow asked c layers ids end = (place : ℕ) → place < end → PlaceUnpacks asked c layers ids place

pub none_below : (asked : Check) (steady : Bool) (contents : Contents) (layers ids : List Value) → OverContents steady contents (λ c. IsTrue true ↔ UnpackBelow asked c layers ids 0)
none_below asked steady contents layers ids =
    over_each steady contents (λ c. IsTrue true ↔ UnpackBelow asked c layers ids 0) (λ c. (λ is place below. absurd (omega arith), λ all. refl))

one_more : (asked : Check) (c : File) (layers ids : List Value) (end : ℕ) (old this new : Bool) → IsTrue new ↔ (IsTrue old × IsTrue this) → IsTrue old ↔ UnpackBelow asked c layers ids end
    → IsTrue this ↔ PlaceUnpacks asked c layers ids end → IsTrue new ↔ UnpackBelow asked c layers ids (end + 1)
one_more asked c layers ids end old this new both h k = (
  λ is. below_more (PlaceUnpacks asked c layers ids) end (h.0 (both.0 is).0) (k.0 (both.0 is).1),
  λ all. both.1 (h.1 (λ place below. all place (omega arith)), k.1 (all end (omega arith))),
)

pub more_below : (asked : Check) (steady : Bool) (contents : Contents) (layers ids : List Value) (end : ℕ) (old this new : Bool) → IsTrue new ↔ (IsTrue old × IsTrue this)
    → OverContents steady contents (λ c. IsTrue old ↔ UnpackBelow asked c layers ids end) → OverContents steady contents (λ c. IsTrue this ↔ PlaceUnpacks asked c layers ids end)
    → OverContents steady contents (λ c. IsTrue new ↔ UnpackBelow asked c layers ids (end + 1))
more_below asked steady contents layers ids end old this new both h k =
    over_both steady contents (λ c. IsTrue old ↔ UnpackBelow asked c layers ids end) (λ c. IsTrue this ↔ PlaceUnpacks asked c layers ids end)
    (λ c. IsTrue new ↔ UnpackBelow asked c layers ids (end + 1)) (λ c a b. one_more asked c layers ids end old this new both a b) h k

-- ---- each pair

abbrev AtEach : (Data → Data → Type 0) → List Value → List Value → Type 0
AtEach P layers ids = (place : ℕ) (x y : Value) → slice_get layers place ≡ Some x → slice_get ids place ≡ Some y → P (view x) (view y)

to_pairs : (P : Data → Data → Type 0) (layers ids : List Value) → AtEach P layers ids → EachPair P (items_view layers) (items_view ids)
to_pairs P [] ids h = tt
to_pairs P (x ∷ xs) [] h = tt
to_pairs P (x ∷ xs) (y ∷ ys) h = (h 0 x y refl refl, to_pairs P xs ys (λ place. h (suc place)))

of_pairs : (P : Data → Data → Type 0) (layers ids : List Value) → EachPair P (items_view layers) (items_view ids) → AtEach P layers ids
of_pairs P [] ids h place a b l i = let within = slice_get_within [] place a l in absurd (omega arith)
of_pairs P (x ∷ xs) [] h place a b l i = let within = slice_get_within [] place b i in absurd (omega arith)
of_pairs P (x ∷ xs) (y ∷ ys) h zero a b l i = subst (λ (v : Value). P (view a) (view v)) (some i) (subst (λ (v : Value). P (view v) (view y)) (some l) h.0)
of_pairs P (x ∷ xs) (y ∷ ys) h (suc place) a b l i = of_pairs P xs ys h.1 place a b l i

-- behind the last layer there is none
pub all_pairs : (asked : Check) (steady : Bool) (contents : Contents) (layers ids : List Value) (end : ℕ) (all : Bool) → length layers ≤ end
    → OverContents steady contents (λ c. IsTrue all ↔ UnpackBelow asked c layers ids end)
    → OverContents steady contents (λ c. IsTrue all ↔ EachPair (LayerUnpacks asked c) (items_view layers) (items_view ids))
all_pairs asked steady contents layers ids end all long h =
    over_map steady contents (λ c. IsTrue all ↔ UnpackBelow asked c layers ids end) (λ c. IsTrue all ↔ EachPair (LayerUnpacks asked c) (items_view layers) (items_view ids))
    (λ c a. (
      λ is. to_pairs (LayerUnpacks asked c) layers ids (λ place x y l i. let within = slice_get_within layers place x l in a.0 is place (omega arith) x y l i),
      λ pairs. a.1 (λ place below. of_pairs (LayerUnpacks asked c) layers ids pairs place),
    )) h

-- ---- an image

pub no_filesystem : (asked : Check) (c : File) (i : Image) → is_filesystem_image i ≡ false → LayersUnpack asked c i
no_filesystem asked c i not is = absurd (true≢false (sym is ∙ not))

some_pairs : (P : Data → Data → Type 0) (ls ids : Items) (x y : Option Items) → Some ls ≡ x → Some ids ≡ y → IfSome x (λ a. IfSome y (EachPair P a)) ↔ EachPair P ls ids
some_pairs P ls ids None y l i = let e = l in cc e
some_pairs P ls ids (Some a) None l i = let e = i in cc e
some_pairs P ls ids (Some a) (Some b) l i =
    (λ h. subst (λ z. EachPair P ls z) (some (sym i)) (subst (λ z. EachPair P z b) (some (sym l)) h), λ h. subst (λ z. EachPair P z b) (some l) (subst (λ z. EachPair P ls z) (some i) h))

pub image_pairs : (asked : Check) (c : File) (i : Image) (ls ids : Items) → is_filesystem_image i ≡ true → Some ls ≡ layers_of i → Some ids ≡ diff_ids_of i
    → EachPair (LayerUnpacks asked c) ls ids ↔ LayersUnpack asked c i
image_pairs asked c i ls ids is l d =
    let one = some_pairs (LayerUnpacks asked c) ls ids (layers_of i) (diff_ids_of i) l d in
    (λ h yes. one.1 h, λ h. one.0 (h is))

pub no_layers : (asked : Check) (c : File) (i : Image) → None ≡ layers_of i → LayersUnpack asked c i
no_layers asked c i none is = subst (λ (x : Option Items). IfSome x (λ ls. IfSome (diff_ids_of i) (EachPair (LayerUnpacks asked c) ls))) none tt

no_second : (P : Items → Items → Type 0) (x : Option Items) → IfSome x (λ a. IfSome None (P a))
no_second P None = tt
no_second P (Some a) = tt

pub no_ids : (asked : Check) (c : File) (i : Image) → None ≡ diff_ids_of i → LayersUnpack asked c i
no_ids asked c i none is =
    subst (λ (y : Option Items). IfSome (layers_of i) (λ ls. IfSome y (EachPair (LayerUnpacks asked c) ls))) none (no_second (EachPair (LayerUnpacks asked c)) (layers_of i))

-- ---- the DiffID as a text

pub text_unnamed : (o : Option (List ℕ)) (t : List ℕ) (a : Algorithm) → Some t ≡ o → ((b : Algorithm) → ¬ IsBy b t) → IfSome o (λ u. (b : Algorithm) → IsBy b u → b ≡ a)
text_unnamed o t a is none = subst (λ x. IfSome x (λ u. (b : Algorithm) → IsBy b u → b ≡ a)) is (λ b by. absurd (none b by))

pub sum_unnamed : (o : Option (List ℕ)) (t : List ℕ) (sum : Checksum) → Some t ≡ o → ((b : Algorithm) → ¬ IsBy b t)
    → IsTrue true ↔ IfSome o (λ u. (b : Algorithm) → IsBy b u → u ≡ checksum_text sum)
sum_unnamed o t sum is none = (λ yes. subst (λ x. IfSome x (λ u. (b : Algorithm) → IsBy b u → u ≡ checksum_text sum)) is (λ b by. absurd (none b by)), λ h. refl)

pub sum_named : (o : Option (List ℕ)) (t : List ℕ) (a : Algorithm) (sum : Checksum) (same : Bool) → Some t ≡ o → IsBy a t → IsTrue same ↔ (t ≡ checksum_text sum)
    → IsTrue same ↔ IfSome o (λ u. (b : Algorithm) → IsBy b u → u ≡ checksum_text sum)
sum_named o t a sum same is by told = (
  λ yes. subst (λ x. IfSome x (λ u. (b : Algorithm) → IsBy b u → u ≡ checksum_text sum)) is (λ b also. told.0 yes),
  λ h. told.1 (subst (λ x. IfSome x (λ u. (b : Algorithm) → IsBy b u → u ≡ checksum_text sum)) (sym is) h a by),
)
