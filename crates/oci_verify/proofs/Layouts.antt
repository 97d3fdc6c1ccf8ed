-- What is found of an image layout, and what that says of it.
use Rattle.std.proofs.Common.{◌≡◌, ℕ, ◌<◌, ◌≤◌, Bool, true, false, Vec, Global, List, [], length, get_or, take, ◌+◌, ◌∷◌, ◌++◌, Option, None, Some, Result, Ok, Err, IfOk, IfSome, inl, inr, refl, sym, ap, subst, ◌∙◌, true≢false, arith}
use Rattle.std.specs.Prelude.{◌≡◌, ◌⊎◌, ◌↔◌, codes, bytes_eq, cond, IsTrue, string_bytes}
use Rattle.std.specs.List.{All, Contains}
use Rattle.std.proofs.lemmas.Option.{slice_get-get_or, get_or_from_slice_get}
use Rattle.std.proofs.lemmas.List.Elements.{All-contains, Contains-append_left, Contains-push, Contains-push_cases}
use Rattle.std.proofs.lemmas.List.{get_or_default}
use Rattle.std.proofs.lemmas.Slice.Eq.{bytes_eq-Decides}
use Rattle.oci_json.specs.Engines.{ReadsAs}
use Rattle.oci_layout.specs.Documents.{IsRead}
use Rattle.oci_layout.specs.Looks.{Contents, Shows, is_unread}
use Rattle.oci_layout.specs.Marker.{HasMarker, IsMarker, IsMarkerIn, IsMarked}
use Rattle.oci_base.specs.Digest.{IsDigest}
use Rattle.oci_layout.specs.Names.{IsPathOf, IsListed}
use Rattle.oci_layout.specs.Paths.{path_of}
use Rattle.oci_layout.specs.Sound.{AreFine, AreSoundFrom, IsLarger, IsSoundBy, IsSoundIndex, IsSoundLayout, IsTop}
use Rattle.oci_layout.specs.Walk.{IsWalk}
use Rattle.oci_layout.specs.declared.claim.Claim.{Claim}
use Rattle.oci_layout.specs.declared.claim.Fault.{Fault}
use Rattle.oci_layout.specs.declared.kind.Kind.TheVariants.{Index}
use Rattle.oci_layout.specs.declared.store.Listed.{Listed}
use Rattle.oci_layout.specs.declared.top.Top.{Top}
use Rattle.oci_layout.specs.declared.top.Top.TheVariants.{Missing, Unreadable, TooLarge, Bytes}
use Rattle.oci_layout.proofs.Once.{document_once}
use Rattle.oci_layout.proofs.Sound.{sound_where_reached, fine_where_sound, contained, there_where_found, found_where_there}
use Rattle.oci_agreement.specs.Images.{Image}
use Rattle.oci_layout.specs.Claims.{items_at}
use Rattle.serde_json.specs.Data.{Data}
use Rattle.oci_verify.specs.Images.{AllKeep, ClaimKeeps, ImagesKeep, IsFine, KeepsFrom}
use Rattle.oci_verify.specs.Kept.{AreBytes}
use Rattle.oci_verify.specs.Layouts.{AllAgree, AllPass, AllUnpack, AreKnown, ArePathsOf, IsReachedImage, IsReachedIndex, IsTopIndex, HasNoNote, IsAnswer, IsJudged, IsJudgedIndex, IsNameOf, IsQuiet, IsReached, IsRightIndex, IsRightLayout, OverSteady}
use Rattle.oci_verify.specs.Passing.{Books}
use Rattle.oci_verify.specs.declared.options.Options.{Options}
use Rattle.oci_verify.proofs.Passing.{all_pass, found_passing}
use Rattle.oci_verify.proofs.Reaching.{reached_from, reached_record}

some : {X : Type 0} {x y : X} → Some x ≡ Some y → x ≡ y
some e = cc

abbrev File : Type 0
File = List ℕ → Option (List ℕ)

-- ---- the index

-- what was found of a walk over known contents, in full
full_walk : (books : Books) (options : Options) (steady : Bool) (names : List ℕ → Type 0) (contents : File) (index : List ℕ) (before : Option Fault) (first : List Claim) (right : Bool) → options.quick ≡ false
    → (j : IsJudged books options steady names (Some contents) index before first right) → IsWalk (Shows false steady options.limit (Some contents)) first j.claims j.faults
full_walk books options steady names contents index before first right full j =
    subst (λ q. IsWalk (Shows q steady options.limit (Some contents)) first j.claims j.faults) full j.walk

sound_by : (books : Books) (options : Options) (steady : Bool) (names : List ℕ → Type 0) (tops contents : File) (index : List ℕ) (right : Bool) → tops (codes "index.json") ≡ Some index
    → length index ≤ options.limit → IsJudgedIndex books options steady names (Some contents) index right → IsTrue right → options.quick ≡ false → IsSoundBy options.limit tops contents
sound_by books options steady names tops contents index right there small i is full =
    let j = i.judged in
    let found = (j.told.0 is).0 in
    record {
      index = index;
      there = there;
      small = small;
      claims = i.first;
      document = subst (λ f. IsRead Index index f i.first) found.index i.read;
      reached = sound_where_reached options.limit steady contents i.first j.claims j.faults (full_walk books options steady names contents index i.before i.first right full j) found.fine;
    }

pub sound_index : (books : Books) (options : Options) (steady : Bool) (names : List ℕ → Type 0) (tops contents : Contents) (bytes : Vec ℕ Global) (right : Bool)
    → IsTop options.limit steady tops (codes "index.json") (Bytes bytes) → IsJudgedIndex books options steady names contents bytes.items right
    → IsTrue right → options.quick ≡ false → IsSoundIndex options.limit tops contents
sound_index books options steady names None contents bytes right t i is full = tt
sound_index books options steady names (Some tops) None bytes right t i is full = tt
sound_index books options steady names (Some tops) (Some contents) bytes right t i is full = sound_by books options steady names tops contents bytes.items right t.0 t.1 i is full

-- a listed name is that of a claim that is reached
named_by : (limit : ℕ) (tops contents : File) (index : List ℕ) (first claims : List Claim) (faults : List (Option Fault)) (listed : List Listed)
    → tops (codes "index.json") ≡ Some index → IsRead Index index None first → IsWalk (Shows false true limit (Some contents)) first claims faults
    → All (λ l. IsNameOf claims (string_bytes l.path)) listed → (path : List ℕ) → IsListed listed path → (c : Claim) × IsReached limit tops contents c × IsPathOf c.digest path
named_by limit tops contents index first claims faults listed there read walk all path (l, contains, e) =
    let (c, among, named) = All-contains (λ l. IsNameOf claims (string_bytes l.path)) listed l all contains in (
      c,
      reached_record limit tops contents index first claims faults there read walk c among,
      subst (IsPathOf c.digest) e named,
    )

no_note : (books : Books) (options : Options) (names : List ℕ → Type 0) (tops contents : File) (index : List ℕ) (right : Bool) → tops (codes "index.json") ≡ Some index
    → (i : IsJudgedIndex books options true names (Some contents) index right) → IsTrue right → options.quick ≡ false → options.check.strict ≡ true
    → HasNoNote options.limit names tops contents
no_note books options names tops contents index right there i is full strict =
    let j = i.judged in
    let found = (j.told.0 is).0 in
    let walk = full_walk books options true names contents index i.before i.first right full j in
    let read = subst (λ f. IsRead Index index f i.first) found.index i.read in
    let quiet = found.quiet strict in
    record {
      there = λ c r. there_where_found options.limit contents i.first j.claims j.faults walk quiet.there c
          (contained options.limit contents i.first j.claims j.faults walk found.fine c (reached_from options.limit tops contents index i.first c there read r));
      reached = λ path named. named_by options.limit tops contents index i.first j.claims j.faults j.listed there read walk quiet.claimed path (j.listing.all refl path named);
      read = λ c r. All-contains (λ c. is_unread c ≡ false) j.claims c quiet.read
          (contained options.limit contents i.first j.claims j.faults walk found.fine c (reached_from options.limit tops contents index i.first c there read r));
    }

at_itself : {X : Type 0} (ls : List X) (k : ℕ) (d : X) → k < length ls → get_or ls k (get_or ls k d) ≡ get_or ls k d
at_itself ls k d below = get_or_from_slice_get ls k (get_or ls k d) (get_or ls k d) (slice_get-get_or ls k d below)

claim_itself : (cs : List Claim) (k : ℕ) (c : Claim) → k < length cs → get_or cs k (get_or cs k c) ≡ get_or cs k c
claim_itself cs k c below = get_or_from_slice_get cs k (get_or cs k c) (get_or cs k c) (slice_get-get_or cs k c below)

quiet_by : (books : Books) (options : Options) (names : List ℕ → Type 0) (tops contents : File) (index : List ℕ) (right : Bool) → tops (codes "index.json") ≡ Some index
    → (i : IsJudgedIndex books options true names (Some contents) index right) → IsRead Index index None i.first
    → IsWalk (Shows false true options.limit (Some contents)) i.first i.judged.claims i.judged.faults → AreFine i.judged.claims i.judged.faults
    → HasNoNote options.limit names tops contents → IsQuiet i.judged.claims i.judged.faults i.judged.listed
quiet_by books options names tops contents index right there i read walk fine n = record {
  there = found_where_there options.limit contents i.first i.judged.claims i.judged.faults walk fine
      (λ c among. n.there c (reached_record options.limit tops contents index i.first i.judged.claims i.judged.faults there read walk c among));
  claimed = λ k d below. claimed (get_or i.judged.listed k d) (k, below, at_itself i.judged.listed k d below);
  read = λ k d below. n.read (get_or i.judged.claims k d)
      (reached_record options.limit tops contents index i.first i.judged.claims i.judged.faults there read walk (get_or i.judged.claims k d)
      (k, below, at_itself i.judged.claims k d below));
}
  where
    claimed : (l : Listed) → Contains i.judged.listed l → IsNameOf i.judged.claims (string_bytes l.path)
    claimed l among =
        let (c, r, p) = n.reached (string_bytes l.path) (i.judged.listing.named l among (i.judged.listing.whole refl l among)) in (
          c,
          contained options.limit contents i.first i.judged.claims i.judged.faults walk fine c (reached_from options.limit tops contents index i.first c there read r),
          p,
        )

-- where the images of the index and of what is claimed are fine, those of the layout are
fine_by : (options : Options) (tops contents : File) (index : List ℕ) (first claims : List Claim) (faults : List (Option Fault)) → tops (codes "index.json") ≡ Some index
    → IsRead Index index None first → IsWalk (Shows false true options.limit (Some contents)) first claims faults → AreFine claims faults
    → ImagesKeep options.check options.limit contents index claims → (i : Image) → IsReachedImage options.limit tops contents i → IsFine options.check contents i
fine_by options tops contents index first claims faults there read walk fine (top, all) i r =
    All-contains (KeepsFrom options.check options.limit contents) (items_at (codes "manifests") r.index) r.descriptor (go r.reached) r.listed i r.image
  where
    go : IsTopIndex tops r.index ⊎ IsReachedIndex options.limit tops contents r.index → AllKeep options.check options.limit contents r.index
    go (inl (bytes, here, reads)) = top r.index (subst (λ b. ReadsAs b r.index) (some (sym here ∙ there)) reads)
    go (inr (c, reached, is, value)) =
        All-contains (ClaimKeeps options.check options.limit contents) claims c all
        (contained options.limit contents first claims faults walk fine c (reached_from options.limit tops contents index first c there read reached)) is r.index value

-- so they are of an index that the layout reaches
all_fine : (options : Options) (tops contents : File) (d : Data) → IsTopIndex tops d ⊎ IsReachedIndex options.limit tops contents d
    → AllAgree options.check options.limit tops contents → AllUnpack options.check options.limit tops contents → AllKeep options.check options.limit contents d
all_fine options tops contents d reached agree unpack k x below i is =
    let items = items_at (codes "manifests") d in
    let r : IsReachedImage options.limit tops contents i =
    record { index = d; reached = reached; descriptor = get_or items k x; listed = (k, below, at_itself items k x below); image = is } in
    (agree i r, unpack i r)

found_fine : (options : Options) (tops contents : File) (index : List ℕ) (first claims : List Claim) (faults : List (Option Fault)) → tops (codes "index.json") ≡ Some index
    → IsRead Index index None first → IsWalk (Shows false true options.limit (Some contents)) first claims faults
    → AllAgree options.check options.limit tops contents → AllUnpack options.check options.limit tops contents → ImagesKeep options.check options.limit contents index claims
found_fine options tops contents index first claims faults there read walk agree unpack = (
  λ d reads. all_fine options tops contents d (inl (index, there, reads)) agree unpack,
  λ k c below is d value.
      all_fine options tops contents d (inr (
        get_or claims k c,
        reached_record options.limit tops contents index first claims faults there read walk (get_or claims k c) (k, below, claim_itself claims k c below),
        is,
        value,
      )) agree unpack,
)

fine_found : (books : Books) (options : Options) (names : List ℕ → Type 0) (tops contents : File) (index : List ℕ) (right : Bool) → AreBytes contents → tops (codes "index.json") ≡ Some index
    → (i : IsJudgedIndex books options true names (Some contents) index right) → IsTrue right → options.quick ≡ false
    → (image : Image) → IsReachedImage options.limit tops contents image → IsFine options.check contents image
fine_found books options names tops contents index right are there i is full =
    let j = i.judged in
    let (found, agree, pass) = j.told.0 is in
    let walk = full_walk books options true names contents index i.before i.first right full j in
    let read = subst (λ f. IsRead Index index f i.first) found.index i.read in
    fine_by options tops contents index i.first j.claims j.faults there read walk found.fine ((j.images full are).0 agree)

-- what was found of the documents, all that is reached passes
pass_found : (books : Books) (options : Options) (names : List ℕ → Type 0) (tops contents : File) (index : List ℕ) (right : Bool) → AreBytes contents → tops (codes "index.json") ≡ Some index
    → (i : IsJudgedIndex books options true names (Some contents) index right) → IsTrue right → options.quick ≡ false → AllPass books options.check options.limit tops contents
pass_found books options names tops contents index right are there i is full =
    let j = i.judged in
    let (found, agree, pass) = j.told.0 is in
    let walk = full_walk books options true names contents index i.before i.first right full j in
    let read = subst (λ f. IsRead Index index f i.first) found.index i.read in
    all_pass books options.check options.limit tops contents index i.before i.first j.claims j.faults there found.index read walk found.fine ((j.passing are).0 pass)

-- what is right is found right
found_right : (books : Books) (options : Options) (names : List ℕ → Type 0) (tops contents : File) (index : List ℕ) (right : Bool) → AreBytes contents → tops (codes "index.json") ≡ Some index
    → IsJudgedIndex books options true names (Some contents) index right → options.quick ≡ false → IsRightIndex books options names tops contents → IsTrue right
found_right books options names tops contents index right are there i full r =
    let j = i.judged in
    let same : r.sound.index ≡ index = some (sym r.sound.there ∙ there) in
    let once = document_once Index index i.before None i.first r.sound.claims i.read (subst (λ b. IsRead Index b None r.sound.claims) same r.sound.document) in
    let sound : AreSoundFrom options.limit contents i.first = subst (AreSoundFrom options.limit contents) (sym once.1) r.sound.reached in
    let walk = full_walk books options true names contents index i.before i.first right full j in
    let fine = fine_where_sound options.limit contents i.first j.claims j.faults walk sound in
    let read = subst (λ f. IsRead Index index f i.first) once.0 i.read in
    j.told.1 (
      record {
        index = once.0;
        fine = fine;
        whole = λ k d below. j.listing.whole refl (get_or j.listed k d) (k, below, at_itself j.listed k d below);
        quiet = λ strict. quiet_by books options names tops contents index right there i read walk fine (r.notes strict);
      },
      (j.images full are).1 (found_fine options tops contents index i.first j.claims j.faults there read walk r.agree r.layers),
      (j.passing are).1 (found_passing books options.check options.limit tops contents index i.before i.first j.claims j.faults there read walk r.passing),
    )

-- ---- where all is known

-- of a part, where it is so of another
pub over_map : (steady : Bool) (tops contents : Contents) (P Q : File → File → Type 0) → ((t c : File) → P t c → Q t c) → OverSteady steady tops contents P
    → OverSteady steady tops contents Q
over_map true (Some t) (Some c) P Q to h = λ are. to t c (h are)
over_map true (Some t) None P Q to h = tt
over_map true None contents P Q to h = tt
over_map false tops contents P Q to h = tt

pub right_index : (books : Books) (options : Options) (steady : Bool) (names : List ℕ → Type 0) (tops contents : Contents) (bytes : Vec ℕ Global) (right : Bool) → options.quick ≡ false
    → IsTop options.limit steady tops (codes "index.json") (Bytes bytes) → IsJudgedIndex books options steady names contents bytes.items right
    → OverSteady steady tops contents (λ t c. IsTrue right ↔ IsRightIndex books options names t c)
right_index books options true names (Some tops) (Some contents) bytes right full t i = λ are. (
  λ is. record {
    sound = sound_by books options true names tops contents bytes.items right t.0 t.1 i is full;
    agree = λ image r. (fine_found books options names tops contents bytes.items right are t.0 i is full image r).0;
    layers = λ image r. (fine_found books options names tops contents bytes.items right are t.0 i is full image r).1;
    passing = pass_found books options names tops contents bytes.items right are t.0 i is full;
    notes = no_note books options names tops contents bytes.items right t.0 i is full;
  },
  found_right books options names tops contents bytes.items right are t.0 i full,
)
right_index books options true names (Some tops) None bytes right full t i = tt
right_index books options true names None contents bytes right full t i = tt
right_index books options false names tops contents bytes right full t i = tt

-- a file is not both larger and no larger than the limit
not_larger : (limit : ℕ) (tops : File) (name bytes index : List ℕ) → tops name ≡ Some bytes → limit < length bytes → tops name ≡ Some index → length index ≤ limit → ⊥
not_larger limit tops name bytes index there more here small =
    let same : bytes ≡ index = some (sym there ∙ here) in
    let size : length bytes ≡ length index = ap length same in
    omega arith

pub large_index : (books : Books) (options : Options) (steady : Bool) (names : List ℕ → Type 0) (tops contents : Contents)
    → IsTop options.limit steady tops (codes "index.json") TooLarge → OverSteady steady tops contents (λ t c. IsTrue false ↔ IsRightIndex books options names t c)
large_index books options true names (Some tops) (Some contents) (bytes, there, more) = λ are. (
  λ is. absurd (true≢false (sym is)),
  λ r. absurd (not_larger options.limit tops (codes "index.json") bytes r.sound.index there more r.sound.there r.sound.small),
)
large_index books options true names (Some tops) None t = tt
large_index books options true names None contents t = tt
large_index books options false names tops contents t = tt

-- where the file is larger than the limit, its bytes were not read
pub bytes_small : (limit : ℕ) (steady : Bool) (tops : File) (bytes : Vec ℕ Global) → IsTop limit steady (Some tops) (codes "index.json") (Bytes bytes)
    → IsLarger limit (tops (codes "index.json")) → ⊥
bytes_small limit steady tops bytes t (all, there, more) = not_larger limit tops (codes "index.json") all bytes.items there more t.0 t.1

-- ---- the marker

pub marked : (limit : ℕ) (steady : Bool) (tops : Contents) (top : Top) (right : Bool) → IsTop limit steady tops (codes "oci-layout") top → IsTrue right ↔ IsMarkerIn top → IsTrue right
    → IsMarked limit tops
marked limit steady None top right t told is = tt
marked limit steady (Some tops) (Bytes bytes) right t told is = record { bytes = bytes.items; there = t.0; small = t.1; marker = told.0 is }
marked limit steady (Some tops) Missing right t told is = absurd (told.0 is)
marked limit steady (Some tops) (Unreadable why) right t told is = absurd (told.0 is)
marked limit steady (Some tops) TooLarge right t told is = absurd (told.0 is)

-- exactly where no read fails
pub marked_right : (limit : ℕ) (tops : File) (top : Top) (right : Bool) → IsTop limit true (Some tops) (codes "oci-layout") top → IsTrue right ↔ IsMarkerIn top
    → HasMarker limit tops → IsTrue right
marked_right limit tops (Bytes bytes) right t told m = told.1 (subst IsMarker (some (sym m.there ∙ t.0)) m.marker)
marked_right limit tops Missing right t told m = let e = sym t ∙ m.there in cc e
marked_right limit tops (Unreadable why) right t told m = absurd (true≢false t)
marked_right limit tops TooLarge right (bytes, there, more) told m = absurd (not_larger limit tops (codes "oci-layout") bytes m.bytes there more m.there m.small)

pub exact_marker : (limit : ℕ) (steady : Bool) (tops contents : Contents) (top : Top) (right : Bool) → IsTop limit steady tops (codes "oci-layout") top → IsTrue right ↔ IsMarkerIn top
    → OverSteady steady tops contents (λ t c. IsTrue right ↔ HasMarker limit t)
exact_marker limit true (Some tops) (Some contents) top right t told = λ are. (marked limit true (Some tops) top right t told, marked_right limit tops top right t told)
exact_marker limit true (Some tops) None top right t told = tt
exact_marker limit true None contents top right t told = tt
exact_marker limit false tops contents top right t told = tt

-- ---- the whole

pub right_layout : (books : Books) (options : Options) (steady : Bool) (names : List ℕ → Type 0) (tops contents : Contents) (marker index both : Bool) → IsTrue both ↔ (IsTrue marker × IsTrue index)
    → OverSteady steady tops contents (λ t c. IsTrue marker ↔ HasMarker options.limit t) → OverSteady steady tops contents (λ t c. IsTrue index ↔ IsRightIndex books options names t c)
    → OverSteady steady tops contents (λ t c. IsTrue both ↔ IsRightLayout books options names t c)
right_layout books options true names (Some t) (Some c) marker index both and m i = λ are. (
  λ is.
      let r = (i are).0 (and.0 is).1 in
      record { marker = (m are).0 (and.0 is).0; sound = r.sound; agree = r.agree; layers = r.layers; passing = r.passing; notes = r.notes },
  λ r. and.1 ((m are).1 r.marker, (i are).1 (record { sound = r.sound; agree = r.agree; layers = r.layers; passing = r.passing; notes = r.notes })),
)
right_layout books options true names (Some t) None marker index both and m i = tt
right_layout books options true names None contents marker index both and m i = tt
right_layout books options false names tops contents marker index both and m i = tt

pub answer_none : (steady : Bool) (tops contents : Contents) (P : File → File → Type 0) → OverSteady steady tops contents (λ t c. IsAnswer 3 (P t c))
answer_none true (Some t) (Some c) P = λ are. inr (inr refl)
answer_none true (Some t) None P = tt
answer_none true None contents P = tt
answer_none false tops contents P = tt

-- ---- the steps in which it is found

pub judged_index : {E : Type 0} (books : Books) (options : Options) (steady : Bool) (names : List ℕ → Type 0) (contents : Contents) (index : List ℕ) (before : Option Fault) (first : List Claim)
    (r : Result Bool E) → IsRead Index index before first → IfOk r (IsJudged books options steady names contents index before first) → IfOk r (IsJudgedIndex books options steady names contents index)
judged_index books options steady names contents index before first (Ok right) read j = record { before = before; first = first; read = read; judged = j }
judged_index books options steady names contents index before first (Err e) read j = tt

pub contents_sound : {E : Type 0} (books : Books) (options : Options) (steady : Bool) (names : List ℕ → Type 0) (tops contents : Contents) (bytes : Vec ℕ Global) (r : Result Bool E)
    → IsTop options.limit steady tops (codes "index.json") (Bytes bytes) → IfOk r (IsJudgedIndex books options steady names contents bytes.items)
    → IfOk r (λ right. IsTrue right → options.quick ≡ false → IsSoundIndex options.limit tops contents)
contents_sound books options steady names tops contents bytes (Ok right) t i = sound_index books options steady names tops contents bytes right t i
contents_sound books options steady names tops contents bytes (Err e) t i = tt

pub contents_right : {E : Type 0} (books : Books) (options : Options) (steady : Bool) (names : List ℕ → Type 0) (tops contents : Contents) (bytes : Vec ℕ Global) (r : Result Bool E)
    → IsTop options.limit steady tops (codes "index.json") (Bytes bytes) → IfOk r (IsJudgedIndex books options steady names contents bytes.items)
    → IfOk r (λ right. options.quick ≡ false → OverSteady steady tops contents (λ t c. IsTrue right ↔ IsRightIndex books options names t c))
contents_right books options steady names tops contents bytes (Ok right) t i = λ full. right_index books options steady names tops contents bytes right full t i
contents_right books options steady names tops contents bytes (Err e) t i = tt

pub any_ok : {E : Type 0} (r : Result Bool E) (P : Type 0) → P → IfOk r (λ right. P)
any_ok (Ok right) P p = p
any_ok (Err e) P p = tt

pub any_wrong : {E : Type 0} (r : Result Bool E) (tops : Contents) (A : File → Type 0) → IfSome tops (λ t. ¬ A t) → IfOk r (λ right. IfSome tops (λ t. A t → right ≡ false))
any_wrong (Ok right) None A h = tt
any_wrong (Ok right) (Some t) A h = λ a. absurd (h a)
any_wrong (Err e) tops A h = tt

-- an index whose bytes were read is there, and no larger than the limit
pub not_missing : (limit : ℕ) (steady : Bool) (tops : Contents) (bytes : Vec ℕ Global) → IsTop limit steady tops (codes "index.json") (Bytes bytes)
    → IfSome tops (λ t. ¬ (t (codes "index.json") ≡ None))
not_missing limit steady None bytes t = tt
not_missing limit steady (Some tops) bytes t = λ none. let e = sym none ∙ t.0 in cc e

pub not_large : (limit : ℕ) (steady : Bool) (tops : Contents) (bytes : Vec ℕ Global) → IsTop limit steady tops (codes "index.json") (Bytes bytes)
    → IfSome tops (λ t. ¬ IsLarger limit (t (codes "index.json")))
not_large limit steady None bytes t = tt
not_large limit steady (Some tops) bytes t = λ larger. bytes_small limit steady tops bytes t larger

pub large_there : (limit : ℕ) (steady : Bool) (tops : Contents) → IsTop limit steady tops (codes "index.json") TooLarge → IfSome tops (λ t. ¬ (t (codes "index.json") ≡ None))
large_there limit steady None t = tt
large_there limit steady (Some tops) (bytes, there, more) = λ none. let e = sym none ∙ there in cc e

-- what is so in any case is so where it is asked
pub in_any_case : (tops : Contents) (A : File → Type 0) (P : Type 0) → P → IfSome tops (λ t. A t → P)
in_any_case None A P p = tt
in_any_case (Some t) A P p = λ a. p

pub in_no_case : (tops : Contents) (A : File → Type 0) (P : Type 0) → IfSome tops (λ t. ¬ A t) → IfSome tops (λ t. A t → P)
in_no_case None A P h = tt
in_no_case (Some t) A P h = λ a. absurd (h a)

pub in_case : (tops : Contents) (A : File → Type 0) (P Q : Type 0) → (P → Q) → IfSome tops (λ t. A t → P) → IfSome tops (λ t. A t → Q)
in_case None A P Q to h = tt
in_case (Some t) A P Q to h = λ a. to (h a)

pub sound_layout : (limit : ℕ) (tops contents : Contents) (quick marker index both : Bool) → IsTrue both ↔ (IsTrue marker × IsTrue index) → (IsTrue marker → IsMarked limit tops)
    → (IsTrue index → quick ≡ false → IsSoundIndex limit tops contents) → IsTrue both → quick ≡ false → IsSoundLayout limit tops contents
sound_layout limit tops contents quick marker index both and m i is full = record { marker = m (and.0 is).0; index = i (and.0 is).1 full }

-- what is wrong in one part is wrong
pub one_wrong : (marker index both : Bool) → IsTrue both ↔ (IsTrue marker × IsTrue index) → index ≡ false → both ≡ false
one_wrong marker index true and wrong = absurd (true≢false (sym (and.0 refl).1 ∙ wrong))
one_wrong marker index false and wrong = refl

pub told_all : (right agree pass rest both : Bool) (P : Type 0) → IsTrue both ↔ (IsTrue right × IsTrue rest) → IsTrue rest ↔ (IsTrue agree × IsTrue pass) → IsTrue right ↔ P
    → IsTrue both ↔ (P × IsTrue agree × IsTrue pass)
told_all right agree pass rest both P and others is = (
  λ told. let rest = others.0 (and.0 told).1 in (is.0 (and.0 told).0, rest.0, rest.1),
  λ h. and.1 (is.1 h.0, others.1 (h.1, h.2)),
)

-- ---- notes

pub quiet_told : (claims : List Claim) (faults : List (Option Fault)) (listed : List Listed) (has : List ℕ → Bool) → ArePathsOf claims has → (found known both : Bool)
    → IsTrue both ↔ (IsTrue found × IsTrue known) → IsTrue found ↔ All (λ f. f ≡ None) faults → IsTrue known ↔ AreKnown claims listed has
    → (strict : Bool) → strict ≡ true → IsTrue both ↔ (strict ≡ true → IsQuiet claims faults listed)
quiet_told claims faults listed has are found known both and f r strict is = (
  λ told asked. record {
    there = f.0 (and.0 told).0;
    claimed = λ k d below. (are (string_bytes (get_or listed k d).path)).0 ((r.0 (and.0 told).1).0 k d below);
    read = (r.0 (and.0 told).1).1;
  },
  λ h. and.1 (f.1 (h is).there, r.1 ((λ k d below. (are (string_bytes (get_or listed k d).path)).1 ((h is).claimed k d below)), (h is).read)),
)

-- one path more
same_bytes : (p q : List ℕ) → bytes_eq p q ≡ true → p ≡ q
same_bytes p q e = (bytes_eq-Decides p q).0 e

are_same : (p q : List ℕ) → p ≡ q → bytes_eq p q ≡ true
are_same p q e = (bytes_eq-Decides p q).1 e

wider : (claims : List Claim) (c : Claim) (path : List ℕ) → IsNameOf claims path → IsNameOf (claims ++ c ∷ []) path
wider claims c path (d, among, named) = (d, Contains-append_left claims (c ∷ []) d among, named)

one_path : (claims : List Claim) (c : Claim) (p : List ℕ) (old new : List ℕ → Bool) → IsPathOf c.digest p
    → ((algorithm encoded : List ℕ) → IsDigest c.digest algorithm encoded → p ≡ path_of algorithm encoded) → ((q : List ℕ) → new q ≡ cond (bytes_eq p q) true (old q))
    → ArePathsOf claims old → ArePathsOf (claims ++ c ∷ []) new
one_path claims c p old new is only step are q = (λ h. to (bytes_eq p q) refl h, λ h. from (bytes_eq p q) refl h)
  where
    to : (b : Bool) → bytes_eq p q ≡ b → new q ≡ true → IsNameOf (claims ++ c ∷ []) q
    to true e h = subst (IsNameOf (claims ++ c ∷ [])) (same_bytes p q e) (c, Contains-push claims c, is)
    to false e h = wider claims c q ((are q).0 (sym (step q ∙ ap (λ b. cond b true (old q)) e) ∙ h))

    here : (d : Claim) → c ≡ d → IsPathOf d.digest q → p ≡ q
    here d i (algorithm, encoded, digest, path) = only algorithm encoded (subst (λ (x : Claim). IsDigest x.digest algorithm encoded) (sym i) digest) ∙ sym path

    from : (b : Bool) → bytes_eq p q ≡ b → IsNameOf (claims ++ c ∷ []) q → new q ≡ true
    from true e h = step q ∙ ap (λ b. cond b true (old q)) e
    from false e (d, among, named) = elim (Contains-push_cases claims c d among) [
      | inl i ↦ step q ∙ ap (λ b. cond b true (old q)) e ∙ (are q).1 (d, i, named)
      | inr i ↦ absurd (true≢false (sym (are_same p q (here d i named)) ∙ e))
    ]

pub more_paths : (claims : List Claim) (i : ℕ) (c : Claim) (p : List ℕ) (old new : List ℕ → Bool) → take (i + 1) claims ≡ take i claims ++ c ∷ [] → IsPathOf c.digest p
    → ((algorithm encoded : List ℕ) → IsDigest c.digest algorithm encoded → p ≡ path_of algorithm encoded) → ((q : List ℕ) → new q ≡ cond (bytes_eq p q) true (old q))
    → ArePathsOf (take i claims) old → ArePathsOf (take (i + 1) claims) new
more_paths claims i c p old new more is only step are =
    subst (λ l. ArePathsOf l new) (sym more) (one_path (take i claims) c p old new is only step are)

pub no_paths : (has : List ℕ → Bool) → ((q : List ℕ) → has q ≡ false) → ArePathsOf [] has
no_paths has none q = (λ h. absurd (true≢false (sym h ∙ none q)), λ h. absurd (none_in h.0 h.1))
  where
    none_in : (c : Claim) → Contains [] c → ⊥
    none_in c (k, below, at) = omega arith

-- the name at a place is told
abbrev pub IsReachedAt : List Listed → (List ℕ → Bool) → ℕ → Type 0
IsReachedAt listed has k = (d : Listed) → has (string_bytes (get_or listed k d).path) ≡ true

pub reached_at : (listed : List Listed) (has : List ℕ → Bool) (k : ℕ) (one : Listed) → k < length listed → one ≡ get_or listed k one → has (string_bytes one.path) ≡ true
    → IsReachedAt listed has k
reached_at listed has k one below is h d =
    subst (λ (x : Listed). has (string_bytes x.path) ≡ true) (is ∙ get_or_default listed k one d below) h

pub reached_here : (listed : List Listed) (has : List ℕ → Bool) (k : ℕ) (one : Listed) → k < length listed → one ≡ get_or listed k one
    → All (λ l. has (string_bytes l.path) ≡ true) listed → has (string_bytes one.path) ≡ true
reached_here listed has k one below is all = subst (λ (x : Listed). has (string_bytes x.path) ≡ true) (sym is) (all k one below)

-- ---- the status

pub answer_of : (steady : Bool) (tops contents : Contents) (P : File → File → Type 0) (right : Bool) (status : ℕ) → (IsTrue right → status ≡ 0) → (right ≡ false → status ≡ 1)
    → OverSteady steady tops contents (λ t c. IsTrue right ↔ P t c) → OverSteady steady tops contents (λ t c. IsAnswer status (P t c))
answer_of steady tops contents P true status zero one h =
    over_map steady tops contents (λ t c. IsTrue true ↔ P t c) (λ t c. IsAnswer status (P t c)) (λ t c k. inl (zero refl, k.0 refl)) h
answer_of steady tops contents P false status zero one h =
    over_map steady tops contents (λ t c. IsTrue false ↔ P t c) (λ t c. IsAnswer status (P t c)) (λ t c k. inr (inl (one refl, λ p. true≢false (sym (k.1 p))))) h
