-- What is found of an archive by the places of its entries, and what that says of its bytes.
use Rattle.std.proofs.Common.{◌≡◌, ℕ, suc, Bool, true, false, List, [], ◌∷◌, length, map, Option, None, Some, inl, inr, refl, sym, ap, subst, ◌∙◌, ◌==◌, true≢false, arith}
use Rattle.std.proofs.lemmas.Bool.Decides.{nat_tests}
use Rattle.std.specs.Prelude.{◌≡◌, ◌↔◌, ◌⊎◌, IfSome}
use Rattle.tar_header.specs.declared.fault.Fault.{Fault}
use Rattle.tar.specs.Archives.{Breaks, Holds}
use Rattle.tar.specs.Entries.{Member, nothing_said}
use Rattle.tar.specs.Places.{IsIndexOf, entry_at}
use Rattle.tar.specs.declared.index.Place.{Place}
use Rattle.tar.proofs.OneReading.{never_both, one_list}
use Rattle.tar_folder.specs.Marks.{extents}
use Rattle.tar_folder.specs.Plain.{IsPlainArchive}
use Rattle.tar_folder.specs.Errors.{OnFault}
use Rattle.tar_folder.specs.declared.read.IndexError.{IndexError}
use Rattle.tar_folder.specs.declared.read.IndexError.TheVariants as errors
use Rattle.tar_folder.proofs.Natural.{plain_alike}
use Rattle.oci_layout.specs.Looks.{Contents}
use Rattle.oci_archive.specs.Layouts.{contents_at, contents_in, names_in, tops_at, tops_in}
use Rattle.oci_archive.proofs.Denoted.{same_names}
use Rattle.oci_verify.specs.Archives.{IsRightArchive, IsRightPlaced, IsSoundArchive, OverBytes}
use Rattle.oci_verify.specs.Layouts.{HasNoNote, IsAnswer, IsRightLayout, OverSteady}
use Rattle.oci_verify.specs.Passing.{Books}
use Rattle.oci_verify.specs.declared.options.Options.{Options}
use Rattle.oci_verify.proofs.Bytes.{placed_bytes}

abbrev File : Type 0
File = List ℕ → Option (List ℕ)

abbrev Names : Type 1
Names = List ℕ → Type 0

abbrev placed_in : List ℕ → List Place → List (Member × List ℕ)
placed_in bytes places = map (entry_at bytes) places

-- ---- answers

pub answer_as : (status : ℕ) (P Q : Type 0) → P ↔ Q → IsAnswer status P → IsAnswer status Q
answer_as status P Q same (inl right) = inl (right.0, same.0 right.1)
answer_as status P Q same (inr (inl wrong)) = inr (inl (wrong.0, λ q. wrong.1 (same.1 q)))
answer_as status P Q same (inr (inr neither)) = inr (inr neither)

-- what is wrong, or could not be said
pub answer_wrong : (status : ℕ) (P : Type 0) → (status ≡ 1) ⊎ (status ≡ 3) → (status ≡ 1 → ¬ P) → IsAnswer status P
answer_wrong status P (inl one) wrong = inr (inl (one, wrong one))
answer_wrong status P (inr three) wrong = inr (inr three)

-- ---- a layout, by which names are below `blobs`

quiet_as : (limit : ℕ) (n m : Names) (tops contents : File) → ((path : List ℕ) → m path → n path) → HasNoNote limit n tops contents → HasNoNote limit m tops contents
quiet_as limit n m tops contents back h = record { there = h.there; reached = λ path is. h.reached path (back path is); read = h.read }

right_as : (books : Books) (o : Options) (n m : Names) (tops contents : File) → ((path : List ℕ) → m path → n path) → IsRightLayout books o n tops contents → IsRightLayout books o m tops contents
right_as books o n m tops contents back h = record {
  marker = h.marker;
  sound = h.sound;
  agree = h.agree;
  layers = h.layers;
  passing = h.passing;
  notes = λ strict. quiet_as o.limit n m tops contents back (h.notes strict);
}

-- ---- an archive

pub sound_archive : (bytes : List ℕ) (places : List Place) → IsIndexOf bytes places → IsPlainArchive (extents places) → IsSoundArchive bytes
sound_archive bytes places index plain = record {
  entries = placed_in bytes places;
  holds = index;
  plain = (plain_alike bytes places).0 plain;
}

right_archive : (books : Books) (o : Options) (bytes : List ℕ) (places : List Place) → IsIndexOf bytes places
    → IsRightPlaced books o places (tops_in (placed_in bytes places)) (contents_in (placed_in bytes places)) → IsRightArchive books o bytes
right_archive books o bytes places index h =
    let es = placed_in bytes places in
    record {
      entries = es;
      holds = index;
      plain = (plain_alike bytes places).0 h.0;
      right = right_as books o (names_in (extents places)) (names_in es) (tops_in es) (contents_in es) (λ path is. (same_names bytes es places index index path).1 is) h.1;
    }

placed_archive : (books : Books) (o : Options) (bytes : List ℕ) (places : List Place) → IsIndexOf bytes places
    → IsRightArchive books o bytes → IsRightPlaced books o places (tops_in (placed_in bytes places)) (contents_in (placed_in bytes places))
placed_archive books o bytes places index h =
    let es = placed_in bytes places in
    let same : h.entries ≡ es = one_list h.holds index in
    let plain = subst (λ (l : List (Member × List ℕ)). IsPlainArchive l) same h.plain in
    let right = subst (λ (l : List (Member × List ℕ)). IsRightLayout books o (names_in l) (tops_in l) (contents_in l)) same h.right in (
      (plain_alike bytes places).1 plain,
      right_as books o (names_in es) (names_in (extents places)) (tops_in es) (contents_in es) (λ path is. (same_names bytes es places index index path).0 is) right,
    )

archive_is : (books : Books) (o : Options) (bytes : List ℕ) (places : List Place) → IsIndexOf bytes places
    → IsRightPlaced books o places (tops_in (placed_in bytes places)) (contents_in (placed_in bytes places)) ↔ IsRightArchive books o bytes
archive_is books o bytes places index = (right_archive books o bytes places index, placed_archive books o bytes places index)

pub sound_read : (read : Option (List ℕ)) (places : List Place) → IfSome read (λ bytes. IsIndexOf bytes places) → IsPlainArchive (extents places) → IfSome read IsSoundArchive
sound_read None places index plain = tt
sound_read (Some bytes) places index plain = sound_archive bytes places index plain

-- something breaks the bytes, where they are known
abbrev pub IfBroken : Option (List ℕ) → Type 0
IfBroken read = IfSome read (λ bytes. (f : Fault) × Breaks nothing_said bytes f)

broken_by : (read : Option (List ℕ)) (f : Fault) → IfSome read (λ bytes. Breaks nothing_said bytes f) → IfBroken read
broken_by None f h = tt
broken_by (Some bytes) f h = (f, h)

pub broken_of : (read : Option (List ℕ)) (e : IndexError) (f : Fault) → e ≡ errors.Fault f → OnFault e (λ g. IfSome read (λ bytes. Breaks nothing_said bytes g)) → IfBroken read
broken_of read e f is h = broken_by read f (subst (λ x. OnFault x (λ g. IfSome read (λ bytes. Breaks nothing_said bytes g))) is h)

abbrev IsPlacedAnswer : Books → Options → Bool → Option (List ℕ) → List Place → ℕ → Type 0
IsPlacedAnswer books o steady source places status =
    OverSteady steady (tops_at places source) (contents_at places source) (λ tops contents. IsAnswer status (IsRightPlaced books o places tops contents))

-- an archive that was read
pub answer_read : (books : Books) (o : Options) (steady : Bool) (source read : Option (List ℕ)) (places : List Place) (status : ℕ) → IfSome read (λ bytes. IsIndexOf bytes places)
    → IsPlacedAnswer books o steady source places status → OverBytes steady source read (λ bytes. IsAnswer status (IsRightArchive books o bytes))
answer_read books o true (Some bytes) (Some read) places status index h = λ same below.
    let held : IsIndexOf bytes places = subst (λ b. IsIndexOf b places) (sym same) index in
    answer_as status (IsRightPlaced books o places (tops_in (placed_in bytes places)) (contents_in (placed_in bytes places))) (IsRightArchive books o bytes) (archive_is books o bytes places held)
    (h (placed_bytes bytes places below))
answer_read books o true (Some bytes) None places status index h = tt
answer_read books o true None read places status index h = tt
answer_read books o false source read places status index h = tt

-- bytes that are no archive
pub answer_broken : (books : Books) (o : Options) (steady : Bool) (source read : Option (List ℕ)) (status : ℕ) → (status ≡ 1) ⊎ (status ≡ 3) → IfBroken read
    → OverBytes steady source read (λ bytes. IsAnswer status (IsRightArchive books o bytes))
answer_broken books o true (Some bytes) (Some read) status is broken = λ same below.
    answer_wrong status (IsRightArchive books o bytes) is
    (λ one right. let (f, breaks) = broken in never_both (subst (λ b. Holds nothing_said b right.entries) same right.holds) breaks)
answer_broken books o true (Some bytes) None status is broken = tt
answer_broken books o true None read status is broken = tt
answer_broken books o false source read status is broken = tt

-- ---- by the places of its entries

-- all tools unpack one folder, and this is found of its layout
pub placed_right : (books : Books) (o : Options) (steady : Bool) (places : List Place) (tops contents : Contents) (status : ℕ) → IsPlainArchive (extents places)
    → OverSteady steady tops contents (λ t c. IsAnswer status (IsRightLayout books o (names_in (extents places)) t c))
    → OverSteady steady tops contents (λ t c. IsAnswer status (IsRightPlaced books o places t c))
placed_right books o true places (Some t) (Some c) status plain h = λ are.
    answer_as status (IsRightLayout books o (names_in (extents places)) t c) (IsRightPlaced books o places t c) ((λ r. (plain, r)), (λ b. b.1)) (h are)
placed_right books o true places (Some t) None status plain h = tt
placed_right books o true places None contents status plain h = tt
placed_right books o false places tops contents status plain h = tt

-- they do not
pub placed_wrong : (books : Books) (o : Options) (steady : Bool) (places : List Place) (tops contents : Contents) (status : ℕ) → (status ≡ 1) ⊎ (status ≡ 3) → ¬ IsPlainArchive (extents places)
    → OverSteady steady tops contents (λ t c. IsAnswer status (IsRightPlaced books o places t c))
placed_wrong books o true places (Some t) (Some c) status is other = λ are. answer_wrong status (IsRightPlaced books o places t c) is (λ one b. other b.0)
placed_wrong books o true places (Some t) None status is other = tt
placed_wrong books o true places None contents status is other = tt
placed_wrong books o false places tops contents status is other = tt

-- ---- what was listed

not_zero : (n : ℕ) → (suc n == 0) ≡ false
not_zero n = grind (arith, nat_tests)

pub none_of : {X : Type 0} (xs : List X) (n : ℕ) (b : Bool) → n ≡ length xs → b ≡ (n == 0) → b ≡ true → xs ≡ []
none_of [] n b counted e is = refl
none_of (x ∷ xs) n b counted e is = absurd (true≢false (sym is ∙ e ∙ ap (λ k. k == 0) counted ∙ not_zero (length xs)))
