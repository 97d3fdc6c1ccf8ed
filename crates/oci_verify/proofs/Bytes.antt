-- What an archive of bytes has is bytes.
use Rattle.std.proofs.Common.{ℕ, zero, suc, Bool, true, false, List, [], ◌∷◌, get_or, map, take, drop, slice_get, Option, None, Some, IfSome, if◌then◌else◌}
use Rattle.std.specs.Prelude.{nat_lt, option_and_then}
use Rattle.std.specs.List.{All}
use Rattle.std.proofs.lemmas.List.Elements.{All-head, All-tail, All-map}
use Rattle.deflate.specs.Bits.{AreBelow}
use Rattle.tar.specs.Entries.{Member}
use Rattle.tar.specs.Places.{entry_at}
use Rattle.tar.specs.declared.index.Place.{Place}
use Rattle.tar_folder.specs.Folders.{is_hard_link, is_whole_file, of_earlier, of_entry, of_file, of_linked, of_place, place_of}
use Rattle.tar_folder.specs.Paths.{normal}
use Rattle.oci_archive.specs.Layouts.{blob_path_of, contents_in}
use Rattle.oci_verify.specs.Kept.{AreBytes}

below_take : (m n : ℕ) (xs : List ℕ) → AreBelow m xs → AreBelow m (take n xs)
unfolding AreBelow
below_take m zero [] h = tt
below_take m zero (x ∷ xs) h = tt
below_take m (suc n) [] h = tt
below_take m (suc n) (x ∷ xs) h = (h.0, below_take m n xs h.1)

below_drop : (m n : ℕ) (xs : List ℕ) → AreBelow m xs → AreBelow m (drop n xs)
unfolding AreBelow
below_drop m zero [] h = tt
below_drop m zero (x ∷ xs) h = h
below_drop m (suc n) [] h = tt
below_drop m (suc n) (x ∷ xs) h = below_drop m n xs h.1

-- ---- what comes of what is there

then_each : {X Y : Type 0} (P : Y → Type 0) (f : X → Option Y) (o : Option X) → IfSome o (λ x. IfSome (f x) P) → IfSome (option_and_then f o) P
then_each P f None h = tt
then_each P f (Some x) h = h

then_any : {X Y : Type 0} (P : Y → Type 0) (f : X → Option Y) (o : Option X) → ((x : X) → IfSome (f x) P) → IfSome (option_and_then f o) P
then_any P f None h = tt
then_any P f (Some x) h = h x

some_map : {X : Type 0} (P Q : X → Type 0) → ((x : X) → P x → Q x) → (o : Option X) → IfSome o P → IfSome o Q
some_map P Q to None h = tt
some_map P Q to (Some x) h = to x h

either : {X : Type 0} (P : X → Type 0) (b : Bool) (x y : Option X) → IfSome x P → IfSome y P → IfSome (if b then x else y) P
either P true x y h k = h
either P false x y h k = k

at_each : {X : Type 0} (P : X → Type 0) (xs : List X) (i : ℕ) → All P xs → IfSome (slice_get xs i) P
at_each P [] zero h = tt
at_each P [] (suc i) h = tt
at_each P (x ∷ xs) zero h = All-head P x xs h
at_each P (x ∷ xs) (suc i) h = at_each P xs i (All-tail P x xs h)

-- ---- the files of an archive

abbrev Entry : Type 0
Entry = Member × List ℕ

abbrev HasBytes : Entry → Type 0
HasBytes e = AreBelow 256 e.1

file_bytes : (e : Entry) → HasBytes e → IfSome (of_file e) (AreBelow 256)
file_bytes e h = either (AreBelow 256) (is_whole_file e.0) (Some e.1) None h tt

earlier_bytes : (es : List Entry) (i j : ℕ) → All HasBytes es → IfSome (of_earlier es i j) (AreBelow 256)
earlier_bytes es i j h =
    either (AreBelow 256) (nat_lt j i) (option_and_then of_file (slice_get es j)) None
    (then_each (AreBelow 256) of_file (slice_get es j) (some_map HasBytes (λ e. IfSome (of_file e) (AreBelow 256)) file_bytes (slice_get es j) (at_each HasBytes es j h))) tt

entry_bytes : (es : List Entry) (i : ℕ) → All HasBytes es → (e : Entry) → HasBytes e → IfSome (of_entry es i e) (AreBelow 256)
entry_bytes es i h e has =
    either (AreBelow 256) (is_hard_link e.0.kind) (of_linked es i e.0) (of_file e)
    (then_any (AreBelow 256) (of_earlier es i) (option_and_then (place_of es) (normal e.0.link)) (λ j. earlier_bytes es i j h)) (file_bytes e has)

place_bytes : (es : List Entry) (i : ℕ) → All HasBytes es → IfSome (of_place es i) (AreBelow 256)
place_bytes es i h =
    then_each (AreBelow 256) (of_entry es i) (slice_get es i) (some_map HasBytes (λ e. IfSome (of_entry es i e) (AreBelow 256)) (entry_bytes es i h) (slice_get es i) (at_each HasBytes es i h))

-- the contents that lie at these places are bytes
pub placed_bytes : (bytes : List ℕ) (places : List Place) → AreBelow 256 bytes → AreBytes (contents_in (map (entry_at bytes) places))
placed_bytes bytes places below digest =
    let es = map (entry_at bytes) places in
    then_any (AreBelow 256) (of_place es) (place_of es (blob_path_of digest))
    (λ i. place_bytes es i (All-map HasBytes (entry_at bytes) places (λ k p at. let q = get_or places k p in below_take 256 q.entry.size (drop q.offset bytes) (below_drop 256 q.offset bytes below))))
