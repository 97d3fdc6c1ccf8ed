-- What the images of a layout agree on, by the steps in which it is found.
use Rattle.std.proofs.Common.{◌≡◌, ℕ, ◌+◌, Bool, true, false, Result, Ok, Err, IfOk, List, [], ◌∷◌, ◌++◌, get_or, map, take, Option, None, Some, refl, sym, ap, subst, ◌∙◌, true≢false}
use Rattle.std.specs.Prelude.{◌↔◌, codes, unwrap_or, IsTrue}
use Rattle.std.specs.List.{All, Contains}
use Rattle.std.proofs.lemmas.List.Elements.{All-append, All-nil, All-cons, All-head, All-tail, All-map, All-contains, Contains-get_or}
use Rattle.serde_json.specs.Data.{Data, Items, no_items}
use Rattle.serde_json.specs.Find.{get}
use Rattle.serde_json.specs.View.{view, items_view}
use Rattle.serde_json.specs.declared.value.Value.{Value}
use Rattle.oci_json.specs.Engines.{ReadsAs}
use Rattle.oci_layout.specs.Claims.{list_of}
use Rattle.oci_layout.specs.Looks.{Contents}
use Rattle.oci_layout.specs.declared.claim.Claim.{Claim}
use Rattle.oci_layout.proofs.Items.{items_seen}
use Rattle.oci_agreement.specs.Agree.{Agree}
use Rattle.oci_agreement.specs.Descriptors.{Mention}
use Rattle.oci_agreement.specs.Images.{Image}
use Rattle.oci_agreement.specs.Listed.{Told, told_of, told_by, IsToldBy}
use Rattle.oci_agreement.specs.declared.agreement.Agreement.{Agreement}
use Rattle.oci_agreement.specs.declared.broken.Broken.{Broken}
use Rattle.oci_agreement.proofs.Laws.{law}
use Rattle.oci_findings.specs.declared.asked.Check.{Check}
use Rattle.oci_verify.specs.Images.{AllKeep, BytesKeep, ClaimKeeps, IsDocumentOf, IsFine, IsFound, IsValueOf, Keeps, KeepsFrom, KeepsWith, LeadsTo, OverContents, counts, is_image, is_index}

abbrev File : Type 0
File = List ℕ → Option (List ℕ)

some : {X : Type 0} {x y : X} → Some x ≡ Some y → x ≡ y
some e = cc

-- ---- where the contents are known

-- what is so of all contents is so of these
pub over_each : (steady : Bool) (contents : Contents) (P : File → Type 0) → ((c : File) → P c) → OverContents steady contents P
over_each true (Some c) P h = λ are. h c
over_each true None P h = tt
over_each false contents P h = tt

pub over_map : (steady : Bool) (contents : Contents) (P Q : File → Type 0) → ((c : File) → P c → Q c) → OverContents steady contents P → OverContents steady contents Q
over_map true (Some c) P Q to h = λ are. to c (h are)
over_map true None P Q to h = tt
over_map false contents P Q to h = tt

pub over_both : (steady : Bool) (contents : Contents) (P Q R : File → Type 0) → ((c : File) → P c → Q c → R c) → OverContents steady contents P → OverContents steady contents Q
    → OverContents steady contents R
over_both true (Some c) P Q R to h k = λ are. to c (h are) (k are)
over_both true None P Q R to h k = tt
over_both false contents P Q R to h k = tt

-- what answers a question answers another that is as good
pub answers : {E : Type 0} (steady : Bool) (contents : Contents) (P Q : File → Type 0) (r : Result Bool E) → OverContents steady contents (λ c. P c ↔ Q c)
    → IfOk r (λ b. OverContents steady contents (λ c. IsTrue b ↔ P c)) → IfOk r (λ b. OverContents steady contents (λ c. IsTrue b ↔ Q c))
answers steady contents P Q (Ok b) alike h =
    over_both steady contents (λ c. P c ↔ Q c) (λ c. IsTrue b ↔ P c) (λ c. IsTrue b ↔ Q c) (λ c same told. (λ is. same.0 (told.0 is), λ q. told.1 (same.1 q))) alike h
answers steady contents P Q (Err e) alike h = tt

-- what is so in any case is answered by yes
pub yes : (steady : Bool) (contents : Contents) (P : File → Type 0) → OverContents steady contents P → OverContents steady contents (λ c. IsTrue true ↔ P c)
yes steady contents P h = over_map steady contents P (λ c. IsTrue true ↔ P c) (λ c p. (λ is. p, λ q. refl)) h

-- ---- one document alone

reads_once : (bytes : List ℕ) (v w : Data) → ReadsAs bytes v → ReadsAs bytes w → v ≡ w
reads_once bytes v w r s = some (sym r.1 ∙ s.1)

pub value_once : (limit : ℕ) (contents : File) (digest : List ℕ) (size : ℕ) (v w : Data) → IsValueOf limit contents digest size v → IsValueOf limit contents digest size w → v ≡ w
value_once limit contents digest size v w p q = reads_once q.bytes v w (subst (λ b. ReadsAs b v) (some (sym p.there ∙ q.there)) p.reads) q.reads

document_once : (limit : ℕ) (contents : File) (d v w : Data) → IsDocumentOf limit contents d v → IsDocumentOf limit contents d w → v ≡ w
document_once limit contents d v w p q =
    value_once limit contents q.said.digest q.said.size v w (subst (λ (m : Mention). IsValueOf limit contents m.digest m.size v) (some (sym p.says ∙ q.says)) p.content) q.content

leads_once : (limit : ℕ) (contents : File) (o : Option Data) (v w : Data) → LeadsTo limit contents o v → LeadsTo limit contents o w → v ≡ w
leads_once limit contents None v w p q = absurd p
leads_once limit contents (Some d) v w p q = document_once limit contents d v w p q

found_once : {X : Type 0} (P : X → Type 0) → ((x y : X) → P x → P y → x ≡ y) → (o p : Option X) → IsFound P o → IsFound P p → o ≡ p
found_once P once None None h k = refl
found_once P once None (Some y) h k = absurd (h y k)
found_once P once (Some x) None h k = absurd (k x h)
found_once P once (Some x) (Some y) h k = ap Some (once x y h k)

-- ---- images

unmap : {X Y : Type 0} (P : Y → Type 0) (f : X → Y) (xs : List X) → All P (map f xs) → All (λ x. P (f x)) xs
unmap P f [] h = All-nil (λ x. P (f x))
unmap P f (x ∷ xs) h = All-cons (λ y. P (f y)) x xs (All-head P (f x) (map f xs) h) (unmap P f xs (All-tail P (f x) (map f xs) h))

abbrev pub image_with : Data → Data → Option Data → Image
image_with descriptor manifest config = record { descriptor = Some descriptor; manifest = manifest; config = config }

-- what cannot but be agreed on is agreed on
stable : (a : Agreement) (i : Image) → ((Agree a i → ⊥) → ⊥) → Agree a i
stable a i h = go (told_by a i) refl
  where
    go : (ts : List Told) → told_by a i ≡ ts → Agree a i
    go [] e = (law a i).0 e
    go (t ∷ ts) e = absurd (h (λ agree. let f = sym ((law a i).1 agree) ∙ e in cc f))

-- an image keeps what counts where nothing is told of it
keeps_told : (asked : Check) (i : Image) (ts : List Told) → ((a : Agreement) → IsToldBy ts a ↔ (Agree a i → ⊥)) → All (λ t. counts asked t.seat.agreement ≡ false) ts ↔ Keeps asked i
keeps_told asked i ts told = (there, back)
  where
    there : All (λ t. counts asked t.seat.agreement ≡ false) ts → Keeps asked i
    there all a is =
        stable a i (λ lacks.
        let (t, held, same) = (told a).1 lacks in
        let not : counts asked a ≡ false =
        subst (λ b. counts asked b ≡ false) same (All-contains (λ (x : Told). counts asked x.seat.agreement ≡ false) ts t all held) in
        true≢false (sym is ∙ not))

    at : (t : Told) → Contains ts t → Keeps asked i → (b : Bool) → counts asked t.seat.agreement ≡ b → counts asked t.seat.agreement ≡ false
    at t held keeps true e = absurd ((told t.seat.agreement).0 (t, held, refl) (keeps t.seat.agreement e))
    at t held keeps false e = e

    back : Keeps asked i → All (λ t. counts asked t.seat.agreement ≡ false) ts
    back keeps k d below = at (get_or ts k d) (Contains-get_or ts k d below) keeps (counts asked (get_or ts k d).seat.agreement) refl

pub keeps_broken : (asked : Check) (i : Image) (bs : List Broken) (none : Bool) → ((a : Agreement) → IsToldBy (map told_of bs) a ↔ (Agree a i → ⊥))
    → IsTrue none ↔ All (λ b. counts asked b.agreement ≡ false) bs → IsTrue none ↔ Keeps asked i
keeps_broken asked i bs none told is = (
  λ yes. (keeps_told asked i (map told_of bs) told).0 (All-map (λ (t : Told). counts asked t.seat.agreement ≡ false) told_of bs (is.0 yes)),
  λ keeps. is.1 (unmap (λ (t : Told). counts asked t.seat.agreement ≡ false) told_of bs ((keeps_told asked i (map told_of bs) told).1 keeps)),
)

-- the configuration that was found is the only one
pub keeps_one : (asked : Check) (limit : ℕ) (contents : File) (d m : Data) (config : Option Data) → IsFound (LeadsTo limit contents (get (codes "config") m)) config
    → IsFine asked contents (record { descriptor = Some d; manifest = m; config = config }) ↔ KeepsWith asked limit contents d m
keeps_one asked limit contents d m config found = (
  λ h other also. subst (λ o. IsFine asked contents (image_with d m o))
      (found_once (LeadsTo limit contents (get (codes "config") m)) (leads_once limit contents (get (codes "config") m)) config other found also) h,
  λ h. h config found,
)

-- so is the manifest
pub keeps_here : (asked : Check) (limit : ℕ) (contents : File) (d m : Data) → IsTrue (is_image d) → LeadsTo limit contents (Some d) m
    → KeepsWith asked limit contents d m ↔ KeepsFrom asked limit contents d
keeps_here asked limit contents d m typed doc = (there, back)
  where
    there : KeepsWith asked limit contents d m → KeepsFrom asked limit contents d
    there h i is =
        let e : i.manifest ≡ m = document_once limit contents d i.manifest m is.manifest doc in
        let k = h i.config (subst (λ v. IsFound (LeadsTo limit contents (get (codes "config") v)) i.config) e is.config) in
        let l = subst (λ v. IsFine asked contents (image_with d v i.config)) (sym e) k in
        subst (λ o. IsFine asked contents (record { descriptor = o; manifest = i.manifest; config = i.config })) (sym is.descriptor_is) l

    back : KeepsFrom asked limit contents d → KeepsWith asked limit contents d m
    back h config found = h (image_with d m config) (record { typed = typed; descriptor_is = refl; manifest = doc; config = found })

pub no_manifest : (asked : Check) (limit : ℕ) (contents : File) (d : Data) → IsFound (LeadsTo limit contents (Some d)) None → KeepsFrom asked limit contents d
no_manifest asked limit contents d none i is = absurd (none i.manifest is.manifest)

pub no_image : (asked : Check) (limit : ℕ) (contents : File) (d : Data) → is_image d ≡ false → KeepsFrom asked limit contents d
no_image asked limit contents d not i is = absurd (true≢false (sym is.typed ∙ not))

-- ---- the descriptors of an index

pub all_items : (P : Data → Type 0) (vs : List Value) (o : Option Items) → Some (items_view vs) ≡ o
    → All (λ v. P (view v)) vs ↔ All P (list_of (unwrap_or o no_items))
all_items P vs o is =
    let seen : map view vs ≡ list_of (unwrap_or o no_items) = items_seen vs o is in (
      λ h. subst (All P) seen (All-map P view vs h),
      λ h. unmap P view vs (subst (All P) (sym seen) h),
    )

pub no_items_keep : (P : Data → Type 0) (o : Option Items) → None ≡ o → All P (list_of (unwrap_or o no_items))
no_items_keep P o is = subst (λ (x : Option Items). All P (list_of (unwrap_or x no_items))) is (All-nil P)

-- ---- indexes

pub bytes_keep : (asked : Check) (limit : ℕ) (contents : File) (bytes : List ℕ) (d : Data) → ReadsAs bytes d → AllKeep asked limit contents d ↔ BytesKeep asked limit contents bytes
bytes_keep asked limit contents bytes d reads = (λ h e also. subst (AllKeep asked limit contents) (reads_once bytes d e reads also) h, λ h. h d reads)

pub no_bytes : (asked : Check) (limit : ℕ) (contents : File) (bytes : List ℕ) → IsFound (ReadsAs bytes) None → BytesKeep asked limit contents bytes
no_bytes asked limit contents bytes none d reads = absurd (none d reads)

pub claim_keeps : (asked : Check) (limit : ℕ) (contents : File) (c : Claim) (d : Data) → IsTrue (is_index c.kind) → IsValueOf limit contents c.digest c.size d
    → AllKeep asked limit contents d ↔ ClaimKeeps asked limit contents c
claim_keeps asked limit contents c d is value =
    (λ h k e also. subst (AllKeep asked limit contents) (value_once limit contents c.digest c.size d e value also) h, λ h. h is d value)

pub no_claimed : (asked : Check) (limit : ℕ) (contents : File) (c : Claim) → IsFound (IsValueOf limit contents c.digest c.size) None → ClaimKeeps asked limit contents c
no_claimed asked limit contents c none is d value = absurd (none d value)

pub no_index : (asked : Check) (limit : ℕ) (contents : File) (c : Claim) → is_index c.kind ≡ false → ClaimKeeps asked limit contents c
no_index asked limit contents c not is d value = absurd (true≢false (sym is ∙ not))

-- ---- one after the other

split : {X : Type 0} (P : X → Type 0) (xs ys : List X) → All P (xs ++ ys) → All P xs × All P ys
split P [] ys h = (All-nil P, h)
split P (x ∷ xs) ys h =
    let (a, b) = split P xs ys (All-tail P x (xs ++ ys) h) in
    (All-cons P x xs (All-head P x (xs ++ ys) h) a, b)

pub all_more : {X : Type 0} (P : X → Type 0) (xs : List X) (i : ℕ) (x : X) (old this new : Bool) → take (i + 1) xs ≡ take i xs ++ x ∷ [] → IsTrue new ↔ (IsTrue old × IsTrue this)
    → IsTrue old ↔ All P (take i xs) → IsTrue this ↔ P x → IsTrue new ↔ All P (take (i + 1) xs)
all_more P xs i x old this new more both h k = (
  λ is. subst (All P) (sym more) (All-append P (take i xs) (x ∷ []) (h.0 (both.0 is).0) (All-cons P x [] (k.0 (both.0 is).1) (All-nil P))),
  λ all. let (a, b) = split P (take i xs) (x ∷ []) (subst (All P) more all) in both.1 (h.1 a, k.1 (All-head P x [] b)),
)

-- over the contents of a store
pub each_more : {X : Type 0} (steady : Bool) (contents : Contents) (P : File → X → Type 0) (xs : List X) (i : ℕ) (x : X) (old this new : Bool)
    → take (i + 1) xs ≡ take i xs ++ x ∷ [] → IsTrue new ↔ (IsTrue old × IsTrue this) → OverContents steady contents (λ c. IsTrue old ↔ All (P c) (take i xs))
    → OverContents steady contents (λ c. IsTrue this ↔ P c x) → OverContents steady contents (λ c. IsTrue new ↔ All (P c) (take (i + 1) xs))
each_more steady contents P xs i x old this new more both h k =
    over_both steady contents (λ c. IsTrue old ↔ All (P c) (take i xs)) (λ c. IsTrue this ↔ P c x) (λ c. IsTrue new ↔ All (P c) (take (i + 1) xs))
    (λ c a b. all_more (P c) xs i x old this new more both a b) h k

pub none_yet : {X : Type 0} (steady : Bool) (contents : Contents) (P : File → X → Type 0) (xs : List X) → OverContents steady contents (λ c. IsTrue true ↔ All (P c) (take 0 xs))
none_yet steady contents P xs = over_each steady contents (λ c. IsTrue true ↔ All (P c) (take 0 xs)) (λ c. (λ is. All-nil (P c), λ all. refl))

-- what an image with the configuration that was found answers
pub keeps_with : {E : Type 0} (steady : Bool) (contents : Contents) (asked : Check) (limit : ℕ) (d m : Data) (config : Option Data) (r : Result Bool E)
    → OverContents steady contents (λ c. IsFound (LeadsTo limit c (get (codes "config") m)) config)
    → IfOk r (λ b. OverContents steady contents (λ c. IsTrue b ↔ IsFine asked c (record { descriptor = Some d; manifest = m; config = config })))
    → IfOk r (λ b. OverContents steady contents (λ c. IsTrue b ↔ KeepsWith asked limit c d m))
keeps_with steady contents asked limit d m config (Err e) found h = tt
keeps_with steady contents asked limit d m config (Ok b) found h =
    over_both steady contents (λ c. IsFound (LeadsTo limit c (get (codes "config") m)) config) (λ c. IsTrue b ↔ IsFine asked c (image_with d m config)) (λ c. IsTrue b ↔ KeepsWith asked limit c d m)
    (λ c k told. let one = keeps_one asked limit c d m config k in (λ is. one.0 (told.0 is), λ keeps. told.1 (one.1 keeps))) found h

pub both_keep : (steady : Bool) (contents : Contents) (P Q : File → Type 0) (first others both : Bool) → IsTrue both ↔ (IsTrue first × IsTrue others)
    → OverContents steady contents (λ c. IsTrue first ↔ P c) → OverContents steady contents (λ c. IsTrue others ↔ Q c) → OverContents steady contents (λ c. IsTrue both ↔ (P c × Q c))
both_keep steady contents P Q first others both and h k =
    over_both steady contents (λ c. IsTrue first ↔ P c) (λ c. IsTrue others ↔ Q c) (λ c. IsTrue both ↔ (P c × Q c))
    (λ c p q. (λ is. (p.0 (and.0 is).0, q.0 (and.0 is).1), λ it. and.1 (p.1 it.0, q.1 it.1))) h k
