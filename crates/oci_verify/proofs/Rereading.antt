-- What documents are read of the contents of a layout, by the steps in which they are read.
use Rattle.std.proofs.Common.{◌≡◌, ℕ, ◌<◌, ◌≤◌, Bool, true, false, Result, Ok, Err, IfOk, Vec, Global, List, Option, None, Some, IfSome, inl, inr, refl, sym, ap, subst, ◌∙◌, true≢false, arith}
use Rattle.std.specs.Prelude.{◌↔◌, option_map, option_and_then, IsTrue}
use Rattle.std.specs.declared.io.Error.{Error}
use Rattle.serde_json.specs.Data.{Data}
use Rattle.serde_json.specs.View.{view}
use Rattle.oci_base.specs.Digest.{IsDigestText}
use Rattle.oci_json.specs.Engines.{ReadsAs, IsNoJson}
use Rattle.oci_content.specs.Content.{Tells, IsContentOf}
use Rattle.oci_content.specs.declared.verdict.Verdict.{Verdict}
use Rattle.oci_content.specs.declared.verdict.Verdict.TheVariants as verdict
use Rattle.oci_content.proofs.Verdicts.{one_verdict}
use Rattle.oci_layout.specs.Holds.{is_same}
use Rattle.oci_layout.specs.Looks.{Contents, Gives, IsCut}
use Rattle.oci_layout.specs.declared.store.Opened.TheVariants.{Missing, Unreadable, Content}
use Rattle.oci_agreement.specs.Descriptors.{Mention, mention_in}
use Rattle.oci_verify.specs.Images.{IsFound, IsSmallKept, IsValueOf, IsWhole, LeadsTo, OverContents}
use Rattle.oci_verify.specs.Kept.{IsKept}
use Rattle.oci_verify.specs.declared.documents.Document.{Document}
use Rattle.oci_verify.proofs.Agreeing.{over_each, over_map}

abbrev File : Type 0
File = List ℕ → Option (List ℕ)

some : {X : Type 0} {x y : X} → Some x ≡ Some y → x ≡ y
some e = cc

-- what is found is found as another that is as good
found_as : {X : Type 0} (P Q : X → Type 0) → ((x : X) → P x → Q x) → ((x : X) → Q x → P x) → (o : Option X) → IsFound P o → IsFound Q o
found_as P Q to from None h = λ x q. h x (from x q)
found_as P Q to from (Some x) h = to x h

-- ---- all that is left to read

same_verdict : (v : Verdict) → is_same v ≡ true → v ≡ verdict.Same
same_verdict verdict.Same e = refl
same_verdict (verdict.Shorter n) e = absurd (true≢false (sym e))
same_verdict verdict.Longer e = absurd (true≢false (sym e))
same_verdict (verdict.OtherDigest sum) e = absurd (true≢false (sym e))
same_verdict verdict.Unjudged e = absurd (true≢false (sym e))

not_cut : (bytes all : List ℕ) (digest : List ℕ) (size : ℕ) → IsCut bytes all size → IsContentOf digest size bytes → bytes ≡ all
not_cut bytes all digest size (inl same) (sized, is) = same
not_cut bytes all digest size (inr (cut, long)) (sized, is) = absurd (omega arith)

pub whole_same : (known : Option (List ℕ)) (bytes digest : List ℕ) (size : ℕ) (v : Verdict) → IfSome known (λ all. IsCut bytes all size) → Tells digest size bytes v → is_same v ≡ true
    → IfSome known (λ all. IsFound (IsWhole all digest size) (Some bytes))
whole_same None bytes digest size v cut tells is = tt
whole_same (Some all) bytes digest size v cut tells is =
    let held : IsContentOf digest size bytes = subst (Tells digest size bytes) (same_verdict v is) tells in
    (not_cut bytes all digest size cut held, held)

no_whole : (bytes all digest : List ℕ) (size : ℕ) (v : Verdict) → IsCut bytes all size → Tells digest size bytes v → is_same v ≡ false → IsContentOf digest size all → ⊥
no_whole bytes all digest size v (inl same) tells not held =
    let one : v ≡ verdict.Same = one_verdict digest size bytes v verdict.Same tells (subst (IsContentOf digest size) (sym same) held) in
    true≢false (ap is_same (sym one) ∙ not)
no_whole bytes all digest size v (inr (cut, long)) tells not (sized, is) = omega arith

pub whole_other : (known : Option (List ℕ)) (bytes digest : List ℕ) (size : ℕ) (v : Verdict) → IfSome known (λ all. IsCut bytes all size) → Tells digest size bytes v → is_same v ≡ false
    → IfSome known (λ all. IsFound (IsWhole all digest size) None)
whole_other None bytes digest size v cut tells not = tt
whole_other (Some all) bytes digest size v cut tells not = λ b h. no_whole bytes all digest size v cut tells not (subst (IsContentOf digest size) h.0 h.1)

-- ---- what is kept under a digest

pub kept_missing : {B : Type 0} (remaining : B → Option (List ℕ)) (steady : Bool) (contents : Contents) (digest : List ℕ) (size : ℕ) → Gives remaining steady contents digest Missing
    → OverContents steady contents (λ c. IsFound (IsKept c digest size) None)
kept_missing remaining true (Some c) digest size g = λ are b h. let e = sym g ∙ h.0 in cc e
kept_missing remaining true None digest size g = tt
kept_missing remaining false contents digest size g = tt

pub kept_unreadable : {B : Type 0} (remaining : B → Option (List ℕ)) (steady : Bool) (contents : Contents) (digest : List ℕ) (size : ℕ) (why : Error)
    → Gives remaining steady contents digest (Unreadable why) → OverContents steady contents (λ c. IsFound (IsKept c digest size) None)
kept_unreadable remaining true (Some c) digest size why g = absurd (true≢false g)
kept_unreadable remaining true None digest size why g = tt
kept_unreadable remaining false contents digest size why g = tt

pub kept_read : {B : Type 0} (remaining : B → Option (List ℕ)) (steady : Bool) (contents : Contents) (digest : List ℕ) (size : ℕ) (blob : B) (known : Option ℕ) (o : Option (List ℕ))
    → Gives remaining steady contents digest (Content blob known) → (steady ≡ true → IfSome (remaining blob) (λ all. IsFound (IsWhole all digest size) o))
    → OverContents steady contents (λ c. IsFound (IsKept c digest size) o)
kept_read remaining true (Some c) digest size blob known o (all, is, there, sized) h = λ are.
    found_as (IsWhole all digest size) (IsKept c digest size) (λ b w. (there ∙ sym (ap Some w.0), w.1)) (λ b k. (some (sym k.0 ∙ there), k.1)) o
    (subst (λ (x : Option (List ℕ)). IfSome x (λ l. IsFound (IsWhole l digest size) o)) is (h refl))
kept_read remaining true None digest size blob known o g h = tt
kept_read remaining false contents digest size blob known o g h = tt

-- where it is no larger than a document may be
pub small_kept : {E : Type 0} (steady : Bool) (contents : Contents) (limit : ℕ) (digest : List ℕ) (size : ℕ) (r : Result (Option (Vec ℕ Global)) E) → size ≤ limit
    → IfOk r (λ o. OverContents steady contents (λ c. IsFound (IsKept c digest size) (option_map (λ v. v.items) o)))
    → IfOk r (λ o. OverContents steady contents (λ c. IsFound (IsSmallKept limit c digest size) (option_map (λ v. v.items) o)))
small_kept steady contents limit digest size (Err e) small h = tt
small_kept steady contents limit digest size (Ok o) small h =
    over_map steady contents (λ c. IsFound (IsKept c digest size) (option_map (λ v. v.items) o)) (λ c. IsFound (IsSmallKept limit c digest size) (option_map (λ v. v.items) o))
    (λ c k. found_as (IsKept c digest size) (IsSmallKept limit c digest size) (λ b held. (small, held)) (λ b held. held.1) (option_map (λ v. v.items) o) k) h

-- ---- whether something is kept under a digest with a size

abbrev IsThere : File → List ℕ → ℕ → Type 0
IsThere c digest size = (bytes : List ℕ) × IsKept c digest size bytes

pub there_missing : {B : Type 0} (remaining : B → Option (List ℕ)) (steady : Bool) (contents : Contents) (digest : List ℕ) (size : ℕ) → Gives remaining steady contents digest Missing
    → OverContents steady contents (λ c. IsTrue false ↔ IsThere c digest size)
there_missing remaining true (Some c) digest size g = λ are. (λ is. absurd (true≢false (sym is)), λ k. let e = sym g ∙ k.1.0 in cc e)
there_missing remaining true None digest size g = tt
there_missing remaining false contents digest size g = tt

pub there_unreadable : {B : Type 0} (remaining : B → Option (List ℕ)) (steady : Bool) (contents : Contents) (digest : List ℕ) (size : ℕ) (why : Error)
    → Gives remaining steady contents digest (Unreadable why) → OverContents steady contents (λ c. IsTrue false ↔ IsThere c digest size)
there_unreadable remaining true (Some c) digest size why g = absurd (true≢false g)
there_unreadable remaining true None digest size why g = tt
there_unreadable remaining false contents digest size why g = tt

there_by : (c : File) (digest all : List ℕ) (size : ℕ) (v : Verdict) → c digest ≡ Some all → Tells digest size all v → IsTrue (is_same v) ↔ IsThere c digest size
there_by c digest all size v there tells = (λ is. (all, (there, subst (Tells digest size all) (same_verdict v is) tells)), back)
  where
    back : IsThere c digest size → IsTrue (is_same v)
    back (bytes, (at, held)) =
        let same : bytes ≡ all = some (sym at ∙ there) in
        ap is_same (one_verdict digest size all v verdict.Same tells (subst (IsContentOf digest size) same held))

pub there_read : {B : Type 0} (remaining : B → Option (List ℕ)) (steady : Bool) (contents : Contents) (digest : List ℕ) (size : ℕ) (blob : B) (known : Option ℕ) (v : Verdict) (kept : Bool)
    → Gives remaining steady contents digest (Content blob known) → IfSome (remaining blob) (λ bytes. Tells digest size bytes v) → kept ≡ is_same v
    → OverContents steady contents (λ c. IsTrue kept ↔ IsThere c digest size)
there_read remaining true (Some c) digest size blob known v kept (all, is, there, sized) tells same = λ are.
    subst (λ b. IsTrue b ↔ IsThere c digest size) (sym same) (there_by c digest all size v there (subst (λ (x : Option (List ℕ)). IfSome x (λ l. Tells digest size l v)) is tells))
there_read remaining true None digest size blob known v kept g tells same = tt
there_read remaining false contents digest size blob known v kept g tells same = tt

-- ---- the value of a content

pub value_large : (steady : Bool) (contents : Contents) (limit : ℕ) (digest : List ℕ) (size : ℕ) → limit < size → OverContents steady contents (λ c. IsFound (IsValueOf limit c digest size) None)
value_large steady contents limit digest size large =
    over_each steady contents (λ c. IsFound (IsValueOf limit c digest size) None) (λ c v is. let small = is.small in omega arith)

pub value_unnamed : (steady : Bool) (contents : Contents) (limit : ℕ) (digest : List ℕ) (size : ℕ) → ¬ IsDigestText digest
    → OverContents steady contents (λ c. IsFound (IsValueOf limit c digest size) None)
value_unnamed steady contents limit digest size not = over_each steady contents (λ c. IsFound (IsValueOf limit c digest size) None) (λ c v is. not is.named)

pub value_missing : (steady : Bool) (contents : Contents) (limit : ℕ) (digest : List ℕ) (size : ℕ) → OverContents steady contents (λ c. IsFound (IsKept c digest size) None)
    → OverContents steady contents (λ c. IsFound (IsValueOf limit c digest size) None)
value_missing steady contents limit digest size h =
    over_map steady contents (λ c. IsFound (IsKept c digest size) None) (λ c. IsFound (IsValueOf limit c digest size) None) (λ c none v is. none is.bytes (is.there, is.same)) h

value_by : (limit : ℕ) (c : File) (digest : List ℕ) (size : ℕ) (bytes : List ℕ) → IsDigestText digest → size ≤ limit → IsKept c digest size bytes → (o : Option Data) → IsFound (ReadsAs bytes) o
    → IsFound (IsValueOf limit c digest size) o
value_by limit c digest size bytes named small kept o h =
    found_as (ReadsAs bytes) (IsValueOf limit c digest size)
    (λ v reads. record { named = named; small = small; bytes = bytes; there = kept.0; same = kept.1; reads = reads })
    (λ v is. subst (λ b. ReadsAs b v) (some (sym is.there ∙ kept.0)) is.reads) o h

pub value_read : {E : Type 0} (steady : Bool) (contents : Contents) (limit : ℕ) (digest : List ℕ) (size : ℕ) (bytes : List ℕ) (r : Result (Option Document) E) → IsDigestText digest → size ≤ limit
    → OverContents steady contents (λ c. IsFound (IsKept c digest size) (Some bytes)) → IfOk r (λ o. IsFound (ReadsAs bytes) (option_map (λ d. view d.value) o))
    → IfOk r (λ o. OverContents steady contents (λ c. IsFound (IsValueOf limit c digest size) (option_map (λ d. view d.value) o)))
value_read steady contents limit digest size bytes (Err e) named small kept h = tt
value_read steady contents limit digest size bytes (Ok o) named small kept h =
    over_map steady contents (λ c. IsFound (IsKept c digest size) (Some bytes)) (λ c. IsFound (IsValueOf limit c digest size) (option_map (λ d. view d.value) o))
    (λ c k. value_by limit c digest size bytes named small k (option_map (λ d. view d.value) o) h) kept

pub no_value : (bytes : List ℕ) → IsNoJson bytes → IsFound (ReadsAs bytes) None
no_value bytes none = λ v reads. let e = sym (none reads.0) ∙ reads.1 in cc e

-- ---- what a descriptor leads to

pub led_nowhere : (steady : Bool) (contents : Contents) (limit : ℕ) (o : Option Data) → None ≡ option_and_then mention_in o → OverContents steady contents (λ c. IsFound (LeadsTo limit c o) None)
led_nowhere steady contents limit None e = over_each steady contents (λ c. IsFound (LeadsTo limit c None) None) (λ c v is. is)
led_nowhere steady contents limit (Some d) e = over_each steady contents (λ c. IsFound (LeadsTo limit c (Some d)) None) (λ c v is. let f = e ∙ is.says in cc f)

led_by : (limit : ℕ) (c : File) (o : Option Data) (m : Mention) → Some m ≡ option_and_then mention_in o → (found : Option Data) → IsFound (IsValueOf limit c m.digest m.size) found
    → IsFound (LeadsTo limit c o) found
led_by limit c None m e found h = let f = e in cc f
led_by limit c (Some d) m e found h =
    found_as (IsValueOf limit c m.digest m.size) (LeadsTo limit c (Some d)) (λ v is. record { said = m; says = sym e; content = is })
    (λ v is. subst (λ (n : Mention). IsValueOf limit c n.digest n.size v) (some (sym is.says ∙ sym e)) is.content) found h

pub led_to : {E : Type 0} (steady : Bool) (contents : Contents) (limit : ℕ) (o : Option Data) (m : Mention) (r : Result (Option Document) E) → Some m ≡ option_and_then mention_in o
    → IfOk r (λ x. OverContents steady contents (λ c. IsFound (IsValueOf limit c m.digest m.size) (option_map (λ d. view d.value) x)))
    → IfOk r (λ x. OverContents steady contents (λ c. IsFound (LeadsTo limit c o) (option_map (λ d. view d.value) x)))
led_to steady contents limit o m (Err e) is h = tt
led_to steady contents limit o m (Ok x) is h =
    over_map steady contents (λ c. IsFound (IsValueOf limit c m.digest m.size) (option_map (λ d. view d.value) x)) (λ c. IsFound (LeadsTo limit c o) (option_map (λ d. view d.value) x))
    (λ c k. led_by limit c o m is (option_map (λ d. view d.value) x) k) h
