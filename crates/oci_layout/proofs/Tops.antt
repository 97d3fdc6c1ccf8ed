-- What is read of a file beside `blobs`, or of a content.
use Rattle.std.proofs.Common.{◌≡◌, ℕ, ◌<◌, ◌≤◌, Bool, true, false, Vec, Global, List, length, Option, None, Some, Result, Ok, Err, IfOk, IfSome, inl, inr, refl, sym, ap, subst, ◌∙◌, arith}
use Rattle.std.specs.declared.io.Error.{Error}
use Rattle.oci_layout.specs.Looks.{Contents, Gives, IsCut}
use Rattle.oci_layout.specs.Sound.{IsTop, IsReadOf}
use Rattle.oci_layout.specs.declared.top.Top.{Top}
use Rattle.oci_layout.specs.declared.store.Opened.TheVariants.{Missing, Unreadable, Content}
use Rattle.oci_layout.specs.declared.top.Top.TheVariants as top

unsteady : (steady : Bool) → (steady ≡ true → ⊥) → steady ≡ false
unsteady true lacks = absurd (lacks refl)
unsteady false lacks = refl

pub top_missing : {B : Type 0} (remaining : B → Option (List ℕ)) (limit : ℕ) (steady : Bool) (tops : Contents) (name : List ℕ) → Gives remaining steady tops name Missing
    → IsTop limit steady tops name top.Missing
top_missing remaining limit steady None name g = tt
top_missing remaining limit steady (Some tops) name g = g

pub top_unreadable : {B : Type 0} (remaining : B → Option (List ℕ)) (limit : ℕ) (steady : Bool) (tops : Contents) (name : List ℕ) (why : Error) → Gives remaining steady tops name (Unreadable why)
    → IsTop limit steady tops name (top.Unreadable why)
top_unreadable remaining limit steady None name why g = tt
top_unreadable remaining limit steady (Some tops) name why g = g

-- a beginning shows that there are too many
many : (bytes all : List ℕ) (limit : ℕ) → IsCut bytes all limit → limit < length bytes → limit < length all
many bytes all limit (inl same) h = subst (λ l. limit < length l) same h
many bytes all limit (inr (a, b)) h = b

whole : (bytes all : List ℕ) (limit : ℕ) → IsCut bytes all limit → length bytes ≤ limit → bytes ≡ all
whole bytes all limit (inl same) h = same
whole bytes all limit (inr (a, b)) h = absurd (omega arith)

-- what was read of a content
pub blob_large : (limit : ℕ) (steady : Bool) (known : Option (List ℕ)) (bytes : List ℕ) → IfSome known (λ all. IsCut bytes all limit) → limit < length bytes
    → IfSome known (λ all. IsReadOf limit steady all top.TooLarge)
blob_large limit steady None bytes cut h = tt
blob_large limit steady (Some all) bytes cut h = many bytes all limit cut h

pub blob_bytes : (limit : ℕ) (steady : Bool) (known : Option (List ℕ)) (bytes : Vec ℕ Global) → IfSome known (λ all. IsCut bytes.items all limit) → length bytes.items ≤ limit
    → IfSome known (λ all. IsReadOf limit steady all (top.Bytes bytes))
blob_bytes limit steady None bytes cut h = tt
blob_bytes limit steady (Some all) bytes cut h = (whole bytes.items all limit cut h, h)

pub blob_failed : (limit : ℕ) (steady : Bool) (known : Option (List ℕ)) (why : Error) → (steady ≡ true → ⊥) → IfSome known (λ all. IsReadOf limit steady all (top.Unreadable why))
blob_failed limit steady None why lacks = tt
blob_failed limit steady (Some all) why lacks = unsteady steady lacks

-- what was read of what a store gives
read_there : (limit : ℕ) (steady : Bool) (tops : List ℕ → Option (List ℕ)) (name all : List ℕ) (t : Top) → tops name ≡ Some all → IsReadOf limit steady all t
    → IsTop limit steady (Some tops) name t
read_there limit steady tops name all top.Missing there r = absurd r
read_there limit steady tops name all (top.Unreadable why) there r = r
read_there limit steady tops name all top.TooLarge there r = (all, there, r)
read_there limit steady tops name all (top.Bytes bytes) there r = (there ∙ sym (ap Some r.0), r.1)

pub top_read : {B E : Type 0} (remaining : B → Option (List ℕ)) (limit : ℕ) (steady : Bool) (tops : Contents) (name : List ℕ) (blob : B) (size : Option ℕ) (r : Result Top E)
    → Gives remaining steady tops name (Content blob size) → IfOk r (λ t. IfSome (remaining blob) (λ all. IsReadOf limit steady all t)) → IfOk r (IsTop limit steady tops name)
top_read remaining limit steady tops name blob size (Err e) g h = tt
top_read remaining limit steady None name blob size (Ok t) g h = tt
top_read remaining limit steady (Some tops) name blob size (Ok t) (all, is, there, known) h =
    read_there limit steady tops name all t there (subst (λ o. IfSome o (λ l. IsReadOf limit steady l t)) is h)
