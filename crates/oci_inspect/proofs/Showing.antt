-- What is shown of an image that was found, and why nothing is.
use Rattle.std.specs.Prelude.{◌≡◌, ℕ, List, Bool, Option, Some, None, Result, Ok, Err, IfErr, IfSome, OnOk}
use Rattle.std.specs.Option.{option_copied}
use Rattle.std.proofs.Common.{inl, inr, sym, ◌∙◌}
use Rattle.oci_layout.specs.Looks.{Contents}
use Rattle.oci_inspect.specs.Found.{IsFoundIn, IsNotFoundIn, OverLayout}
use Rattle.oci_inspect.specs.Shown.{IsRefused, IsShown, IsUnshown, IsUnwritten, IsWritten, status_of}
use Rattle.oci_inspect.specs.declared.asked.Inspect.{Inspect}
use Rattle.oci_inspect.specs.declared.fault.FindError.{FindError}
use Rattle.oci_inspect.specs.declared.fault.InspectError.{InspectError}
use Rattle.oci_inspect.specs.declared.fault.InspectError.TheVariants.{NotFound}
use Rattle.oci_inspect.specs.declared.image.FoundImage.{FoundImage}

-- it was found in the layout
abbrev IsFound : Inspect → Contents → Contents → FoundImage → Type 0
IsFound asked tops contents f =
    OverLayout tops contents (λ t k. IsFoundIn (option_copied asked.wanted.name) (option_copied asked.wanted.platform) t k f)

pub shown : {U : Type 0} (asked : Inspect) (tops contents : Contents) (f : FoundImage) (old new : Option (List ℕ)) (r : Result U InspectError)
    → IsFound asked tops contents f → OnOk r (IfSome contents (λ k. IsWritten k asked.part asked.style f old new))
    → OnOk r (OverLayout tops contents (λ t k. IsShown asked t k old new))
shown asked tops contents f old new (Err e) found h = tt
shown asked None contents f old new (Ok x) found h = tt
shown asked (Some t) None f old new (Ok x) found h = tt
shown asked (Some t) (Some k) f old new (Ok x) found h = record { image = f; found = found; written = h }

pub unwritten : {U : Type 0} (asked : Inspect) (steady : Bool) (tops contents : Contents) (f : FoundImage) (r : Result U InspectError)
    → IsFound asked tops contents f → IfErr r (λ e. IfSome contents (λ k. IsUnwritten steady k f e))
    → IfErr r (λ e. OverLayout tops contents (λ t k. IsUnshown asked steady t k e))
unwritten asked steady tops contents f (Ok x) found h = tt
unwritten asked steady None contents f (Err e) found h = tt
unwritten asked steady (Some t) None f (Err e) found h = tt
unwritten asked steady (Some t) (Some k) f (Err e) found h = inr (f, found, h)

pub unfound : (asked : Inspect) (steady : Bool) (tops contents : Contents) (e : FindError)
    → OverLayout tops contents (λ t k. IsNotFoundIn (option_copied asked.wanted.name) (option_copied asked.wanted.platform) steady t k e)
    → OverLayout tops contents (λ t k. IsUnshown asked steady t k (NotFound e))
unfound asked steady None contents e h = tt
unfound asked steady (Some t) None e h = tt
unfound asked steady (Some t) (Some k) e h = inl h

pub refused : (asked : Inspect) (steady : Bool) (tops contents : Contents) (e : InspectError) (status : ℕ)
    → OverLayout tops contents (λ t k. IsUnshown asked steady t k e) → status ≡ status_of e → status ≡ 1
    → OverLayout tops contents (λ t k. IsRefused asked steady t k)
refused asked steady None contents e status h is one = tt
refused asked steady (Some t) None e status h is one = tt
refused asked steady (Some t) (Some k) e status h is one = (e, sym is ∙ one, h)
