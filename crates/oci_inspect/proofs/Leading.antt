-- Candidates that are reached, and what is found of them.
use Rattle.std.specs.Prelude.{◌≡◌, ◌≤◌, ◌+◌, ℕ, List, Bool, true, false, Option, Some, None, Result, Ok, Err, IfOk, IfErr, IfSome}
use Rattle.std.proofs.Common.{inl, inr}
use Rattle.oci_descriptor.specs.declared.descriptor.Descriptor.{Descriptor}
use Rattle.oci_descriptor.specs.declared.platform.Platform.{Platform}
use Rattle.oci_image.specs.ImageIndex.{image_index_plain}
use Rattle.oci_image.specs.declared.image_index.ImageIndex.{ImageIndex}
use Rattle.oci_layout.specs.Looks.{Contents}
use Rattle.oci_shapes.specs.ImageIndex.{image_index}
use Rattle.oci_inspect.specs.Contents.{IsDocumentOf}
use Rattle.oci_inspect.specs.Found.{depth_limit, is_index, IsImageAmong, IsImageOf, IsMeant, IsNoImageOf, IsNoIndexOf, IsNoneAmong, IsNoneMeant, Leads}
use Rattle.oci_inspect.specs.Found.Reaches.{here, below}
use Rattle.oci_inspect.specs.declared.fault.FindError.{FindError}
use Rattle.oci_inspect.specs.declared.image.FoundImage.{FoundImage}

-- P of an image or of an error, where contents are known
abbrev pub Told : {X : Type 0} → Contents → Option Platform → ((List ℕ → Option (List ℕ)) → X → ℕ → List Descriptor → Type 0) → ℕ → List Descriptor → X → Type 0
Told contents wanted P depth candidates x = IfSome contents (λ k. Leads k wanted (P k x) depth candidates)

leads_below : (k : List ℕ → Option (List ℕ)) (wanted : Option Platform) (P : ℕ → List Descriptor → Type 0) (depth : ℕ) (candidates : List Descriptor) (d : Descriptor)
    (index : ImageIndex) → IsMeant wanted depth candidates d → is_index d ≡ true → IsDocumentOf image_index k d (image_index_plain index)
    → Leads k wanted P (depth + 1) index.manifests.items → Leads k wanted P depth candidates
leads_below k wanted P depth candidates d index meant is document leads =
    (leads.0, leads.1, below depth candidates d index leads.0 leads.1 meant is document leads.2, leads.3)

-- what is told of the candidates below is told of those above
told_below : {X : Type 0} (contents : Contents) (wanted : Option Platform) (P : (List ℕ → Option (List ℕ)) → X → ℕ → List Descriptor → Type 0) (depth : ℕ)
    (candidates : List Descriptor) (d : Descriptor) (index : ImageIndex) (x : X) → IsMeant wanted depth candidates d → is_index d ≡ true
    → IfSome contents (λ k. IsDocumentOf image_index k d (image_index_plain index))
    → Told contents wanted P (depth + 1) index.manifests.items x → Told contents wanted P depth candidates x
told_below None wanted P depth candidates d index x meant is document told = tt
told_below (Some k) wanted P depth candidates d index x meant is document told =
    leads_below k wanted (P k x) depth candidates d index meant is document told

pub found_below : (contents : Contents) (wanted : Option Platform) (depth : ℕ) (candidates : List Descriptor) (d : Descriptor) (index : ImageIndex)
    (r : Result FoundImage FindError) → IsMeant wanted depth candidates d → is_index d ≡ true
    → IfSome contents (λ k. IsDocumentOf image_index k d (image_index_plain index))
    → IfOk r (λ f. IfSome contents (λ k. Leads k wanted (IsImageAmong k wanted f) (depth + 1) index.manifests.items))
    → IfOk r (λ f. IfSome contents (λ k. Leads k wanted (IsImageAmong k wanted f) depth candidates))
found_below contents wanted depth candidates d index (Ok f) meant is document h =
    told_below contents wanted (λ k x. IsImageAmong k wanted x) depth candidates d index f meant is document h
found_below contents wanted depth candidates d index (Err e) meant is document h = tt

pub why_below : (steady : Bool) (contents : Contents) (wanted : Option Platform) (depth : ℕ) (candidates : List Descriptor) (d : Descriptor) (index : ImageIndex)
    (r : Result FoundImage FindError) → IsMeant wanted depth candidates d → is_index d ≡ true
    → IfSome contents (λ k. IsDocumentOf image_index k d (image_index_plain index))
    → IfErr r (λ e. IfSome contents (λ k. Leads k wanted (IsNoneAmong steady k wanted e) (depth + 1) index.manifests.items))
    → IfErr r (λ e. IfSome contents (λ k. Leads k wanted (IsNoneAmong steady k wanted e) depth candidates))
why_below steady contents wanted depth candidates d index (Ok f) meant is document h = tt
why_below steady contents wanted depth candidates d index (Err e) meant is document h =
    told_below contents wanted (λ k x. IsNoneAmong steady k wanted x) depth candidates d index e meant is document h

-- ---- what is told of the candidates themselves

leads_here : (k : List ℕ → Option (List ℕ)) (wanted : Option Platform) (P : ℕ → List Descriptor → Type 0) (depth : ℕ) (candidates : List Descriptor)
    → P depth candidates → Leads k wanted P depth candidates
leads_here k wanted P depth candidates p = (depth, candidates, here depth candidates, p)

pub image_here : (contents : Contents) (wanted : Option Platform) (depth : ℕ) (candidates : List Descriptor) (d : Descriptor)
    (r : Result FoundImage FindError) → depth ≤ depth_limit → IsMeant wanted depth candidates d → is_index d ≡ false
    → IfOk r (λ f. IfSome contents (λ k. IsImageOf k wanted d f))
    → IfOk r (λ f. IfSome contents (λ k. Leads k wanted (IsImageAmong k wanted f) depth candidates))
image_here contents wanted depth candidates d (Err e) deep meant is h = tt
image_here None wanted depth candidates d (Ok f) deep meant is h = tt
image_here (Some k) wanted depth candidates d (Ok f) deep meant is h =
    leads_here k wanted (IsImageAmong k wanted f) depth candidates (record { deep = deep; d = d; meant = meant; no_index = is; image = h })

pub no_image_here : (steady : Bool) (contents : Contents) (wanted : Option Platform) (depth : ℕ) (candidates : List Descriptor) (d : Descriptor)
    (r : Result FoundImage FindError) → IsMeant wanted depth candidates d → is_index d ≡ false
    → IfErr r (λ e. IfSome contents (λ k. IsNoImageOf steady k wanted d e))
    → IfErr r (λ e. IfSome contents (λ k. Leads k wanted (IsNoneAmong steady k wanted e) depth candidates))
no_image_here steady contents wanted depth candidates d (Ok f) meant is h = tt
no_image_here steady None wanted depth candidates d (Err e) meant is h = tt
no_image_here steady (Some k) wanted depth candidates d (Err e) meant is h =
    leads_here k wanted (IsNoneAmong steady k wanted e) depth candidates (inr (d, meant, inr (is, h)))

pub no_index_here : (steady : Bool) (contents : Contents) (wanted : Option Platform) (depth : ℕ) (candidates : List Descriptor) (d : Descriptor) (e : FindError)
    → IsMeant wanted depth candidates d → is_index d ≡ true → IfSome contents (λ k. IsNoIndexOf steady k depth d e)
    → IfSome contents (λ k. Leads k wanted (IsNoneAmong steady k wanted e) depth candidates)
no_index_here steady None wanted depth candidates d e meant is h = tt
no_index_here steady (Some k) wanted depth candidates d e meant is h =
    leads_here k wanted (IsNoneAmong steady k wanted e) depth candidates (inr (d, meant, inl (is, h)))

pub none_here : (steady : Bool) (contents : Contents) (wanted : Option Platform) (depth : ℕ) (candidates : List Descriptor) (e : FindError)
    → IsNoneMeant wanted depth candidates e → IfSome contents (λ k. Leads k wanted (IsNoneAmong steady k wanted e) depth candidates)
none_here steady None wanted depth candidates e h = tt
none_here steady (Some k) wanted depth candidates e h = leads_here k wanted (IsNoneAmong steady k wanted e) depth candidates (inl h)
