-- Configurations of manifests, by the bytes of the manifests.
use Rattle.std.specs.Prelude.{◌≡◌, ℕ, List, Bool, false, Some, None, Result, Ok, Err, IfOk, IfErr, IfSome, IsTrue, ◌↔◌, refl}
use Rattle.std.proofs.Common.{inl, inr, true≢false, sym, ◌∙◌}
use Rattle.oci_descriptor.specs.declared.descriptor.Descriptor.{Descriptor}
use Rattle.oci_descriptor.specs.declared.platform.Platform.{Platform}
use Rattle.oci_image.specs.ImageConfiguration.{image_configuration_plain}
use Rattle.oci_image.specs.ImageManifest.{image_manifest_plain}
use Rattle.oci_image.specs.declared.image_configuration.ImageConfiguration.{ImageConfiguration}
use Rattle.oci_image.specs.declared.image_manifest.ImageManifest.{ImageManifest}
use Rattle.oci_json.specs.Engines.{MeansBytes}
use Rattle.oci_layout.specs.Looks.{Contents}
use Rattle.oci_shapes.specs.ImageConfiguration.{image_configuration}
use Rattle.oci_shapes.specs.ImageManifest.{image_manifest}
use Rattle.std.specs.declared.alloc.Global.{Global}
use Rattle.std.specs.Prelude.{Vec}
use Rattle.oci_inspect.specs.Configured.{HasPlatform, IsConfigFault, IsConfigOf, IsManifestFault, IsNoConfiguration, IsUnreadConfig, StatesPlatform}
use Rattle.oci_inspect.specs.Contents.{IsContent, IsDocumentOf, OnContent}
use Rattle.oci_inspect.specs.Found.{IsUnsuited}
use Rattle.oci_inspect.specs.Platforms.{IsPlatformOf, Runs}
use Rattle.oci_inspect.specs.declared.fault.Fault.{Fault}
use Rattle.oci_inspect.specs.declared.fault.FindError.{FindError}
use Rattle.oci_inspect.specs.declared.fault.FindError.TheVariants.{NoIndex, NoName, Several, NoPlatform, Content, TooDeep, Memory}

on_content : (P Q : List ℕ → Fault → Type 0) → ((t : List ℕ) (f : Fault) → P t f → Q t f) → (e : FindError) → OnContent P e → OnContent Q e
on_content P Q more (Content t f) h = more _ f h
on_content P Q more Memory h = tt
on_content P Q more (NoIndex f) h = absurd h
on_content P Q more NoName h = absurd h
on_content P Q more (Several n) h = absurd h
on_content P Q more NoPlatform h = absurd h
on_content P Q more TooDeep h = absurd h

-- what is wrong with the manifest
pub manifest_wrong : (steady : Bool) (contents : Contents) (d : Descriptor) (bytes : List ℕ) (e : FindError) → OnContent (IsManifestFault d bytes) e
    → IfSome contents (λ k. OnContent (IsConfigFault steady k d bytes) e)
manifest_wrong steady None d bytes e h = tt
manifest_wrong steady (Some k) d bytes e h = on_content (IsManifestFault d bytes) (IsConfigFault steady k d bytes) (λ t f p. inl p) e h

-- what is wrong with its configuration
pub config_wrong : {X : Type 0} (steady : Bool) (contents : Contents) (d : Descriptor) (bytes : List ℕ) (m : ImageManifest) (r : Result X FindError)
    → MeansBytes image_manifest bytes (image_manifest_plain m) → IfErr r (λ e. IfSome contents (λ k. OnContent (IsNoConfiguration steady k m) e))
    → IfErr r (λ e. IfSome contents (λ k. OnContent (IsConfigFault steady k d bytes) e))
config_wrong steady contents d bytes m (Ok x) means h = tt
config_wrong steady None d bytes m (Err e) means h = tt
config_wrong steady (Some k) d bytes m (Err e) means h = on_content (IsNoConfiguration steady k m) (IsConfigFault steady k d bytes) (λ t f p. inr (m, means, p)) e h

pub config_unread : {X : Type 0} (steady : Bool) (contents : Contents) (d : Descriptor) (bytes : List ℕ) (m : ImageManifest) (r : Result X FindError)
    → MeansBytes image_manifest bytes (image_manifest_plain m) → IfErr r (λ e. IfSome contents (λ k. OnContent (IsUnreadConfig steady k m) e))
    → IfErr r (λ e. IfSome contents (λ k. OnContent (IsConfigFault steady k d bytes) e))
config_unread steady contents d bytes m (Ok x) means h = tt
config_unread steady None d bytes m (Err e) means h = tt
config_unread steady (Some k) d bytes m (Err e) means h =
    on_content (IsUnreadConfig steady k m) (IsConfigFault steady k d bytes) (λ t f p. inr (m, means, (p.0, inl p.1))) e h

pub config_read : (contents : Contents) (bytes : List ℕ) (m : ImageManifest) (r : Result (Vec ℕ Global) FindError)
    → MeansBytes image_manifest bytes (image_manifest_plain m) → IfOk r (λ v. IfSome contents (λ k. IsContent k m.config v.items))
    → IfOk r (λ v. IfSome contents (λ k. IsConfigOf k bytes v.items))
config_read contents bytes m (Err e) means h = tt
config_read None bytes m (Ok v) means h = tt
config_read (Some k) bytes m (Ok v) means h = record { manifest = m; means = means; content = h }

pub platform_read : (contents : Contents) (bytes : List ℕ) (m : ImageManifest) (r : Result Platform FindError)
    → MeansBytes image_manifest bytes (image_manifest_plain m) → IfOk r (λ p. IfSome contents (λ k. StatesPlatform k m p))
    → IfOk r (λ p. IfSome contents (λ k. HasPlatform k bytes p))
platform_read contents bytes m (Err e) means h = tt
platform_read None bytes m (Ok p) means h = tt
platform_read (Some k) bytes m (Ok p) means h = record { manifest = m; means = means; states = h }

-- the platform that is stated does not run on the wanted one
pub runs_not : (contents : Contents) (d : Descriptor) (bytes : List ℕ) (wanted p : Platform) (b : Bool) → d.platform ≡ None
    → IfSome contents (λ k. HasPlatform k bytes p) → (IsTrue b ↔ Runs wanted p) → b ≡ false
    → IfSome contents (λ k. IsContent k d bytes → (x : Platform) × (Some wanted ≡ Some x) × IsUnsuited k x d)
runs_not None d bytes wanted p b none has runs not = tt
runs_not (Some k) d bytes wanted p b none has runs not =
    λ content. (wanted, refl, (none, inr (bytes, p, content, has, λ r. true≢false (sym (runs.1 r) ∙ not))))

pub states : (contents : Contents) (m : ImageManifest) (c : ImageConfiguration) (p : Platform)
    → IfSome contents (λ k. IsDocumentOf image_configuration k m.config (image_configuration_plain c)) → IsPlatformOf c p
    → IfSome contents (λ k. StatesPlatform k m p)
states None m c p document stated = tt
states (Some k) m c p document stated = record { configuration = c; document = document; stated = stated }
