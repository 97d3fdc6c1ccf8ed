-- Documents against which nothing stands.
use Rattle.std.proofs.Common.{◌≡◌, ℕ, List, Option, None, Some, inl, inr, refl, sym, subst, ◌∙◌}
use Rattle.std.proofs.lemmas.List.Elements.{All-nil}
use Rattle.serde_json.specs.Data.{Data}
use Rattle.oci_json.specs.Engines.{ReadsAs}
use Rattle.oci_model.specs.Shape.{Shape}
use Rattle.oci_layout.specs.Documents.{HasMember, IsAgainst, IsRead, IsReadBy, IsUnambiguous}
use Rattle.oci_layout.specs.Kinds.{document_shape}
use Rattle.oci_layout.specs.declared.claim.Claim.{Claim}
use Rattle.oci_layout.specs.declared.kind.Kind.{Kind}
use Rattle.oci_layout.specs.declared.kind.Kind.TheVariants as kind

some : {X : Type 0} {x y : X} → Some x ≡ Some y → x ≡ y
some e = cc

-- bytes that are not read are no document of another kind
unread : (k : Kind) (d : Data) → document_shape k ≡ None → IsUnambiguous k d
unread kind.Index d e = cc e
unread kind.DockerList d e = cc e
unread kind.Manifest d e = cc e
unread kind.DockerManifest d e = cc e
unread kind.Artifact d e = cc e
unread kind.Config d e = cc e
unread kind.DockerConfig d e = cc e
unread kind.Empty d e = cc e
unread kind.Opaque d e = All-nil (λ m. ¬ HasMember m d)

against_none : (k : Kind) (d : Data) → IsAgainst k d None → IsUnambiguous k d
against_none k d (inl (m, e, a)) = cc e
against_none k d (inr (u, e)) = u

read_by : (o : Option Shape) (k : Kind) (bytes : List ℕ) (claims : List Claim) (d : Data) → document_shape k ≡ o → IsReadBy o k bytes None claims
    → ReadsAs bytes d → IsUnambiguous k d
read_by None k bytes claims d e h r = unread k d e
read_by (Some s) k bytes claims d e (inl (v, t, inl doc)) r =
    let same : v ≡ d = some (sym t.1 ∙ r.1) in subst (IsUnambiguous k) same (against_none k v doc.against)
read_by (Some s) k bytes claims d e (inl (v, t, inr (bad, (p, none)))) r = cc p
read_by (Some s) k bytes claims d e (inr (n, (p, none))) r = cc p

pub unambiguous : (k : Kind) (bytes : List ℕ) (claims : List Claim) (d : Data) → IsRead k bytes None claims → ReadsAs bytes d → IsUnambiguous k d
unambiguous k bytes claims d h r = read_by (document_shape k) k bytes claims d refl h r
