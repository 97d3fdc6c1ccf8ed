use Rattle.std.proofs.Common.{sym, subst}
use Rattle.std.specs.Prelude.{OnOk}
use Rattle.std.specs.List.{All}
use Rattle.serde_json.specs.View.{view}
use Rattle.oci_layout.specs.Claims.{descriptors_of}
use Rattle.oci_layout.specs.Holds.{HoldsContent, StaysEmpty}
use Rattle.oci_layout.proofs.descriptor.Claimed.add_document.Goals as goal

pub returns-in-Index-clause-held : goal.returns-in-Index-clause-held
returns-in-Index-clause-held c =
    let call = c.add_index in
    subst (λ k. OnOk call.result (StaysEmpty c.args.self.now.held.items call.new.self.held.items (All HoldsContent (descriptors_of k (view c.args.value.now))))) (sym c.in-Index.is)
    call.ensures.held

pub returns-in-DockerList-clause-held : goal.returns-in-DockerList-clause-held
returns-in-DockerList-clause-held c =
    let call = c.add_index-in-DockerList in
    subst (λ k. OnOk call.result (StaysEmpty c.args.self.now.held.items call.new.self.held.items (All HoldsContent (descriptors_of k (view c.args.value.now))))) (sym c.in-DockerList.is)
    call.ensures.held

pub returns-in-Manifest-clause-held : goal.returns-in-Manifest-clause-held
returns-in-Manifest-clause-held c =
    let call = c.add_manifest in
    subst (λ k. OnOk call.result (StaysEmpty c.args.self.now.held.items call.new.self.held.items (All HoldsContent (descriptors_of k (view c.args.value.now))))) (sym c.in-Manifest.is)
    call.ensures.held

pub returns-in-DockerManifest-clause-held : goal.returns-in-DockerManifest-clause-held
returns-in-DockerManifest-clause-held c =
    let call = c.add_manifest-in-DockerManifest in
    subst (λ k. OnOk call.result (StaysEmpty c.args.self.now.held.items call.new.self.held.items (All HoldsContent (descriptors_of k (view c.args.value.now))))) (sym c.in-DockerManifest.is)
    call.ensures.held

pub returns-in-Artifact-clause-held : goal.returns-in-Artifact-clause-held
returns-in-Artifact-clause-held c =
    let call = c.add_artifact in
    subst (λ k. OnOk call.result (StaysEmpty c.args.self.now.held.items call.new.self.held.items (All HoldsContent (descriptors_of k (view c.args.value.now))))) (sym c.in-Artifact.is)
    call.ensures.held
