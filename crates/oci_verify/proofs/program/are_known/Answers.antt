use Rattle.std.proofs.Common.{subst}
use Rattle.std.specs.Prelude.{◌≡◌, ◌↔◌, false, IsTrue}
use Rattle.std.specs.List.{All}
use Rattle.oci_layout.specs.Looks.{is_unread}
use Rattle.oci_verify.proofs.program.are_known.Goals as goal

pub returns : goal.returns
returns c =
    let read = subst (λ l. IsTrue c.are_read.result ↔ All (λ x. is_unread x ≡ false) l) c.as_slice-claims.ensures.value c.are_read.ensures in
    let both = c.are_both.ensures in
    let reached = c.are_reached.ensures in (
      λ told. (reached.0 (both.0 told).0, read.0 (both.0 told).1),
      λ h. both.1 (reached.1 h.0, read.1 h.1),
    )
