use Rattle.std.proofs.Common.{◌≡◌, false, take}
use Rattle.oci_commands.specs.Done.{AppendsEach}
use Rattle.oci_commands.specs.Texts.{IsFileLine}
use Rattle.oci_commands.proofs.contents.file_digests.Given as goal

abbrev pub invariant-loop-name : goal.invariant-loop-name
invariant-loop-name g l = record {
  done : l.unread ≡ false → AppendsEach (λ f. IsFileLine l.algorithm (g.S.Files.holds l.initial.store f.now) f.now) (take l.name-index l.files) (g.W.Write.contents l.initial.writer) (g.W.Write.contents l.writer);
  kept : g.S.Files.holds l.store ≡ g.S.Files.holds l.initial.store;
}
