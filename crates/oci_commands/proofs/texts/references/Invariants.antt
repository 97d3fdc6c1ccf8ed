use Rattle.std.proofs.Common.{◌≡◌, true, false, take}
use Rattle.oci_commands.specs.Done.{AppendsEach}
use Rattle.oci_commands.specs.Texts.{IsShownReference}
use Rattle.oci_commands.specs.Refused.{IsNoReference, HasNone}
use Rattle.oci_commands.proofs.texts.references.Given as goal

abbrev pub invariant-loop-text : goal.invariant-loop-text
invariant-loop-text g l = record {
  right : l.wrong ≡ false → AppendsEach (λ t. IsShownReference l.style t.now) (take l.text-index l.texts) (g.W.Write.contents l.initial.writer) (g.W.Write.contents l.writer);
  wrong : l.wrong ≡ true → HasNone IsNoReference l.texts;
}
