use Rattle.std.proofs.Common.{rules, tests}
use Rattle.std.specs.Prelude.{◌==◌}
use Rattle.std.proofs.lemmas.Iterator.Consumers.{nth_from_yields_List}
use Rattle.std.proofs.lemmas.Iterator.Splits.{YieldsList-from_slice_split}
use Rattle.oci_select.proofs.fits.part.Goals as goal

pub returns : goal.returns
returns c = nth_from_yields_List _ _ c.args.index c.nth.ensures.ran (YieldsList-from_slice_split _ (λ b. b == 46) c.args.version.now c.split.ensures.rest c.split.ensures.done c.split.ensures.closure (λ x b q k. search (rules, tests)))
