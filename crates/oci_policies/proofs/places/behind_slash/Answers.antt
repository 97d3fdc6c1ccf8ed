use Rattle.std.proofs.Common.{arith}
use Rattle.std.proofs.lemmas.Str.Pattern.{strip_prefix_char}
use Rattle.oci_policies.proofs.Slashes.{behind_slash_is}
use Rattle.oci_policies.proofs.places.behind_slash.Goals as goal

pub returns : goal.returns
returns c = behind_slash_is _ _ (strip_prefix_char 47 c.args.text.now c.strip_prefix.result c.strip_prefix.ensures.cases (omega arith))
