use Rattle.std.proofs.Common.{◌≡◌, drop, map}
use Rattle.oci_rules.specs.Platforms.{is_for}
use Rattle.oci_rules.specs.Tables.{platform_of}
use Rattle.oci_rules.proofs.find.is_listed.Given as goal

abbrev pub invariant-loop-other : goal.invariant-loop-other
invariant-loop-other l = is_for (platform_of l.platform) (map platform_of l.platforms) ≡ is_for (platform_of l.platform) (map platform_of (drop l.other-index l.platforms))
