-- Each platform is one of all.
use Rattle.std.proofs.Common.{◌≡◌, true, refl}
use Rattle.oci_rules.specs.Rules.{Platform, linux, windows, solaris, vm, zos, freebsd}
use Rattle.oci_rules.specs.Platforms.{every, is_for}

pub each_is_one : (p : Platform) → is_for p every ≡ true
each_is_one linux = refl
each_is_one windows = refl
each_is_one solaris = refl
each_is_one vm = refl
each_is_one zos = refl
each_is_one freebsd = refl
