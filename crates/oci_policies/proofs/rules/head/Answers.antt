use Rattle.std.proofs.Common.{◌≡◌, ℕ, List, Some, refl}
use Rattle.std.specs.Prelude.{codes}
use Rattle.toml.specs.Data.{Members, as_str}
use Rattle.toml.specs.View.{table_view}
use Rattle.oci_rules.specs.Rules.{Level, Platform, Test}
use Rattle.oci_rules.specs.Tables.{level_of, platforms_of, test_of}
use Rattle.oci_rules.specs.Platforms.{every}
use Rattle.oci_policies.specs.Policies.{head_of, level_in, platform_in, test_in}
use Rattle.oci_policies.specs.Values.{both, some_in, under, under_or}
use Rattle.oci_policies.proofs.rules.head.Goals as goal

-- what is read part by part
head_read : (ms : Members) (name : List ℕ) (level : Level) (section : List ℕ) (message : List ℕ) (platforms : List Platform) (test : Test)
    → under as_str (codes "name") ms ≡ Some name → under level_in (codes "level") ms ≡ Some level → under as_str (codes "source") ms ≡ Some section
    → both (under as_str (codes "message") ms) (both (under_or every (some_in platform_in) (codes "platforms") ms) (test_in ms)) ≡ Some (message, (platforms, test))
    → head_of ms ≡ Some (record { name = name; level = level; section = section; message = message; platforms = platforms; test = test })
head_read ms name level section message platforms test n l s t = rw (n, l, s, t) refl

pub returns : goal.returns
returns c = head_read (table_view c.args.table.now) c.in_ok-name.name.now (level_of c.in_ok-level.level) c.in_ok-section.section.now c.in_ok-wanted.wanted.now (platforms_of c.in_ok-wanted.platforms) (test_of c.in_ok-wanted.test) c.in_ok-name.ensures c.in_ok-level.ensures c.in_ok-section.ensures c.in_ok-wanted.ensures
