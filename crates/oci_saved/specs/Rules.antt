-- The rules that findings on an archive name.
use Rattle.std.specs.Prelude.{ℕ, List, codes}
use Rattle.oci_saved.specs.declared.fault.ItemFault.{ItemFault}
use Rattle.oci_saved.specs.declared.fault.ItemFault.TheVariants.{NoItem, Config, Name, Schema, Count, Layer}
use Rattle.oci_saved.specs.declared.fault.SavedFault.{SavedFault}
use Rattle.oci_saved.specs.declared.fault.SavedFault.TheVariants.{Manifest, NoArray, Item}

abbrev pub item_rule_name : ItemFault → List ℕ
item_rule_name NoItem = codes "saved-manifest"
item_rule_name (Config why) = codes "saved-config"
item_rule_name (Name name) = codes "saved-config"
item_rule_name (Schema violations) = codes "saved-config"
item_rule_name (Count layers ids) = codes "saved-layers-count"
item_rule_name (Layer place found) = codes "saved-layer"

abbrev pub saved_rule_name : SavedFault → List ℕ
saved_rule_name (Manifest why) = codes "saved-manifest"
saved_rule_name NoArray = codes "saved-manifest"
saved_rule_name (Item place fault) = item_rule_name fault
