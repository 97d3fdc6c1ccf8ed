use Rattle.std.proofs.Common.{◌≡◌, drop, map, string_bytes}
use Rattle.oci_base.specs.Names.{is_listed}
use Rattle.oci_commands.proofs.books.has_text.Given as goal

abbrev pub invariant-loop-it : goal.invariant-loop-it
invariant-loop-it l = is_listed (map string_bytes l.texts.items) l.text ≡ is_listed (map string_bytes (drop l.it-index l.texts.items)) l.text
