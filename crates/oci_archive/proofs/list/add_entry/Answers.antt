use Rattle.std.proofs.Common.{refl, sym, ap, ◌∙◌, option_map, string_bytes}
use Rattle.oci_archive.proofs.Listed.{one_added}
use Rattle.oci_archive.proofs.list.add_entry.Goals as goal

pub returns : goal.returns
returns c = one_added _ c.args.listed.now.items c.push.new.self.items _ c.in_ok-push.ensures.items refl (ap (option_map string_bytes) (sym c.in-Some.is) ∙ c.in_ok-path.ensures)
