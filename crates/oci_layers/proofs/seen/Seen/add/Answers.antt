use Rattle.std.proofs.Common.{◌≡◌, true, false, sym, ap, ◌∙◌}
use Rattle.std.proofs.lemmas.Result.{on_ok_weaker}
use Rattle.tar_folder.specs.Paths.{is_directory}
use Rattle.oci_layers.specs.Rules.{directory_path, other_path, hidden_path, sibling_folder}
use Rattle.oci_layers.proofs.Paths.{put_more, keep_more, of_directory, of_other}
use Rattle.oci_layers.proofs.seen.Seen.add.Goals as goal

pub returns-then-is_directory : goal.returns-then-is_directory
returns-then-is_directory c =
    let self = c.args.self.now in
    on_ok_weaker c.put-then-is_directory.result (λ put before m seen kind path tail.
    let is : is_directory m.kind ≡ true = ap is_directory kind ∙ sym c.is_directory.ensures ∙ c.if-is_directory.true in
    record {
      directories = put_more directory_path self.directories c.put-then-is_directory.new.set _ before m seen.directories put (path ∙ (of_directory m is).0);
      others = keep_more other_path self.others before m seen.others (of_directory m is).1;
      hidden = put_more hidden_path self.hidden c.put.new.set _ before m seen.hidden c.in_ok-put.ensures tail.hidden;
      folders = put_more sibling_folder self.folders c.put-2.new.set _ before m seen.folders c.in_ok-put-2.ensures tail.plain;
    }) c.put-then-is_directory.ensures

pub returns : goal.returns
returns c =
    let self = c.args.self.now in
    on_ok_weaker c.put-else-is_directory.result (λ put before m seen kind path tail.
    let is : is_directory m.kind ≡ false = ap is_directory kind ∙ sym c.is_directory.ensures ∙ c.if-is_directory.false in
    record {
      directories = keep_more directory_path self.directories before m seen.directories (of_other m is).1;
      others = put_more other_path self.others c.put-else-is_directory.new.set _ before m seen.others put (path ∙ (of_other m is).0);
      hidden = put_more hidden_path self.hidden c.put.new.set _ before m seen.hidden c.in_ok-put.ensures tail.hidden;
      folders = put_more sibling_folder self.folders c.put-2.new.set _ before m seen.folders c.in_ok-put-2.ensures tail.plain;
    }) c.put-else-is_directory.ensures
