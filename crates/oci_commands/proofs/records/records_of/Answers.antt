use Rattle.std.proofs.Common.{◌≡◌, ◌<◌, ◌≤◌, length, map, get_or, arith, rules, subst}
use Rattle.oci_commands.specs.Tables.{IsRecordAt, places_in, places_of}
use Rattle.oci_commands.proofs.Reached.{each_all, each_more, named_first, named_more, within_more}
use Rattle.oci_commands.proofs.records.records_of.Goals.{else-loop-index-test, then-loop-index-test+in_default}
use Rattle.oci_commands.proofs.records.records_of.Goals as goal

pub loop-index-init : goal.loop-index-init
loop-index-init g c = record {
  reached = named_first (places_in c.args.schema.now) c.add_place.new.places.items c.new-places.result.items c.new-records.result.items c.new-places.ensures.items c.new-records.ensures.items
      c.in_ok-add_place.ensures;
  each = search rules;
  within = omega arith;
}

pub loop-index-preserved : goal.loop-index-preserved
loop-index-preserved g c =
    let places = c.loop-index.places.items in
    let records = c.loop-index.records.items in
    let below : c.loop-index.index < length places = search rules in
    let here : c.in-Some.place.now ≡ get_or places c.loop-index.index 0 = search rules in
    record {
      reached = named_more (places_in c.args.schema.now) places c.add_places.new.places.items records c.push.new.self.items c.record-record.result c.in_ok-push.ensures.items c.in_ok-add_places.ensures
          c.loop-index.invariant.reached;
      each = each_more (g.T.Records.shape_at c.args.table.now) places c.add_places.new.places.items c.loop-index.index records c.push.new.self.items c.record-record.result below
          c.in_ok-push.ensures.items c.in_ok-add_places.ensures
          (subst (λ p. IsRecordAt (g.T.Records.shape_at c.args.table.now) p c.record-record.result.now) here c.record-record.ensures) c.loop-index.invariant.each;
      within = within_more places c.add_places.new.places.items (places_of c.record-record.result.now.members.now) c.loop-index.index below c.in_ok-add_places.ensures;
    }

pub returns : goal.returns
returns g c =
    let places = c.loop-index.places.items in
    let over : length places ≤ c.loop-index.index = elim c.loop-index-test.branch [ else-loop-index-test w ↦ search rules | then-loop-index-test+in_default w ↦ search rules ] in
    (places, each_all (g.T.Records.shape_at c.args.table.now) places c.loop-index.index (map (λ r. r.now) c.loop-index.records.items) over c.loop-index.invariant.each, c.loop-index.invariant.reached)
