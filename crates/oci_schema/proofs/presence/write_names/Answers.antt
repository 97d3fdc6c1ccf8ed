use Rattle.std.proofs.Common.{◌≡◌, ℕ, ◌+◌, ◌<◌, List, ◌∷◌, ◌++◌, length, slice_index_or, drop, codes, Bor, rules, ap, sym, ◌∙◌, append_assoc, add-one, refl}
use Rattle.std.proofs.Math.Seq.{drop-cons}
use Rattle.std.proofs.Output.{has_written_append}
use Rattle.oci_schema.specs.Shapes.{names_of}
use Rattle.oci_schema.specs.Texts.{listed}
use Rattle.oci_schema.proofs.presence.write_names.Goals as goal

one_more : (bs mark whole : List ℕ) (table : List (Bor (List ℕ))) (i : ℕ) (d : Bor (List ℕ)) → i < length table → bs ++ listed mark (names_of (drop i table)) ≡ whole
    → (bs ++ (mark ++ (slice_index_or table i d).now)) ++ listed (codes ", ") (names_of (drop (i + 1) table)) ≡ whole
one_more bs mark whole table i d less is =
    let name = (slice_index_or table i d).now in
    let rest = listed (codes ", ") (names_of (drop (i + 1) table)) in
    let cut : drop i table ≡ slice_index_or table i d ∷ drop (i + 1) table = rw add-one (drop-cons table i d less) in
    append_assoc bs (mark ++ name) rest ∙ ap (λ t. bs ++ t) (append_assoc mark name rest) ∙ ap (λ t. bs ++ listed mark (names_of t)) (sym cut) ∙ is

pub loop-name-preserved : goal.loop-name-preserved
loop-name-preserved g c = record {
  text = search rules;
  writes = λ plain.
      let (bs, wrote, is) = c.loop-name.invariant.writes plain in
      let mark = c.in_ok-write_str.ensures.writes wrote.plain refl in
      let name = c.in_ok-write_str-2.ensures.writes mark.plain refl in (
        bs ++ (c.loop-name.mark.now ++ _),
        has_written_append _ _ _ _ _ _ wrote (has_written_append _ _ _ _ _ _ mark name),
        one_more bs c.loop-name.mark.now _ c.args.table.now c.loop-name.name-index _ c.loop-name-test.true is,
      );
}
