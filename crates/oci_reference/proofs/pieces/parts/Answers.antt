-- What `finish` found lies in the text, which is ASCII.
use Rattle.std.proofs.Common.{arith}
use Rattle.oci_reference.proofs.Slices.{stood_index, stood_whole, reference_ascii, pieces}
use Rattle.oci_reference.proofs.pieces.parts.Goals as goal

pub push-requires : goal.push-requires
push-requires c =
    let count = stood_index c.loop-b.scanner c.as_bytes-b-items.result.now c.loop-b.b-index c.loop-b.invariant c.loop-b.auto.b-index-end in omega arith

pub returns-in-Err-clause-only : goal.returns-in-Err-clause-only
returns-in-Err-clause-only c = λ n g d r.
    let stands = stood_whole c.loop-b.scanner c.as_bytes-b-items.result.now c.args.text.now c.loop-b.b-index c.loop-b.invariant c.loop-b-test.false c.as_bytes-b-items.ensures.value in
    let clash = c.in-Err.ensures.only c.args.text.now n g d stands r in cc clash

pub piece-requires-clause-ascii : goal.piece-requires-clause-ascii
piece-requires-clause-ascii c =
    let stands = stood_whole c.loop-b.scanner c.as_bytes-b-items.result.now c.args.text.now c.loop-b.b-index c.loop-b.invariant c.loop-b-test.false c.as_bytes-b-items.ensures.value in
    let (n, g, d, r, e) = c.in-Ok.ensures.ok c.args.text.now stands in
    reference_ascii c.args.text.now n g d r

pub optional_piece-requires-clause-ascii : goal.optional_piece-requires-clause-ascii
optional_piece-requires-clause-ascii c =
    let stands = stood_whole c.loop-b.scanner c.as_bytes-b-items.result.now c.args.text.now c.loop-b.b-index c.loop-b.invariant c.loop-b-test.false c.as_bytes-b-items.ensures.value in
    let (n, g, d, r, e) = c.in-Ok.ensures.ok c.args.text.now stands in
    reference_ascii c.args.text.now n g d r

pub optional_piece-requires-in-Ok-clause-ascii : goal.optional_piece-requires-in-Ok-clause-ascii
optional_piece-requires-in-Ok-clause-ascii c =
    let stands = stood_whole c.loop-b.scanner c.as_bytes-b-items.result.now c.args.text.now c.loop-b.b-index c.loop-b.invariant c.loop-b-test.false c.as_bytes-b-items.ensures.value in
    let (n, g, d, r, e) = c.in-Ok.ensures.ok c.args.text.now stands in
    reference_ascii c.args.text.now n g d r

pub returns-in-Ok-clause-ok : goal.returns-in-Ok-clause-ok
returns-in-Ok-clause-ok c =
    let stands = stood_whole c.loop-b.scanner c.as_bytes-b-items.result.now c.args.text.now c.loop-b.b-index c.loop-b.invariant c.loop-b-test.false c.as_bytes-b-items.ensures.value in
    let (n, g, d, r, e) = c.in-Ok.ensures.ok c.args.text.now stands in
    rw (c.piece.ensures, c.optional_piece.ensures, c.optional_piece-in-Ok.ensures) (pieces c.args.text.now n g d c.in-Ok.places r e)
