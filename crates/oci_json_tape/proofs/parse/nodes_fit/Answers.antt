use Rattle.std.proofs.Common.{◌≡◌, suc, ◌+◌, ◌-◌, ◌&&◌, map, drop, sym, ap, ◌∙◌, arith, drop_of_length-le, ⊎_elim}
use Rattle.json.specs.Tape.{node_token}
use Rattle.json.specs.declared.tape.Node.TheVariants.{Object, EndObject, Array, EndArray, Key, String, Number, Bool as Boolean, Null}
use Rattle.oci_json_tape.specs.Fits.{fits}
use Rattle.oci_json_tape.proofs.Passes.{at_front, no_object, no_array, an_object, an_array, end_object, end_array, a_number, a_key, a_string, a_boolean, a_null, at_end}
use Rattle.oci_json_tape.proofs.parse.nodes_fit.Goals as goal
use Rattle.oci_json_tape.proofs.parse.nodes_fit.Goals.{in-Object+else-room-eq0, in-EndObject, in-Number+else-not-is_in_range, in-Key}

pub returns-then-room-eq0 : goal.returns-then-room-eq0
returns-then-room-eq0 c =
    let l = c.loop-node in
    let ns = c.args.nodes.now in
    sym (l.invariant.0 ∙ ⊎_elim
    (λ h. at_front ns l.node-index l.room (Object h.0) c.loop-node-test.true h.1 ∙ no_object _ l.room c.if-room-eq0.true)
    (λ h. at_front ns l.node-index l.room (Array h.0) c.loop-node-test.true h.1 ∙ no_array _ l.room c.if-room-eq0.true)
    c.in-Object.is)

pub returns-then-not-is_in_range : goal.returns-then-not-is_in_range
returns-then-not-is_in_range c =
    let l = c.loop-node in
    let ns = c.args.nodes.now in
    let rest = map node_token (drop (l.node-index + 1) ns) in
    sym (l.invariant.0 ∙ at_front ns l.node-index l.room _ c.loop-node-test.true c.in-Number.is ∙ a_number rest l.room _
    ∙ ap (λ b. b && fits l.room rest) (sym c.is_in_range.ensures ∙ c.if-not-is_in_range.true))

pub loop-node-preserved : goal.loop-node-preserved
loop-node-preserved c =
    let l = c.loop-node in
    let ns = c.args.nodes.now in
    let rest = map node_token (drop (l.node-index + 1) ns) in
    let here = at_front ns l.node-index l.room in
    let within = c.loop-node-test.true in
    elim c.match-node.branch [
      | in-Object+else-room-eq0 w ↦
          let more : l.room ≡ suc (l.room - 1) = omega (arith, w.if-room-eq0.false) in
          let to = ap (λ r. fits r rest) (sym w.room-is) in (
            l.invariant.0 ∙ ⊎_elim
                (λ h. here (Object h.0) within h.1 ∙ an_object rest l.room (l.room - 1) more)
                (λ h. here (Array h.0) within h.1 ∙ an_array rest l.room (l.room - 1) more)
                w.in-Object.is ∙ to,
            omega (arith, l.invariant.1, w.room-is),
          )
      | in-EndObject w ↦
          let to = ap (λ r. fits r rest) (sym w.room-is) in (
            l.invariant.0 ∙ ⊎_elim
                (λ h. here EndObject within h ∙ end_object rest l.room)
                (λ h. here EndArray within h ∙ end_array rest l.room)
                w.in-EndObject.is ∙ to,
            omega (arith, l.invariant.1, w.room-is),
          )
      | in-Number+else-not-is_in_range w ↦
          let to = ap (λ r. fits r rest) (sym w.room-is) in (
            l.invariant.0 ∙ here (Number w.in-Number.text) within w.in-Number.is ∙ a_number rest l.room _
                ∙ ap (λ b. b && fits l.room rest) (sym w.is_in_range.ensures ∙ w.if-not-is_in_range.false) ∙ to,
            omega (arith, l.invariant.1, w.room-is),
          )
      | in-Key w ↦
          let to = ap (λ r. fits r rest) (sym w.room-is) in (
            l.invariant.0 ∙ ⊎_elim
                (λ h. here (Key h.0) within h.1 ∙ a_key rest l.room _)
                (λ k. ⊎_elim
                (λ h. here (String h.0) within h.1 ∙ a_string rest l.room _)
                (λ m. ⊎_elim
                (λ h. here (Boolean h.0) within h.1 ∙ a_boolean rest l.room h.0)
                (λ h. here Null within h ∙ a_null rest l.room)
                m) k)
                w.in-Key.is ∙ to,
            omega (arith, l.invariant.1, w.room-is),
          )
    ]

pub returns : goal.returns
returns c =
    let l = c.loop-node in
    sym (l.invariant.0 ∙ ap (λ ns. fits l.room (map node_token ns)) (drop_of_length-le c.args.nodes.now c.loop-node-test.false) ∙ at_end l.room)
