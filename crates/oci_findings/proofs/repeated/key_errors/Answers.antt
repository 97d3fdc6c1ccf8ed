use Rattle.std.proofs.Common.{◌≡◌, ◌<◌, true, false, length, get_or, ap, ◌∙◌, arith, rules}
use Rattle.std.specs.Prelude.{string_bytes}
use Rattle.oci_findings.specs.Asked.{is_wrong_twice}
use Rattle.oci_findings.proofs.Keys.{key_more, key_passed, keys_all}
use Rattle.oci_findings.proofs.repeated.key_errors.Goals.{then-is_wrong_twice+in_ok-add_at, else-is_wrong_twice}
use Rattle.oci_findings.proofs.repeated.key_errors.Goals as goal

pub loop-pointer-preserved : goal.loop-pointer-preserved
loop-pointer-preserved c =
    let lt : c.loop-pointer.pointer-index < length c.args.repeated.now.items = search rules in
    let same : c.pointer-item.result ≡ get_or c.args.repeated.now.items c.loop-pointer.pointer-index c.pointer-item.result = search rules in
    elim c.if-is_wrong_twice.branch [
      | then-is_wrong_twice+in_ok-add_at w ↦ (
          let passes : is_wrong_twice c.args.asked.now c.args.kind (string_bytes c.pointer-item.result) ≡ true = search rules in
          ap (λ v. length v.items) w.found-is ∙ w.in_ok-add_at.ensures
          ∙ key_more (is_wrong_twice c.args.asked.now c.args.kind) c.args.repeated.now.items c.loop-pointer.pointer-index c.pointer-item.result (length c.loop-pointer.found.items) lt same passes c.loop-pointer.invariant)
      | else-is_wrong_twice w ↦ (
          let fails : is_wrong_twice c.args.asked.now c.args.kind (string_bytes c.pointer-item.result) ≡ false = search rules in
          ap (λ v. length v.items) w.found-is
          ∙ key_passed (is_wrong_twice c.args.asked.now c.args.kind) c.args.repeated.now.items c.loop-pointer.pointer-index c.pointer-item.result (length c.loop-pointer.found.items) lt same fails c.loop-pointer.invariant)
    ]

pub returns : goal.returns
returns c = keys_all (is_wrong_twice c.args.asked.now c.args.kind) c.args.repeated.now.items c.loop-pointer.pointer-index (length c.loop-pointer.found.items) (omega arith) c.loop-pointer.invariant
