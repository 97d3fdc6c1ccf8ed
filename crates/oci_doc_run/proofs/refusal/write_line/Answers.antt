use Rattle.std.proofs.Common.{[], ◌∷◌, ◌++◌, subst}
use Rattle.std.specs.Io.KnownBytes.{Appends}
use Rattle.oci_json.specs.Engines.{AppendsSome}
use Rattle.oci_doc_run.proofs.Begun.{appends_first, appends_then, err_gives, on_err}
use Rattle.oci_doc_run.proofs.refusal.write_line.Goals as goal

pub returns-in_err-write_text-clause-err : goal.returns-in_err-write_text-clause-err
returns-in_err-write_text-clause-err g c =
    let old = g.E.Write.contents c.args.errors.now in
    let new = g.E.Write.contents c.write_text.new.writer in
    on_err _ _ (appends_first old new c.args.mark.now (c.args.reason.now ++ 10 ∷ [])
    (subst (AppendsSome old new) c.as_bytes.ensures.value c.in_err-write_text.ensures.err))

pub returns-in_err-write_text-2-clause-err : goal.returns-in_err-write_text-2-clause-err
returns-in_err-write_text-2-clause-err g c =
    let old = g.E.Write.contents c.args.errors.now in
    let mid = g.E.Write.contents c.write_text.new.writer in
    let new = g.E.Write.contents c.write_text-2.new.writer in
    on_err _ _ (appends_then old mid new c.args.mark.now (c.args.reason.now ++ 10 ∷ [])
    (subst (Appends old mid) c.as_bytes.ensures.value c.in_ok-write_text.ensures.ok)
    (appends_first mid new c.args.reason.now (10 ∷ []) (subst (AppendsSome mid new) c.as_bytes-2.ensures.value c.in_err-write_text-2.ensures.err)))

pub returns-clause-err : goal.returns-clause-err
returns-clause-err g c =
    let old = g.E.Write.contents c.args.errors.now in
    let first = g.E.Write.contents c.write_text.new.writer in
    let second = g.E.Write.contents c.write_text-2.new.writer in
    let new = g.E.Write.contents c.write_text-3.new.writer in
    err_gives c.write_text-3.result (AppendsSome second new (10 ∷ [])) _
    (λ (h : AppendsSome second new (10 ∷ [])). appends_then old first new c.args.mark.now (c.args.reason.now ++ 10 ∷ [])
    (subst (Appends old first) c.as_bytes.ensures.value c.in_ok-write_text.ensures.ok)
    (appends_then first second new c.args.reason.now (10 ∷ [])
    (subst (Appends first second) c.as_bytes-2.ensures.value c.in_ok-write_text-2.ensures.ok) h))
    c.write_text-3.ensures.err
