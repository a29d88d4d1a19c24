use Rattle.std.proofs.Common.{[], ◌∷◌, ◌++◌, Ok, sym, ap, ◌∙◌, subst}
use Rattle.wire.specs.Fields.{next_field, unread}
use Rattle.records.specs.Sheet.{done}
use Rattle.sheet.specs.Adds.{Adds}
use Rattle.sheet.specs.Bench.{BenchView}
use Rattle.sheet.specs.Run.{pieces_of, run_on}
use Rattle.sheet.proofs.Growth.{adds_then, adds_short}
use Rattle.sheet.proofs.Pieces.{first}
use Rattle.sheet.proofs.run.run_all.Goals as goal

pub returns-in_ok-add_record-in-Ok : goal.returns-in_ok-add_record-in-Ok
returns-in_ok-add_record-in-Ok c =
    let rest = pieces_of (unread c.next.new.self) in
    let next = ap next_field (sym c.new-reader.ensures) ∙ c.in-Some.ensures.steps in
    let is = first c.args.tape.now _ (Ok c.in-Ok.exchange) next c.in-Ok.ensures in
    subst (Adds c.run_on.result c.args.sheet.now c.run_on.new.sheet) (ap (λ (b : BenchView). (done ∷ []) ++ run_on b rest) c.new-bench.ensures ∙ sym is)
    (adds_then c.run_on.result _ _ _ (done ∷ []) _ c.in_ok-add_record-in-Ok.ensures c.run_on.ensures)

pub returns-in_err-add_record-in-Ok : goal.returns-in_err-add_record-in-Ok
returns-in_err-add_record-in-Ok c =
    let rest = pieces_of (unread c.next.new.self) in
    let next = ap next_field (sym c.new-reader.ensures) ∙ c.in-Some.ensures.steps in
    let is = first c.args.tape.now _ (Ok c.in-Ok.exchange) next c.in-Ok.ensures in
    let e = c.in_err-add_record-in-Ok.field-0.0 in
    subst (Adds c.from_residual.result c.args.sheet.now c.add_record-in-Ok.new.sheet) (ap (λ (b : BenchView). (done ∷ []) ++ run_on b rest) c.new-bench.ensures ∙ sym is)
    (adds_short e c.from_residual.result _ _ (done ∷ []) _ c.from_residual.ensures.0 c.in_err-add_record-in-Ok.ensures)
