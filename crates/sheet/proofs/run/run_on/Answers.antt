use Rattle.std.proofs.Common.{List, [], ◌∷◌, ◌++◌, Ok, Err, sym, ap, ◌∙◌, subst}
use Rattle.std.proofs.lemmas.List.{append_assoc}
use Rattle.wire.specs.Fields.{unread, is_nothing}
use Rattle.sheet.specs.Adds.{Adds}
use Rattle.records.specs.Sheet.{SheetEntry, refused}
use Rattle.sheet.specs.Outcomes.{outcome_entry}
use Rattle.refusal.specs.declared.Refusal.TheVariants.{Garbled}
use Rattle.sheet.specs.Bench.{bench_view}
use Rattle.sheet.specs.Run.{run_on}
use Rattle.sheet.proofs.Growth.{adds_then, adds_short}
use Rattle.sheet.proofs.Pieces.{pieces_cut, turn}
use Rattle.sheet.proofs.run.run_on.Goals as goal

pub loop-field-preserved : goal.loop-field-preserved
loop-field-preserved c =
    let a : List SheetEntry = c.loop-field.invariant.0 in
    let one : List SheetEntry = outcome_entry c.take-outcome.result c.take-outcome.new.out ∷ [] in
    let step = turn (bench_view c.loop-field.bench) (unread c.loop-field.reader) _ _ c.in-Some.ensures.steps c.take-outcome.ensures in
    (a ++ one, adds_then (Ok tt) _ _ _ a one c.loop-field.invariant.1 c.in_ok-add_outcome.ensures, append_assoc a one _ ∙ ap (λ (xs : List SheetEntry). a ++ xs) step ∙ c.loop-field.invariant.2)

pub returns-in_err-add_outcome : goal.returns-in_err-add_outcome
returns-in_err-add_outcome c =
    let a : List SheetEntry = c.loop-field.invariant.0 in
    let one : List SheetEntry = outcome_entry c.take-outcome.result c.take-outcome.new.out ∷ [] in
    let step = turn (bench_view c.loop-field.bench) (unread c.loop-field.reader) _ _ c.in-Some.ensures.steps c.take-outcome.ensures in
    let e = c.in_err-add_outcome.field-0.0 in
    subst (Adds c.from_residual.result c.args.sheet.now c.add_outcome.new.sheet) (append_assoc a one _ ∙ ap (λ (xs : List SheetEntry). a ++ xs) step ∙ c.loop-field.invariant.2)
    (adds_short e c.from_residual.result _ _ (a ++ one) _ c.from_residual.ensures.0 (adds_then (Err e) _ _ _ a one c.loop-field.invariant.1 c.in_err-add_outcome.ensures))

-- what is left is a cut record
pub returns-else-is_done : goal.returns-else-is_done
returns-else-is_done c =
    let a : List SheetEntry = c.loop-field.invariant.0 in
    let left = c.in_default.ensures.steps in
    let cut = pieces_cut (unread c.loop-field.reader) left.0 (ap is_nothing (sym left.1) ∙ sym c.is_done.ensures ∙ c.if-is_done.false) in
    let last = sym (ap (run_on (bench_view c.loop-field.bench)) cut) in
    subst (Adds c.add_cut.result c.args.sheet.now c.add_cut.new.sheet) (ap (λ (xs : List SheetEntry). a ++ xs) last ∙ c.loop-field.invariant.2)
    (adds_then c.add_cut.result _ _ _ a (refused Garbled ∷ []) c.loop-field.invariant.1 c.add_cut.ensures)
