use Rattle.std.proofs.Common.{◌≡◌, Some, None, Ok, subst, sym, ◌∙◌}
use Rattle.exchange.specs.Done.{Done}
use Rattle.exchange.specs.declared.service.Service.{Service}
use Rattle.exchange.specs.Laws.{Earliest, NoneEnded}
use Rattle.exchange.specs.Table.{first_to_end}
use Rattle.exchange.proofs.Earliest.{first_to_end_is, done_first, closing}
use Rattle.exchange.proofs.in_service.Exchange.clock.Goals as goal

pub returns-in_default-clause-earliest : goal.returns-in_default-clause-earliest
returns-in_default-clause-earliest g c =
    subst (λ (s : Service). NoneEnded c.args.reading s.dialogues) c.self.view_is
    (first_to_end_is c.args.reading c.self.inside.service.dialogues None (sym c.first_to_end.ensures.value ∙ c.in_default.is))

pub returns-clause-earliest : goal.returns-clause-earliest
returns-clause-earliest g c =
    let s : Service = c.self.inside.service in
    let found : first_to_end c.args.reading s.dialogues ≡ Some (c.in-Some.place, c.in-Some.dialogue) = sym c.first_to_end.ensures.value ∙ c.in-Some.is in
    let closes = closing _ _ _ _ _ c.step-step.ensures.value c.in-Closes.is in
    subst (λ (x : Service). Earliest x c.args.reading (Ok c.write.result)) c.self.view_is
    (subst (λ (x : Done). Earliest s c.args.reading (Ok x)) (sym c.write.ensures.value) (done_first c.args.reading s _ _ found c.in-Closes.outcome closes))
