use Rattle.std.proofs.Common.{ℕ, Option, ap, ◌∙◌, position}
use Rattle.exchange.specs.declared.service.Service.{Service}
use Rattle.exchange.specs.Deliver.{met}
use Rattle.exchange.specs.Outcome.{leaving}
use Rattle.exchange.specs.Table.{awaits, standing_at}
use Rattle.exchange.proofs.in_service.Exchange.receive_answer.Goals as goal

pub returns-clause-value : goal.returns-clause-value
returns-clause-value g c =
    let now : Service = c.args.self.now in
    let peer : ℕ = c.args.peer in
    let place = c.place_awaiting-place.ensures.value
    ∙ ap (λ (n : ℕ). position (awaits peer n) c.self.inside.service.dialogues) c.number.ensures.value
    ∙ ap (λ (s : Service). position (awaits peer c.args.id) s.dialogues) c.self.view_is in
    c.meet.ensures.value
    ∙ ap (λ (o : Option ℕ). leaving now (met (g.A.Algorithm.meaning c.args.algorithm.now) now c.args.reading c.args.event.now (standing_at now.dialogues o))) place
