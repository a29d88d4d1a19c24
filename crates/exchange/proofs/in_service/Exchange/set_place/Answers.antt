use Rattle.std.proofs.Common.{◌∙◌, ap, None, get_or, arith}
use Rattle.std.proofs.lemmas.List.{length-set}
use Rattle.std.proofs.lemmas.List.Sums.{sum_by-set}
use Rattle.exchange.specs.declared.service.Service.{Service}
use Rattle.exchange.specs.Table.{to_take}
use Rattle.exchange.proofs.in_service.Exchange.set_place.Goals as goal

pub invariant_of-self : goal.invariant_of-self
invariant_of-self c =
    let s = c.self.invariant in
    let same = c.self.view_is in
    let next = ap (λ (x : Service). x.next.0) same in
    let stood = ap (λ (x : Service). to_take (get_or x.dialogues c.args.place None)) same in
    let sums = sum_by-set to_take c.self.inside.service.dialogues c.args.place c.args.slot None (omega (arith, s.0)) in
    (length-set _ _ _ ∙ s.0, omega (arith, next, s.1, c.requires.rising), omega (arith, next, stood, sums, s.2, c.requires.numbers))
