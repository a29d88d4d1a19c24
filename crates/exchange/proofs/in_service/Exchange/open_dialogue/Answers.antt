use Rattle.std.proofs.Common.{◌∙◌, ap, arith}
use Rattle.std.proofs.lemmas.List.{length-set}
use Rattle.exchange.specs.declared.invokes.OwnNumber.{OwnNumber}
use Rattle.exchange.specs.declared.service.Service.{Service}
use Rattle.exchange.proofs.Slots.{few_set}
use Rattle.exchange.proofs.in_service.Exchange.open_dialogue.Goals as goal

pub invariant_of-self : goal.invariant_of-self
invariant_of-self c =
    let s = c.self.invariant in
    let long = length-set _ _ _ ∙ s.0 in
    let next = ap (λ (x : Service). x.next.0) c.self.view_is in
    let following = ap (λ (n : OwnNumber). n.0) c.following-self-inside.ensures in
    (long, omega (arith, following), omega (arith, next, following, few_set, s.0, c.requires.number))
