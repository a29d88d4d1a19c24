use Rattle.std.proofs.Common.{◌<◌, ℕ, Option, IfSome, subst, length, arith}
use Rattle.exchange.proofs.service.Service.standing_at.Goals as goal

pub offset_bounds-self-place : goal.offset_bounds-self-place
offset_bounds-self-place c =
    let within : c.in_ok-place.place < length c.args.self.now.dialogues = subst (λ (o : Option ℕ). IfSome o (λ i. i < length c.args.self.now.dialogues)) c.in_ok-place.was c.requires.within in
    omega (arith, within, c.requires.places)
