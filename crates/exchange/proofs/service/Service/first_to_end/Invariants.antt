use Rattle.std.proofs.Common.{◌≡◌, ◌<◌, drop, IfSome}
use Rattle.exchange.specs.Table.{first_to_end_from, first_to_end}
use Rattle.exchange.proofs.service.Service.first_to_end.Given as goal

-- what is left gives the answer
abbrev pub invariant-loop-place : goal.invariant-loop-place
invariant-loop-place l = (first_to_end_from l.reading l.place l.best (drop l.place l.self.dialogues) ≡ first_to_end l.reading l.self.dialogues) × IfSome l.best (λ p. p.0 < l.place)
