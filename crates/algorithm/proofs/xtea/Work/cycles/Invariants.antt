use Rattle.std.proofs.Common.{◌≡◌}
use Rattle.algorithm.specs.Xtea.{cycles}
use Rattle.algorithm.proofs.xtea.Work.cycles.Given as goal

abbrev pub invariant-loop : goal.invariant-loop
invariant-loop l = l.work ≡ cycles l.key l.counter l.initial.work
