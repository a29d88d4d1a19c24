use Rattle.std.proofs.Common.{◌≡◌, ◌^◌, ◌<◌, drop}
use Rattle.values.specs.User.{number}
use Rattle.values.proofs.user.number_of.Given as goal

abbrev pub invariant-loop-c : goal.invariant-loop-c
invariant-loop-c l = (number l.n (drop l.c-index l.text) ≡ number 0 l.text) × (l.n < 10 ^ l.c-index)
