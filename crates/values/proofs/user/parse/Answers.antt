use Rattle.std.proofs.Common.{arith}
use Rattle.std.proofs.lemmas.Bool.Decides.{nat_tests}
use Rattle.values.proofs.NumberSteps.{lawful}
use Rattle.values.proofs.user.parse.Goals as goal

pub invariant_of-result : goal.invariant_of-result
invariant_of-result c = lawful _ _ (grind (arith, nat_tests)) (omega arith) c.in_ok-n.ensures.bound
