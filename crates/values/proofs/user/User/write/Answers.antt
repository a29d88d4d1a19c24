use Rattle.std.proofs.Common.{◌≤◌, ℕ, length, subst}
use Rattle.values.specs.User.{user_digits}
use Rattle.values.proofs.UserNumbers.{few_digits}
use Rattle.values.proofs.user.User.write.Goals as goal

pub returns-clause-bound : goal.returns-clause-bound
returns-clause-bound c = subst (λ (key : ℕ). length (user_digits key) ≤ 15) c.self.view_is (few_digits c.self.inside.key c.self.invariant)
