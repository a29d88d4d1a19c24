use Rattle.values.proofs.UserKeys.{no_two_with_one_key}
use Rattle.values.proofs.user.User.from_digits.Goals as goal

pub returns-clause-apart : goal.returns-clause-apart
returns-clause-apart c = no_two_with_one_key
