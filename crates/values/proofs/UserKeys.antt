-- A user is known by its key. Assumes nothing.
use Rattle.std.proofs.Common.{sym, refl, ◌∙◌}
use Rattle.values.specs.Laws.{NoTwoWithOneKey, ZerosDiffer}
use Rattle.values.proofs.UserNumbers.{user_back}

pub no_two_with_one_key : NoTwoWithOneKey
no_two_with_one_key one other key e f = sym (user_back one key e).0 ∙ (user_back other key f).0

pub zeros_differ : ZerosDiffer
zeros_differ = (refl, refl)
