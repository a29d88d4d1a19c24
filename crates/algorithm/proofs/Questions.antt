-- Algorithms that agree on what is asked answer alike. Assumes nothing.
use Rattle.std.proofs.Common.{ap, ◌∙◌}
use Rattle.algorithm.specs.Questions.{AnsweredAlike}

pub answered_alike : AnsweredAlike
answered_alike m n direction key parameter challenge session response = response ∙ ap (λ made. n.response made challenge) session
