-- What may be asked of an algorithm, as values.
use Rattle.std.specs.Prelude.{◌≡◌, List, ℕ}
use Rattle.algorithm.specs.declared.direction.Direction.{Direction}
use Rattle.algorithm.specs.Meaning.{Meaning, answered}

-- one of the two questions
pub data Question : Type 0 where
  -- for the session key of a direction, from a user's key and a parameter
  session : Direction → List ℕ → List ℕ → Question
  -- for the response to a challenge under a session key
  response : List ℕ → List ℕ → Question

-- what an algorithm answers
abbrev pub answer_to : Meaning → Question → List ℕ
answer_to m (session direction key parameter) = m.session direction key parameter
answer_to m (response key challenge) = m.response key challenge

-- two algorithms answer a question alike
abbrev pub AgreeOn : Meaning → Meaning → Question → Type 0
AgreeOn m n question = answer_to m question ≡ answer_to n question

-- algorithms that agree on a session key, and on the response under it, answer alike
abbrev pub AnsweredAlike : Type 0
AnsweredAlike =
    (m n : Meaning) (direction : Direction) (key parameter challenge : List ℕ)
    → AgreeOn m n (session direction key parameter)
    → AgreeOn m n (response (m.session direction key parameter) challenge)
    → answered m direction key parameter challenge ≡ answered n direction key parameter challenge
