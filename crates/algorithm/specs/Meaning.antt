-- What a response algorithm means, over lists of bytes.
use Rattle.std.specs.Prelude.{◌≡◌, ℕ, ◌<◌, List, length}
use Rattle.values.specs.Sizes.{response_size, session_key_size, parameter_size, user_key_size}
use Rattle.algorithm.specs.declared.direction.Direction.{Direction}

-- an algorithm, as what it answers
pub record Meaning : Type 0 where
  pub number : ℕ
  -- the session key for a direction, from a user's key and a parameter
  pub session : Direction → List ℕ → List ℕ → List ℕ
  -- the response to a challenge under a session key
  pub response : List ℕ → List ℕ → List ℕ

-- the number is one byte, and the answers have their sizes where keys and parameters have theirs
pub record IsSized (m : Meaning) : Type 0 where
  pub number : m.number < 256
  pub session :
      (d : Direction) (key parameter : List ℕ)
      → length key ≡ user_key_size
      → length parameter ≡ parameter_size
      → length (m.session d key parameter) ≡ session_key_size
  pub response :
      (session challenge : List ℕ)
      → length session ≡ session_key_size
      → length (m.response session challenge) ≡ response_size

-- the response to a challenge under a fresh session key
abbrev pub answered : Meaning → Direction → List ℕ → List ℕ → List ℕ → List ℕ
answered m d key parameter challenge = m.response (m.session d key parameter) challenge
