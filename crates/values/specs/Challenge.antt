-- Challenges.
use Rattle.std.specs.Prelude.{◌≡◌, ℕ, List, length, Option}
use Rattle.wire.specs.FieldValues.{exact}
use Rattle.values.specs.Sizes.{challenge_size}

-- which bytes are a challenge
abbrev pub IsChallenge : List ℕ → Type 0
IsChallenge bs = length bs ≡ challenge_size

-- the challenge that some bytes are
abbrev pub challenge_of : List ℕ → Option (List ℕ)
challenge_of bs = exact challenge_size bs
