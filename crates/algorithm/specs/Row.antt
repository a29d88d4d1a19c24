-- Rows of a recorded card, and a challenge as the key of a row.
use Rattle.std.specs.Prelude.{◌≡◌, ℕ, ◌<◌, List, slice_index}
use Rattle.std.specs.Int.{w64, from_be_bytes}
use Rattle.values.specs.Challenge.{IsChallenge}

-- the most rows of a card
abbrev pub most_rows : ℕ
most_rows = 16

-- as many bytes as a challenge has
pub record IsWhole (challenge : List ℕ) : Type 0 where
  pub long : IsChallenge challenge
  pub small : (i : ℕ) → slice_index challenge i < 256

-- the number of its bytes, high byte first
unfoldable pub challenge_key : List ℕ → ℕ
challenge_key challenge = from_be_bytes w64 challenge

-- challenges with one key are the same
abbrev pub NoTwoWithOneKey : Type 0
NoTwoWithOneKey =
    (one other : List ℕ) → IsWhole one → IsWhole other
    → challenge_key one ≡ challenge_key other → one ≡ other
