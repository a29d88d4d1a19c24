-- The sizes of values, in bytes.
use Rattle.std.specs.Prelude.{ℕ}

-- a challenge
abbrev pub challenge_size : ℕ
challenge_size = 8

-- a response
abbrev pub response_size : ℕ
response_size = 4

-- a session key
abbrev pub session_key_size : ℕ
session_key_size = 16

-- a parameter
abbrev pub parameter_size : ℕ
parameter_size = 8

-- a user's key
abbrev pub user_key_size : ℕ
user_key_size = 16

-- a challenge and a parameter
abbrev pub draw_size : ℕ
draw_size = 16
