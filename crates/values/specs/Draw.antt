-- Draws: bytes for a challenge, and then bytes for a parameter.
use Rattle.std.specs.Prelude.{ℕ, List, take, drop, Option}
use Rattle.wire.specs.FieldValues.{exact}
use Rattle.values.specs.Sizes.{challenge_size, draw_size}

-- the draw that some bytes are
abbrev pub draw_of : List ℕ → Option (List ℕ)
draw_of bs = exact draw_size bs

-- the challenge drawn
abbrev pub drawn_challenge : List ℕ → List ℕ
drawn_challenge draw = take challenge_size draw

-- the parameter drawn
abbrev pub drawn_parameter : List ℕ → List ℕ
drawn_parameter draw = drop challenge_size draw
