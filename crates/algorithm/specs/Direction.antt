-- Whose proof a session key is for.
use Rattle.std.specs.Prelude.{ℕ}
use Rattle.algorithm.specs.declared.direction.Direction.{Direction}
use Rattle.algorithm.specs.declared.direction.Direction.TheVariants.{User, Network}

-- the one list of directions
abbrev pub direction_number : Direction → ℕ
direction_number User = 1
direction_number Network = 2
