-- Invoke ids: numbers of two bytes, from 1 on.
use Rattle.std.specs.Prelude.{if◌then◌else◌, ℕ, List, Some, None, Option, nat_le, slice_index}
use Rattle.wire.specs.Fields.{of_two}
use Rattle.wire.specs.FieldValues.{bind as ◌>>=◌, exact}

-- the id with a number
abbrev pub numbered_id : ℕ → Option ℕ
numbered_id n = if nat_le 1 n then Some n else None

-- the id in the value of a field: two bytes, high byte first
abbrev pub id_in : List ℕ → Option ℕ
id_in v = do
  bytes ← exact 2 v
  numbered_id (of_two (slice_index bytes 0) (slice_index bytes 1))
