-- A value in parts.
use Rattle.std.specs.Prelude.{ℕ, List, length, take, drop, Some, None, Option, nat_le, slice_index, if◌then◌else◌}
use Rattle.wire.specs.FieldValues.{bind}

-- the steps of a reading, each of which may fail
infixl 10 ◌>>=◌
abbrev pub ◌>>=◌ : {A B : Type 0} → Option A → (A → Option B) → Option B
o >>= f = bind o f

-- the bytes at the front of some, and what follows them
pub record Parted : Type 0 where
  pub first : List ℕ
  pub rest : List ℕ

-- the first n bytes, if there are as many
abbrev pub parted : ℕ → List ℕ → Option Parted
parted n v =
    if nat_le n (length v) then Some (record { first = take n v; rest = drop n v }) else None

-- the byte at the front of some, and what follows it
pub record ByteFirst : Type 0 where
  pub byte : ℕ
  pub rest : List ℕ

-- the first byte, if there is one
abbrev pub byte_first : List ℕ → Option ByteFirst
byte_first v =
    if nat_le 1 (length v) then Some (record { byte = slice_index v 0; rest = drop 1 v }) else None
