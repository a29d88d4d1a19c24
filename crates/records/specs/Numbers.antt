-- Numbers in several bytes, high byte first.
use Rattle.std.specs.Prelude.{ℕ, ◌+◌, ◌*◌, List, [], ◌∷◌}
use Rattle.std.specs.Int.{bytes_high_first}

-- the number that bytes write behind n
abbrev pub big_endian : ℕ → List ℕ → ℕ
big_endian n [] = n
big_endian n (b ∷ bs) = big_endian (n * 256 + b) bs

-- the number that bytes write
abbrev pub number : List ℕ → ℕ
number bs = big_endian 0 bs

-- a number below 256 ^ k in k bytes
unfoldable pub in_bytes : ℕ → ℕ → List ℕ
in_bytes k n = bytes_high_first k n
