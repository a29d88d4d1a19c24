-- Words: numbers of 32 bits, in bytes high byte first.
use Rattle.std.specs.Prelude.{ℕ, ◌+◌, ◌*◌, ◌/◌, ◌%◌, ◌^◌, List, [], ◌∷◌, ◌++◌, slice_index}
use Rattle.std.specs.Int.{w32, from_be_bytes, to_be_bytes}
use Rattle.algorithm.specs.declared.xtea.Work.{Work}

-- the sum, without its carry
abbrev pub wrapping_sum : ℕ → ℕ → ℕ
wrapping_sum a b = (a + b) % 2 ^ 32

-- a word moved by n bits to the left, without what leaves it
abbrev pub shifted_left : ℕ → ℕ → ℕ
shifted_left a n = a * 2 ^ n % 2 ^ 32

-- a word moved by n bits to the right
abbrev pub shifted_right : ℕ → ℕ → ℕ
shifted_right a n = a / 2 ^ n

-- the word of four bytes from place i on
abbrev pub word : List ℕ → ℕ → ℕ
word bs i =
    from_be_bytes w32
    (slice_index bs i ∷ slice_index bs (i + 1) ∷ slice_index bs (i + 2) ∷ slice_index bs (i + 3) ∷ [])

-- the four words of a key
abbrev pub key_words : List ℕ → List ℕ
key_words key = word key 0 ∷ word key 4 ∷ word key 8 ∷ word key 12 ∷ []

-- a block before the first cycle
abbrev pub start : List ℕ → Work
start block = record { v0 = word block 0; v1 = word block 4; sum = 0 }

-- the block after the last
abbrev pub block_of : Work → List ℕ
block_of work = to_be_bytes w32 work.v0 ++ to_be_bytes w32 work.v1
