-- Published values of XTEA, by computation.
use Rattle.std.specs.Prelude.{◌≡◌, ℕ, List, [], ◌∷◌, replicate}
use Rattle.algorithm.specs.Xtea.{enciphered}

-- the key 00 01 .. 0f
abbrev pub rising : List ℕ
rising = 0 ∷ 1 ∷ 2 ∷ 3 ∷ 4 ∷ 5 ∷ 6 ∷ 7 ∷ 8 ∷ 9 ∷ 10 ∷ 11 ∷ 12 ∷ 13 ∷ 14 ∷ 15 ∷ []

-- the key 00 .. 00
abbrev pub zeros : List ℕ
zeros = replicate 16 0

-- the block 41 42 .. 48
abbrev pub letters : List ℕ
letters = 0x41 ∷ 0x42 ∷ 0x43 ∷ 0x44 ∷ 0x45 ∷ 0x46 ∷ 0x47 ∷ 0x48 ∷ []

-- under both keys, what the block of letters becomes, what a block of one byte becomes, and what becomes that
abbrev pub PublishedStand : Type 0
PublishedStand =
    (enciphered rising letters
    ≡ 0x49 ∷ 0x7d ∷ 0xf3 ∷ 0xd0 ∷ 0x72 ∷ 0x61 ∷ 0x2c ∷ 0xb5 ∷ [])
    × (enciphered rising (replicate 8 0x41)
    ≡ 0xe7 ∷ 0x8f ∷ 0x2d ∷ 0x13 ∷ 0x74 ∷ 0x43 ∷ 0x41 ∷ 0xd8 ∷ [])
    × (enciphered rising (0x5a ∷ 0x5b ∷ 0x6e ∷ 0x27 ∷ 0x89 ∷ 0x48 ∷ 0xd7 ∷ 0x7f ∷ [])
    ≡ replicate 8 0x41)
    × (enciphered zeros letters
    ≡ 0xa0 ∷ 0x39 ∷ 0x05 ∷ 0x89 ∷ 0xf8 ∷ 0xb8 ∷ 0xef ∷ 0xa5 ∷ [])
    × (enciphered zeros (replicate 8 0x41)
    ≡ 0xed ∷ 0x23 ∷ 0x37 ∷ 0x5a ∷ 0x82 ∷ 0x1a ∷ 0x8c ∷ 0x2d ∷ [])
    × (enciphered zeros (0x70 ∷ 0xe1 ∷ 0x22 ∷ 0x5d ∷ 0x6e ∷ 0x4e ∷ 0x76 ∷ 0x55 ∷ [])
    ≡ replicate 8 0x41)
