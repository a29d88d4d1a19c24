-- Users and their keys.
use Rattle.std.specs.Prelude.{◌≡◌, ℕ, ◌*◌, List, [], ◌∷◌, Some}
use Rattle.values.specs.User.{count_unit, user_number}

-- texts that write users of one key are the same text
abbrev pub NoTwoWithOneKey : Type 0
NoTwoWithOneKey =
    (one other : List ℕ) (key : ℕ)
    → user_number one ≡ Some key → user_number other ≡ Some key → one ≡ other

-- users 0 and 00 have two keys
abbrev pub ZerosDiffer : Type 0
ZerosDiffer =
    (user_number (0x30 ∷ []) ≡ Some count_unit)
    × (user_number (0x30 ∷ 0x30 ∷ []) ≡ Some (2 * count_unit))
