-- Users, by their numbers of 1 to 15 ASCII digits, kept as count of digits * 10^15 + value.
use Rattle.std.specs.Prelude.{if◌then◌else◌, ℕ, ◌+◌, ◌-◌, ◌*◌, ◌/◌, ◌%◌, ◌^◌, Bool, ◌&&◌, List, [], ◌∷◌, length, Some, None, Option, nat_le, nat_lt}
use Rattle.wire.specs.Digits.{digits}

-- what a count of digits is multiplied by: 10^15
abbrev pub count_unit : ℕ
count_unit = 1000000000000000

-- how many digits a number has at most
abbrev pub most_digits : ℕ
most_digits = 15

-- a byte is an ASCII digit
abbrev pub is_digit : ℕ → Bool
is_digit c = nat_le 48 c && nat_le c 57

-- the number that digits write behind those of n
abbrev pub number : ℕ → List ℕ → Option ℕ
number n [] = Some n
number n (c ∷ cs) = if is_digit c then number (n * 10 + (c - 48)) cs else None

-- a count of digits, and the number that they write, as a key
abbrev pub counted : ℕ → Option ℕ → Option ℕ
counted k None = None
counted k (Some n) = Some (k * count_unit + n)

-- the user whose number some text writes
abbrev pub user_number : List ℕ → Option ℕ
user_number cs =
    if nat_le 1 (length cs) && nat_le (length cs) most_digits
    then counted (length cs) (number 0 cs)
    else None

-- a user's digits
abbrev pub user_digits : ℕ → List ℕ
user_digits u = digits (u / count_unit) (u % count_unit)

-- the user whose number is the one digit 0
abbrev pub zero_user : ℕ
zero_user = count_unit

-- a number is a user's key
abbrev pub is_user : ℕ → Bool
is_user key =
    (nat_le 1 (key / count_unit) && nat_le (key / count_unit) most_digits)
    && nat_lt (key % count_unit) (10 ^ (key / count_unit))

-- the user with a key
abbrev pub user_with_key : ℕ → Option ℕ
user_with_key key = if is_user key then Some key else None
