-- Fields: a tag, two bytes of length, high byte first, and a value.
use Rattle.std.specs.Prelude.{if◌then◌else◌, ℕ, ◌+◌, ◌*◌, ◌/◌, ◌%◌, ◌<◌, Bool, true, false, List, [], ◌∷◌, length, take, drop, Some, None, Option, ◌==◌, nat_le, slice_index}
use Rattle.wire.specs.declared.fields.Reader.{Reader}

-- a list of numbers is a string of bytes
abbrev pub Bytes : List ℕ → Type 0
Bytes bs = (i : ℕ) → slice_index bs i < 256

-- a field at the front of some bytes: its tag, its value, and what follows it
pub record Cut : Type 0 where
  pub tag : ℕ
  pub value : List ℕ
  pub rest : List ℕ

-- the field with the tag t whose value is the first n of some bytes, if they are as many
abbrev pub cut : ℕ → ℕ → List ℕ → Option Cut
cut t n bs =
    if nat_le n (length bs) then Some (record { tag = t; value = take n bs; rest = drop n bs })
    else None

-- the bytes of a field before its value: a tag, and two of length
abbrev pub head_size : ℕ
head_size = 3

-- the number that two bytes are
abbrev pub of_two : ℕ → ℕ → ℕ
of_two high low = high * 256 + low

-- the field at the front, if all of it is there
abbrev pub next_field : List ℕ → Option Cut
next_field bs =
    if nat_le head_size (length bs)
    then cut (slice_index bs 0) (of_two (slice_index bs 1) (slice_index bs 2)) (drop head_size bs)
    else None

-- its value, if it has the tag t
abbrev pub value_in : ℕ → Option Cut → Option (List ℕ)
value_in t None = None
value_in t (Some f) = if f.tag == t then Some f.value else None

-- what follows it, if it has the tag t; or else all of the bytes bs
abbrev pub rest_of : ℕ → List ℕ → Option Cut → List ℕ
rest_of t bs None = bs
rest_of t bs (Some f) = if f.tag == t then f.rest else bs

-- the value of the field with the tag t, if that field is at the front
abbrev pub value : ℕ → List ℕ → Option (List ℕ)
value t bs = value_in t (next_field bs)

-- what follows that field; all of the bytes where it is not at the front
abbrev pub after : ℕ → List ℕ → List ℕ
after t bs = rest_of t bs (next_field bs)

-- what a reader has not read yet
abbrev pub unread : Reader → List ℕ
unread r = r.rest.now

-- no bytes
abbrev pub is_nothing : List ℕ → Bool
is_nothing bs = length bs == 0

-- a number in two bytes
abbrev pub two : ℕ → List ℕ
two n = n / 256 ∷ n % 256 ∷ []

-- a field as it is written
abbrev pub field : ℕ → List ℕ → List ℕ
field t v = t ∷ length v / 256 ∷ length v % 256 ∷ v

-- a field as it is written, if it is there
abbrev pub optional_field : ℕ → Option (List ℕ) → List ℕ
optional_field t None = []
optional_field t (Some v) = field t v

-- the value of a field without bytes, whose presence says it all
abbrev pub flagged : Bool → Option (List ℕ)
flagged true = Some []
flagged false = None
