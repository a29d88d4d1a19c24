-- The places for dialogues.
use Rattle.std.specs.Prelude.{◌≡◌, ℕ, ◌+◌, ◌⊎◌, Bool, true, false, if◌then◌else◌, not, ◌&&◌, ◌||◌, List, [], ◌∷◌, Some, None, Option, ◌==◌, nat_le, nat_lt, position, slice_index_or}
use Rattle.std.specs.List.{list_any}
use Rattle.std.specs.Option.{option_map}
use Rattle.values.specs.declared.user.User.{User}
use Rattle.exchange.specs.declared.dialogue.Dialogue.{Dialogue}
use Rattle.exchange.specs.declared.invokes.OwnNumber.{OwnNumber}
use Rattle.exchange.specs.State.{owed_by, asked_by, is_owed_to, is_asked_of, is_at_terminal, named_in}

-- a dialogue stands in one of the places
abbrev pub Has : Dialogue → List (Option Dialogue) → Type 0
Has d [] = ⊥
Has d (s ∷ ss) = (s ≡ Some d) ⊎ Has d ss

-- a dialogue's timer ends at or before the reading
abbrev pub ends_by : ℕ → Option Dialogue → Bool
ends_by reading None = false
ends_by reading (Some d) = nat_le d.ends reading

-- some timer does
abbrev pub due : ℕ → List (Option Dialogue) → Bool
due reading slots = list_any (ends_by reading) slots

-- no dialogue stands at a place
abbrev pub is_free : Option Dialogue → Bool
is_free None = true
is_free (Some d) = false

-- the first free place
abbrev pub free_place : List (Option Dialogue) → Option ℕ
free_place slots = position is_free slots

-- a's timer ends before b's, or with it where a has the lower name
abbrev pub ends_before : Dialogue → Dialogue → Bool
ends_before a b = nat_lt a.ends b.ends || (a.ends == b.ends && nat_lt a.name.0 b.name.0)

-- d has ended by the reading, and before the best so far
abbrev pub ends_first : ℕ → Dialogue → Option (ℕ × Dialogue) → Bool
ends_first reading d None = nat_le d.ends reading
ends_first reading d (Some (j, b)) = nat_le d.ends reading && ends_before d b

-- of what stands at place i and the best so far, the one that ends first
abbrev pub better : ℕ → ℕ → Option Dialogue → Option (ℕ × Dialogue) → Option (ℕ × Dialogue)
better reading i None best = best
better reading i (Some d) best = if ends_first reading d best then Some (i, d) else best

-- the first to end of those from place i on that have ended, and the best so far
abbrev pub first_to_end_from :
    ℕ → ℕ → Option (ℕ × Dialogue) → List (Option Dialogue) → Option (ℕ × Dialogue)
first_to_end_from reading i best [] = best
first_to_end_from reading i best (s ∷ ss) =
    first_to_end_from reading (i + 1) (better reading i s best) ss

-- of the dialogues whose timer ends at or before the reading, the one whose timer ends first, and its place
abbrev pub first_to_end : ℕ → List (Option Dialogue) → Option (ℕ × Dialogue)
first_to_end reading slots = first_to_end_from reading 0 None slots

-- it owes an answer to a peer under the peer's id
abbrev pub owes : ℕ → ℕ → Option Dialogue → Bool
owes peer id None = false
owes peer id (Some d) = is_owed_to peer id (owed_by d.state)

-- it awaits an answer from a peer under our id
abbrev pub awaits : ℕ → ℕ → Option Dialogue → Bool
awaits peer id None = false
awaits peer id (Some d) = is_asked_of peer id (asked_by d.state)

-- it is at the terminal, under a name
abbrev pub awaits_reply : OwnNumber → Option Dialogue → Bool
awaits_reply name None = false
awaits_reply name (Some d) = is_at_terminal d.state && (d.name.0 == name.0)

-- what stands at a place, and the place
abbrev pub standing_at : List (Option Dialogue) → Option ℕ → Option (ℕ × Dialogue)
standing_at slots None = None
standing_at slots (Some place) = option_map (λ d. (place, d)) (slice_index_or slots place None)

-- the first dialogue that passes a test, and its place
abbrev pub found : (Option Dialogue → Bool) → List (Option Dialogue) → Option (ℕ × Dialogue)
found test slots = standing_at slots (position test slots)

-- how many numbers a dialogue with this user to name may still take
abbrev pub one_more : Option User → ℕ
one_more None = 0
one_more (Some user) = 1

-- how many numbers what stands at a place may still take
abbrev pub to_take : Option Dialogue → ℕ
to_take None = 0
to_take (Some d) = one_more (named_in d.state)

-- it has a name
abbrev pub is_named : OwnNumber → Option Dialogue → Bool
is_named name None = false
is_named name (Some d) = d.name.0 == name.0

-- what stood at a place has left the table: its name is in none of these places
abbrev pub has_left : List (Option Dialogue) → Option Dialogue → Bool
has_left slots None = false
has_left slots (Some d) = not (list_any (is_named d.name) slots)
