-- Recorded cards.
use Rattle.std.specs.Prelude.{◌≡◌, ℕ, if◌then◌else◌, List, [], ◌∷◌, ◌++◌, length, take, find, replicate, Some, None, is_ok, Ok, Err, Option, Result, nat_lt, refl}
use Rattle.std.proofs.Common.{lit<}
use Rattle.std.specs.Str.{bytes_eq}
use Rattle.refusal.specs.declared.Refusal.{Refusal}
use Rattle.refusal.specs.declared.Refusal.TheVariants.{Full}
use Rattle.algorithm.specs.declared.row.Row.{Row}
use Rattle.algorithm.specs.declared.card.Recording.{Recording}
use Rattle.algorithm.specs.declared.card.RecordedCard.{RecordedCard}
use Rattle.values.specs.Sizes.{response_size}
use Rattle.algorithm.specs.Meaning.{Meaning, IsSized}
use Rattle.algorithm.specs.Row.{most_rows}

-- the number of the algorithm
abbrev pub card_number : ℕ
card_number = 2

-- the rows that were added, in order
abbrev pub rows_of : Recording → List Row
rows_of recording = take recording.count recording.rows

-- the rows of a card that is asked
abbrev pub card_rows : RecordedCard → List Row
card_rows card = rows_of card.recording

-- the answer to adding a row
abbrev pub row_answer : List Row → Result (Unit {0}) Refusal
row_answer rows = if nat_lt (length rows) most_rows then Ok tt else Err Full

-- the rows left
abbrev pub rows_left : List Row → Row → List Row
rows_left rows row = if is_ok (row_answer rows) then rows ++ row ∷ [] else rows

-- the first row with a challenge
abbrev pub row_for : List Row → List ℕ → Option Row
row_for rows challenge = find (λ row. bytes_eq row.challenge challenge) rows

-- the response to a challenge that is on no row
abbrev pub no_row_response : List ℕ
no_row_response = replicate response_size 0

-- the response of the row that was found, if any
abbrev pub response_in : Option Row → List ℕ
response_in None = no_row_response
response_in (Some row) = row.response

-- what a card of these rows means: a session key is the user's key
abbrev pub card_meaning : List Row → Meaning
card_meaning rows = record {
  number = card_number;
  session = λ d key parameter. key;
  response = λ session challenge. response_in (row_for rows challenge);
}

-- a response has its size, also where there is no row
length_response_in : (found : Option Row) → length (response_in found) ≡ response_size
length_response_in None = refl
length_response_in (Some row) = row.response_whole

-- what a card answers has its size
pub card_is_sized : (rows : List Row) → IsSized (card_meaning rows)
card_is_sized rows = record {
  number = lit< tt;
  session = λ d key parameter k p. k;
  response = λ session challenge s. length_response_in (row_for rows challenge);
}
