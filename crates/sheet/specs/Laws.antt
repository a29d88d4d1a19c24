-- A sheet has one record for each record of its tape that the run takes, in order, and nothing else; and a record that asks
-- nothing changes nothing that follows.
use Rattle.std.specs.Prelude.{◌≡◌, ℕ, suc, List, [], ◌∷◌, ◌++◌, length, take, Some, None, Option, IsOk, IsSome}
use Rattle.std.specs.List.{AllByRecursion}
use Rattle.refusal.specs.declared.Refusal.TheVariants.{Garbled}
use Rattle.wire.specs.Fields.{field}
use Rattle.exchange.specs.Service.{by}
use Rattle.records.specs.Sheet.{refused, sheet_bytes}
use Rattle.records.specs.Tags.{sheet_tag_of}
use Rattle.records.specs.Tape.{TapeEntry, fit_out, tape_read}
use Rattle.sheet.specs.Adds.{bytes_of}
use Rattle.sheet.specs.Bench.{first_taken}
use Rattle.sheet.specs.Run.{Piece, whole, cut_off, pieces_of, run_pieces, sheet_of}

-- a record of a sheet is whole, and its tag is one of a sheet's
abbrev pub OfSheet : Piece → Type 0
OfSheet (whole tag value) = IsSome (sheet_tag_of tag)
OfSheet cut_off = ⊥

-- how many records of a tape the run takes: all, a cut one at the end too, or the first alone if it is no lawful fit-out
abbrev pub number_taken : List Piece → ℕ
number_taken [] = 0
number_taken (cut_off ∷ ps) = 1
number_taken (whole tag value ∷ ps) = by (first_taken (tape_read tag value)) (λ _. suc (length ps)) (λ _. 1)

pub record OneEach (tape : List ℕ) : Type 0 where
  pub kinds : AllByRecursion OfSheet (pieces_of (sheet_of tape))
  pub count : length (pieces_of (sheet_of tape)) ≡ number_taken (pieces_of tape)
  -- the first n records of the sheet are the sheet of the first n records of the tape
  pub order : (n : ℕ) → take n (pieces_of (sheet_of tape)) ≡ pieces_of (bytes_of (run_pieces (take n (pieces_of tape))))

abbrev pub OneRecordEach : Type 0
OneRecordEach = (tape : List ℕ) → OneEach tape

abbrev pub IsWhole : Piece → Type 0
IsWhole (whole tag value) = Unit {0}
IsWhole cut_off = ⊥

-- whole records, of which the first is a lawful fit-out: the run has not ended behind them
abbrev pub GoesOn : List Piece → Type 0
GoesOn [] = ⊥
GoesOn (cut_off ∷ ps) = ⊥
GoesOn (whole tag value ∷ ps) = IsOk (first_taken (tape_read tag value)) × AllByRecursion IsWhole ps

-- a record of an unknown tag or of a wrong size, or a second fit-out
abbrev pub AsksNothing : Option TapeEntry → Type 0
AsksNothing None = Unit {0}
AsksNothing (Some (fit_out fit)) = Unit {0}
AsksNothing (Some other) = ⊥

-- behind the sheet of what stands before it, the record of refusal 5 stands, and then the sheet goes on as without the record
pub record PassedOver (before behind : List ℕ) (tag : ℕ) (value : List ℕ) : Type 0 where
  pub rest : List ℕ
  pub without : sheet_of (before ++ behind) ≡ sheet_of before ++ rest
  pub within :
      sheet_of (before ++ (field tag value ++ behind))
      ≡ sheet_of before ++ (sheet_bytes (refused Garbled) ++ rest)

abbrev pub ChangesNothing : Type 0
ChangesNothing =
    (before behind : List ℕ) (tag : ℕ) (value : List ℕ)
    → GoesOn (pieces_of before) → AsksNothing (tape_read tag value) → PassedOver before behind tag value
