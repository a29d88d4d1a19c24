-- The sheet of a whole tape.
use Rattle.std.specs.Prelude.{ℕ, zero, suc, if◌then◌else◌, List, [], ◌∷◌, length, replicate, Some, None, Ok, Err, Option, Result}
use Rattle.refusal.specs.declared.Refusal.{Refusal}
use Rattle.refusal.specs.declared.Refusal.TheVariants.{Garbled}
use Rattle.wire.specs.Fields.{Cut, next_field, is_nothing}
use Rattle.apdu.specs.Encode.{least_buffer}
use Rattle.exchange.specs.declared.service.Service.{Service}
use Rattle.records.specs.Sheet.{SheetEntry, refused, done}
use Rattle.records.specs.Tape.{tape_read}
use Rattle.sheet.specs.Adds.{bytes_of}
use Rattle.sheet.specs.Bench.{BenchView, AfterRecord, empty_bench, first_taken, record_taken}
use Rattle.sheet.specs.Outcomes.{outcome_entry}

-- a tape or a sheet in pieces: whole records, and at the end one that is cut
pub data Piece : Type 0 where
  -- tag, value
  whole : ℕ → List ℕ → Piece
  cut_off : Piece

-- the piece at the front, and then the others
abbrev pub piece : (List ℕ → List Piece) → Option Cut → List Piece
piece others None = cut_off ∷ []
piece others (Some f) = whole f.tag f.value ∷ others f.rest

-- at most n pieces
abbrev pub pieces : ℕ → List ℕ → List Piece
pieces zero bs = []
pieces (suc n) bs = if is_nothing bs then [] else piece (pieces n) (next_field bs)

-- all of them, since a piece has a byte at least
abbrev pub pieces_of : List ℕ → List Piece
pieces_of bs = pieces (length bs) bs

-- every call is lent a buffer of zero bytes, with room for every APDU
abbrev pub blank : List ℕ
blank = replicate least_buffer 0

-- the record of the sheet for what came of one
abbrev pub record_after : AfterRecord → SheetEntry
record_after a = outcome_entry a.result a.buffer

-- a cut record ends the run
abbrev pub run_on : BenchView → List Piece → List SheetEntry
run_on b [] = []
run_on b (cut_off ∷ ps) = refused Garbled ∷ []
run_on b (whole tag value ∷ ps) =
    let a : AfterRecord = record_taken b (tape_read tag value) blank in
    record_after a ∷ run_on a.bench ps

-- the places for links and for subscribers
abbrev pub link_places : ℕ
link_places = 32

abbrev pub subscriber_places : ℕ
subscriber_places = 64

-- in service, with all of the places free
abbrev pub starting : Service → BenchView
starting s = empty_bench s link_places subscriber_places

-- a first record that is no lawful fit-out ends the run too
abbrev pub run_from : Result Service Refusal → List Piece → List SheetEntry
run_from (Ok s) ps = done ∷ run_on (starting s) ps
run_from (Err n) ps = refused n ∷ []

abbrev pub run_pieces : List Piece → List SheetEntry
run_pieces [] = []
run_pieces (cut_off ∷ ps) = refused Garbled ∷ []
run_pieces (whole tag value ∷ ps) = run_from (first_taken (tape_read tag value)) ps

-- the records of the sheet of a tape
abbrev pub sheet_entries : List ℕ → List SheetEntry
sheet_entries tape = run_pieces (pieces_of tape)

abbrev pub sheet_of : List ℕ → List ℕ
sheet_of tape = bytes_of (sheet_entries tape)
