-- What came of a record of a tape, as the record of its sheet.
use Rattle.std.specs.Prelude.{ℕ, ◌+◌, ◌≤◌, List, length, take, Ok, Err, Result}
use Rattle.refusal.specs.declared.Refusal.{Refusal}
use Rattle.apdu.specs.Encode.{least_buffer}
use Rattle.exchange.specs.Done.{Done}
use Rattle.exchange.specs.declared.outcome.Done.TheVariants.{Quiet, Sent, Reported}
use Rattle.records.specs.Sheet.{SheetEntry, sent, reported, refused, done, sheet_bytes}

-- tag and length, a peer, and a whole buffer: no record that is added is longer
abbrev pub longest : ℕ
longest = 4 + least_buffer

abbrev pub IsShort : SheetEntry → Type 0
IsShort added = length (sheet_bytes added) ≤ longest

-- an APDU that is sent stands at the front of the buffer
abbrev pub outcome_entry : Result Done Refusal → List ℕ → SheetEntry
outcome_entry (Ok Quiet) buffer = done
outcome_entry (Ok (Sent peer size)) buffer = sent peer (take size buffer)
outcome_entry (Ok (Reported name report)) buffer = reported name report
outcome_entry (Err n) buffer = refused n
