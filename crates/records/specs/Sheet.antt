-- The records of a sheet: what each says, as it is read and as it is written.
use Rattle.std.specs.Prelude.{ℕ, List, [], ◌∷◌, ◌++◌, length, Some, None, Option, ◌==◌, if◌then◌else◌}
use Rattle.std.specs.Option.{option_map}
use Rattle.refusal.specs.declared.Refusal.{Refusal}
use Rattle.refusal.specs.Refusals.{refusal_number, refusal_of}
use Rattle.wire.specs.Fields.{field, two}
use Rattle.wire.specs.FieldValues.{one}
use Rattle.exchange.specs.declared.invokes.OwnNumber.{OwnNumber}
use Rattle.exchange.specs.declared.outcome.Report.{Report}
use Rattle.records.specs.declared.tags.SheetTag.{SheetTag}
use Rattle.records.specs.declared.tags.SheetTag.TheVariants as tag
use Rattle.records.specs.declared.sheet.SheetRecord.{SheetRecord}
use Rattle.records.specs.declared.sheet.SheetRecord.TheVariants as sheet
use Rattle.records.specs.Numbers.{number}
use Rattle.records.specs.Parts.{◌>>=◌, parted, byte_first}
use Rattle.records.specs.Tags.{sheet_tag_number, sheet_tag_of, report_kind_number, report_kind_of}
use Rattle.records.specs.Reports.{report_kind, told_bytes, report_of, ReportSized}

-- what a record says
pub data SheetEntry : Type 0 where
  -- peer, APDU
  sent : ℕ → List ℕ → SheetEntry
  reported : OwnNumber → Report → SheetEntry
  refused : Refusal → SheetEntry
  done : SheetEntry

abbrev pub sheet_view : SheetRecord → SheetEntry
sheet_view (sheet.Sent peer apdu) = sent peer apdu.now
sheet_view (sheet.Reported name report) = reported name report
sheet_view (sheet.Refused refusal) = refused refusal
sheet_view sheet.Done = done

-- a peer, and the APDU that goes to it to the end
abbrev pub read_sent : List ℕ → Option SheetEntry
read_sent v = do
  peer ← byte_first v
  Some (sent peer.byte peer.rest)

-- a report's kind, the dialogue's name of 2 bytes, and what is told to the end
abbrev pub read_reported : List ℕ → Option SheetEntry
read_reported v = do
  first ← byte_first v
  name ← parted 2 first.rest
  kind ← report_kind_of first.byte
  report ← report_of kind name.rest
  Some (reported (record { 0 = number name.first }) report)

-- a refusal's number
abbrev pub read_refused : List ℕ → Option SheetEntry
read_refused v = option_map refused (one v >>= refusal_of)

abbrev pub read_done : List ℕ → Option SheetEntry
read_done v = if length v == 0 then Some done else None

-- what the value of a record with this tag says
abbrev pub sheet_read_as : SheetTag → List ℕ → Option SheetEntry
sheet_read_as tag.Sent v = read_sent v
sheet_read_as tag.Reported v = read_reported v
sheet_read_as tag.Refused v = read_refused v
sheet_read_as tag.Done v = read_done v

-- what a tag and a value say
abbrev pub sheet_read : ℕ → List ℕ → Option SheetEntry
sheet_read n v = do
  t ← sheet_tag_of n
  sheet_read_as t v

-- the tag of a record
abbrev pub sheet_tag : SheetEntry → SheetTag
sheet_tag (sent peer apdu) = tag.Sent
sheet_tag (reported name report) = tag.Reported
sheet_tag (refused refusal) = tag.Refused
sheet_tag done = tag.Done

-- the value of a record
abbrev pub sheet_value : SheetEntry → List ℕ
sheet_value (sent peer apdu) = peer ∷ apdu
sheet_value (reported name report) =
    report_kind_number (report_kind report) ∷ (two name.0 ++ told_bytes report)
sheet_value (refused refusal) = refusal_number refusal ∷ []
sheet_value done = []

-- a record as it is written
abbrev pub sheet_bytes : SheetEntry → List ℕ
sheet_bytes e = field (sheet_tag_number (sheet_tag e)) (sheet_value e)

-- the parts of a record have their sizes
abbrev pub SheetSized : SheetEntry → Type 0
SheetSized (sent peer apdu) = Unit {0}
SheetSized (reported name report) = ReportSized report
SheetSized (refused refusal) = Unit {0}
SheetSized done = Unit {0}
