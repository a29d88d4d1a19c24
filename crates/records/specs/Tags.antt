-- The code lists of records, each told once: the number of each value, and all of the values.
use Rattle.std.specs.Prelude.{ℕ, List, [], ◌∷◌, Option}
use Rattle.wire.specs.Codes.{coded}
use Rattle.records.specs.declared.tags.TapeTag.{TapeTag}
use Rattle.records.specs.declared.tags.TapeTag.TheVariants as tape
use Rattle.records.specs.declared.tags.SheetTag.{SheetTag}
use Rattle.records.specs.declared.tags.SheetTag.TheVariants as sheet
use Rattle.records.specs.declared.tags.ReportKind.{ReportKind}
use Rattle.records.specs.declared.tags.ReportKind.TheVariants as report
use Rattle.records.specs.declared.tags.CauseKind.{CauseKind}
use Rattle.records.specs.declared.tags.CauseKind.TheVariants as cause

-- the tags of a tape
abbrev pub tape_tag_number : TapeTag → ℕ
tape_tag_number tape.FitOut = 0x10
tape_tag_number tape.Link = 0x11
tape_tag_number tape.Subscriber = 0x12
tape_tag_number tape.PlainInitiation = 0x20
tape_tag_number tape.InitiationWithValues = 0x21
tape_tag_number tape.VisitorStart = 0x22
tape_tag_number tape.NetworkProof = 0x23
tape_tag_number tape.Reply = 0x24
tape_tag_number tape.Delivery = 0x25
tape_tag_number tape.Clock = 0x26

abbrev pub tape_tags : List TapeTag
tape_tags =
    tape.FitOut ∷ tape.Link ∷ tape.Subscriber
    ∷ tape.PlainInitiation ∷ tape.InitiationWithValues ∷ tape.VisitorStart ∷ tape.NetworkProof
    ∷ tape.Reply ∷ tape.Delivery ∷ tape.Clock ∷ []

abbrev pub tape_tag_of : ℕ → Option TapeTag
tape_tag_of n = coded tape_tag_number tape_tags n

-- the tags of a sheet
abbrev pub sheet_tag_number : SheetTag → ℕ
sheet_tag_number sheet.Sent = 0x30
sheet_tag_number sheet.Reported = 0x31
sheet_tag_number sheet.Refused = 0x32
sheet_tag_number sheet.Done = 0x33

abbrev pub sheet_tags : List SheetTag
sheet_tags = sheet.Sent ∷ sheet.Reported ∷ sheet.Refused ∷ sheet.Done ∷ []

abbrev pub sheet_tag_of : ℕ → Option SheetTag
sheet_tag_of n = coded sheet_tag_number sheet_tags n

-- the kinds of a report
abbrev pub report_kind_number : ReportKind → ℕ
report_kind_number report.Challenge = 1
report_kind_number report.Verdict = 2
report_kind_number report.Failure = 3
report_kind_number report.Response = 4

abbrev pub report_kinds : List ReportKind
report_kinds = report.Challenge ∷ report.Verdict ∷ report.Failure ∷ report.Response ∷ []

abbrev pub report_kind_of : ℕ → Option ReportKind
report_kind_of n = coded report_kind_number report_kinds n

-- the kinds of a cause
abbrev pub cause_kind_number : CauseKind → ℕ
cause_kind_number cause.Error = 1
cause_kind_number cause.Reject = 2
cause_kind_number cause.Expiry = 3

abbrev pub cause_kinds : List CauseKind
cause_kinds = cause.Error ∷ cause.Reject ∷ cause.Expiry ∷ []

abbrev pub cause_kind_of : ℕ → Option CauseKind
cause_kind_of n = coded cause_kind_number cause_kinds n
