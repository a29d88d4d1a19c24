-- What is reported of a dialogue, as it is read and as it is written on a sheet.
use Rattle.std.specs.Prelude.{ℕ, List, [], ◌∷◌, length, Some, None, Option, ◌==◌, slice_index, if◌then◌else◌}
use Rattle.std.specs.Option.{option_map}
use Rattle.wire.specs.Codes.{error_number, error_of, verdict_number, verdict_of}
use Rattle.wire.specs.FieldValues.{OfSize, one, exact}
use Rattle.values.specs.Challenge.{challenge_of}
use Rattle.values.specs.Sizes.{challenge_size, response_size}
use Rattle.exchange.specs.declared.outcome.Cause.{Cause}
use Rattle.exchange.specs.declared.outcome.Cause.TheVariants as cause
use Rattle.exchange.specs.declared.outcome.Report.{Report}
use Rattle.exchange.specs.declared.outcome.Report.TheVariants as report
use Rattle.exchange.specs.FitOut.{timer_number, timer_of_number}
use Rattle.records.specs.declared.tags.ReportKind.{ReportKind}
use Rattle.records.specs.declared.tags.ReportKind.TheVariants as kind
use Rattle.records.specs.declared.tags.CauseKind.{CauseKind}
use Rattle.records.specs.declared.tags.CauseKind.TheVariants as why
use Rattle.records.specs.Parts.{◌>>=◌}
use Rattle.records.specs.Tags.{cause_kind_number, cause_kind_of}

abbrev pub cause_kind : Cause → CauseKind
cause_kind (cause.Error error) = why.Error
cause_kind (cause.Reject problem) = why.Reject
cause_kind (cause.Expiry timer) = why.Expiry

-- the number of the error, of the problem or of the timer
abbrev pub cause_number : Cause → ℕ
cause_number (cause.Error error) = error_number error
cause_number (cause.Reject problem) = problem
cause_number (cause.Expiry timer) = timer_number timer

-- a cause of a kind, by its number
abbrev pub cause_of : CauseKind → ℕ → Option Cause
cause_of why.Error n = option_map cause.Error (error_of n)
cause_of why.Reject n = Some (cause.Reject n)
cause_of why.Expiry n = option_map cause.Expiry (timer_of_number n)

-- a cause's kind and its number
abbrev pub read_cause : List ℕ → Option Cause
read_cause v =
    if length v == 2
    then (cause_kind_of (slice_index v 0) >>= λ kind. cause_of kind (slice_index v 1))
    else None

abbrev pub report_kind : Report → ReportKind
report_kind (report.Challenge challenge) = kind.Challenge
report_kind (report.Verdict verdict) = kind.Verdict
report_kind (report.Failure cause) = kind.Failure
report_kind (report.Response response) = kind.Response

-- what is told of a report, behind its kind and the dialogue's name
abbrev pub told_bytes : Report → List ℕ
told_bytes (report.Challenge challenge) = challenge
told_bytes (report.Verdict verdict) = verdict_number verdict ∷ []
told_bytes (report.Failure cause) = cause_kind_number (cause_kind cause) ∷ cause_number cause ∷ []
told_bytes (report.Response response) = response

-- a report of a kind, by what is told of it
abbrev pub report_of : ReportKind → List ℕ → Option Report
report_of kind.Challenge v = option_map report.Challenge (challenge_of v)
report_of kind.Verdict v = option_map report.Verdict (one v >>= verdict_of)
report_of kind.Failure v = option_map report.Failure (read_cause v)
report_of kind.Response v = option_map report.Response (exact response_size v)

-- a challenge has 8 bytes, a response 4
abbrev pub ReportSized : Report → Type 0
ReportSized (report.Challenge challenge) = OfSize challenge_size challenge
ReportSized (report.Verdict verdict) = Unit {0}
ReportSized (report.Failure cause) = Unit {0}
ReportSized (report.Response response) = OfSize response_size response
