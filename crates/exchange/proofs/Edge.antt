-- What is said of the APDU of an outcome is said of the bytes that stand in the buffer. Assumes nothing.
use Rattle.std.proofs.Common.{◌≡◌, ℕ, Bool, false, ◌&&◌, List, length, take, drop, Some, None, Ok, Option, Result, ◌==◌, sym, refl, ap, ◌∙◌, ◌⊎◌, subst}
use Rattle.std.proofs.Math.Seq.{take-append_seam}
use Rattle.std.proofs.lemmas.Option.{none-some, same_Some}
use Rattle.wire.specs.declared.codes.Verdict.{Verdict}
use Rattle.wire.specs.Fronts.{front}
use Rattle.apdu.specs.declared.apdus.Apdu.{Apdu}
use Rattle.apdu.specs.declared.apdus.Body.{Body}
use Rattle.apdu.specs.NoApdu.{NoApdu}
use Rattle.apdu.specs.Decode.{received_as}
use Rattle.apdu.specs.Encode.{encode}
use Rattle.apdu.specs.Laws.{IsApdu}
use Rattle.apdu.proofs.WrittenReadsBack.{written_reads_back}
use Rattle.exchange.specs.declared.invokes.OwnNumber.{OwnNumber}
use Rattle.exchange.specs.declared.outcome.Outcome.{Outcome}
use Rattle.exchange.specs.declared.outcome.Outcome.TheVariants.{Quiet, Send, Report}
use Rattle.exchange.specs.declared.outcome.Done.TheVariants.{Reported}
use Rattle.exchange.specs.declared.outcome.Report as reports
use Rattle.exchange.specs.declared.outcome.Report.TheVariants as report
use Rattle.exchange.specs.declared.service.Service.{Service}
use Rattle.exchange.specs.Genuine.{verdict_in, said, said_to, said_with}
use Rattle.exchange.specs.Outcome.{done_of, buffer_after}
use Rattle.exchange.specs.Runs.{Call, sends}
use Rattle.exchange.specs.Verdicts.{IsReply, verdict_reported, TellsVerdicts}

-- the APDU of an outcome is one, so that it reads back as it was written
abbrev pub Sendable : Outcome → Type 0
Sendable Quiet = Unit {0}
Sendable (Send peer a) = IsApdu a
Sendable (Report name r) = Unit {0}

-- an APDU that goes to a peer
abbrev pub says : (Result Apdu NoApdu → Bool) → ℕ → Outcome → Bool
says read peer Quiet = false
says read peer (Send to a) = read (Ok a) && (to == peer)
says read peer (Report name r) = false

-- what it says
abbrev pub says_in : {A : Type 0} → (Body → Option A) → Outcome → Option A
says_in in_body Quiet = None
says_in in_body (Send peer a) = in_body a.body
says_in in_body (Report name r) = None

pub reads_back : (a : Apdu) (out : List ℕ) → IsApdu a → received_as (take (length (encode a)) (front (encode a) out)) ≡ Ok a
reads_back a out is = ap received_as (take-append_seam (encode a) (drop (length (encode a)) out)) ∙ written_reads_back a is

-- bytes that are read so are in the buffer exactly where the APDU that goes to the peer is such
pub sends_edge : (o : Outcome) (out : List ℕ) → Sendable o → (read : Result Apdu NoApdu → Bool) (peer : ℕ) → sends read peer (buffer_after o out) (Ok (done_of o)) ≡ says read peer o
sends_edge Quiet out is read peer = refl
sends_edge (Send to a) out is read peer = ap (λ z. read z && (to == peer)) (reads_back a out is)
sends_edge (Report name r) out is read peer = refl

-- and they say what the APDU says
pub said_edge : {A : Type 0} (in_body : Body → Option A) (o : Outcome) (out : List ℕ) → Sendable o → said_with in_body (Ok (done_of o)) (buffer_after o out) ≡ says_in in_body o
said_edge in_body Quiet out is = refl
said_edge in_body (Send to a) out is = ap (said in_body) (reads_back a out is)
said_edge in_body (Report name r) out is = refl

-- a verdict is told only on a reply, or is reported as it came
abbrev pub TellsOnly : Call → Outcome → Type 0
TellsOnly c Quiet = Unit {0}
TellsOnly c (Send to a) = (v : Verdict) → verdict_in a.body ≡ Some v → IsReply c
TellsOnly c (Report name (report.Verdict v)) = IsReply c ⊎ (said_to verdict_in c ≡ Some v)
TellsOnly c (Report name (report.Challenge challenge)) = Unit {0}
TellsOnly c (Report name (report.Failure cause)) = Unit {0}
TellsOnly c (Report name (report.Response response)) = Unit {0}

reported_only : (c : Call) (name : OwnNumber) (r : reports.Report) → TellsOnly c (Report name r) → (v : Verdict) → verdict_reported (Ok (Reported name r)) ≡ Some v → IsReply c ⊎ (said_to verdict_in c ≡ Some v)
reported_only c name (report.Verdict w) h v e = subst (λ (x : Verdict). IsReply c ⊎ (said_to verdict_in c ≡ Some x)) (same_Some w v e) h
reported_only c name (report.Challenge challenge) h v e = absurd (none-some v e)
reported_only c name (report.Failure cause) h v e = absurd (none-some v e)
reported_only c name (report.Response response) h v e = absurd (none-some v e)

pub verdicts_edge : (s t : Service) (c : Call) (out : List ℕ) (o : Outcome) → Sendable o → TellsOnly c o →
    TellsVerdicts (record { before = s; call = c; after = record { result = Ok (done_of o); service = t; buffer = buffer_after o out } })
verdicts_edge s t c out Quiet is h = record { sent = λ v e. absurd (none-some v e); reported = λ v e. absurd (none-some v e) }
verdicts_edge s t c out (Send to a) is h = record {
  sent = λ v e. h v (sym (said_edge verdict_in (Send to a) out is) ∙ e);
  reported = λ v e. absurd (none-some v e);
}
verdicts_edge s t c out (Report name r) is h = record { sent = λ v e. absurd (none-some v e); reported = λ v e. reported_only c name r h v e }
