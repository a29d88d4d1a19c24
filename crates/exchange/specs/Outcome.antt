-- What a call decides, and how it is written to the lent buffer.
use Rattle.std.specs.Prelude.{◌≡◌, ℕ, List, length, Ok, Err, Result, if◌then◌else◌, nat_lt}
use Rattle.refusal.specs.declared.Refusal.{Refusal}
use Rattle.refusal.specs.declared.Refusal.TheVariants.{ShortSheet}
use Rattle.apdu.specs.Encode.{encode, least_buffer}
use Rattle.wire.specs.Fronts.{front}
use Rattle.exchange.specs.Done.{Done}
use Rattle.exchange.specs.declared.outcome.Done.TheVariants as done
use Rattle.exchange.specs.declared.outcome.Outcome.{Outcome}
use Rattle.exchange.specs.declared.outcome.Outcome.TheVariants.{Quiet, Send, Report}
use Rattle.exchange.specs.declared.service.Service.{Service}

-- an outcome and the exchange that a call leaves, or a refusal, which leaves the exchange as it was
abbrev pub Decision : Type 0
Decision = Result (Outcome × Service) Refusal

-- what a decision comes to in an exchange: the outcome or the refusal, and the exchange left
abbrev pub leaving : Service → Decision → Result Outcome Refusal × Service
leaving s (Ok (outcome, after)) = (Ok outcome, after)
leaving s (Err n) = (Err n, s)

-- what the host is given of an outcome
abbrev pub done_of : Outcome → Done
done_of Quiet = done.Quiet
done_of (Send peer apdu) = done.Sent peer (length (encode apdu))
done_of (Report name report) = done.Reported name report

-- the buffer after it: an APDU that goes to a peer stands at its front
abbrev pub buffer_after : Outcome → List ℕ → List ℕ
buffer_after (Send peer apdu) out = front (encode apdu) out
buffer_after outcome out = out

-- what a call gave and left: the answer, the exchange and the buffer
pub record After : Type 0 where
  pub result : Result Done Refusal
  pub service : Service
  pub buffer : List ℕ

-- a decision at the edge to the buffer; a refusal leaves exchange and buffer as they were
abbrev pub at_edge : Service → List ℕ → Decision → After
at_edge s out (Ok (outcome, after)) =
    record { result = Ok (done_of outcome); service = after; buffer = buffer_after outcome out }
at_edge s out (Err n) = record { result = Err n; service = s; buffer = out }

-- a buffer has room for every APDU
abbrev pub buffer_check : ℕ → Result (Unit {0}) Refusal
buffer_check size = if nat_lt size least_buffer then Err ShortSheet else Ok tt

-- a refusal leaves the exchange and the buffer as they were
abbrev pub Unchanged : Result Done Refusal → Service → Service → List ℕ → List ℕ → Type 0
Unchanged (Ok done) before after out left = Unit {0}
Unchanged (Err n) before after out left = (after ≡ before) × (left ≡ out)
