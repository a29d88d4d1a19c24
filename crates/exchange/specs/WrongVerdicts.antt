-- Machines that tell a verdict without a reply.
use Rattle.std.specs.Prelude.{ℕ, List, Ok, Err, Result}
use Rattle.refusal.specs.declared.Refusal.{Refusal}
use Rattle.wire.specs.declared.codes.Verdict.TheVariants.{Correct, Incorrect}
use Rattle.apdu.specs.declared.apdus.Apdu.{Apdu}
use Rattle.apdu.specs.declared.apdus.Body.{Body}
use Rattle.apdu.specs.declared.apdus.Body.TheVariants as body
use Rattle.apdu.specs.declared.apdus.Request.{Request}
use Rattle.apdu.specs.declared.apdus.Request.TheVariants as request
use Rattle.apdu.specs.declared.apdus.ReturnResult.TheVariants.{AuthWtmUser}
use Rattle.apdu.specs.NoApdu.{NoApdu}
use Rattle.apdu.specs.Decode.{received_as}
use Rattle.exchange.specs.Done.{Done}
use Rattle.exchange.specs.declared.outcome.Done.TheVariants.{Reported}
use Rattle.exchange.specs.declared.outcome.Outcome.TheVariants.{Send}
use Rattle.exchange.specs.declared.outcome.Report.TheVariants as report
use Rattle.exchange.specs.declared.service.Service.{Service}
use Rattle.exchange.specs.Outcome.{After, at_edge}
use Rattle.exchange.specs.Examples.{in_service}
use Rattle.exchange.specs.Runs.{Delivery, Machine, called}
use Rattle.exchange.specs.Service.{read_at}
use Rattle.exchange.specs.Verdicts.{VerdictsBy}
use Rattle.exchange.specs.Wrong.{giving}

-- a request of authWtmUser is answered with verdict correct
abbrev pub vouched_for : Service → ℕ → ℕ → List ℕ → After → ℕ → Request → After
vouched_for s reading peer out after id (request.AuthWtmUser unit) =
    let apdu : Apdu = record { id = id; body = body.ReturnResult (AuthWtmUser Correct) } in
    at_edge s out (Ok (Send peer apdu, read_at s reading))
vouched_for s reading peer out after id r = after

-- what stands under an id is answered so, where it is such an invoke
abbrev pub vouched_under : Service → ℕ → ℕ → List ℕ → After → ℕ → Body → After
vouched_under s reading peer out after id (body.Invoke i) =
    vouched_for s reading peer out after id i.request
vouched_under s reading peer out after id b = after

-- what the bytes are read as is answered so, where it is such an invoke
abbrev pub vouched : Service → ℕ → ℕ → List ℕ → After → Result Apdu NoApdu → After
vouched s reading peer out after (Ok apdu) =
    vouched_under s reading peer out after apdu.id apdu.body
vouched s reading peer out after (Err e) = after

-- an invoke of authWtmUser is answered at once, with verdict correct, and its user never asked
abbrev pub vouches_unasked : Machine
vouches_unasked m s (Delivery reading peer draw bytes links subscribers out) =
    let after = called m s (Delivery reading peer draw bytes links subscribers out) in
    vouched s reading peer out after (received_as bytes)
vouches_unasked m s c = called m s c

-- verdict correct in place of a failure
abbrev pub failure_as_correct : Result Done Refusal → Result Done Refusal
failure_as_correct (Ok (Reported name (report.Failure cause))) =
    Ok (Reported name (report.Verdict Correct))
failure_as_correct r = r

-- a failure is reported as verdict correct
abbrev pub vouches_where_it_failed : Machine
vouches_where_it_failed m s c = giving failure_as_correct (called m s c)

-- verdict correct in place of verdict incorrect
abbrev pub incorrect_as_correct : Result Done Refusal → Result Done Refusal
incorrect_as_correct (Ok (Reported name (report.Verdict Incorrect))) =
    Ok (Reported name (report.Verdict Correct))
incorrect_as_correct r = r

-- a verdict that came is reported as correct, whatever it was
abbrev pub turns_what_came : Machine
turns_what_came m s (Delivery reading peer draw bytes links subscribers out) =
    giving incorrect_as_correct
    (called m s (Delivery reading peer draw bytes links subscribers out))
turns_what_came m s c = called m s c

-- no verdict is told without a reply: of these machines it is false
pub record WrongVerdictsAreRefuted : Type 0 where
  pub a_verdict_is_sent_on_a_reply : VerdictsBy vouches_unasked in_service → ⊥
  pub a_failure_is_no_verdict : VerdictsBy vouches_where_it_failed in_service → ⊥
  pub a_verdict_is_reported_as_it_came : VerdictsBy turns_what_came in_service → ⊥
