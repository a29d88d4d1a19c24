-- Machines that refuse what is not to be refused, take what is, or give another number.
use Rattle.std.specs.Prelude.{ℕ, if◌then◌else◌, List, [], Ok, Err, Result, nat_lt}
use Rattle.refusal.specs.declared.Refusal.{Refusal}
use Rattle.refusal.specs.declared.Refusal.TheVariants.{ShortSheet, Garbled, Stray, Twice, Full, Spent}
use Rattle.wire.specs.declared.codes.ErrorCode.TheVariants.{TemporarilyUnavailable}
use Rattle.apdu.specs.declared.apdus.Apdu.{Apdu}
use Rattle.apdu.specs.declared.apdus.Body.TheVariants.{ReturnError}
use Rattle.apdu.specs.NoApdu.{NoApdu}
use Rattle.apdu.specs.Decode.{received_as}
use Rattle.exchange.specs.Done.{Done}
use Rattle.exchange.specs.declared.outcome.Outcome.TheVariants.{Send}
use Rattle.exchange.specs.declared.service.Service.{Service}
use Rattle.exchange.specs.Outcome.{After, at_edge}
use Rattle.exchange.specs.Conditions.{RefusesBy}
use Rattle.exchange.specs.Examples.{in_service}
use Rattle.exchange.specs.Runs.{VisitorStart, Delivery, Reply, Clock, Machine, buffer_of, called}
use Rattle.exchange.specs.Service.{read_at}
use Rattle.exchange.specs.Wrong.{giving}

-- every call is refused
abbrev pub refuses_everything : Machine
refuses_everything m s c = at_edge s (buffer_of c) (Err ShortSheet)

-- every reply is refused, as one that nothing awaits
abbrev pub refuses_replies : Machine
refuses_replies m s (Reply reading name response out) = at_edge s out (Err Stray)
refuses_replies m s c = called m s c

-- every delivery is refused, as garbled
abbrev pub refuses_deliveries : Machine
refuses_deliveries m s (Delivery reading peer draw bytes links subscribers out) =
    at_edge s out (Err Garbled)
refuses_deliveries m s c = called m s c

-- a request is refused for want of a place, or of a number, with places and numbers left
abbrev pub refuses_requests : Refusal → Machine
refuses_requests n m s (VisitorStart reading digits out) = at_edge s out (Err n)
refuses_requests n m s c = called m s c

-- a reading below the last one is taken as the last one
abbrev pub takes_the_clock_back : Machine
takes_the_clock_back m s (Clock reading out) =
    called m s (Clock (if nat_lt reading s.last then s.last else reading) out)
takes_the_clock_back m s c = called m s c

-- the number for what nothing awaits, in place of that for what is still owed
abbrev pub another_number : Result Done Refusal → Result Done Refusal
another_number (Err Twice) = Err Stray
another_number r = r

-- an invoke that is still owed is refused as one that nothing awaits
abbrev pub gives_another_number : Machine
gives_another_number m s c = giving another_number (called m s c)

-- an APDU that came is answered by an error
abbrev pub answered_again : Service → ℕ → ℕ → List ℕ → Result Apdu NoApdu → After
answered_again s reading peer out (Ok a) =
    let apdu : Apdu = record { id = a.id; body = ReturnError TemporarilyUnavailable } in
    at_edge s out (Ok (Send peer apdu, read_at s reading))
answered_again s reading peer out (Err e) = at_edge s out (Err Twice)

-- where a call was refused for an invoke that is still owed
abbrev pub if_twice : After → After → Result Done Refusal → After
if_twice again after (Err Twice) = again
if_twice again after r = after

-- an invoke that is still owed is answered by an error
abbrev pub answers_what_is_owed : Machine
answers_what_is_owed m s (Delivery reading peer draw bytes links subscribers out) =
    let after = called m s (Delivery reading peer draw bytes links subscribers out) in
    if_twice (answered_again s reading peer out (received_as bytes)) after after.result
answers_what_is_owed m s c = called m s c

-- a delivery of no bytes is refused as garbled before its peer is looked at
abbrev pub reads_before_it_checks : Machine
reads_before_it_checks m s (Delivery reading peer draw [] links subscribers out) =
    at_edge s out (Err Garbled)
reads_before_it_checks m s c = called m s c

-- of these the law of refusals is false
pub record WrongRefusalsAreRefuted : Type 0 where
  pub a_lawful_call_is_done : RefusesBy refuses_everything in_service → ⊥
  pub an_awaited_reply_is_done : RefusesBy refuses_replies in_service → ⊥
  pub a_lawful_delivery_is_done : RefusesBy refuses_deliveries in_service → ⊥
  pub a_request_with_places_left_is_done : RefusesBy (refuses_requests Full) in_service → ⊥
  pub a_request_with_numbers_left_is_done : RefusesBy (refuses_requests Spent) in_service → ⊥
  pub a_clock_that_goes_back_is_refused : RefusesBy takes_the_clock_back in_service → ⊥
  pub a_refusal_has_the_number_of_its_condition : RefusesBy gives_another_number in_service → ⊥
  pub an_owed_invoke_is_refused : RefusesBy answers_what_is_owed in_service → ⊥
  pub the_lowest_number_wins : RefusesBy reads_before_it_checks in_service → ⊥
