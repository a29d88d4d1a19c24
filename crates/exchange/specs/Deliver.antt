-- What a delivery and a reply decide, over what an exchange keeps.
use Rattle.std.specs.Prelude.{ℕ, if◌then◌else◌, List, Some, None, Ok, Err, Option, Result}
use Rattle.std.specs.List.{list_any}
use Rattle.std.specs.Option.{ok_or}
use Rattle.refusal.specs.declared.Refusal.{Refusal}
use Rattle.refusal.specs.declared.Refusal.TheVariants as refusal
use Rattle.wire.specs.declared.codes.ErrorCode.TheVariants.{TemporarilyUnavailable}
use Rattle.wire.specs.Codes.{problem_number}
use Rattle.values.specs.Draw.{draw_of, drawn_challenge}
use Rattle.apdu.specs.declared.apdus.Apdu.{Apdu}
use Rattle.apdu.specs.declared.apdus.Body.{Body}
use Rattle.apdu.specs.declared.apdus.Body.TheVariants as body
use Rattle.apdu.specs.NoApdu.{NoApdu}
use Rattle.apdu.specs.declared.apdus.NoApdu.TheVariants.{RejectDue, Garbled}
use Rattle.apdu.specs.Decode.{received_as}
use Rattle.algorithm.specs.Meaning.{Meaning}
use Rattle.entries.specs.declared.link.Link.{Link}
use Rattle.entries.specs.Link.{is_linked}
use Rattle.entries.specs.declared.subscriber.Subscriber.{Subscriber}
use Rattle.exchange.specs.declared.invokes.OwnNumber.{OwnNumber}
use Rattle.exchange.specs.declared.dialogue.Dialogue.{Dialogue}
use Rattle.exchange.specs.declared.dialogue.Event.{Event}
use Rattle.exchange.specs.declared.dialogue.Event.TheVariants as event
use Rattle.exchange.specs.declared.dialogue.Step.{Step}
use Rattle.exchange.specs.declared.dialogue.Step.TheVariants.{Stray, GoesOn, AsksAgain, Closes}
use Rattle.exchange.specs.declared.handling.Handling.{Handling}
use Rattle.exchange.specs.declared.handling.Handling.TheVariants.{Answer, Opens}
use Rattle.exchange.specs.declared.outcome.Outcome.{Outcome}
use Rattle.exchange.specs.declared.outcome.Outcome.TheVariants.{Send}
use Rattle.exchange.specs.declared.service.Service.{Service}
use Rattle.exchange.specs.Calls.{response_check}
use Rattle.exchange.specs.Dialogue.{stepped}
use Rattle.exchange.specs.Invokes.{following}
use Rattle.exchange.specs.Outcome.{Decision}
use Rattle.exchange.specs.Server.{subscriber_for, handled}
use Rattle.exchange.specs.Service.{◌>>=◌, ◌>>◌, by, ready, room, opened, read_at, written}
use Rattle.exchange.specs.Table.{owes, awaits, awaits_reply, found}

-- what a step of the dialogue at a place comes to
abbrev pub moved : Service → ℕ → ℕ → Step × Dialogue → Decision
moved s reading place (Stray, d) = Err refusal.Stray
moved s reading place (GoesOn o, d) = Ok (o, written s reading s.next place (Some d))
moved s reading place (AsksAgain o, d) = Ok (o, written s reading (following s.next) place (Some d))
moved s reading place (Closes o, d) = Ok (o, written s reading s.next place None)

-- the event comes to the dialogue that was found, if there is one
abbrev pub met : Meaning → Service → ℕ → Event → Option (ℕ × Dialogue) → Decision
met m s reading e None = Err refusal.Stray
met m s reading e (Some (place, d)) = moved s reading place (stepped m s.fit reading s.next d e)

-- an answer goes to the peer whose invoke it answers
abbrev pub answer_sent : Service → ℕ → ℕ → ℕ → Body → Outcome × Service
answer_sent s reading peer id b = (Send peer (record { id = id; body = b }), read_at s reading)

-- what an invoke comes to is done; a dialogue that finds no place or number does not open, and the peer gets an error
abbrev pub carried_out : Service → ℕ → ℕ → ℕ → Handling → Outcome × Service
carried_out s reading peer id (Answer b) = answer_sent s reading peer id b
carried_out s reading peer id (Opens state o) =
    by (room s) (λ place. (o, opened s reading place state))
    (λ none. answer_sent s reading peer id (body.ReturnError TemporarilyUnavailable))

-- an invoke that a peer is still owed is not taken again
abbrev pub taken : Service → ℕ → ℕ → ℕ → Handling → Decision
taken s reading peer id h =
    if list_any (owes peer id) s.dialogues
    then Err refusal.Twice
    else Ok (carried_out s reading peer id h)

-- the draw for a delivery, whose peer has to be a link
abbrev pub draw_check : List Link → ℕ → List ℕ → Result (List ℕ) Refusal
draw_check links peer draw =
    if is_linked links peer then ok_or (draw_of draw) refusal.Misdialled else Err refusal.Misdialled

-- an answer from a peer under an id comes to the dialogue that awaits it
abbrev pub answer_taken : Meaning → Service → ℕ → ℕ → ℕ → Event → Decision
answer_taken m s reading peer id e = met m s reading e (found (awaits peer id) s.dialogues)

module _ (m : Meaning) (s : Service) (reading peer : ℕ) (draw : List ℕ) where
  -- an APDU under an id
  abbrev pub came : List Subscriber → ℕ → Body → Decision
  came subscribers id (body.Invoke i) =
      taken s reading peer id
      (handled s.fit s.next (record { peer = peer; id = record { 0 = id } }) m draw i
      (subscriber_for subscribers i.user))
  came subscribers id (body.ReturnResult r) =
      answer_taken m s reading peer id (event.Result r (drawn_challenge draw))
  came subscribers id (body.ReturnError e) = answer_taken m s reading peer id (event.Error e)
  came subscribers id (body.Reject problem) =
      answer_taken m s reading peer id (event.Reject problem)

  -- what the bytes are read as
  abbrev pub received : List Subscriber → Result Apdu NoApdu → Decision
  received subscribers (Ok a) = came subscribers a.id a.body
  received subscribers (Err (RejectDue id problem)) =
      taken s reading peer id (Answer (body.Reject (problem_number problem)))
  received subscribers (Err Garbled) = Err refusal.Garbled

-- a peer's bytes are delivered, with a draw
abbrev pub delivered :
    Meaning → Service → ℕ → ℕ → List ℕ → List ℕ → List Link → List Subscriber → Decision
delivered m s reading peer draw bytes links subscribers = do
  ready s reading
  drawn ← draw_check links peer draw
  received m s reading peer drawn subscribers (received_as bytes)

-- a terminal replies to the challenge of a dialogue
abbrev pub replied : Meaning → Service → ℕ → OwnNumber → List ℕ → Decision
replied m s reading name response = do
  ready s reading
  r ← response_check response
  met m s reading (event.Reply r) (found (awaits_reply name) s.dialogues)
