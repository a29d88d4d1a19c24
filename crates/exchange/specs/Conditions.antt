-- When a call is refused, and with which number: the condition of each refusal, said of the call and of the open dialogues.
use Rattle.std.specs.Prelude.{◌≡◌, ◌≢◌, ℕ, ◌<◌, ◌≤◌, ◌⊎◌, ◌↔◌, Bool, true, false, not, ◌&&◌, ◌||◌, List, length, Some, None, Ok, Err, Option, Result, ◌==◌, count_by, is_some, is_ok}
use Rattle.std.specs.List.{AllByRecursion}
use Rattle.refusal.specs.declared.Refusal.{Refusal}
use Rattle.refusal.specs.declared.Refusal.TheVariants.{ShortSheet, ClockBack, TimerDue, Misdialled, Garbled, Stray, Twice, Full, Spent, Misfitted}
use Rattle.refusal.specs.Refusals.{refusal_number}
use Rattle.wire.specs.declared.codes.Operation.{Operation}
use Rattle.wire.specs.declared.codes.Operation.TheVariants as operation
use Rattle.wire.specs.Codes.{operation_number}
use Rattle.apdu.specs.declared.apdus.Apdu.{Apdu}
use Rattle.apdu.specs.declared.apdus.Body.{Body}
use Rattle.apdu.specs.declared.apdus.Body.TheVariants as body
use Rattle.apdu.specs.declared.apdus.ReturnResult.{ReturnResult}
use Rattle.apdu.specs.declared.apdus.ReturnResult.TheVariants.{AuthWtmUser, WtatParam, WtanParam}
use Rattle.apdu.specs.declared.apdus.NoApdu.TheVariants as no_apdu
use Rattle.apdu.specs.Decode.{received_as}
use Rattle.apdu.specs.Encode.{least_buffer}
use Rattle.apdu.specs.Operations.{result_operation}
use Rattle.values.specs.Sizes.{challenge_size, draw_size, response_size}
use Rattle.values.specs.User.{most_digits}
use Rattle.wire.specs.declared.codes.Provider.TheVariants.{Home, Server}
use Rattle.algorithm.specs.Meaning.{Meaning}
use Rattle.entries.specs.declared.link.Link.{Link}
use Rattle.exchange.specs.declared.dialogue.Dialogue.{Dialogue}
use Rattle.exchange.specs.Done.{Done}
use Rattle.exchange.specs.declared.service.Service.{Service}
use Rattle.exchange.specs.declared.state.State.{State}
use Rattle.exchange.specs.declared.state.State.TheVariants.{FetchingForInitiation, Initiating, FetchingForVisitor, Requesting, Executing, RequestingProof, FetchingProof}
use Rattle.exchange.specs.Bounds.{most_dialogues, highest_reading, last_opening}
use Rattle.exchange.specs.Moves.{IsClock}
use Rattle.exchange.specs.Results.{is_session, is_proof_session}
use Rattle.exchange.specs.Runs.{Call, PlainInitiation, InitiationWithValues, VisitorStart, NetworkProof, Delivery, Reply, Clock, Given, Machine, reading_of, buffer_of, called, at_end, is_invoke, invokes}
use Rattle.exchange.specs.Table.{Has, owes, awaits, awaits_reply}

-- some open dialogue is such
abbrev pub SomeOpen : Service → (Dialogue → Type 0) → Type 0
SomeOpen s P = (d : Dialogue) × Has d s.dialogues × P d

-- 1 to 15 ASCII digits
abbrev pub IsUserText : List ℕ → Type 0
IsUserText text =
    (1 ≤ length text) × (length text ≤ most_digits)
    × AllByRecursion (λ c. (48 ≤ c) × (c ≤ 57)) text

-- a peer that is none of the links
abbrev pub IsUnlinked : List Link → ℕ → Type 0
IsUnlinked links peer = AllByRecursion (λ link. link.peer ≢ peer) links

-- what a call gives is not as it has to be: user, peer, challenge, draw or response
abbrev pub IsMisdialled : Call → Type 0
IsMisdialled (PlainInitiation reading digits peer links out) =
    ¬ (IsUserText digits) ⊎ IsUnlinked links peer
IsMisdialled (InitiationWithValues reading digits peer links out) =
    ¬ (IsUserText digits) ⊎ IsUnlinked links peer
IsMisdialled (VisitorStart reading digits out) = ¬ (IsUserText digits)
IsMisdialled (NetworkProof reading digits challenge out) =
    ¬ (IsUserText digits) ⊎ (length challenge ≢ challenge_size)
IsMisdialled (Delivery reading peer draw bytes links subscribers out) =
    IsUnlinked links peer ⊎ (length draw ≢ draw_size)
IsMisdialled (Reply reading name response out) = length response ≢ response_size
IsMisdialled (Clock reading out) = ⊥

-- the operation whose result a state awaits
abbrev pub awaited_operation : State → Option Operation
awaited_operation (FetchingForInitiation asked user peer) = Some (operation.WtatParam Server)
awaited_operation (Initiating asked) = Some operation.AuthWtmUser
awaited_operation (FetchingForVisitor asked owed computes) = Some (operation.WtatParam Server)
awaited_operation (Requesting asked owed computes) = Some (operation.WtatParam Home)
awaited_operation (Executing owed expected) = None
awaited_operation (RequestingProof asked computes challenge) = Some (operation.WtanParam Home)
awaited_operation (FetchingProof asked owed computes) = Some (operation.WtanParam Server)

-- a result brings a session
abbrev pub brings_session : ReturnResult → Bool
brings_session (AuthWtmUser verdict) = false
brings_session (WtatParam provider r) = is_session r.info
brings_session (WtanParam provider r) = is_proof_session r

-- the algorithm's number in a result, where it has one, is this
abbrev pub is_under : ℕ → ReturnResult → Bool
is_under number (WtatParam provider r) = r.algorithm == number
is_under number r = true

-- a session is taken: only where our invoke said that the asker can compute, and by a visitor only under our own algorithm
abbrev pub takes_session : ℕ → State → ReturnResult → Bool
takes_session number (FetchingForVisitor asked owed computes) r = computes
takes_session number (Requesting asked owed computes) r = computes && is_under number r
takes_session number (RequestingProof asked computes challenge) r = computes
takes_session number (FetchingProof asked owed computes) r = computes
takes_session number s r = false

-- an operation performed is the one that is awaited
abbrev pub same_operation : Option Operation → Operation → Bool
same_operation None performed = false
same_operation (Some awaited) performed = operation_number awaited == operation_number performed

-- a state awaits what an answer says: any error and any reject, and a result of its operation, without a session or with one
-- that it takes
abbrev pub is_awaited : ℕ → State → Body → Bool
is_awaited number s (body.Invoke i) = false
is_awaited number s (body.ReturnResult r) =
    same_operation (awaited_operation s) (result_operation r)
    && (not (brings_session r) || takes_session number s r)
is_awaited number s (body.ReturnError e) = true
is_awaited number s (body.Reject problem) = true

-- an answer or a reply that nothing awaits
abbrev pub IsStray : Meaning → Service → Call → Type 0
IsStray m s (Delivery reading peer draw bytes links subscribers out) =
    (a : Apdu) × (received_as bytes ≡ Ok a) × (is_invoke a.body ≡ false)
    × ¬ (SomeOpen s (λ d.
    (awaits peer a.id (Some d) ≡ true) × (is_awaited m.number d.state a.body ≡ true)))
IsStray m s (Reply reading name response out) =
    ¬ (SomeOpen s (λ d. awaits_reply name (Some d) ≡ true))
IsStray m s call = ⊥

-- bytes that are neither an APDU nor due a reject
abbrev pub IsGarbled : Call → Type 0
IsGarbled (Delivery reading peer draw bytes links subscribers out) =
    received_as bytes ≡ Err no_apdu.Garbled
IsGarbled call = ⊥

-- an invoke, also one that is due a reject, whose peer and id are still owed their answer
abbrev pub IsTwice : Service → Call → Type 0
IsTwice s (Delivery reading peer draw bytes links subscribers out) =
    (id : ℕ) × (invokes id (received_as bytes) ≡ true)
    × SomeOpen s (λ d. owes peer id (Some d) ≡ true)
IsTwice s call = ⊥

-- a call to one of the four requests
abbrev pub IsOpening : Call → Type 0
IsOpening (Delivery reading peer draw bytes links subscribers out) = ⊥
IsOpening (Reply reading name response out) = ⊥
IsOpening (Clock reading out) = ⊥
IsOpening call = Unit {0}

-- the condition of each refusal
abbrev pub Condition : Meaning → Service → Call → Refusal → Type 0
Condition m s c ShortSheet = length (buffer_of c) < least_buffer
Condition m s c ClockBack = (reading_of c < s.last) ⊎ (highest_reading < reading_of c)
Condition m s c TimerDue = ¬ (IsClock c) × SomeOpen s (λ d. d.ends ≤ reading_of c)
Condition m s c Misdialled = IsMisdialled c
Condition m s c Garbled = IsGarbled c
Condition m s c Stray = IsStray m s c
Condition m s c Twice = IsTwice s c
Condition m s c Full = IsOpening c × (count_by is_some s.dialogues ≡ most_dialogues)
Condition m s c Spent = IsOpening c × (last_opening < s.next.0)
Condition m s c Misfitted = ⊥

-- a call is refused with a number exactly where its condition holds and none of a lower number does, and is done exactly where
-- none holds
pub record RefusedByLowest
    (m : Meaning) (s : Service) (c : Call) (result : Result Done Refusal) : Type 0 where
  pub done : (is_ok result ≡ true) ↔ ((n : Refusal) → ¬ (Condition m s c n))
  pub refused : (n : Refusal) →
      (result ≡ Err n)
      ↔ (Condition m s c n
      × ((k : Refusal) → refusal_number k < refusal_number n → ¬ (Condition m s c k)))

-- at every call, after every list of calls
abbrev pub RefusesBy : Machine → Service → Type 0
RefusesBy does s =
    (calls : List (Meaning × Call)) → AllByRecursion Given calls → (m : Meaning) (c : Call) →
    RefusedByLowest m (at_end does s calls) c (does m (at_end does s calls) c).result

-- of an exchange that is called
abbrev pub AlwaysRefuses : Service → Type 0
AlwaysRefuses s = RefusesBy called s
