-- Runs: calls one after another, and what is counted in their history.
use Rattle.std.specs.Prelude.{◌≡◌, ℕ, Bool, true, false, if◌then◌else◌, not, ◌&&◌, List, Option, [], ◌∷◌, length, take, Ok, Err, Result, ◌==◌, is_ok, count_by}
use Rattle.std.specs.List.{AllByRecursion}
use Rattle.refusal.specs.declared.Refusal.{Refusal}
use Rattle.apdu.specs.declared.apdus.Apdu.{Apdu}
use Rattle.apdu.specs.declared.apdus.Body.{Body}
use Rattle.apdu.specs.declared.apdus.Body.TheVariants as body
use Rattle.apdu.specs.NoApdu.{NoApdu}
use Rattle.apdu.specs.declared.apdus.NoApdu.TheVariants.{RejectDue, Garbled}
use Rattle.apdu.specs.Decode.{received_as}
use Rattle.wire.specs.Fields.{Bytes}
use Rattle.values.specs.Sizes.{user_key_size}
use Rattle.algorithm.specs.Meaning.{Meaning, IsSized}
use Rattle.entries.specs.declared.link.Link.{Link}
use Rattle.entries.specs.declared.subscriber.Subscriber.{Subscriber}
use Rattle.exchange.specs.declared.dialogue.Dialogue.{Dialogue}
use Rattle.exchange.specs.declared.invokes.OwnNumber.{OwnNumber}
use Rattle.exchange.specs.Done.{Done}
use Rattle.exchange.specs.declared.outcome.Done.TheVariants.{Quiet, Sent, Reported}
use Rattle.exchange.specs.declared.service.Service.{Service}
use Rattle.exchange.specs.Calls.{initiated, initiated_with_values, visitor_started, proof_requested, clocked}
use Rattle.exchange.specs.Deliver.{delivered, replied}
use Rattle.exchange.specs.Outcome.{Decision, After, at_edge, buffer_check}
use Rattle.exchange.specs.Service.{◌>>◌}
use Rattle.exchange.specs.Table.{ends_by, owes, awaits, has_left}

-- a call to an exchange in service, with what it is given: its reading first, the buffer lent last, and the directories as they are then
pub data Call : Type 0 where
  PlainInitiation :
      (reading : ℕ) (digits : List ℕ) (peer : ℕ) (links : List Link) (out : List ℕ) → Call
  InitiationWithValues :
      (reading : ℕ) (digits : List ℕ) (peer : ℕ) (links : List Link) (out : List ℕ) → Call
  VisitorStart : (reading : ℕ) (digits out : List ℕ) → Call
  NetworkProof : (reading : ℕ) (digits challenge out : List ℕ) → Call
  Delivery :
      (reading peer : ℕ) (draw bytes : List ℕ) (links : List Link)
      (subscribers : List Subscriber) (out : List ℕ) → Call
  Reply : (reading : ℕ) (name : OwnNumber) (response out : List ℕ) → Call
  Clock : (reading : ℕ) (out : List ℕ) → Call

-- the reading that a call brings
abbrev pub reading_of : Call → ℕ
reading_of (PlainInitiation reading digits peer links out) = reading
reading_of (InitiationWithValues reading digits peer links out) = reading
reading_of (VisitorStart reading digits out) = reading
reading_of (NetworkProof reading digits challenge out) = reading
reading_of (Delivery reading peer draw bytes links subscribers out) = reading
reading_of (Reply reading name response out) = reading
reading_of (Clock reading out) = reading

-- the buffer that it is lent
abbrev pub buffer_of : Call → List ℕ
buffer_of (PlainInitiation reading digits peer links out) = out
buffer_of (InitiationWithValues reading digits peer links out) = out
buffer_of (VisitorStart reading digits out) = out
buffer_of (NetworkProof reading digits challenge out) = out
buffer_of (Delivery reading peer draw bytes links subscribers out) = out
buffer_of (Reply reading name response out) = out
buffer_of (Clock reading out) = out

-- what a call decides, over what the exchange keeps: the buffer has no say
abbrev pub decided : Meaning → Service → Call → Decision
decided m s (PlainInitiation reading digits peer links out) = initiated s reading digits peer links
decided m s (InitiationWithValues reading digits peer links out) =
    initiated_with_values s reading digits peer links
decided m s (VisitorStart reading digits out) = visitor_started s reading digits
decided m s (NetworkProof reading digits challenge out) =
    proof_requested s reading digits challenge m.number
decided m s (Delivery reading peer draw bytes links subscribers out) =
    delivered m s reading peer draw bytes links subscribers
decided m s (Reply reading name response out) = replied m s reading name response
decided m s (Clock reading out) = clocked s reading

-- what a call gives and leaves: the buffer's size is looked at first, and what is decided is written to it
abbrev pub called : Meaning → Service → Call → After
called m s c = at_edge s (buffer_of c) do
  buffer_check (length (buffer_of c))
  decided m s c

-- a user key has 16 bytes
abbrev pub KeySized : Subscriber → Type 0
KeySized s = length s.user_key ≡ user_key_size

-- what the types of the code say of a call: what is delivered is bytes, and user keys have their size
abbrev pub Typed : Call → Type 0
Typed (Delivery reading peer draw bytes links subscribers out) =
    Bytes bytes × AllByRecursion KeySized subscribers
Typed call = Unit {0}

-- a call, and what the algorithm means that it is given: any whose answers have their sizes, another at each call
abbrev pub Given : Meaning × Call → Type 0
Given (m, call) = IsSized m × Typed call

-- one call of a run: the exchange before it, the call, what it gave and what it left
pub record CallMade : Type 0 where
  pub before : Service
  pub call : Call
  pub after : After

-- what some machine gives and leaves at a call
abbrev pub Machine : Type 0
Machine = Meaning → Service → Call → After

-- done or refused, each call finds the exchange as the call before it left it
abbrev pub history : Machine → Service → List (Meaning × Call) → List CallMade
history does s [] = []
history does s ((m, c) ∷ cs) =
    record { before = s; call = c; after = does m s c } ∷ history does (does m s c).service cs

-- the exchange after the calls
abbrev pub at_end : Machine → Service → List (Meaning × Call) → Service
at_end does s [] = s
at_end does s ((m, c) ∷ cs) = at_end does (does m s c).service cs

-- what an APDU brings is an invoke
abbrev pub is_invoke : Body → Bool
is_invoke (body.Invoke i) = true
is_invoke b = false

-- bytes that are read as an invoke under an id, also as one that is due a reject
abbrev pub invokes : ℕ → Result Apdu NoApdu → Bool
invokes id (Ok a) = is_invoke a.body && (a.id == id)
invokes id (Err (RejectDue due problem)) = due == id
invokes id (Err Garbled) = false

-- bytes that are read as an answer under an id: a result, an error or a reject
abbrev pub answers : ℕ → Result Apdu NoApdu → Bool
answers id (Ok a) = not (is_invoke a.body) && (a.id == id)
answers id (Err e) = false

-- a call delivers bytes of a peer that are read so
abbrev pub brings : (Result Apdu NoApdu → Bool) → ℕ → Call → Bool
brings read peer (Delivery reading from draw bytes links subscribers out) =
    read (received_as bytes) && (from == peer)
brings read peer call = false

-- bytes that are read so are taken from a peer: their delivery is not refused
abbrev pub takes : (Result Apdu NoApdu → Bool) → ℕ → CallMade → Bool
takes read peer e = is_ok e.after.result && brings read peer e.call

-- what a call gives sends bytes that are read so to a peer: they stand at the front of the buffer left
abbrev pub sends : (Result Apdu NoApdu → Bool) → ℕ → List ℕ → Result Done Refusal → Bool
sends read peer left (Ok (Sent to size)) = read (received_as (take size left)) && (to == peer)
sends read peer left (Ok Quiet) = false
sends read peer left (Ok (Reported name report)) = false
sends read peer left (Err n) = false

-- bytes that are read so are sent to a peer by a call of a run
abbrev pub sends_to : (Result Apdu NoApdu → Bool) → ℕ → CallMade → Bool
sends_to read peer e = sends read peer e.after.buffer e.after.result

-- open dialogues that owe an answer to a peer under an id of the peer's
abbrev pub owing : ℕ → ℕ → Service → ℕ
owing peer id s = count_by (owes peer id) s.dialogues

-- open dialogues that await an answer from a peer under an id of ours
abbrev pub awaiting : ℕ → ℕ → Service → ℕ
awaiting peer id s = count_by (awaits peer id) s.dialogues

-- dialogues whose timer has ended by a reading, that await an answer, and that leave the table
abbrev pub leaves_late : ℕ → ℕ → ℕ → List (Option Dialogue) → Option Dialogue → Bool
leaves_late reading peer id after slot =
    ends_by reading slot && awaits peer id slot && has_left after slot

-- an invoke of ours expires where a clock call, at or past its timer's end, closes the dialogue that awaits its answer
abbrev pub lapses : ℕ → ℕ → Service → Service → Call → ℕ
lapses peer id before after (Clock reading out) =
    count_by (leaves_late reading peer id after.dialogues) before.dialogues
lapses peer id before after call = 0

-- a refused call lets nothing expire
abbrev pub expires : ℕ → ℕ → CallMade → ℕ
expires peer id e =
    if is_ok e.after.result then lapses peer id e.before e.after.service e.call else 0
