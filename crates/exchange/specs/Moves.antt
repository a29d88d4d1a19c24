-- What holds of every run: what a call may do to the table of dialogues.
use Rattle.std.specs.Prelude.{◌≡◌, ℕ, ◌<◌, ◌≤◌, ◌⊎◌, true, false, List, get_or, Some, None, Ok, Option, is_ok}
use Rattle.std.specs.List.{AllByRecursion}
use Rattle.apdu.specs.declared.apdus.Apdu.{Apdu}
use Rattle.apdu.specs.declared.apdus.Body.TheVariants as body
use Rattle.apdu.specs.Decode.{received_as}
use Rattle.apdu.specs.declared.apdus.Invoke.{Invoke}
use Rattle.algorithm.specs.Meaning.{Meaning}
use Rattle.exchange.specs.declared.dialogue.Dialogue.{Dialogue}
use Rattle.exchange.specs.declared.fit_out.FitOut.{FitOut}
use Rattle.exchange.specs.declared.invokes.Owed.{Owed}
use Rattle.exchange.specs.declared.service.Service.{Service}
use Rattle.exchange.specs.Runs.{Call, Delivery, Reply, Clock, Given, Machine, CallMade, reading_of, called, history, is_invoke, invokes, answers, takes, sends_to}
use Rattle.exchange.specs.State.{end_of, owed_by, is_owed_to}
use Rattle.exchange.specs.Table.{Has, awaits, awaits_reply, has_left}

-- what a dialogue owes that a call opens: a request's owes nothing, and a delivery's exactly the invoke that was delivered;
-- no reply and no clock opens one
abbrev pub OpensOwing : Call → Option Owed → Type 0
OpensOwing (Delivery reading peer draw bytes links subscribers out) owed =
    (id : ℕ) × (i : Invoke)
    × (received_as bytes ≡ Ok (record { id = id; body = body.Invoke i }))
    × (owed ≡ Some (record { peer = peer; id = record { 0 = id } }))
OpensOwing (Reply reading name response out) owed = ⊥
OpensOwing (Clock reading out) owed = ⊥
OpensOwing request owed = owed ≡ None

-- a call opens a dialogue: under the next number, and its opening and its timer are of the call's reading
pub record Opened (fit : FitOut) (before : Service) (c : Call) (d : Dialogue) : Type 0 where
  pub name : d.name ≡ before.next
  pub opened : d.opened ≡ reading_of c
  pub ends : d.ends ≡ end_of fit (reading_of c) d.state
  pub owes : OpensOwing c (owed_by d.state)

-- a call is the delivery of an answer that a dialogue awaits, from the peer and under the id
abbrev pub AnswerTo : Call → Dialogue → Type 0
AnswerTo (Delivery reading peer draw bytes links subscribers out) d =
    (a : Apdu) × (received_as bytes ≡ Ok a) × (is_invoke a.body ≡ false)
    × (awaits peer a.id (Some d) ≡ true)
AnswerTo c d = ⊥

-- a dialogue goes on at the answer that it awaited: only its state changes, and the timer is of the call's reading
pub record WentOn (fit : FitOut) (before : Service) (c : Call) (d : Dialogue) : Type 0 where
  pub from : Dialogue
  pub stood : Has from before.dialogues
  pub answer : AnswerTo c from
  pub name : d.name ≡ from.name
  pub opened : d.opened ≡ from.opened
  pub owes : owed_by d.state ≡ owed_by from.state
  pub ends : d.ends ≡ end_of fit (reading_of c) d.state

-- what closes a dialogue: the clock at or past its timer's end, a reply under its name while it is at the terminal, or the
-- answer that it awaits; no request does
abbrev pub Closes : Call → Dialogue → Type 0
Closes (Clock reading out) d = d.ends ≤ reading
Closes (Reply reading name response out) d = awaits_reply name (Some d) ≡ true
Closes c d = AnswerTo c d

-- a dialogue stood before a call, and after it its name is in no place
pub record HasLeft (e : CallMade) (d : Dialogue) : Type 0 where
  pub stood : Has d e.before.dialogues
  pub gone : has_left e.after.service.dialogues (Some d) ≡ true

-- a call to clock
abbrev pub IsClock : Call → Type 0
IsClock (Clock reading out) = Unit {0}
IsClock call = ⊥

-- what a call may do to the table
pub record Moves (fit : FitOut) (e : CallMade) : Type 0 where
  -- each dialogue after it stood before, as it is, or the call is done and opened it, or it went on
  pub comes : (d : Dialogue) → Has d e.after.service.dialogues →
      Has d e.before.dialogues
      ⊎ ((is_ok e.after.result ≡ true)
      × (Opened fit e.before e.call d ⊎ WentOn fit e.before e.call d))
  -- one that has left was closed by the call, which is done
  pub goes : (d : Dialogue) → HasLeft e d → (is_ok e.after.result ≡ true) × Closes e.call d
  -- no other has left with it
  pub alone : (d other : Dialogue) → HasLeft e d → HasLeft e other → d ≡ other
  -- where the clock closed it, the last reading stays
  pub reading : IsClock e.call → (d : Dialogue) → HasLeft e d → e.after.service.last ≡ e.before.last
  -- an answer that is sent is to the invoke that the call took, or is what the dialogue owed that has left
  pub answers : (peer id : ℕ) → sends_to (answers id) peer e ≡ true →
      (takes (invokes id) peer e ≡ true)
      ⊎ ((d : Dialogue) × HasLeft e d × (is_owed_to peer id (owed_by d.state) ≡ true))

-- no call lowers the next number; after it, names are below that number, and no two places have dialogues of one name
pub record Named (e : CallMade) : Type 0 where
  pub next : e.before.next.0 ≤ e.after.service.next.0
  pub below : (d : Dialogue) → Has d e.after.service.dialogues → d.name.0 < e.after.service.next.0
  pub apart : (i j : ℕ) (a b : Dialogue)
      → get_or e.after.service.dialogues i None ≡ Some a
      → get_or e.after.service.dialogues j None ≡ Some b
      → a.name ≡ b.name
      → i ≡ j

-- at every call, done or refused, of every list of calls
abbrev pub MovesBy : Machine → Service → Type 0
MovesBy does s =
    (calls : List (Meaning × Call)) → AllByRecursion Given calls
    → AllByRecursion (λ e. Moves s.fit e × Named e) (history does s calls)

-- of an exchange that is called
abbrev pub AlwaysMoves : Service → Type 0
AlwaysMoves s = MovesBy called s
