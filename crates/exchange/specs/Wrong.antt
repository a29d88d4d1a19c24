-- Machines that do wrong: each is the right one with one change, and the law is false of it.
use Rattle.std.specs.Prelude.{ℕ, ◌+◌, List, map, Ok, Option, Result}
use Rattle.std.specs.Option.{option_map}
use Rattle.refusal.specs.declared.Refusal.{Refusal}
use Rattle.exchange.specs.declared.dialogue.Dialogue.{Dialogue}
use Rattle.exchange.specs.declared.invokes.OwnNumber.{OwnNumber}
use Rattle.exchange.specs.declared.invokes.Owed.{Owed}
use Rattle.exchange.specs.declared.state.State.{State}
use Rattle.exchange.specs.declared.state.State.TheVariants.{Executing}
use Rattle.exchange.specs.Done.{Done}
use Rattle.exchange.specs.declared.outcome.Done.TheVariants.{Quiet, Sent, Reported}
use Rattle.exchange.specs.declared.outcome.Report.TheVariants as report
use Rattle.exchange.specs.declared.service.Service.{Service}
use Rattle.exchange.specs.Outcome.{After}
use Rattle.exchange.specs.Dialogue.{goes_on}
use Rattle.exchange.specs.Runs.{Reply, Clock, Machine, called}

-- an exchange with other dialogues
abbrev pub with_dialogues : Service → List (Option Dialogue) → Service
with_dialogues s slots = record s { dialogues = slots }

-- an exchange with another next number
abbrev pub with_next : Service → OwnNumber → Service
with_next s next = record s { next = next }

-- a call gives something else
abbrev pub giving : (Result Done Refusal → Result Done Refusal) → After → After
giving change after = record after { result = change after.result }

-- a call leaves another exchange
abbrev pub leaving_changed : (Service → Service) → After → After
leaving_changed change after = record after { service = change after.service }

-- a call leaves each place otherwise
abbrev pub leaving_places : (Option Dialogue → Option Dialogue) → After → After
leaving_places change after = leaving_changed (λ s. with_dialogues s (map change s.dialogues)) after

-- a call leaves the places of an earlier exchange
abbrev pub leaving_those_of : Service → After → After
leaving_those_of before after = leaving_changed (λ s. with_dialogues s before.dialogues) after

-- where a call was quiet
abbrev pub if_quiet : (After → After) → Result Done Refusal → After → After
if_quiet change (Ok Quiet) after = change after
if_quiet change r after = after

-- where a call gave the terminal of a dialogue a challenge
abbrev pub if_challenged : (OwnNumber → After → After) → Result Done Refusal → After → After
if_challenged change (Ok (Reported name (report.Challenge challenge))) after = change name after
if_challenged change r after = after

-- an APDU is not sent
abbrev pub unsent : Result Done Refusal → Result Done Refusal
unsent (Ok (Sent peer size)) = Ok Quiet
unsent r = r

-- a dialogue with another state
abbrev pub with_state : (State → State) → Dialogue → Dialogue
with_state change d = record d { state = change d.state }

-- at the terminal something else is owed
abbrev pub owing_otherwise : (Option Owed → Option Owed) → State → State
owing_otherwise debt (Executing owed expected) = Executing (debt owed) expected
owing_otherwise debt s = s

-- at the terminal another response is expected
abbrev pub expecting_otherwise : List ℕ → State → State
expecting_otherwise response (Executing owed expected) = Executing owed response
expecting_otherwise response s = s

-- a reply comes to an exchange whose dialogues are otherwise
abbrev pub replying_with : (OwnNumber → List ℕ → Dialogue → Dialogue) → Machine
replying_with change m s (Reply reading name response out) =
    called m (with_dialogues s (map (option_map (change name response)) s.dialogues))
    (Reply reading name response out)
replying_with change m s c = called m s c

-- a reply is answered as if its dialogue owed its verdict otherwise
abbrev pub telling : (OwnNumber → Option Owed → Option Owed) → Machine
telling debt m s c = replying_with (λ name response. with_state (owing_otherwise (debt name))) m s c

-- a reply is judged as if another response were expected
abbrev pub expecting : (List ℕ → List ℕ) → Machine
expecting answer m s c =
    replying_with (λ name response. with_state (expecting_otherwise (answer response))) m s c

-- the verdict goes to the next peer
abbrev pub tells_the_next_peer : Machine
tells_the_next_peer m s c =
    telling (λ name. option_map (λ (owed : Owed). record owed { peer = owed.peer + 1 })) m s c

-- each quiet clock starts the timers anew
abbrev pub starts_timers_anew : Machine
starts_timers_anew m s (Clock reading out) =
    let after = called m s (Clock reading out) in
    let anew = option_map (λ (d : Dialogue). goes_on s.fit reading d d.state) in
    if_quiet (leaving_places anew) after.result after
starts_timers_anew m s c = called m s c

-- each dialogue has the first number, and so the first name
abbrev pub gives_the_first_name_again : Machine
gives_the_first_name_again m s c =
    leaving_changed (λ after. with_next after (record { 0 = 1 })) (called m s c)
