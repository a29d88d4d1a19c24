-- Machines that leave invokes unanswered or unsettled, or answer or settle them twice.
use Rattle.std.specs.Prelude.{◌+◌, ◌-◌, Bool, false, not, if◌then◌else◌, List, [], ◌∷◌, map, Some, None, Ok, Err, Option, Result, ◌==◌}
use Rattle.std.specs.Option.{option_map}
use Rattle.refusal.specs.declared.Refusal.{Refusal}
use Rattle.refusal.specs.declared.Refusal.TheVariants as refusal
use Rattle.exchange.specs.declared.dialogue.Dialogue.{Dialogue}
use Rattle.exchange.specs.declared.fit_out.FitOut.{FitOut}
use Rattle.exchange.specs.declared.invokes.Asked.{Asked}
use Rattle.exchange.specs.declared.invokes.OwnNumber.{OwnNumber}
use Rattle.exchange.specs.declared.invokes.Owed.{Owed}
use Rattle.exchange.specs.Done.{Done}
use Rattle.exchange.specs.declared.outcome.Done.TheVariants.{Quiet}
use Rattle.exchange.specs.declared.outcome.Outcome.TheVariants as outcome
use Rattle.exchange.specs.declared.service.Service.{Service}
use Rattle.exchange.specs.Balance.{BalancedBy}
use Rattle.exchange.specs.Outcome.{at_edge}
use Rattle.exchange.specs.Examples.{in_service}
use Rattle.exchange.specs.Runs.{PlainInitiation, Delivery, Reply, Clock, Machine, called}
use Rattle.exchange.specs.Service.{read_at}
use Rattle.exchange.specs.State.{asked_by}
use Rattle.exchange.specs.Table.{is_named}
use Rattle.exchange.specs.Wrong.{with_dialogues, with_next, giving, leaving_changed, leaving_places, leaving_those_of, if_challenged, unsent, telling, starts_timers_anew}

-- what stands at a place, unless it has a name
abbrev pub unless_named : OwnNumber → Option Dialogue → Option Dialogue
unless_named name slot = if is_named name slot then None else slot

-- a dialogue is forgotten when it goes on to the terminal
abbrev pub forgets_what_goes_on : Machine
forgets_what_goes_on m s c =
    let after = called m s c in
    if_challenged (λ name. leaving_places (unless_named name)) after.result after

-- what stands in the first place, and no other dialogue
abbrev pub first_alone : List (Option Dialogue) → List (Option Dialogue)
first_alone [] = []
first_alone (slot ∷ slots) = slot ∷ map (λ (other : Option Dialogue). None) slots

-- all places but the first are forgotten at each call
abbrev pub keeps_the_first_place_alone : Machine
keeps_the_first_place_alone m s c =
    leaving_changed (λ after. with_dialogues after (first_alone after.dialogues)) (called m s c)

-- everything is done, and nothing is sent
abbrev pub sends_nothing : Machine
sends_nothing m s c = giving unsent (called m s c)

-- nothing comes of an invoke that is still owed
abbrev pub taken_anyway : Result Done Refusal → Result Done Refusal
taken_anyway (Err refusal.Twice) = Ok Quiet
taken_anyway r = r

-- an invoke that is still owed is taken again
abbrev pub takes_what_is_owed : Machine
takes_what_is_owed m s c = giving taken_anyway (called m s c)

-- a reply is answered, and its dialogue stays
abbrev pub keeps_owing : Machine
keeps_owing m s (Reply reading name response out) =
    leaving_those_of s (called m s (Reply reading name response out))
keeps_owing m s c = called m s c

-- the verdict goes to the peer under a number of ours
abbrev pub answers_under_its_own_number : Machine
answers_under_its_own_number m s c =
    telling (λ name. option_map (λ (owed : Owed). record owed { id = record { 0 = name.0 } })) m s c

-- when a timer ends, nothing is sent
abbrev pub expires_in_silence : Machine
expires_in_silence m s (Clock reading out) = giving unsent (called m s (Clock reading out))
expires_in_silence m s c = called m s c

-- each invoke of a peer's is answered once, or owed: of these machines it is false
pub record WrongAnswersAreRefuted : Type 0 where
  pub a_dialogue_that_goes_on_is_kept : BalancedBy forgets_what_goes_on in_service → ⊥
  pub a_dialogue_in_a_later_place_is_kept : BalancedBy keeps_the_first_place_alone in_service → ⊥
  pub an_answer_is_sent : BalancedBy sends_nothing in_service → ⊥
  pub an_owed_invoke_is_not_taken : BalancedBy takes_what_is_owed in_service → ⊥
  pub an_answered_invoke_is_not_owed : BalancedBy keeps_owing in_service → ⊥
  pub an_answer_has_the_id_of_the_invoke : BalancedBy answers_under_its_own_number in_service → ⊥
  pub an_expiry_is_answered : BalancedBy expires_in_silence in_service → ⊥

-- the clock is a second fast
abbrev pub is_a_second_fast : Machine
is_a_second_fast m s (Clock reading out) = called m s (Clock (reading + 1000) out)
is_a_second_fast m s c = called m s c

-- no timer ends
abbrev pub lets_no_timer_end : Machine
lets_no_timer_end m s (Clock reading out) = at_edge s out (Ok (outcome.Quiet, read_at s reading))
lets_no_timer_end m s c = called m s c

-- an invoke is sent, and no dialogue opens that awaits its answer
abbrev pub forgets_its_requests : Machine
forgets_its_requests m s (PlainInitiation reading digits peer links out) =
    leaving_those_of s (called m s (PlainInitiation reading digits peer links out))
forgets_its_requests m s c = called m s c

-- the invoke of a dialogue with this name is its second
abbrev pub is_second : OwnNumber → Option Asked → Bool
is_second name None = false
is_second name (Some asked) = not (asked.id.0 == name.0)

-- what stands at a place, unless its second invoke is awaited
abbrev pub unless_second : Option Dialogue → Option Dialogue
unless_second None = None
unless_second (Some d) = if is_second d.name (asked_by d.state) then None else Some d

-- a dialogue is forgotten when it sends its second invoke
abbrev pub forgets_its_second_invoke : Machine
forgets_its_second_invoke m s c = leaving_places unless_second (called m s c)

-- the number before one
abbrev pub previous : OwnNumber → OwnNumber
previous number = record { 0 = number.0 - 1 }

-- the second invoke goes under the number of the first
abbrev pub repeats_a_number : Machine
repeats_a_number m s (Delivery reading peer draw bytes links subscribers out) =
    called m (with_next s (previous s.next))
    (Delivery reading peer draw bytes links subscribers out)
repeats_a_number m s c = called m s c

-- nothing comes of an answer that nothing awaits
abbrev pub stray_taken : Result Done Refusal → Result Done Refusal
stray_taken (Err refusal.Stray) = Ok Quiet
stray_taken r = r

-- an answer that nothing awaits is taken
abbrev pub takes_stray_answers : Machine
takes_stray_answers m s c = giving stray_taken (called m s c)

-- each timer a second longer
abbrev pub a_second_longer : FitOut → FitOut
a_second_longer fit = record fit {
  t1 = fit.t1 + 1000;
  t2 = fit.t2 + 1000;
  t3 = fit.t3 + 1000;
  t4 = fit.t4 + 1000;
  t5 = fit.t5 + 1000;
  tr = fit.tr + 1000;
}

-- an exchange with another fit-out
abbrev pub with_fit : Service → FitOut → Service
with_fit s fit = record s { fit = fit }

-- each timer runs a second longer than the fit-out says
abbrev pub runs_timers_too_long : Machine
runs_timers_too_long m s c =
    leaving_changed (λ after. with_fit after s.fit) (called m (with_fit s (a_second_longer s.fit)) c)

-- each invoke of ours is settled once or awaited, and its timer runs: of these machines it is false
pub record WrongSettlementsAreRefuted : Type 0 where
  pub no_timer_ends_early : BalancedBy is_a_second_fast in_service → ⊥
  pub a_timer_ends : BalancedBy lets_no_timer_end in_service → ⊥
  pub an_invoke_is_awaited : BalancedBy forgets_its_requests in_service → ⊥
  pub a_second_invoke_is_awaited : BalancedBy forgets_its_second_invoke in_service → ⊥
  pub a_second_invoke_has_a_number_of_its_own : BalancedBy repeats_a_number in_service → ⊥
  pub a_stray_answer_is_not_taken : BalancedBy takes_stray_answers in_service → ⊥
  pub a_timer_runs_as_fitted : BalancedBy runs_timers_too_long in_service → ⊥
  pub no_dialogue_lasts_two_minutes : BalancedBy starts_timers_anew in_service → ⊥
