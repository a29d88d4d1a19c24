-- Machines that change dialogues, or answer, where a call may not.
use Rattle.std.specs.Prelude.{◌-◌, if◌then◌else◌, List, [], ◌∷◌, drop, replicate, Some, None, Ok, Err, Option, Result}
use Rattle.std.specs.Option.{option_map}
use Rattle.refusal.specs.declared.Refusal.{Refusal}
use Rattle.exchange.specs.declared.dialogue.Dialogue.{Dialogue}
use Rattle.exchange.specs.Done.{Done}
use Rattle.exchange.specs.declared.service.Service.{Service}
use Rattle.exchange.specs.declared.state.State.TheVariants.{Executing}
use Rattle.exchange.specs.Outcome.{After}
use Rattle.exchange.specs.Examples.{in_service}
use Rattle.exchange.specs.FitOut.{duration}
use Rattle.exchange.specs.Moves.{MovesBy}
use Rattle.exchange.specs.Runs.{PlainInitiation, Clock, Machine, called}
use Rattle.exchange.specs.Service.{opened, read_at}
use Rattle.exchange.specs.State.{timer_of, is_at_terminal}
use Rattle.exchange.specs.Table.{ends_by}
use Rattle.exchange.specs.Wrong.{with_dialogues, with_state, owing_otherwise, leaving_changed, leaving_places, if_quiet, if_challenged, tells_the_next_peer, starts_timers_anew, gives_the_first_name_again}

-- a quiet clock changes the places
abbrev pub changing_at_quiet_clocks : (Option Dialogue → Option Dialogue) → Machine
changing_at_quiet_clocks change m s (Clock reading out) =
    let after = called m s (Clock reading out) in
    if_quiet (leaving_places change) after.result after
changing_at_quiet_clocks change m s c = called m s c

-- a dialogue, opened at the start of its timer
abbrev pub opened_with_its_timer : Service → Dialogue → Dialogue
opened_with_its_timer s d = record d { opened = d.ends - duration s.fit (timer_of d.state) }

-- a quiet clock notes the start of a dialogue's timer as its opening
abbrev pub notes_a_later_opening : Machine
notes_a_later_opening m s c = changing_at_quiet_clocks (option_map (opened_with_its_timer s)) m s c

-- what stands at a place, unless it is at the terminal
abbrev pub unless_at_terminal : Option Dialogue → Option Dialogue
unless_at_terminal None = None
unless_at_terminal (Some d) = if is_at_terminal d.state then None else Some d

-- a quiet clock forgets the dialogues at the terminal
abbrev pub forgets_the_terminal : Machine
forgets_the_terminal m s c = changing_at_quiet_clocks unless_at_terminal m s c

-- a quiet clock opens a dialogue at the terminal, in the first place, which nobody asked for
abbrev pub opens_unasked : Machine
opens_unasked m s (Clock reading out) =
    let after = called m s (Clock reading out) in
    let unasked = Executing None (replicate 4 0) in
    if_quiet (leaving_changed (λ now. opened now reading 0 unasked)) after.result after
opens_unasked m s c = called m s c

-- what stands in the first place stands in the second too
abbrev pub doubled : List (Option Dialogue) → List (Option Dialogue)
doubled [] = []
doubled (slot ∷ slots) = slot ∷ slot ∷ drop 1 slots

-- a request opens a second dialogue, like the first
abbrev pub opens_two_at_once : Machine
opens_two_at_once m s (PlainInitiation reading digits peer links out) =
    leaving_changed (λ after. with_dialogues after (doubled after.dialogues))
    (called m s (PlainInitiation reading digits peer links out))
opens_two_at_once m s c = called m s c

-- a dialogue owes nothing once it has gone on to the terminal
abbrev pub forgets_the_debt : Machine
forgets_the_debt m s c =
    let after = called m s c in
    let without_debt = option_map (with_state (owing_otherwise (λ owed. None))) in
    if_challenged (λ name. leaving_places without_debt) after.result after

-- a clock closes every dialogue whose timer has ended
abbrev pub closes_all_at_once : Machine
closes_all_at_once m s (Clock reading out) =
    leaving_places (λ slot. if ends_by reading slot then None else slot)
    (called m s (Clock reading out))
closes_all_at_once m s c = called m s c

-- a clock that closes a dialogue moves the last reading
abbrev pub moves_the_reading : Machine
moves_the_reading m s (Clock reading out) =
    leaving_changed (λ after. read_at after reading) (called m s (Clock reading out))
moves_the_reading m s c = called m s c

-- no dialogue is left where a call was refused
abbrev pub forgotten_if_refused : Result Done Refusal → After → After
forgotten_if_refused (Ok done) after = after
forgotten_if_refused (Err n) after = leaving_places (λ slot. None) after

-- a refused call forgets all dialogues
abbrev pub forgets_where_it_refuses : Machine
forgets_where_it_refuses m s c =
    let after = called m s c in forgotten_if_refused after.result after

-- a call does no more to the table than it may: of these machines it is false
pub record WrongMovesAreRefuted : Type 0 where
  pub an_opening_is_not_noted_later : MovesBy notes_a_later_opening in_service → ⊥
  pub a_timer_is_not_started_anew : MovesBy starts_timers_anew in_service → ⊥
  pub a_quiet_clock_closes_nothing : MovesBy forgets_the_terminal in_service → ⊥
  pub a_clock_opens_nothing : MovesBy opens_unasked in_service → ⊥
  pub a_request_opens_one_dialogue : MovesBy opens_two_at_once in_service → ⊥
  pub a_dialogue_that_goes_on_owes_the_same : MovesBy forgets_the_debt in_service → ⊥
  pub a_clock_closes_one_dialogue : MovesBy closes_all_at_once in_service → ⊥
  pub an_expiry_leaves_the_last_reading : MovesBy moves_the_reading in_service → ⊥
  pub a_refused_call_closes_nothing : MovesBy forgets_where_it_refuses in_service → ⊥
  pub an_answer_is_to_what_was_owed : MovesBy tells_the_next_peer in_service → ⊥
  pub a_name_is_not_given_again : MovesBy gives_the_first_name_again in_service → ⊥
