-- Machines that judge replies otherwise than the algorithm does, or tell a verdict to another.
use Rattle.std.specs.Prelude.{◌+◌, List, [], ◌∷◌, map, reverse, replicate, Some, None, Ok, Option, Result}
use Rattle.std.specs.Option.{option_map}
use Rattle.refusal.specs.declared.Refusal.{Refusal}
use Rattle.algorithm.specs.declared.direction.Direction.{Direction}
use Rattle.algorithm.specs.declared.direction.Direction.TheVariants.{User, Network}
use Rattle.entries.specs.declared.subscriber.Subscriber.{Subscriber}
use Rattle.exchange.specs.declared.dialogue.Dialogue.{Dialogue}
use Rattle.exchange.specs.declared.invokes.Owed.{Owed}
use Rattle.exchange.specs.Done.{Done}
use Rattle.exchange.specs.declared.outcome.Done.TheVariants.{Reported}
use Rattle.exchange.specs.declared.outcome.Report.TheVariants as report
use Rattle.exchange.specs.Examples.{in_service}
use Rattle.exchange.specs.Genuine.{GenuineBy}
use Rattle.exchange.specs.Runs.{Delivery, Reply, Machine, called}
use Rattle.exchange.specs.State.{owed_by}
use Rattle.exchange.specs.Wrong.{with_dialogues, with_state, owing_otherwise, giving, replying_with, telling, expecting, tells_the_next_peer, gives_the_first_name_again}

-- every reply is incorrect
abbrev pub finds_all_incorrect : Machine
finds_all_incorrect m s c = expecting (λ response. []) m s c

-- every reply is correct
abbrev pub finds_all_correct : Machine
finds_all_correct m s c = expecting (λ response. response) m s c

-- the algorithm is not asked for a response: zeros are expected
abbrev pub asks_for_no_response : Machine
asks_for_no_response m s c = called (record m { response = λ session challenge. replicate 4 0 }) s c

-- the direction that a proof is not for
abbrev pub other_direction : Direction → Direction
other_direction User = Network
other_direction Network = User

-- a user's session is made for the network's proof
abbrev pub takes_the_other_direction : Machine
takes_the_other_direction m s c =
    called (record m { session = λ d. m.session (other_direction d) }) s c

-- the parameter that was drawn is not used
abbrev pub uses_no_parameter : Machine
uses_no_parameter m s c =
    called (record m { session = λ d key parameter. m.session d key (replicate 8 0) }) s c

-- each delivery finds other subscribers
abbrev pub finding : (List Subscriber → List Subscriber) → Machine
finding change m s (Delivery reading peer draw bytes links subscribers out) =
    called m s (Delivery reading peer draw bytes links (change subscribers) out)
finding change m s c = called m s c

-- subscribers that all have the first one's key
abbrev pub with_one_key : List Subscriber → List Subscriber
with_one_key [] = []
with_one_key (one ∷ others) =
    one ∷ map (λ (other : Subscriber). record other { user_key = one.user_key }) others

-- the first subscriber's key serves for every user
abbrev pub uses_the_first_key : Machine
uses_the_first_key m s c = finding with_one_key m s c

-- of two entries for a user the last is found
abbrev pub finds_the_last_entry : Machine
finds_the_last_entry m s c = finding reverse m s c

-- the bytes of the challenge the other way round
abbrev pub other_challenge : Result Done Refusal → Result Done Refusal
other_challenge (Ok (Reported name (report.Challenge challenge))) =
    Ok (Reported name (report.Challenge (reverse challenge)))
other_challenge r = r

-- the terminal is given another challenge
abbrev pub reports_another_challenge : Machine
reports_another_challenge m s c = giving other_challenge (called m s c)

-- what is owed by the dialogue at a place
abbrev pub owing_of : Option Dialogue → Option Owed
owing_of None = None
owing_of (Some d) = owed_by d.state

-- what stands at a place owes what another owes
abbrev pub owing_that_of : Option Dialogue → Option Dialogue → Option Dialogue
owing_that_of other slot = option_map (with_state (owing_otherwise (λ owed. owing_of other))) slot

-- the dialogues in the first two places owe each other's verdicts
abbrev pub crossed : List (Option Dialogue) → List (Option Dialogue)
crossed (one ∷ other ∷ slots) = owing_that_of other one ∷ owing_that_of one other ∷ slots
crossed slots = slots

-- a reply is answered to what another dialogue owes
abbrev pub crosses_verdicts : Machine
crosses_verdicts m s (Reply reading name response out) =
    called m (with_dialogues s (crossed s.dialogues)) (Reply reading name response out)
crosses_verdicts m s c = called m s c

-- a reply goes to the first dialogue at the terminal, whatever name it has
abbrev pub judges_the_first_at_the_terminal : Machine
judges_the_first_at_the_terminal m s c =
    replying_with (λ name response d. record d { name = name }) m s c

-- owed under the next id
abbrev pub with_the_next_id : Owed → Owed
with_the_next_id owed = record owed { id = record { 0 = owed.id.0 + 1 } }

-- the verdict goes under the next id
abbrev pub answers_under_the_next_id : Machine
answers_under_the_next_id m s c =
    telling (λ name. option_map with_the_next_id) m s c

-- the verdict is reported, and not sent to the peer
abbrev pub tells_no_peer : Machine
tells_no_peer m s c = telling (λ name owed. None) m s c

-- a reply is judged by the algorithm, in the dialogue that it names: of these machines it is false
pub record WrongGenuineIsRefuted : Type 0 where
  pub a_right_reply_is_correct : GenuineBy finds_all_incorrect in_service → ⊥
  pub a_wrong_reply_is_incorrect : GenuineBy finds_all_correct in_service → ⊥
  pub a_session_is_asked_for_its_response : GenuineBy asks_for_no_response in_service → ⊥
  pub a_session_is_for_the_users_proof : GenuineBy takes_the_other_direction in_service → ⊥
  pub a_parameter_is_used : GenuineBy uses_no_parameter in_service → ⊥
  pub a_key_is_that_of_the_user : GenuineBy uses_the_first_key in_service → ⊥
  pub a_user_is_found_at_the_first_entry : GenuineBy finds_the_last_entry in_service → ⊥
  pub a_reply_is_to_the_challenge_reported : GenuineBy reports_another_challenge in_service → ⊥
  pub two_verdicts_are_not_crossed : GenuineBy crosses_verdicts in_service → ⊥
  pub a_reply_is_to_the_dialogue_it_names :
      GenuineBy judges_the_first_at_the_terminal in_service → ⊥
  pub a_verdict_goes_to_the_peer_it_is_owed : GenuineBy tells_the_next_peer in_service → ⊥
  pub a_verdict_goes_under_the_id_it_is_owed : GenuineBy answers_under_the_next_id in_service → ⊥
  pub an_owed_verdict_is_sent : GenuineBy tells_no_peer in_service → ⊥
  pub a_name_is_not_given_again : GenuineBy gives_the_first_name_again in_service → ⊥
