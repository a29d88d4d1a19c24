-- The law of the balances is false of machines that do wrong, each by a run that is computed. Assumes nothing.
use Rattle.std.proofs.Common.{◌≡◌, ℕ, ◌+◌, ◌≤◌, ◌<◌, false, [], ◌∷◌, Some, inl, refl, arith}
use Rattle.exchange.specs.declared.dialogue.Dialogue.{Dialogue}
use Rattle.exchange.specs.declared.state.State.TheVariants.{Initiating}
use Rattle.exchange.specs.Examples.{server, visitor_peer, asker, links, sums, digits, buffer, first}
use Rattle.exchange.specs.Runs.{InitiationWithValues}
use Rattle.exchange.specs.WrongBalance.{WrongAnswersAreRefuted, WrongSettlementsAreRefuted}
use Rattle.exchange.proofs.Bench.{plainly, given, initiates, replies, clock, deliver, unit, right, asks_values, enquired, visit_by_home, visit_by_home_given, visit, visit_given}

pub wrong_answers : WrongAnswersAreRefuted
wrong_answers = record {
  a_dialogue_that_goes_on_is_kept = λ law.
      let k : 1 ≡ 0 + 0 = ((law visit_by_home visit_by_home_given).answered asker 9).0 in absurd (omega arith);
  a_dialogue_in_a_later_place_is_kept = λ law.
      let k : 1 ≡ 0 + 0 = ((law (initiates 10 ∷ visit_by_home) (plainly, visit_by_home_given)).answered asker 9).0 in absurd (omega arith);
  an_answer_is_sent = λ law.
      let k : 1 ≡ 0 + 0 = ((law (deliver 10 asker 9 (asks_values false) ∷ []) (given 10 asker 9 (asks_values false) refl, tt)).answered asker 9).0 in absurd (omega arith);
  an_owed_invoke_is_not_taken = λ law.
      let k : 2 ≡ 0 + 1 = ((law (visit ∷ visit ∷ []) (visit_given, (visit_given, tt))).answered asker 9).0 in absurd (omega arith);
  an_answered_invoke_is_not_owed = λ law.
      let k : 1 ≡ 1 + 1 = ((law (visit ∷ replies 20 first (right unit.challenge) ∷ []) (visit_given, (plainly, tt))).answered asker 9).0 in absurd (omega arith);
  an_answer_has_the_id_of_the_invoke = λ law.
      let k : 1 ≡ 0 + 0 = ((law (visit ∷ replies 20 first (right unit.challenge) ∷ []) (visit_given, (plainly, tt))).answered asker 9).0 in absurd (omega arith);
  an_expiry_is_answered = λ law.
      let k : 1 ≡ 0 + 0 = ((law (visit ∷ clock 60010 ∷ []) (visit_given, (plainly, tt))).answered asker 9).0 in absurd (omega arith);
}

-- an initiation at the visited exchange, opened at 10
abbrev initiation : ℕ → Dialogue
initiation ends = record { name = first; opened = 10; ends = ends; state = Initiating (record { peer = visitor_peer; id = first }) }

pub wrong_settlements : WrongSettlementsAreRefuted
wrong_settlements = record {
  no_timer_ends_early = λ law.
      let k : 1 ≡ 0 + 0 + 0 = ((law (initiates 10 ∷ clock 59500 ∷ []) (plainly, (plainly, tt))).settled visitor_peer 1).0 in absurd (omega arith);
  a_timer_ends = λ law.
      let k : 60010 < 60010 = ((law (initiates 10 ∷ clock 60010 ∷ []) (plainly, (plainly, tt))).running (initiation 60010) (inl (refl {a = Some (initiation 60010)}))).ends_later in absurd (omega arith);
  an_invoke_is_awaited = λ law.
      let k : 1 ≡ 0 + 0 + 0 = ((law (initiates 10 ∷ []) (plainly, tt)).settled visitor_peer 1).0 in absurd (omega arith);
  a_second_invoke_is_awaited = λ law.
      let k : 1 ≡ 0 + 0 + 0 = ((law ((sums, InitiationWithValues 10 digits visitor_peer links buffer) ∷ deliver 20 server 1 enquired ∷ []) (plainly, (given 20 server 1 enquired refl, tt))).settled visitor_peer 2).0 in absurd (omega arith);
  a_second_invoke_has_a_number_of_its_own = λ law.
      let k : 2 ≤ 1 = ((law ((sums, InitiationWithValues 10 digits server links buffer) ∷ deliver 20 server 1 enquired ∷ []) (plainly, (given 20 server 1 enquired refl, tt))).settled server 1).1 in absurd (omega arith);
  a_stray_answer_is_not_taken = λ law.
      let k : 0 ≡ 1 + 0 + 0 = ((law (deliver 10 server 1 enquired ∷ []) (given 10 server 1 enquired refl, tt)).settled server 1).0 in absurd (omega arith);
  a_timer_runs_as_fitted = λ law.
      let k = ((law (initiates 10 ∷ []) (plainly, tt)).running (initiation 61010) (inl (refl {a = Some (initiation 61010)}))).started in
      let late : k.0 ≤ 10 = k.2 in let ends : 61010 ≡ k.0 + 60000 = k.3 in absurd (omega arith);
  no_dialogue_lasts_two_minutes = λ law.
      let k : 120010 < 10 + 120000 = ((law (initiates 10 ∷ clock 60009 ∷ clock 120008 ∷ clock 120010 ∷ []) (plainly, (plainly, (plainly, (plainly, tt))))).running (initiation 180010) (inl (refl {a = Some (initiation 180010)}))).opened in absurd (omega arith);
}
