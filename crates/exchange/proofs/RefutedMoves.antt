-- The law of what a call may do is false of machines that do wrong, each by a run that is computed. Assumes nothing.
use Rattle.std.proofs.Common.{◌≡◌, ℕ, ◌+◌, ◌≤◌, ◌<◌, ◌⊎◌, false, true, [], ◌∷◌, replicate, Some, None, Option, ap, inl, inr, ⊎_elim, refl, sym, ◌∙◌, arith}
use Rattle.std.proofs.lemmas.Option.{none-some}
use Rattle.apdu.specs.declared.apdus.WtatInfo.TheVariants as info
use Rattle.exchange.specs.declared.dialogue.Dialogue.{Dialogue}
use Rattle.exchange.specs.declared.invokes.Owed.{Owed}
use Rattle.exchange.specs.declared.invokes.OwnNumber.{OwnNumber}
use Rattle.exchange.specs.declared.service.Service.{Service}
use Rattle.exchange.specs.declared.state.State.TheVariants.{Initiating, Requesting, Executing}
use Rattle.exchange.specs.Examples.{home, visitor_peer, asker, example_fit_out, buffer, first}
use Rattle.exchange.specs.Moves.{Opened, WentOn}
use Rattle.exchange.specs.Runs.{Clock}
use Rattle.exchange.specs.State.{owed_by, is_owed_to}
use Rattle.exchange.specs.WrongMoves.{WrongMovesAreRefuted}
use Rattle.exchange.proofs.Bench.{none_has, lone, plainly, initiates, replies, clock, deliver, authenticate, unit, right, brings, visit_by_home, visit_by_home_given, visit, visit_given}

-- nothing opens or goes on at a clock
no_clock : (s : Service) (reading : ℕ) (d : Dialogue) → Opened example_fit_out s (Clock reading buffer) d ⊎ WentOn example_fit_out s (Clock reading buffer) d → ⊥
no_clock s reading d h = ⊎_elim (λ o. o.owes) (λ g. g.answer) h

abbrev next_peer : ℕ
next_peer = asker + 1

abbrev owed_asker : Owed
owed_asker = record { peer = asker; id = record { 0 = 9 } }

-- at the terminal, as opened at some reading, and owing something
abbrev at_terminal : ℕ → ℕ → Option Owed → Dialogue
at_terminal opened ends owed = record { name = first; opened = opened; ends = ends; state = Executing owed (right unit.challenge) }

-- asking Home for a unit or session
abbrev requesting : Dialogue
requesting = record { name = first; opened = 10; ends = 60010; state = Requesting (record { peer = home; id = first }) (Some owed_asker) true }

-- an initiation with some name, whose timer ends at some reading
abbrev initiation : ℕ → ℕ → Dialogue
initiation name ends = record { name = record { 0 = name }; opened = 10; ends = ends; state = Initiating (record { peer = visitor_peer; id = record { 0 = name } }) }

abbrev unasked : Dialogue
unasked = record { name = first; opened = 10; ends = 60010; state = Executing None (replicate 4 0) }

pub wrong_moves : WrongMovesAreRefuted
wrong_moves = record {
  an_opening_is_not_noted_later = λ law.
      let k = (law (deliver 10 asker 9 authenticate ∷ deliver 20 home 1 (brings (info.Unit unit)) ∷ clock 30 ∷ []) (visit_by_home_given.0, (visit_by_home_given.1.0, (plainly, tt)))).1.1.0.0 in
      let now = at_terminal 20 60020 (Some owed_asker) in
      ⊎_elim (λ h. let e : 10 ≡ 20 = ap (λ (d : Dialogue). d.opened) (lone (at_terminal 10 60020 (Some owed_asker)) now 31 h) in absurd (omega arith))
      (λ p. no_clock _ 30 now p.1) (k.comes now (inl (refl {a = Some now})));
  a_timer_is_not_started_anew = λ law.
      let k = (law (initiates 10 ∷ clock 20 ∷ []) (plainly, (plainly, tt))).1.0.0 in
      ⊎_elim (λ h. let e : 60010 ≡ 60020 = ap (λ (d : Dialogue). d.ends) (lone (initiation 1 60010) (initiation 1 60020) 31 h) in absurd (omega arith))
      (λ p. no_clock _ 20 (initiation 1 60020) p.1) (k.comes (initiation 1 60020) (inl (refl {a = Some (initiation 1 60020)})));
  a_quiet_clock_closes_nothing = λ law.
      let k = (law (visit ∷ clock 20 ∷ []) (visit_given, (plainly, tt))).1.0.0 in
      let late : 60010 ≤ 20 = (k.goes (at_terminal 10 60010 (Some owed_asker)) (record { stood = inl (refl {a = Some (at_terminal 10 60010 (Some owed_asker))}); gone = refl })).1 in absurd (omega arith);
  a_clock_opens_nothing = λ law.
      let k = (law (clock 10 ∷ []) (plainly, tt)).0.0 in
      ⊎_elim (none_has 32 unasked) (λ p. no_clock _ 10 unasked p.1) (k.comes unasked (inl (refl {a = Some unasked})));
  a_request_opens_one_dialogue = λ law.
      let k : 0 ≡ 1 = (law (initiates 10 ∷ []) (plainly, tt)).0.1.apart 0 1 (initiation 1 60010) (initiation 1 60010) (refl {a = Some (initiation 1 60010)}) (refl {a = Some (initiation 1 60010)}) refl in absurd (omega arith);
  a_dialogue_that_goes_on_owes_the_same = λ law.
      let k = (law visit_by_home visit_by_home_given).1.0.0 in
      let now = at_terminal 10 60020 None in
      ⊎_elim (λ h. let e : 60010 ≡ 60020 = ap (λ (d : Dialogue). d.ends) (lone requesting now 31 h) in absurd (omega arith))
      (λ p.
      ⊎_elim (λ o. let e : 1 ≡ 2 = ap (λ (n : OwnNumber). n.0) o.name in absurd (omega arith))
      (λ g. none-some owed_asker (g.owes ∙ ap (λ (d : Dialogue). owed_by d.state) (sym (lone requesting g.from 31 g.stood)))) p.1)
      (k.comes now (inl (refl {a = Some now})));
  a_clock_closes_one_dialogue = λ law.
      let k = (law (initiates 10 ∷ initiates 10 ∷ clock 60010 ∷ []) (plainly, (plainly, (plainly, tt)))).1.1.0.0 in
      let e : 1 ≡ 2 = ap (λ (d : Dialogue). d.name.0) (k.alone (initiation 1 60010) (initiation 2 60010) (record { stood = inl (refl {a = Some (initiation 1 60010)}); gone = refl }) (record { stood = inr (inl (refl {a = Some (initiation 2 60010)})); gone = refl })) in absurd (omega arith);
  an_expiry_leaves_the_last_reading = λ law.
      let k = (law (initiates 10 ∷ clock 60010 ∷ []) (plainly, (plainly, tt))).1.0.0 in
      let e : 60010 ≡ 10 = k.reading tt (initiation 1 60010) (record { stood = inl (refl {a = Some (initiation 1 60010)}); gone = refl }) in absurd (omega arith);
  a_refused_call_closes_nothing = λ law.
      let k = (law (initiates 10 ∷ clock 5 ∷ []) (plainly, (plainly, tt))).1.0.0 in
      let e : false ≡ true = (k.goes (initiation 1 60010) (record { stood = inl (refl {a = Some (initiation 1 60010)}); gone = refl })).0 in cc;
  an_answer_is_to_what_was_owed = λ law.
      let k = (law (visit ∷ replies 20 first (right unit.challenge) ∷ []) (visit_given, (plainly, tt))).1.0.0 in
      ⊎_elim (λ t. let e : false ≡ true = t in cc)
      (λ p. let e : is_owed_to next_peer 9 (Some owed_asker) ≡ true = ap (λ (d : Dialogue). is_owed_to next_peer 9 (owed_by d.state)) (lone (at_terminal 10 60010 (Some owed_asker)) p.0 31 p.1.stood) ∙ p.2 in let f : false ≡ true = e in cc)
      (k.answers next_peer 9 refl);
  a_name_is_not_given_again = λ law.
      let k : 1 < 1 = (law (initiates 10 ∷ []) (plainly, tt)).0.1.below (initiation 1 60010) (inl (refl {a = Some (initiation 1 60010)})) in absurd (omega arith);
}
