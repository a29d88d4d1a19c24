-- The law of refusals is false of machines that do wrong, each by a run that is computed. Assumes nothing.
use Rattle.std.proofs.Common.{◌≡◌, ◌<◌, [], ◌∷◌, Some, inl, sym, refl, ap, arith}
use Rattle.std.proofs.lemmas.Bool.{both_ways}
use Rattle.refusal.specs.declared.Refusal.TheVariants.{ShortSheet, ClockBack, Misdialled, Garbled, Stray, Twice, Full, Spent}
use Rattle.wire.proofs.Options.{ok_same}
use Rattle.apdu.specs.declared.apdus.Apdu.{Apdu}
use Rattle.exchange.specs.declared.dialogue.Dialogue.{Dialogue}
use Rattle.exchange.specs.declared.state.State.TheVariants.{Executing}
use Rattle.exchange.specs.Examples.{asker, sums, digits, user, buffer, first, own_draw}
use Rattle.exchange.specs.Runs.{VisitorStart, Delivery, Reply, Clock, is_invoke}
use Rattle.exchange.specs.WrongRefusals.{WrongRefusalsAreRefuted}
use Rattle.exchange.proofs.Bench.{plainly, clock, authenticate_by, unit, right, visit, visit_given}

-- what is with the terminal after a visit
abbrev visitor : Dialogue
visitor = record { name = first; opened = 10; ends = 60010; state = Executing (Some (record { peer = asker; id = record { 0 = 9 } })) (right unit.challenge) }

pub wrong_refusals : WrongRefusalsAreRefuted
wrong_refusals = record {
  a_lawful_call_is_done = λ law.
      let k : 64 < 64 = (((law [] tt sums (Clock 10 buffer)).refused ShortSheet).0 refl).0 in absurd (omega arith);
  an_awaited_reply_is_done = λ law.
      (((law (visit ∷ []) (visit_given, tt) sums (Reply 20 first (right unit.challenge) buffer)).refused Stray).0 refl).0 (visitor, inl (refl {a = Some visitor}), refl);
  a_lawful_delivery_is_done = λ law.
      let k = (((law [] tt sums visit.1).refused Garbled).0 refl).0 in cc;
  a_request_with_places_left_is_done = λ law.
      let k : 0 ≡ 32 = (((law [] tt sums (VisitorStart 10 digits buffer)).refused Full).0 refl).0.1 in absurd (omega arith);
  a_request_with_numbers_left_is_done = λ law.
      let k : 60000 < 1 = (((law [] tt sums (VisitorStart 10 digits buffer)).refused Spent).0 refl).0.1 in absurd (omega arith);
  a_clock_that_goes_back_is_refused = λ law.
      (law (clock 20 ∷ []) (plainly, tt) sums (Clock 10 buffer)).done.0 refl ClockBack (inl (omega arith));
  a_refusal_has_the_number_of_its_condition = λ law.
      let k = (((law (visit ∷ []) (visit_given, tt) sums visit.1).refused Stray).0 refl).0 in
      both_ways (is_invoke k.0.body) k.2 (sym (ap (λ (x : Apdu). is_invoke x.body) (ok_same (record { id = 9; body = authenticate_by user unit }) k.0 k.1)));
  an_owed_invoke_is_refused = λ law.
      (law (visit ∷ []) (visit_given, tt) sums visit.1).done.0 refl Twice (9, refl, (visitor, inl (refl {a = Some visitor}), refl));
  the_lowest_number_wins = λ law.
      (((law [] tt sums (Delivery 10 asker own_draw [] [] [] buffer)).refused Garbled).0 refl).1 Misdialled (omega arith) (inl tt);
}
