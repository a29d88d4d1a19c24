-- No verdict without a reply: false of machines that do wrong, each by a run that is computed. Assumes nothing.
use Rattle.std.proofs.Common.{◌≡◌, [], ◌∷◌, refl, ⊎_elim}
use Rattle.std.proofs.lemmas.Option.{same_Some}
use Rattle.wire.specs.declared.codes.Verdict.TheVariants.{Correct, Incorrect}
use Rattle.apdu.specs.declared.apdus.Body.{Body}
use Rattle.apdu.specs.declared.apdus.Body.TheVariants as body
use Rattle.apdu.specs.declared.apdus.ReturnResult.TheVariants.{AuthWtmUser}
use Rattle.exchange.specs.Examples.{visitor_peer}
use Rattle.exchange.specs.WrongVerdicts.{WrongVerdictsAreRefuted}
use Rattle.exchange.proofs.Bench.{plainly, given, initiates, clock, deliver, visit, visit_given}

-- the peer found the user incorrect
abbrev found_incorrect : Body
found_incorrect = body.ReturnResult (AuthWtmUser Incorrect)

pub wrong_verdicts : WrongVerdictsAreRefuted
wrong_verdicts = record {
  a_verdict_is_sent_on_a_reply = λ law. (law (visit ∷ []) (visit_given, tt)).0.sent Correct refl;
  a_failure_is_no_verdict = λ law. ⊎_elim (λ r. r) (λ came. cc) ((law (initiates 10 ∷ clock 60010 ∷ []) (plainly, (plainly, tt))).1.0.reported Correct refl);
  a_verdict_is_reported_as_it_came = λ law.
      ⊎_elim (λ r. r) (λ came. let same : Incorrect ≡ Correct = same_Some Incorrect Correct came in cc)
      ((law (initiates 10 ∷ deliver 20 visitor_peer 1 found_incorrect ∷ []) (plainly, (given 20 visitor_peer 1 found_incorrect refl, tt))).1.0.reported Correct refl);
}
