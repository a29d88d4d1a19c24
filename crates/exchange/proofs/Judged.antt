-- A done reply is judged by the response that is expected. Assumes nothing.
use Rattle.std.proofs.Common.{◌≡◌, ℕ, ◌≤◌, Bool, true, false, cond, eqb, length, take, List, Some, None, Ok, Err, Option, ◌↔◌, sym, refl, ap, ◌∙◌, subst, arith}
use Rattle.std.specs.Bool.{Decides}
use Rattle.std.specs.Str.{bytes_eq}
use Rattle.std.proofs.lemmas.Bool.{eqb-true, eq-eqb, and_parts, and_from}
use Rattle.std.proofs.lemmas.Option.{same_Some}
use Rattle.std.proofs.lemmas.Slice.Eq.{bytes_eq-Decides}
use Rattle.wire.proofs.Options.{err_ok}
use Rattle.refusal.specs.declared.Refusal.{Refusal}
use Rattle.refusal.specs.declared.Refusal.TheVariants.{Misdialled}
use Rattle.wire.specs.declared.codes.Verdict.{Verdict}
use Rattle.wire.specs.declared.codes.Verdict.TheVariants.{Correct, Incorrect}
use Rattle.wire.specs.Fronts.{front}
use Rattle.values.specs.Sizes.{response_size}
use Rattle.apdu.specs.declared.apdus.Apdu.{Apdu}
use Rattle.apdu.specs.declared.apdus.Body.TheVariants as body
use Rattle.apdu.specs.declared.apdus.ReturnResult.TheVariants.{AuthWtmUser}
use Rattle.apdu.specs.Decode.{received_as}
use Rattle.apdu.specs.Encode.{encode}
use Rattle.algorithm.specs.Meaning.{Meaning}
use Rattle.exchange.specs.declared.invokes.Owed.{Owed}
use Rattle.exchange.specs.declared.invokes.OwnNumber.{OwnNumber}
use Rattle.exchange.specs.declared.dialogue.Dialogue.{Dialogue}
use Rattle.exchange.specs.declared.dialogue.Event.TheVariants as event
use Rattle.exchange.specs.Done.{Done}
use Rattle.exchange.specs.declared.service.Service.{Service}
use Rattle.exchange.specs.declared.state.State.{State}
use Rattle.exchange.specs.declared.state.State.TheVariants.{Executing}
use Rattle.exchange.specs.Calls.{response_check}
use Rattle.exchange.specs.Deliver.{moved, met, replied}
use Rattle.exchange.specs.Dialogue as dialogue
use Rattle.exchange.specs.Genuine.{verdict_for, verdict_by, Judges}
use Rattle.exchange.specs.Outcome.{Decision, at_edge, buffer_check}
use Rattle.exchange.specs.Runs.{Reply, called}
use Rattle.exchange.specs.Service.{ready}
use Rattle.exchange.specs.State.{owed_by}
use Rattle.exchange.specs.Table.{found, awaits_reply}
use Rattle.exchange.proofs.Checks.{checked_ways, if_ok}
use Rattle.exchange.proofs.Closings.{fine_at}
use Rattle.exchange.proofs.Edge.{reads_back}
use Rattle.exchange.proofs.Invariant.{Inv, CanAnswer}
use Rattle.exchange.proofs.Left.{has_place}
use Rattle.exchange.proofs.Names.{At, Expects, Holds}
use Rattle.exchange.proofs.Searched.{found_at}
use Rattle.exchange.proofs.Slots.{has_at}

-- a verdict is correct where its test is passed
verdict_is : (b : Bool) (P : Type 0) → Decides b P → (cond b Correct Incorrect ≡ Correct) ↔ P
verdict_is true P h = (λ _. h.0 refl, λ _. refl)
verdict_is false P h = ((λ e. let z : ◌≡◌ {A = ℕ} 0 1 = cc in absurd (omega arith)), (λ p. let f : false ≡ true = h.1 p in let z : ◌≡◌ {A = ℕ} 0 1 = cc in absurd (omega arith)))

response_is : (response r : List ℕ) → response_check response ≡ Ok r → r ≡ response
response_is response r h = sym (if_ok (eqb (length response) response_size) response r Misdialled h).1

-- the APDU that answers what is owed with a verdict
abbrev answering : Owed → Verdict → Apdu
answering owed v = record { id = owed.id.0; body = body.ReturnResult (AuthWtmUser v) }

module _ (m : Meaning) (s : Service) (inv : Inv s) (reading : ℕ) (name : OwnNumber) (response e : List ℕ) (h : Holds s name.0 e) (out : List ℕ) where
  -- a reply that is done is judged by what is expected
  abbrev Judged : Decision → Type 0
  Judged decision = (done : Done) → (at_edge s out decision).result ≡ Ok done → Judges s name (at_edge s out decision) response e

  refused_judged : (n : Refusal) → Judged (Err n)
  refused_judged n done is = absurd (err_ok n done is)

  -- the verdict is the one on the expected response
  right : (expected : List ℕ) → expected ≡ e → (dialogue.verdict_on response expected ≡ Correct) ↔ (response ≡ e)
  right expected is = subst (λ (x : List ℕ). (dialogue.verdict_on response expected ≡ Correct) ↔ (response ≡ x)) is (verdict_is (bytes_eq response expected) (response ≡ expected) (bytes_eq-Decides response expected))

  sent_verdict : (owed : Owed) (v : Verdict) → 1 ≤ owed.id.0 →
      verdict_for (Some owed) owed.peer (received_as (take (length (encode (answering owed v))) (front (encode (answering owed v)) out))) ≡ Some v
  sent_verdict owed v q =
      ap (verdict_for (Some owed) owed.peer) (reads_back (answering owed v) out (q, tt))
      ∙ ap (λ (b : Bool). cond b (Some v) None) (and_from _ _ (eq-eqb owed.id.0 owed.id.0 refl) (eq-eqb owed.peer owed.peer refl))

  named : (own : ℕ) → eqb own name.0 ≡ true → (v : Verdict) → ◌≡◌ {A = Option Verdict} (cond (eqb own name.0) (Some v) None) (Some v)
  named own n v = ap (λ (b : Bool). cond b (Some v) None) n

  -- the verdict that a reply to a dialogue comes to
  abbrev Verdict_of : Option Owed → Decision → Type 0
  Verdict_of owed decision = (v : Verdict) × (verdict_by name owed (at_edge s out decision) ≡ Some v) × ((v ≡ Correct) ↔ (response ≡ e))

  owed_judged : (place : ℕ) (d : Dialogue) → eqb d.name.0 name.0 ≡ true → (owed : Option Owed) (expected : List ℕ) → expected ≡ e → CanAnswer (Executing owed expected) →
      Verdict_of owed (moved s reading place (dialogue.reply_step m s.fit reading s.next d (Executing owed expected) response))
  owed_judged place d n None expected is q = (dialogue.verdict_on response expected, named d.name.0 n (dialogue.verdict_on response expected), right expected is)
  owed_judged place d n (Some owed) expected is q = (dialogue.verdict_on response expected, sent_verdict owed _ (q owed refl), right expected is)

  state_judged : (place : ℕ) (d : Dialogue) → eqb d.name.0 name.0 ≡ true → (st : State) → Expects e st → CanAnswer st →
      Verdict_of (owed_by st) (moved s reading place (dialogue.reply_step m s.fit reading s.next d st response))
  state_judged place d n (Executing owed expected) x q = owed_judged place d n owed expected x q
  state_judged place d n st x q = absurd x

  same_name : (own : OwnNumber) → own.0 ≡ name.0 → own ≡ name
  same_name own h = ap (λ (i : ℕ). let o : OwnNumber = record { 0 = i } in o) h

  met_judged : (o : Option (ℕ × Dialogue)) → found (awaits_reply name) s.dialogues ≡ o → Judged (met m s reading (event.Reply response) o)
  met_judged None f = refused_judged _
  met_judged (Some (place, d)) f =
      let p = found_at (awaits_reply name) s.dialogues place d f in
      let q = and_parts _ (eqb d.name.0 name.0) p.passes in
      let same = eqb-true d.name.0 name.0 q.1 in
      let judged = state_judged place d q.1 d.state (h.all place d p.stands same) ((fine_at s inv place d p.within p.stands).answer) in
      λ done is. record {
        dialogue = d;
        stood = has_at s.dialogues place d p.stands;
        named = same_name d.name same;
        alone = λ other stood named.
            let w = has_place s.dialogues other stood in
            let here : w.0 ≡ place = inv.names.apart w.0 place other d w.1 p.stands (ap (λ (n : OwnNumber). n.0) named ∙ sym same) in
            same_Some other d (sym (subst (λ (i : ℕ). At s.dialogues i other) here w.1) ∙ p.stands);
        verdict = judged.0;
        told = judged.1;
        right = judged.2;
      }

  pub reply_judged : (done : Done) → (called m s (Reply reading name response out)).result ≡ Ok done → Judges s name (called m s (Reply reading name response out)) response e
  reply_judged =
      checked_ways Judged (buffer_check (length out)) (λ _. replied m s reading name response) refused_judged
      (λ _ _. checked_ways Judged (ready s reading) _ refused_judged
      (λ _ _. checked_ways Judged (response_check response) (λ r. met m s reading (event.Reply r) (found (awaits_reply name) s.dialogues)) refused_judged
      (λ r is. subst (λ (x : List ℕ). Judged (met m s reading (event.Reply x) (found (awaits_reply name) s.dialogues))) (sym (response_is response r is)) (met_judged (found (awaits_reply name) s.dialogues) refl))))
