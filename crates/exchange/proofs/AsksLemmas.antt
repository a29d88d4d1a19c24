-- A call rests on the answers to its own questions alone. Assumes nothing.
use Rattle.std.proofs.Common.{◌≡◌, ℕ, Bool, true, false, cond, ◌&&◌, eqb, List, [], Some, None, Ok, Err, Option, Result, refl, ap, ap₂, ◌∙◌}
use Rattle.std.specs.List.{list_any, AllByRecursion}
use Rattle.refusal.specs.declared.Refusal.{Refusal}
use Rattle.wire.specs.declared.codes.Provider.{Provider}
use Rattle.wire.specs.declared.codes.Provider.TheVariants.{Home}
use Rattle.values.specs.Draw.{drawn_challenge, drawn_parameter}
use Rattle.apdu.specs.declared.apdus.Apdu.{Apdu}
use Rattle.apdu.specs.NoApdu.{NoApdu}
use Rattle.apdu.specs.declared.apdus.NoApdu.TheVariants.{RejectDue, Garbled}
use Rattle.apdu.specs.declared.apdus.Body.{Body}
use Rattle.apdu.specs.declared.apdus.Body.TheVariants as body
use Rattle.apdu.specs.declared.apdus.Request.{Request}
use Rattle.apdu.specs.declared.apdus.Request.TheVariants as request
use Rattle.apdu.specs.declared.apdus.ReturnResult.{ReturnResult}
use Rattle.apdu.specs.declared.apdus.ReturnResult.TheVariants as result
use Rattle.apdu.specs.declared.apdus.WtatParamArg.{WtatParamArg}
use Rattle.apdu.specs.declared.apdus.WtatInfo.{WtatInfo}
use Rattle.apdu.specs.declared.apdus.WtatInfo.TheVariants as info
use Rattle.apdu.specs.declared.apdus.WtanParamArg.{WtanParamArg}
use Rattle.apdu.specs.declared.apdus.WtanParamRes.{WtanParamRes}
use Rattle.apdu.specs.declared.apdus.WtanParamRes.TheVariants as proof
use Rattle.apdu.specs.Decode.{received_as}
use Rattle.algorithm.specs.declared.direction.Direction.{Direction}
use Rattle.algorithm.specs.declared.direction.Direction.TheVariants.{User, Network}
use Rattle.algorithm.specs.Meaning.{Meaning}
use Rattle.algorithm.specs.Questions.{Question, AgreeOn}
use Rattle.entries.specs.declared.link.Link.{Link}
use Rattle.entries.specs.declared.subscriber.KeyPlace.{KeyPlace}
use Rattle.entries.specs.declared.subscriber.KeyPlace.TheVariants as place
use Rattle.entries.specs.declared.subscriber.Subscriber.{Subscriber}
use Rattle.exchange.specs.declared.dialogue.Dialogue.{Dialogue}
use Rattle.exchange.specs.declared.dialogue.Event.{Event}
use Rattle.exchange.specs.declared.dialogue.Event.TheVariants as event
use Rattle.exchange.specs.declared.handling.Handling.{Handling}
use Rattle.exchange.specs.declared.handling.Handling.TheVariants.{Answer}
use Rattle.exchange.specs.declared.invokes.OwnNumber.{OwnNumber}
use Rattle.exchange.specs.declared.invokes.Owed.{Owed}
use Rattle.exchange.specs.declared.outcome.Report.TheVariants as report
use Rattle.exchange.specs.declared.service.Service.{Service}
use Rattle.exchange.specs.declared.state.State.{State}
use Rattle.exchange.specs.declared.state.State.TheVariants.{Requesting, RequestingProof, Executing}
use Rattle.exchange.specs.Asks as asks
use Rattle.exchange.specs.Asks.{DecidedAlike}
use Rattle.exchange.specs.Calls.{proof_requested, response_check}
use Rattle.exchange.specs.Deliver as deliver
use Rattle.exchange.specs.Dialogue as dialogue
use Rattle.exchange.specs.Runs.{PlainInitiation, InitiationWithValues, VisitorStart, NetworkProof, Delivery, Reply, Clock}
use Rattle.exchange.specs.Server as server
use Rattle.exchange.specs.Service.{by, ready}
use Rattle.exchange.specs.Table.{awaits, awaits_reply, found, owes}

module _ (m n : Meaning) (number : m.number ≡ n.number) where
  abbrev Agree : List Question → Type 0
  Agree questions = AllByRecursion (AgreeOn m n) questions

  -- a choice, one of whose ways asks
  then_alike : {Y : Type 0} (b c : Bool) → b ≡ c → (questions : List Question) (x y z : Y) → (Agree questions → x ≡ y) → Agree (cond b questions []) → cond b x z ≡ cond c y z
  then_alike true true e questions x y z alike agree = alike agree
  then_alike false false e questions x y z alike agree = refl
  then_alike true false e questions x y z alike agree = cc
  then_alike false true e questions x y z alike agree = cc

  else_alike : {Y : Type 0} (b : Bool) (questions : List Question) (x y z : Y) → (Agree questions → x ≡ y) → Agree (cond b [] questions) → cond b z x ≡ cond b z y
  else_alike true questions x y z alike agree = refl
  else_alike false questions x y z alike agree = alike agree

  -- a check, and what goes on once it is passed, which asks nothing
  passed_alike : {X Y : Type 0} (check : Result X Refusal) (f g : X → Result Y Refusal) → ((x : X) → f x ≡ g x) → by check f Err ≡ by check g Err
  passed_alike (Ok x) f g alike = alike x
  passed_alike (Err e) f g alike = refl

  -- likewise where it asks
  check_alike : {X Y : Type 0} (check : Result X Refusal) (asked : X → Result (List Question) Refusal) (f g : X → Result Y Refusal) →
      ((x : X) → Agree (asks.questions (asked x)) → f x ≡ g x) → Agree (asks.questions (by check asked Err)) → by check f Err ≡ by check g Err
  check_alike (Ok x) asked f g alike agree = alike x agree
  check_alike (Err e) asked f g alike agree = refl

  module _ (s : Service) (reading : ℕ) where
    module _ (d : Dialogue) where
      session_alike : (o : Option Owed) (computes : Bool) (drawn : List ℕ) (algorithm : ℕ) (i : WtatInfo) → Agree (asks.session_asks (computes && eqb algorithm m.number) drawn i) →
          dialogue.in_requesting m s.fit reading s.next d o computes drawn algorithm i ≡ dialogue.in_requesting n s.fit reading s.next d o computes drawn algorithm i
      session_alike o computes drawn algorithm (info.Unit unit) agree = refl
      session_alike o computes drawn algorithm (info.Session session) agree =
          then_alike _ _ (ap (λ z. computes && eqb algorithm z) number) _ _ _ _ (λ a. ap (dialogue.challenged s.fit reading d o drawn) a.0) agree

      proof_session_alike : (computes : Bool) (challenge : List ℕ) (r : WtanParamRes) → Agree (asks.proof_session_asks computes challenge r) →
          dialogue.in_requesting_proof m s.fit reading s.next d computes challenge r ≡ dialogue.in_requesting_proof n s.fit reading s.next d computes challenge r
      proof_session_alike computes challenge (proof.Response response) agree = refl
      proof_session_alike computes challenge (proof.Session session) agree =
          then_alike computes computes refl _ _ _ _ (λ a. ap (λ response. dialogue.closes d (dialogue.reported d (report.Response response))) a.0) agree

      result_alike : (state : State) (r : ReturnResult) (drawn : List ℕ) → Agree (asks.result_asks m.number state r drawn) →
          dialogue.resulted m s.fit reading s.next d state r drawn ≡ dialogue.resulted n s.fit reading s.next d state r drawn
      result_alike (Requesting asked o computes) (result.WtatParam Home r) drawn agree = session_alike o computes drawn r.algorithm r.info agree
      result_alike (RequestingProof asked computes challenge) (result.WtanParam Home r) drawn agree = proof_session_alike computes challenge r agree
      result_alike state r drawn agree = refl

      reply_alike : (state : State) (response : List ℕ) → dialogue.reply_step m s.fit reading s.next d state response ≡ dialogue.reply_step n s.fit reading s.next d state response
      reply_alike (Executing o expected) response = refl
      reply_alike state response = refl

      step_alike : (e : Event) → Agree (asks.step_asks m.number d e) → dialogue.stepped m s.fit reading s.next d e ≡ dialogue.stepped n s.fit reading s.next d e
      step_alike (event.Result r drawn) agree = result_alike d.state r drawn agree
      step_alike (event.Reply response) agree = reply_alike d.state response
      step_alike e agree = refl

    met_alike : (e : Event) (o : Option (ℕ × Dialogue)) → Agree (asks.met_asks m.number e o) → deliver.met m s reading e o ≡ deliver.met n s reading e o
    met_alike e None agree = refl
    met_alike e (Some (k, d)) agree = ap (deliver.moved s reading k) (step_alike d e agree)

    -- an event that asks nothing, whichever dialogue it comes to
    unasked_alike : (e : Event) → ((d : Dialogue) → Agree (asks.step_asks m.number d e)) → (o : Option (ℕ × Dialogue)) → deliver.met m s reading e o ≡ deliver.met n s reading e o
    unasked_alike e unasked None = refl
    unasked_alike e unasked (Some (k, d)) = met_alike e (Some (k, d)) (unasked d)

  module _ (draw : List ℕ) where
    -- a session, or the response under it
    made_alike : {Y : Type 0} (direction : Direction) (computes : Bool) (challenge key : List ℕ) (with_session with_response : List ℕ → Y) → Agree (asks.made_asks m draw direction computes challenge key) →
        cond computes (with_session (m.session direction key (drawn_parameter draw))) (with_response (m.response (m.session direction key (drawn_parameter draw)) challenge))
        ≡ cond computes (with_session (n.session direction key (drawn_parameter draw))) (with_response (n.response (n.session direction key (drawn_parameter draw)) challenge))
    made_alike direction true challenge key with_session with_response agree = ap with_session agree.0
    made_alike direction false challenge key with_session with_response agree =
        ap with_response (agree.1.0 ∙ ap (λ made. n.response made challenge) agree.0)

    values_alike : (provider : Provider) (a : WtatParamArg) (key : List ℕ) → Agree (asks.made_asks m draw User a.computes (server.challenge_or a.challenge draw) key) →
        server.values_answer m draw key provider a ≡ server.values_answer n draw key provider a
    values_alike provider a key agree =
        ap₂ (λ number i. body.ReturnResult (result.WtatParam provider (record { algorithm = number; info = i }))) number
        (made_alike User a.computes (server.challenge_or a.challenge draw) key
        (λ made. info.Session (record { key = made; parameter = drawn_parameter draw }))
        (λ response. info.Unit (record { challenge = server.challenge_or a.challenge draw; response = response })) agree)

    proof_alike : (provider : Provider) (a : WtanParamArg) (key : List ℕ) → Agree (cond (eqb a.algorithm m.number) (asks.made_asks m draw Network a.computes a.challenge key) []) →
        server.proof_answer m draw key provider a ≡ server.proof_answer n draw key provider a
    proof_alike provider a key agree =
        then_alike _ _ (ap (eqb a.algorithm) number) _ _ _ _
        (λ every. ap (λ r. body.ReturnResult (result.WtanParam provider r))
        (made_alike Network a.computes a.challenge key (λ made. proof.Session (record { key = made; parameter = drawn_parameter draw })) proof.Response every)) agree

    place_alike : (at : KeyPlace) (questions : List Question) (here other at_server : Handling) → (Agree questions → here ≡ other) → Agree (asks.here_asks at questions) → server.by_place at here at_server ≡ server.by_place at other at_server
    place_alike place.NoParameters questions here other at_server alike agree = refl
    place_alike place.Here questions here other at_server alike agree = alike agree
    place_alike place.Server questions here other at_server alike agree = refl

    served_alike : (subscriber : Option Subscriber) (asked : List ℕ → List Question) (here other : List ℕ → Body) (at_server : Handling) → ((key : List ℕ) → Agree (asked key) → here key ≡ other key) →
        Agree (asks.key_asks subscriber asked) → server.served subscriber here at_server ≡ server.served subscriber other at_server
    served_alike None asked here other at_server alike agree = refl
    served_alike (Some x) asked here other at_server alike agree = place_alike x.key_place _ _ _ at_server (λ a. ap Answer (alike x.user_key a)) agree

    module _ (s : Service) (reading peer : ℕ) (subscribers : List Subscriber) where
      requested_alike : (owed : Owed) (user : ℕ) (r : Request) (subscriber : Option Subscriber) → Agree (asks.server_asks m draw r subscriber) →
          server.requested s.fit s.next owed m draw user r subscriber ≡ server.requested s.fit s.next owed n draw user r subscriber
      requested_alike owed user (request.AuthWtmUser unit) subscriber agree = refl
      requested_alike owed user (request.WtatParam provider a) subscriber agree = served_alike subscriber _ _ _ _ (values_alike provider a) agree
      requested_alike owed user (request.WtanParam provider a) subscriber agree = served_alike subscriber _ _ _ _ (proof_alike provider a) agree

      came_alike : (id : ℕ) (b : Body) → Agree (asks.came_asks m draw s peer subscribers id b) →
          deliver.came m s reading peer draw subscribers id b ≡ deliver.came n s reading peer draw subscribers id b
      came_alike id (body.Invoke i) agree =
          else_alike (list_any (owes peer id) s.dialogues) _ _ _ _
          (λ a. ap (λ (h : Handling). Ok (deliver.carried_out s reading peer id h)) (requested_alike (record { peer = peer; id = record { 0 = id } }) i.user i.request (server.subscriber_for subscribers i.user) a)) agree
      came_alike id (body.ReturnResult r) agree = met_alike s reading (event.Result r (drawn_challenge draw)) (found (awaits peer id) s.dialogues) agree
      came_alike id (body.ReturnError e) agree = unasked_alike s reading (event.Error e) (λ d. tt) (found (awaits peer id) s.dialogues)
      came_alike id (body.Reject problem) agree = unasked_alike s reading (event.Reject problem) (λ d. tt) (found (awaits peer id) s.dialogues)

      received_alike : (got : Result Apdu NoApdu) → Agree (asks.received_asks m draw s peer subscribers got) →
          deliver.received m s reading peer draw subscribers got ≡ deliver.received n s reading peer draw subscribers got
      received_alike (Ok a) agree = came_alike a.id a.body agree
      received_alike (Err (RejectDue id problem)) agree = refl
      received_alike (Err Garbled) agree = refl

  delivered_alike : (s : Service) (reading peer : ℕ) (draw bytes : List ℕ) (links : List Link) (subscribers : List Subscriber) → Agree (asks.questions (asks.delivery_asks m s reading peer draw bytes links subscribers)) →
      deliver.delivered m s reading peer draw bytes links subscribers ≡ deliver.delivered n s reading peer draw bytes links subscribers
  delivered_alike s reading peer draw bytes links subscribers agree =
      check_alike (ready s reading) _ _ _ (λ u a.
      check_alike (deliver.draw_check links peer draw) _ _ _ (λ drawn b. received_alike drawn s reading peer subscribers (received_as bytes) b) a) agree

  replied_alike : (s : Service) (reading : ℕ) (name : OwnNumber) (response : List ℕ) → deliver.replied m s reading name response ≡ deliver.replied n s reading name response
  replied_alike s reading name response =
      passed_alike (ready s reading) _ _ (λ u.
      passed_alike (response_check response) _ _ (λ r. unasked_alike s reading (event.Reply r) (λ d. tt) (found (awaits_reply name) s.dialogues)))

pub decided_alike : DecidedAlike
decided_alike m n number s (PlainInitiation reading digits peer links out) agree = refl
decided_alike m n number s (InitiationWithValues reading digits peer links out) agree = refl
decided_alike m n number s (VisitorStart reading digits out) agree = refl
decided_alike m n number s (NetworkProof reading digits challenge out) agree = ap (proof_requested s reading digits challenge) number
decided_alike m n number s (Delivery reading peer draw bytes links subscribers out) agree = delivered_alike m n number s reading peer draw bytes links subscribers agree
decided_alike m n number s (Reply reading name response out) agree = replied_alike m n number s reading name response
decided_alike m n number s (Clock reading out) agree = refl
