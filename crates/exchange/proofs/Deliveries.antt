-- What a delivery does: an answer to the dialogue that awaits it, an invoke that is answered or opens a dialogue. Assumes nothing.
use Rattle.std.proofs.Common.{◌≡◌, ℕ, ◌+◌, ◌<◌, ◌≤◌, Bool, true, false, ◌&&◌, not, eqb, List, Some, None, Ok, Err, Option, Result, is_some, sym, refl, ap, ap₂, ◌∙◌, subst, nat_eq, arith, inr}
use Rattle.std.specs.List.{list_any, AllByRecursion}
use Rattle.std.proofs.lemmas.Bool.{cond_both, false≢true}
use Rattle.std.proofs.lemmas.Option.{none-some, same_Some}
use Rattle.refusal.specs.declared.Refusal.TheVariants as refusal
use Rattle.wire.specs.declared.codes.ErrorCode.TheVariants.{TemporarilyUnavailable, ParamNotAvailable}
use Rattle.wire.specs.declared.codes.ErrorCode.{ErrorCode}
use Rattle.wire.specs.declared.codes.Provider.TheVariants.{Home, Server}
use Rattle.wire.specs.Codes.{problem_number}
use Rattle.wire.specs.Fields.{Bytes}
use Rattle.wire.specs.FieldValues.{IfAny, OfSize}
use Rattle.values.specs.declared.proof.AuthUnit.{AuthUnit}
use Rattle.values.specs.Draw.{drawn_challenge}
use Rattle.values.specs.Proof.{UnitSized}
use Rattle.values.specs.Sizes.{draw_size}
use Rattle.apdu.specs.declared.apdus.WtatInfo.{WtatInfo}
use Rattle.apdu.specs.declared.apdus.WtatInfo.TheVariants as info
use Rattle.apdu.specs.declared.apdus.WtanParamRes.{WtanParamRes}
use Rattle.apdu.specs.declared.apdus.WtanParamRes.TheVariants as proof
use Rattle.apdu.specs.declared.apdus.Apdu.{Apdu}
use Rattle.apdu.specs.NoApdu.{NoApdu}
use Rattle.apdu.specs.declared.apdus.NoApdu.TheVariants.{RejectDue, Garbled}
use Rattle.apdu.specs.declared.apdus.Body.{Body}
use Rattle.apdu.specs.declared.apdus.Body.TheVariants as body
use Rattle.apdu.specs.declared.apdus.Invoke.{Invoke}
use Rattle.apdu.specs.declared.apdus.ReturnResult.{ReturnResult}
use Rattle.apdu.specs.declared.apdus.ReturnResult.TheVariants.{AuthWtmUser, WtatParam, WtanParam}
use Rattle.apdu.specs.Decode.{received_as}
use Rattle.apdu.specs.Laws.{IsBody, IsResult, IsWtatInfo}
use Rattle.apdu.proofs.ReadWritesBack.{read_writes_back}
use Rattle.apdu.proofs.Due.{due_id}
use Rattle.algorithm.specs.Meaning.{Meaning, IsSized}
use Rattle.entries.specs.declared.link.Link.{Link}
use Rattle.entries.specs.declared.subscriber.Subscriber.{Subscriber}
use Rattle.entries.specs.Subscriber.{subscriber_key}
use Rattle.exchange.specs.declared.dialogue.Dialogue.{Dialogue}
use Rattle.exchange.specs.declared.dialogue.Event.TheVariants as event
use Rattle.exchange.specs.declared.dialogue.Step as kind
use Rattle.exchange.specs.declared.handling.Handling.{Handling}
use Rattle.exchange.specs.declared.handling.Handling.TheVariants.{Answer, Opens}
use Rattle.exchange.specs.declared.invokes.Asked.{Asked}
use Rattle.exchange.specs.declared.invokes.Owed.{Owed}
use Rattle.exchange.specs.declared.invokes.OwnNumber.{OwnNumber}
use Rattle.exchange.specs.declared.outcome.Cause.TheVariants as cause
use Rattle.exchange.specs.declared.outcome.Outcome.{Outcome}
use Rattle.exchange.specs.declared.outcome.Outcome.TheVariants as outcome
use Rattle.exchange.specs.declared.outcome.Report.{Report}
use Rattle.exchange.specs.declared.outcome.Report.TheVariants as report
use Rattle.exchange.specs.declared.service.Service.{Service}
use Rattle.exchange.specs.declared.state.State.{State}
use Rattle.exchange.specs.declared.state.State.TheVariants.{FetchingForInitiation, Initiating, FetchingForVisitor, Requesting, Executing, RequestingProof, FetchingProof}
use Rattle.exchange.specs.Bounds.{longest_timer}
use Rattle.exchange.specs.Deliver as deliver
use Rattle.exchange.specs.Dialogue as dialogue
use Rattle.exchange.specs.Genuine.{verdict_in, said}
use Rattle.exchange.specs.Moves.{AnswerTo}
use Rattle.exchange.specs.Invokes.{following, asking}
use Rattle.exchange.specs.Outcome.{Decision}
use Rattle.exchange.specs.Runs.{Call, Delivery, KeySized, is_invoke, invokes, answers, brings, owing}
use Rattle.exchange.specs.Server.{subscriber_for}
use Rattle.exchange.specs.Service.{ready, room, written}
use Rattle.exchange.specs.State.{timer_of, asked_by, owed_by, is_asked_of, is_owed_to}
use Rattle.exchange.specs.Table.{owes, awaits, found}
use Rattle.exchange.proofs.Checks.{Ready, ready_ok, room_ok, draw_ok, checked_ways, by_ways, find_has}
use Rattle.exchange.proofs.Closings.{closing, fine_at, answer_sendable, answer_tells, answer_answers, answer_invokes}
use Rattle.exchange.proofs.Edge.{Sendable, says, TellsOnly}
use Rattle.exchange.proofs.Handled.{owing_to, AnswersWell, Well, error_well, reject_well, requested_well}
use Rattle.exchange.proofs.Invariant.{Fine, Inv, Keeps, refused_step, put_step, only_step}
use Rattle.exchange.proofs.Names.{Elsewhere}
use Rattle.exchange.proofs.Searched.{bit, FoundAt, found_at, none_passes}
use Rattle.exchange.proofs.Slots.{has_at}
use Rattle.exchange.proofs.Steps.{numbered_id, opening}

-- what awaits an answer from a peer under an id awaits that alone
asked_only : (o : Option Asked) (peer id : ℕ) → is_asked_of peer id o ≡ true → (p i : ℕ) → is_asked_of p i o ≡ (eqb id i && eqb peer p)
asked_only None peer id e p i = absurd (false≢true e)
asked_only (Some asked) peer id e p i =
    let q = numbered_id asked.id.0 peer id asked.peer e in
    ap₂ (λ x y. eqb x i && eqb y p) q.0 q.1

same_owed : (a b : Owed) → Some a ≡ Some b → a ≡ b
same_owed a b h = same_Some a b h

moved_zero : (f : ℕ → ℕ → ℕ) (p i q j : ℕ) → i ≡ j → p ≡ q → f p i ≡ 0 → f q j ≡ 0
moved_zero f p i q j e1 e2 h = cc

-- what opens a dialogue is an invoke
abbrev Invoked : List ℕ → ℕ → Handling → Type 0
Invoked bytes id (Answer b) = Unit {0}
Invoked bytes id (Opens state o) = (i : Invoke) × (received_as bytes ≡ Ok (record { id = id; body = body.Invoke i }))

invoked : (bytes : List ℕ) (id : ℕ) (i : Invoke) → received_as bytes ≡ Ok (record { id = id; body = body.Invoke i }) → (h : Handling) → Invoked bytes id h
invoked bytes id i e (Answer b) = tt
invoked bytes id i e (Opens state o) = (i, e)

-- a delivery of bytes that are read as got
module _ (m : Meaning) (sized : IsSized m) (s : Service) (inv : Inv s) (reading peer : ℕ) (draw bytes : List ℕ) (links : List Link) (subscribers : List Subscriber) (out drawn : List ℕ) (whole : OfSize draw_size drawn) (ready : Ready s reading) where
  abbrev call : Call
  call = Delivery reading peer draw bytes links subscribers out

  abbrev Steps : Decision → Type 0
  Steps decision = Keeps s call decision

  -- an invoke from the peer under an id comes, and nothing is owed under it
  module _ (id : ℕ) (least : 1 ≤ id) (brought : (p i : ℕ) → brings (invokes i) p call ≡ (eqb id i && eqb peer p)) (none : (p i : ℕ) → brings (answers i) p call ≡ false) where
    answer_step : (b : Body) → AnswersWell b → Steps (Ok (deliver.answer_sent s reading peer id b))
    answer_step b w = only_step s inv call reading (outcome.Send peer (record { id = id; body = b })) (record {
      rest = ready.rest;
      last = ready.last;
      owed = λ p i. ap bit (brought p i ∙ sym (ap (λ z. (not z && eqb id i) && eqb peer p) w.is));
      sent = λ p i. ap (λ z. (z && eqb id i) && eqb peer p) w.is;
      got = none;
      verdicts = λ v e. absurd (none-some v (sym w.no_verdict ∙ e));
      sendable = (least, w.holds);
    })

    carried_step : owing peer id s ≡ 0 → (h : Handling) → Invoked bytes id h → Well s peer id h → Steps (Ok (deliver.carried_out s reading peer id h))
    carried_step free (Answer b) v w = answer_step b w
    carried_step free (Opens state o) v w =
        by_ways (λ done. Steps (Ok done)) (room s) _ _
        (λ place r.
        put_step s inv call reading (following s.next) place _ o
        (opening s inv call reading place state o ready (room_ok s place r) (record {
          owed = λ p i. omega (arith, ap bit (brought p i), ap bit (w.quiet p i), ap (λ z. bit (is_owed_to p i z)) w.owed);
          once = λ p i e. let q = numbered_id id p i peer (sym (brought p i) ∙ e) in moved_zero (λ x y. owing x y s) peer id p i q.0 q.1 free;
          said = w.said;
          got = none;
          lapse = λ t p i. refl;
          no_clock = λ h. h;
          verdicts = w.verdicts call;
          asked = w.asked;
          answer = λ x e. let same : owing_to peer id ≡ x = same_owed _ x (sym w.owed ∙ e) in subst (λ (y : Owed). 1 ≤ y.id.0) same least;
          user = w.user;
          sendable = w.sendable;
          reads = refl;
          owing = (id, v.0, v.1, w.owed);
        })))
        (λ n. answer_step (body.ReturnError TemporarilyUnavailable) (error_well TemporarilyUnavailable))

    taken_step : (h : Handling) → Invoked bytes id h → Well s peer id h → Steps (deliver.taken s reading peer id h)
    taken_step h v w =
        cond_both (list_any (owes peer id) s.dialogues) _ _ Steps
        (λ _. refused_step s inv call refusal.Twice)
        (λ e. carried_step (none_passes (owes peer id) s.dialogues e) h v w)

  -- an answer from the peer under an id comes to the dialogue that awaits it
  module _ (id : ℕ) (b : Body) (got : received_as bytes ≡ Ok (record { id = id; body = b })) (reply : is_invoke b ≡ false) (brought : (p i : ℕ) → brings (answers i) p call ≡ (eqb id i && eqb peer p)) (none : (p i : ℕ) → brings (invokes i) p call ≡ false) where
    module _ (k : ℕ) (d : Dialogue) (f : FoundAt (awaits peer id) s.dialogues k d) where
      abbrev Moves : kind.Step × Dialogue → Type 0
      Moves p = Steps (deliver.moved s reading k p)

      old : Fine s.fit s.last s.next.0 d
      old = fine_at s inv k d f.within f.stands

      ends_later : reading < d.ends
      ends_later = let r = ready.rest k None f.within in rw f.stands at r

      awaited : (p i : ℕ) → is_asked_of p i (asked_by d.state) ≡ (eqb id i && eqb peer p)
      awaited p i = asked_only (asked_by d.state) peer id f.passes p i

      answer : AnswerTo call d
      answer = (record { id = id; body = b }, got, reply, f.passes)

      stray : Moves (dialogue.stray d)
      stray = refused_step s inv call refusal.Stray

      -- the dialogue closes, and what it owes is answered, or a report is made
      concludes : (o : Option Owed) → owed_by d.state ≡ o → (b : Body) (r : Report) → is_invoke b ≡ false → IsBody b → TellsOnly call (outcome.Report d.name r) → verdict_in b ≡ None → Moves (dialogue.closes d (dialogue.answer_or_report o b d.name r))
      concludes o e b r is holds tells silent =
          closing s inv call reading k d o _ ready.last ready.rest (record {
            within = f.within;
            stands = f.stands;
            owes = e;
            owed = answer_answers s inv o b d.name r is;
            sent = answer_invokes s inv o b d.name r is;
            none = none;
            awaited = λ p i. omega (arith, ap bit (brought p i), ap bit (awaited p i));
            sendable = answer_sendable s inv o b d.name r (λ x q. old.answer x (e ∙ q)) holds;
            stays = λ h. absurd h;
            verdicts = answer_tells s inv call o b d.name r tells (λ v z. absurd (none-some v (sym silent ∙ z)));
            by = answer;
          })

      -- nothing is owed, and a report is made
      reports : owed_by d.state ≡ None → (r : Report) → TellsOnly call (outcome.Report d.name r) → Moves (dialogue.closes d (dialogue.reported d r))
      reports e r tells = concludes None e (body.Reject 0) r refl tt tells refl

      -- the dialogue goes on in a state that owes the same
      goes_on : (n : OwnNumber) (state : State) (o : Outcome) → s.next.0 ≤ n.0 → owed_by state ≡ owed_by d.state → Elsewhere d.state →
          Fine s.fit reading n.0 (dialogue.goes_on s.fit reading d state) →
          ((p i : ℕ) → says (answers i) p o ≡ false) → ((p i : ℕ) → says (invokes i) p o ≡ is_asked_of p i (asked_by state)) → ((p i : ℕ) → is_asked_of p i (asked_by state) ≡ true → (i ≡ s.next.0) × (s.next.0 < n.0)) →
          Sendable o → TellsOnly call o → Steps (Ok (o, written s reading n k (Some (dialogue.goes_on s.fit reading d state))))
      goes_on n state o up owes elsewhere fine quiet sent fresh sendable verdicts =
          put_step s inv call reading n k _ o (record {
            old = Some d;
            within = f.within;
            stands = f.stands;
            rest = ready.rest;
            last = ready.last;
            next = up;
            fine = fine;
            owed = λ p i. omega (arith, ap bit (none p i), ap bit (quiet p i), ap (λ z. bit (is_owed_to p i z)) owes);
            once = λ p i z. absurd (false≢true (sym (none p i) ∙ z));
            awaited = λ p i. omega (arith, ap bit (brought p i), ap bit (awaited p i), ap bit (sent p i));
            fresh = λ p i z. fresh p i (sym (sent p i) ∙ z);
            sendable = sendable;
            verdicts = verdicts;
            stays = λ h. absurd h;
            may = inr (record { from = d; was = refl; named = refl; elsewhere = elsewhere });
            arrives = inr (record { from = d; stood = has_at s.dialogues k d f.stands; answer = answer; name = refl; opened = refl; owes = owes; ends = refl });
            departs = refl;
          })

      -- on to the terminal
      challenged : (asked : Asked) (o : Option Owed) (computes : Bool) → d.state ≡ Requesting asked o computes → (challenge expected : List ℕ) → Moves (dialogue.challenged s.fit reading d o challenge expected)
      challenged asked o computes e challenge expected =
          let timer = inv.timers (timer_of (Executing o expected)) in
          let spanned : d.ends ≤ d.opened + longest_timer = let z = old.spanned in rw e at z in
          goes_on s.next (Executing o expected) (dialogue.reported d (report.Challenge challenge)) (omega arith) (sym (ap owed_by e)) (subst Elsewhere (sym e) tt) (record {
            later = omega arith;
            started = (reading, omega (arith, old.started.1, old.started.2, ready.last), omega arith, refl);
            spanned = omega (arith, ends_later);
            named = old.named;
            numbered = λ p i z. absurd (false≢true z);
            answer = λ x q. old.answer x (ap owed_by e ∙ q);
            user = tt;
          }) (λ p i. refl) (λ p i. refl) (λ p i z. absurd (false≢true z)) tt tt

      -- another invoke, with the unit
      asks_again : (asked : Asked) (user to : ℕ) → d.state ≡ FetchingForInitiation asked user to → (unit : AuthUnit) → UnitSized unit → Moves (dialogue.in_fetching_for_initiation m s.fit reading s.next d user (asking s.next to) (info.Unit unit))
      asks_again asked user to e unit size =
          let timer = inv.timers (timer_of (Initiating asked)) in
          let spanned : d.ends ≤ d.opened + longest_timer = let z = old.spanned in rw e at z in
          let right = let z = old.user in rw e at z in
          goes_on (following s.next) (Initiating (asking s.next to)) (dialogue.authenticate (asking s.next to) user unit) (omega arith) (sym (ap owed_by e)) (subst Elsewhere (sym e) tt) (record {
            later = omega arith;
            started = (reading, omega (arith, old.started.1, old.started.2, ready.last), omega arith, refl);
            spanned = omega (arith, ends_later);
            named = omega (arith, old.named);
            numbered = λ p i z. let q = (numbered_id s.next.0 p i to z).0 in omega arith;
            answer = λ x q. cc;
            user = tt;
          }) (λ p i. refl) (λ p i. refl) (λ p i z. (sym (numbered_id s.next.0 p i to z).0, omega arith)) (inv.next, (right, size)) (λ v z. absurd (none-some v z))

      in_fetching_step : (asked : Asked) (user to : ℕ) → d.state ≡ FetchingForInitiation asked user to → (r : WtatInfo) → IsWtatInfo r → Moves (dialogue.in_fetching_for_initiation m s.fit reading s.next d user (asking s.next to) r)
      in_fetching_step asked user to e (info.Unit unit) size = asks_again asked user to e unit size
      in_fetching_step asked user to e (info.Session session) size = stray

      in_requesting_step : (asked : Asked) (o : Option Owed) (computes : Bool) → d.state ≡ Requesting asked o computes → (challenge : List ℕ) (number : ℕ) (r : WtatInfo) → Moves (dialogue.in_requesting m s.fit reading s.next d o computes challenge number r)
      in_requesting_step asked o computes e challenge number (info.Unit unit) = challenged asked o computes e unit.challenge unit.response
      in_requesting_step asked o computes e challenge number (info.Session session) =
          cond_both (computes && eqb number m.number) _ _ Moves (λ _. challenged asked o computes e challenge (m.response session.key challenge)) (λ _. stray)

      in_proof_step : (asked : Asked) (computes : Bool) (c : List ℕ) → d.state ≡ RequestingProof asked computes c → (r : WtanParamRes) → Moves (dialogue.in_requesting_proof m s.fit reading s.next d computes c r)
      in_proof_step asked computes c e (proof.Response response) = reports (ap owed_by e) (report.Response response) tt
      in_proof_step asked computes c e (proof.Session session) =
          cond_both computes _ _ Moves (λ _. reports (ap owed_by e) (report.Response (m.response session.key c)) tt) (λ _. stray)

      passed_step : (owed : Owed) (awaits : Bool) (r : ReturnResult) → verdict_in (body.ReturnResult r) ≡ None → owed_by d.state ≡ Some owed → IsResult r → Moves (dialogue.passed_on m s.fit reading s.next d owed awaits r)
      passed_step owed awaits r silent e holds =
          cond_both awaits _ _ Moves (λ _. concludes (Some owed) e (body.ReturnResult r) (report.Failure (cause.Reject 0)) refl holds tt silent) (λ _. stray)

      result_step : (state : State) → d.state ≡ state → (r : ReturnResult) (challenge : List ℕ) → b ≡ body.ReturnResult r → IsResult r → Moves (dialogue.resulted m s.fit reading s.next d state r challenge)
      result_step (FetchingForInitiation asked user to) e (WtatParam Server r) challenge of holds = in_fetching_step asked user to e r.info holds
      result_step (Initiating asked) e (AuthWtmUser v) challenge of holds = reports (ap owed_by e) (report.Verdict v) (inr (ap (said verdict_in) got ∙ ap verdict_in of))
      result_step (FetchingForVisitor asked owed computes) e (WtatParam Server r) challenge of holds = passed_step owed _ (WtatParam Home r) refl (ap owed_by e) holds
      result_step (Requesting asked owed computes) e (WtatParam Home r) challenge of holds = in_requesting_step asked owed computes e challenge r.algorithm r.info
      result_step (RequestingProof asked computes c) e (WtanParam Home r) challenge of holds = in_proof_step asked computes c e r
      result_step (FetchingProof asked owed computes) e (WtanParam Server r) challenge of holds = passed_step owed _ (WtanParam Home r) refl (ap owed_by e) holds
      result_step state e r challenge of holds = stray

      failed_step : (b : Body) (r : Report) → is_invoke b ≡ false → IsBody b → TellsOnly call (outcome.Report d.name r) → verdict_in b ≡ None → Moves (dialogue.failed m s.fit reading s.next d b r)
      failed_step b r is holds tells silent =
          cond_both (is_some (asked_by d.state)) _ _ Moves (λ _. concludes (owed_by d.state) refl b r is holds tells silent) (λ _. stray)

    result_met : (r : ReturnResult) (challenge : List ℕ) → b ≡ body.ReturnResult r → IsResult r → (o : Option (ℕ × Dialogue)) → found (awaits peer id) s.dialogues ≡ o → Steps (deliver.met m s reading (event.Result r challenge) o)
    result_met r challenge of holds None e = refused_step s inv call refusal.Stray
    result_met r challenge of holds (Some (k, d)) e = result_step k d (found_at (awaits peer id) s.dialogues k d e) d.state refl r challenge of holds

    error_met : (x : ErrorCode) (o : Option (ℕ × Dialogue)) → found (awaits peer id) s.dialogues ≡ o → Steps (deliver.met m s reading (event.Error x) o)
    error_met x None e = refused_step s inv call refusal.Stray
    error_met x (Some (k, d)) e = failed_step k d (found_at (awaits peer id) s.dialogues k d e) (body.ReturnError x) _ refl tt tt refl

    reject_met : (x : ℕ) (o : Option (ℕ × Dialogue)) → found (awaits peer id) s.dialogues ≡ o → Steps (deliver.met m s reading (event.Reject x) o)
    reject_met x None e = refused_step s inv call refusal.Stray
    reject_met x (Some (k, d)) e = failed_step k d (found_at (awaits peer id) s.dialogues k d e) (body.ReturnError ParamNotAvailable) _ refl tt tt refl

  module _ (keys : AllByRecursion KeySized subscribers) where
    keyed_for : (o : Option Subscriber) (user : ℕ) → subscriber_for subscribers user ≡ o → IfAny KeySized o
    keyed_for None user e = tt
    keyed_for (Some x) user e = find_has KeySized (λ y. nat_eq (subscriber_key y) user) subscribers x e keys

    came_step : (id : ℕ) (b : Body) → received_as bytes ≡ Ok (record { id = id; body = b }) → 1 ≤ id → IsBody b → Steps (deliver.came m s reading peer drawn subscribers id b)
    came_step id (body.Invoke i) got least holds =
        taken_step id least (λ p j. ap (λ z. invokes j z && eqb peer p) got) (λ p j. ap (λ z. answers j z && eqb peer p) got)
        _ (invoked bytes id i got _) (requested_well s inv peer id m sized drawn whole i.user i.request (subscriber_for subscribers i.user) (keyed_for _ i.user refl) holds.0 holds.1)
    came_step id (body.ReturnResult r) got least holds =
        result_met id (body.ReturnResult r) got refl (λ p j. ap (λ z. answers j z && eqb peer p) got) (λ p j. ap (λ z. invokes j z && eqb peer p) got) r (drawn_challenge drawn) refl holds (found (awaits peer id) s.dialogues) refl
    came_step id (body.ReturnError x) got least holds =
        error_met id (body.ReturnError x) got refl (λ p j. ap (λ z. answers j z && eqb peer p) got) (λ p j. ap (λ z. invokes j z && eqb peer p) got) x (found (awaits peer id) s.dialogues) refl
    came_step id (body.Reject x) got least holds =
        reject_met id (body.Reject x) got refl (λ p j. ap (λ z. answers j z && eqb peer p) got) (λ p j. ap (λ z. invokes j z && eqb peer p) got) x (found (awaits peer id) s.dialogues) refl

    received_step : Bytes bytes → (got : Result Apdu NoApdu) → received_as bytes ≡ got → Steps (deliver.received m s reading peer drawn subscribers got)
    received_step b (Ok a) e = let back = read_writes_back bytes a b e in came_step a.id a.body e back.1.0.0 back.1.0.1
    received_step b (Err (RejectDue id problem)) e =
        taken_step id (due_id bytes id problem e) (λ p j. ap (λ z. invokes j z && eqb peer p) e) (λ p j. ap (λ z. answers j z && eqb peer p) e)
        (Answer (body.Reject (problem_number problem))) tt (reject_well (problem_number problem))
    received_step b (Err Garbled) e = refused_step s inv call refusal.Garbled

pub delivery : (m : Meaning) → IsSized m → (s : Service) → Inv s → (reading peer : ℕ) (draw bytes : List ℕ) (links : List Link) (subscribers : List Subscriber) (out : List ℕ) → Bytes bytes → AllByRecursion KeySized subscribers →
    Keeps s (Delivery reading peer draw bytes links subscribers out) (deliver.delivered m s reading peer draw bytes links subscribers)
delivery m sized s inv reading peer draw bytes links subscribers out b keys =
    let c : Call = Delivery reading peer draw bytes links subscribers out in
    checked_ways (Keeps s c) (ready s reading) _ (refused_step s inv c) (λ u r.
    checked_ways (Keeps s c) (deliver.draw_check links peer draw) _ (refused_step s inv c) (λ drawn w.
    received_step m sized s inv reading peer draw bytes links subscribers out drawn (draw_ok links peer draw drawn w).1 (ready_ok s reading u r) keys b (received_as bytes) refl))
