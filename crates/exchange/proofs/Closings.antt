-- The steps of the dialogue that was found: by the clock and by a reply. Assumes nothing.
use Rattle.std.proofs.Common.{◌≡◌, ℕ, ◌+◌, ◌<◌, ◌≤◌, true, false, ◌&&◌, not, eqb, leb, List, [], ◌∷◌, length, get_or, Some, None, Ok, Option, All, sym, refl, ap, ◌∙◌, subst, inl, inr, suc, arith}
use Rattle.std.proofs.lemmas.Bool.{cond_both, false≢true, le-leb}
use Rattle.std.proofs.lemmas.List.Elements.{All-nil, All-cons}
use Rattle.std.proofs.lemmas.Option.{none-some}
use Rattle.refusal.specs.declared.Refusal.TheVariants as refusal
use Rattle.wire.specs.declared.codes.Verdict.{Verdict}
use Rattle.wire.specs.declared.codes.ErrorCode.TheVariants.{TemporarilyUnavailable}
use Rattle.apdu.specs.declared.apdus.Body.{Body}
use Rattle.apdu.specs.declared.apdus.Body.TheVariants as body
use Rattle.apdu.specs.declared.apdus.ReturnResult.TheVariants.{AuthWtmUser}
use Rattle.apdu.specs.Laws.{IsBody}
use Rattle.algorithm.specs.Meaning.{Meaning}
use Rattle.exchange.specs.declared.dialogue.Dialogue.{Dialogue}
use Rattle.exchange.specs.declared.dialogue.Event.TheVariants as event
use Rattle.exchange.specs.declared.invokes.Owed.{Owed}
use Rattle.exchange.specs.declared.invokes.OwnNumber.{OwnNumber}
use Rattle.exchange.specs.declared.outcome.Outcome.{Outcome}
use Rattle.exchange.specs.declared.outcome.Outcome.TheVariants as outcome
use Rattle.exchange.specs.declared.outcome.Report.{Report}
use Rattle.exchange.specs.declared.service.Service.{Service}
use Rattle.exchange.specs.declared.state.State.{State}
use Rattle.exchange.specs.declared.state.State.TheVariants.{Executing}
use Rattle.exchange.specs.Calls.{clocked, clocked_by, response_check}
use Rattle.exchange.specs.Deliver.{moved, met, replied}
use Rattle.exchange.specs.Dialogue.{answer_or_report, reply_step, verdict_on}
use Rattle.exchange.specs.Genuine.{verdict_in}
use Rattle.exchange.specs.Moves.{IsClock, Closes}
use Rattle.exchange.specs.Runs.{Call, Reply, Clock, is_invoke, invokes, answers, brings, lapses}
use Rattle.exchange.specs.Service.{ready, timely, written}
use Rattle.exchange.specs.State.{asked_by, owed_by, is_asked_of, is_owed_to}
use Rattle.exchange.specs.Table.{Has, ends_first, better, first_to_end_from, first_to_end, awaits_reply, found}
use Rattle.exchange.specs.Verdicts.{IsReply}
use Rattle.exchange.proofs.Checks.{Ready, ready_ok, timely_ok, checked_ways}
use Rattle.exchange.proofs.Earliest.{first_to_end_is}
use Rattle.exchange.proofs.Edge.{Sendable, says, TellsOnly}
use Rattle.exchange.proofs.Invariant.{Fine, Inv, Keeps, refused_step, put_step, only_step}
use Rattle.exchange.proofs.Left.{one_late}
use Rattle.exchange.proofs.Searched.{bit, Open, Later, FoundAt, found_at}

-- what ends first stands at its place
abbrev Placed : List (Option Dialogue) → Option (ℕ × Dialogue) → Type 0
Placed slots None = Unit {0}
Placed slots (Some (k, d)) = (k < length slots) × (get_or slots k None ≡ Some d)

-- ss is what stands in the slots from place i on
abbrev From : List (Option Dialogue) → ℕ → List (Option Dialogue) → Type 0
From slots i ss = (k j : ℕ) → j ≡ i + k → k < length ss → (j < length slots) × (get_or slots j None ≡ get_or ss k None)

placed_better : (reading : ℕ) (slots : List (Option Dialogue)) (i : ℕ) (s : Option Dialogue) (best : Option (ℕ × Dialogue)) → i < length slots → get_or slots i None ≡ s → Placed slots best → Placed slots (better reading i s best)
placed_better reading slots i None best l e h = h
placed_better reading slots i (Some d) best l e h = cond_both (ends_first reading d best) _ _ (Placed slots) (λ t. (l, e)) (λ t. h)

first_from_placed : (reading : ℕ) (ss : List (Option Dialogue)) (slots : List (Option Dialogue)) (i : ℕ) (best : Option (ℕ × Dialogue)) → From slots i ss → Placed slots best → Placed slots (first_to_end_from reading i best ss)
first_from_placed reading [] slots i best f h = h
first_from_placed reading (s ∷ ss) slots i best f h =
    let here = f 0 i (omega arith) (omega arith) in
    first_from_placed reading ss slots (i + 1) (better reading i s best) (λ k j e l. f (suc k) j (omega arith) (omega arith)) (placed_better reading slots i s best here.0 here.1 h)

first_placed : (reading : ℕ) (slots : List (Option Dialogue)) (k : ℕ) (d : Dialogue) → first_to_end reading slots ≡ Some (k, d) → (k < length slots) × (get_or slots k None ≡ Some d)
first_placed reading slots k d e =
    subst (Placed slots) e (first_from_placed reading slots slots 0 None (λ m j q l. let same : j ≡ m = omega arith in rw same (l, refl)) tt)

all_open : (P : Dialogue → Type 0) (slots : List (Option Dialogue)) → ((d : Dialogue) → Has d slots → P d) → All (Open P) slots
all_open P [] h = All-nil (Open P)
all_open P (None ∷ ss) h = All-cons (Open P) None ss tt (all_open P ss (λ d m. h d (inr m)))
all_open P (Some e ∷ ss) h = All-cons (Open P) (Some e) ss (h e (inl refl)) (all_open P ss (λ d m. h d (inr m)))

-- a dialogue that closes
pub record Closing (s : Service) (c : Call) (r k : ℕ) (d : Dialogue) (owed_to : Option Owed) (o : Outcome) : Type 0 where
  pub within : k < length s.dialogues
  pub stands : get_or s.dialogues k None ≡ Some d
  pub owes : owed_by d.state ≡ owed_to
  pub owed : (peer id : ℕ) → says (answers id) peer o ≡ is_owed_to peer id owed_to
  pub sent : (peer id : ℕ) → says (invokes id) peer o ≡ false
  pub none : (peer id : ℕ) → brings (invokes id) peer c ≡ false
  pub awaited : (peer id : ℕ) → bit (brings (answers id) peer c) + lapses peer id s (written s r s.next k None) c ≡ bit (is_asked_of peer id (asked_by d.state))
  pub sendable : Sendable o
  pub stays : IsClock c → r ≡ s.last
  pub verdicts : TellsOnly c o
  pub by : Closes c d

module _ (s : Service) (inv : Inv s) where
  pub closing : (c : Call) (r k : ℕ) (d : Dialogue) (owed_to : Option Owed) (o : Outcome) → s.last ≤ r → All (Later r) s.dialogues → Closing s c r k d owed_to o → Keeps s c (Ok (o, written s r s.next k None))
  closing c r k d owed_to o last rest z = put_step s inv c r s.next k None o (record {
    old = Some d;
    within = z.within;
    stands = z.stands;
    rest = rest;
    last = last;
    next = omega arith;
    fine = tt;
    owed = λ peer id. omega (arith, ap bit (z.none peer id), ap bit (z.owed peer id), ap (λ y. bit (is_owed_to peer id y)) z.owes);
    once = λ peer id e. absurd (false≢true (sym (z.none peer id) ∙ e));
    awaited = λ peer id. omega (arith, ap bit (z.sent peer id), z.awaited peer id);
    fresh = λ peer id e. absurd (false≢true (sym (z.sent peer id) ∙ e));
    sendable = z.sendable;
    stays = z.stays;
    verdicts = z.verdicts;
    may = tt;
    arrives = tt;
    departs = z.by;
  })

  pub fine_at : (k : ℕ) (d : Dialogue) → k < length s.dialogues → get_or s.dialogues k None ≡ Some d → Fine s.fit s.last s.next.0 d
  fine_at k d l w = let f = inv.fine k None l in rw w at f

  -- what is owed gets an answer
  pub answer_sendable : (o : Option Owed) (b : Body) (name : OwnNumber) (r : Report) → ((x : Owed) → o ≡ Some x → 1 ≤ x.id.0) → IsBody b → Sendable (answer_or_report o b name r)
  answer_sendable None b name r h is = tt
  answer_sendable (Some owed) b name r h is = (h owed refl, is)

  pub answer_tells : (c : Call) (o : Option Owed) (b : Body) (name : OwnNumber) (r : Report) → TellsOnly c (outcome.Report name r) → ((v : Verdict) → verdict_in b ≡ Some v → IsReply c) → TellsOnly c (answer_or_report o b name r)
  answer_tells c None b name r h g = h
  answer_tells c (Some owed) b name r h g = g

  pub answer_answers : (o : Option Owed) (b : Body) (name : OwnNumber) (r : Report) → is_invoke b ≡ false → (peer id : ℕ) → says (answers id) peer (answer_or_report o b name r) ≡ is_owed_to peer id o
  answer_answers None b name r h peer id = refl
  answer_answers (Some owed) b name r h peer id = ap (λ z. (not z && eqb owed.id.0 id) && eqb owed.peer peer) h

  pub answer_invokes : (o : Option Owed) (b : Body) (name : OwnNumber) (r : Report) → is_invoke b ≡ false → (peer id : ℕ) → says (invokes id) peer (answer_or_report o b name r) ≡ false
  answer_invokes None b name r h peer id = refl
  answer_invokes (Some owed) b name r h peer id = ap (λ z. (z && eqb owed.id.0 id) && eqb owed.peer peer) h

  later_of : (slot : Option Dialogue) → Open (Fine s.fit s.last s.next.0) slot → Later s.last slot
  later_of None f = tt
  later_of (Some d) f = f.later

  -- the clock closes the dialogue whose timer ends first
  clock_by : (reading : ℕ) (out : List ℕ) (o : Option (ℕ × Dialogue)) → s.last ≤ reading → first_to_end reading s.dialogues ≡ o → Keeps s (Clock reading out) (Ok (clocked_by s reading o))
  clock_by reading out None last e = only_step s inv (Clock reading out) reading outcome.Quiet (record {
    rest = all_open (λ d. reading < d.ends) s.dialogues (first_to_end_is reading s.dialogues None e);
    last = last;
    owed = λ peer id. refl;
    sent = λ peer id. refl;
    got = λ peer id. refl;
    verdicts = tt;
    sendable = tt;
  })
  clock_by reading out (Some (k, d)) last e =
      let p = first_placed reading s.dialogues k d e in
      let ended : leb d.ends reading ≡ true = le-leb d.ends reading (first_to_end_is reading s.dialogues (Some (k, d)) e).1 in
      closing (Clock reading out) s.last k d (owed_by d.state) _ (omega arith) (λ j x l. later_of (get_or s.dialogues j x) (inv.fine j x l)) (record {
        within = p.0;
        stands = p.1;
        owes = refl;
        owed = λ peer id. answer_answers (owed_by d.state) (body.ReturnError TemporarilyUnavailable) d.name _ refl peer id;
        sent = λ peer id. answer_invokes (owed_by d.state) (body.ReturnError TemporarilyUnavailable) d.name _ refl peer id;
        none = λ peer id. refl;
        awaited = λ peer id. omega (arith, one_late s inv.names reading peer id k d p.0 p.1, ap (λ z. bit (z && is_asked_of peer id (asked_by d.state))) ended);
        stays = λ h. refl;
        verdicts = answer_tells (Clock reading out) (owed_by d.state) _ d.name _ tt (λ v e. absurd (none-some v e));
        sendable = answer_sendable (owed_by d.state) (body.ReturnError TemporarilyUnavailable) d.name _ ((fine_at k d p.0 p.1).answer) tt;
        by = (first_to_end_is reading s.dialogues (Some (k, d)) e).1;
      })

  pub clock : (reading : ℕ) (out : List ℕ) → Keeps s (Clock reading out) (clocked s reading)
  clock reading out =
      checked_ways (Keeps s (Clock reading out)) (timely s reading) _ (refused_step s inv (Clock reading out))
      (λ u t. clock_by reading out (first_to_end reading s.dialogues) (timely_ok s reading u t) refl)

  -- a reply closes the dialogue with the terminal that it is for
  module _ (m : Meaning) (reading : ℕ) (name : OwnNumber) (response out given : List ℕ) (ready : Ready s reading) where
    abbrev call : Call
    call = Reply reading name given out

    reply_state : (k : ℕ) (d : Dialogue) → FoundAt (awaits_reply name) s.dialogues k d → (state : State) → d.state ≡ state → Keeps s call (moved s reading k (reply_step m s.fit reading s.next d state response))
    reply_state k d f (Executing owed expected) e =
        closing call reading k d owed _ ready.last ready.rest (record {
          within = f.within;
          stands = f.stands;
          owes = ap owed_by e;
          owed = λ peer id. answer_answers owed (body.ReturnResult (AuthWtmUser (verdict_on response expected))) d.name _ refl peer id;
          sent = λ peer id. answer_invokes owed (body.ReturnResult (AuthWtmUser (verdict_on response expected))) d.name _ refl peer id;
          none = λ peer id. refl;
          awaited = λ peer id. ap (λ z. bit (is_asked_of peer id (asked_by z))) (sym e);
          stays = λ h. absurd h;
          verdicts = answer_tells call owed _ d.name _ (inl tt) (λ v e. tt);
          sendable = answer_sendable owed (body.ReturnResult (AuthWtmUser (verdict_on response expected))) d.name _ (λ x q. (fine_at k d f.within f.stands).answer x (ap owed_by e ∙ q)) tt;
          by = f.passes;
        })
    reply_state k d f state e = refused_step s inv call refusal.Stray

    reply_by : (o : Option (ℕ × Dialogue)) → found (awaits_reply name) s.dialogues ≡ o → Keeps s call (met m s reading (event.Reply response) o)
    reply_by None e = refused_step s inv call refusal.Stray
    reply_by (Some (k, d)) e = reply_state k d (found_at (awaits_reply name) s.dialogues k d e) d.state refl

  pub reply : (m : Meaning) (reading : ℕ) (name : OwnNumber) (response out : List ℕ) → Keeps s (Reply reading name response out) (replied m s reading name response)
  reply m reading name response out =
      let c : Call = Reply reading name response out in
      checked_ways (Keeps s c) (ready s reading) _ (refused_step s inv c) (λ u r.
      checked_ways (Keeps s c) (response_check response) _ (refused_step s inv c) (λ bytes h.
      reply_by m reading name bytes out response (ready_ok s reading u r) (found (awaits_reply name) s.dialogues) refl))
