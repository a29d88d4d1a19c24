-- A delivery that reports a challenge leaves a dialogue at the terminal, from which the response is expected that goes with it. Assumes nothing.
use Rattle.std.proofs.Common.{◌≡◌, ℕ, Bool, ◌&&◌, eqb, length, List, Some, None, Ok, Err, Option, Result, refl, subst, inl, inr, arith}
use Rattle.std.proofs.lemmas.Bool.{cond_both}
use Rattle.std.proofs.lemmas.Option.{none-some, same_Some}
use Rattle.std.specs.List.{list_any}
use Rattle.refusal.specs.declared.Refusal.TheVariants as refusal
use Rattle.wire.specs.declared.codes.Provider.TheVariants.{Home}
use Rattle.values.specs.declared.proof.AuthUnit.{AuthUnit}
use Rattle.values.specs.declared.user.User.{User}
use Rattle.values.specs.Draw.{drawn_challenge}
use Rattle.apdu.specs.declared.apdus.WtatInfo.{WtatInfo}
use Rattle.apdu.specs.declared.apdus.WtatInfo.TheVariants as info
use Rattle.apdu.specs.declared.apdus.WtatParamRes.{WtatParamRes}
use Rattle.apdu.specs.declared.apdus.Request.{Request}
use Rattle.apdu.specs.declared.apdus.Request.TheVariants as request
use Rattle.apdu.specs.declared.apdus.ReturnResult.TheVariants.{WtatParam}
use Rattle.apdu.specs.declared.apdus.Apdu.{Apdu}
use Rattle.apdu.specs.declared.apdus.Body.{Body}
use Rattle.apdu.specs.declared.apdus.Body.TheVariants as body
use Rattle.apdu.specs.NoApdu.{NoApdu}
use Rattle.apdu.specs.Decode.{received_as}
use Rattle.algorithm.specs.Meaning.{Meaning}
use Rattle.entries.specs.declared.subscriber.Subscriber.{Subscriber}
use Rattle.exchange.specs.declared.fit_out.FitOut.{FitOut}
use Rattle.exchange.specs.declared.invokes.Owed.{Owed}
use Rattle.exchange.specs.declared.invokes.OwnNumber.{OwnNumber}
use Rattle.exchange.specs.declared.dialogue.Dialogue.{Dialogue}
use Rattle.exchange.specs.declared.dialogue.Event.TheVariants as event
use Rattle.exchange.specs.declared.dialogue.Step.{Step}
use Rattle.exchange.specs.declared.dialogue.Step.TheVariants as step
use Rattle.exchange.specs.declared.outcome.Done.TheVariants.{Reported}
use Rattle.exchange.specs.declared.outcome.Outcome.{Outcome}
use Rattle.exchange.specs.declared.outcome.Outcome.TheVariants.{Report}
use Rattle.exchange.specs.declared.outcome.Report.TheVariants as report
use Rattle.exchange.specs.declared.service.Service.{Service}
use Rattle.exchange.specs.declared.state.State.{State}
use Rattle.exchange.specs.declared.state.State.TheVariants.{Requesting, Executing}
use Rattle.exchange.specs.Deliver.{moved, met, carried_out, taken, draw_check, came, received, delivered}
use Rattle.exchange.specs.Dialogue.{stray, challenged, in_requesting, resulted}
use Rattle.exchange.specs.Genuine.{said, said_to, unit_brought, values_brought}
use Rattle.exchange.specs.Outcome.{Decision, at_edge, buffer_check}
use Rattle.exchange.specs.Runs.{Call, Delivery, called}
use Rattle.exchange.specs.Server.{subscriber_for, visited, requested}
use Rattle.exchange.specs.Service.{ready, room, opened, written}
use Rattle.exchange.specs.Table.{found, awaits, owes}
use Rattle.exchange.proofs.Checks.{checked_ways, by_ways}
use Rattle.exchange.proofs.Names.{At, Expects, Elsewhere, Names, Holds, Writes, written_holds_it}
use Rattle.exchange.proofs.Searched.{found_at}

-- a challenge and the response that is expected to it go with the values
abbrev pub Fits : Meaning → WtatInfo → List ℕ → List ℕ → Type 0
Fits m (info.Unit unit) c e = (unit.challenge ≡ c) × (unit.response ≡ e)
Fits m (info.Session session) c e = m.response session.key c ≡ e

-- where an outcome reports a challenge, it is under the dialogue's name, and the dialogue expects the response to it
abbrev Challenge : Meaning → WtatInfo → Dialogue → Outcome → Type 0
Challenge m values d (Report name (report.Challenge c)) = (d.name ≡ name) × (e : List ℕ) × Fits m values c e × Expects e d.state
Challenge m values d o = Unit {0}

-- so it is with a step, and the dialogue was in a state that is not at the terminal
abbrev Challenges : Meaning → WtatInfo → Dialogue → State → Step × Dialogue → Type 0
Challenges m values d state (step.Stray, new) = Unit {0}
Challenges m values d state (step.GoesOn o, new) = (new.name.0 ≡ d.name.0) × Elsewhere state × Challenge m values new o
Challenges m values d state (step.AsksAgain o, new) = ⊥
Challenges m values d state (step.Closes o, new) = ⊥

module _ (m : Meaning) (fit : FitOut) (reading : ℕ) (next : OwnNumber) (d : Dialogue) where
  in_requesting_shows : (state : State) → Elsewhere state → (owed : Option Owed) (computes : Bool) (drawn : List ℕ) (number : ℕ) (i : WtatInfo) → Challenges m i d state (in_requesting m fit reading next d owed computes drawn number i)
  in_requesting_shows state h owed computes drawn number (info.Unit unit) = (refl, h, (refl, unit.response, (refl, refl), refl))
  in_requesting_shows state h owed computes drawn number (info.Session session) =
      cond_both (computes && eqb number m.number) (challenged fit reading d owed drawn (m.response session.key drawn)) (stray d) (Challenges m (info.Session session) d state)
      (λ t. (refl, h, (refl, m.response session.key drawn, refl, refl))) (λ t. tt)

  resulted_shows : (state : State) (r : WtatParamRes) (drawn : List ℕ) → Challenges m r.info d state (resulted m fit reading next d state (WtatParam Home r) drawn)
  resulted_shows (Requesting asked owed computes) r drawn = in_requesting_shows (Requesting asked owed computes) tt owed computes drawn r.algorithm r.info
  resulted_shows state r drawn = tt

module _ (m : Meaning) (s : Service) (names : Names s) (reading : ℕ) (values : WtatInfo) where
  -- where a challenge is reported under a name, that dialogue is left expecting the response that goes with it
  abbrev Shows : Decision → Type 0
  Shows (Ok (Report name (report.Challenge c), t)) = (e : List ℕ) × Fits m values c e × Holds t name.0 e
  Shows decision = Unit {0}

  written_shows : (t : Service) (w : Writes s t) (new : Dialogue) (o : Outcome) → w.slot ≡ Some new → Challenge m values new o → Shows (Ok (o, t))
  written_shows t w new (Report name (report.Challenge c)) is h = (h.1, h.2, subst (λ (n : OwnNumber). Holds t n.0 h.1) h.0 (written_holds_it s t names w new h.1 is h.3))
  written_shows t w new o is h = tt

  moved_shows : (place : ℕ) (d : Dialogue) (p : Step × Dialogue) → At s.dialogues place d → Challenges m values d d.state p → Shows (moved s reading place p)
  moved_shows place d (step.Stray, new) a h = tt
  moved_shows place d (step.GoesOn o, new) a h =
      written_shows (written s reading s.next place (Some new))
      (record { next = omega arith; place = place; slot = Some new; is = refl; may = inr (record { from = d; was = a; named = h.0; elsewhere = h.1 }) }) new o refl h.2
  moved_shows place d (step.AsksAgain o, new) a h = absurd h
  moved_shows place d (step.Closes o, new) a h = absurd h

  met_shows : (peer id : ℕ) (r : WtatParamRes) (drawn : List ℕ) (o : Option (ℕ × Dialogue)) → r.info ≡ values → found (awaits peer id) s.dialogues ≡ o → Shows (met m s reading (event.Result (WtatParam Home r) drawn) o)
  met_shows peer id r drawn None is h = tt
  met_shows peer id r drawn (Some (place, d)) is h =
      let p : Step × Dialogue = resulted m s.fit reading s.next d d.state (WtatParam Home r) drawn in
      moved_shows place d p ((found_at (awaits peer id) s.dialogues place d h).stands) (subst (λ (i : WtatInfo). Challenges m i d d.state p) is (resulted_shows m s.fit reading s.next d d.state r drawn))

  visited_shows : (peer id : ℕ) (owed : Owed) (user : User) (unit : AuthUnit) → info.Unit unit ≡ values → Shows (Ok (carried_out s reading peer id (visited s.fit s.next owed user (Some unit))))
  visited_shows peer id owed user unit is =
      by_ways (λ (p : Outcome × Service). Shows (Ok p)) (room s) _ _
      (λ place w.
      written_shows (opened s reading place (Executing (Some owed) unit.response)) (record { next = omega arith; place = place; slot = _; is = refl; may = inl (refl, omega arith) }) _ (Report s.next (report.Challenge unit.challenge)) refl
      (subst (λ (i : WtatInfo). (s.next ≡ s.next) × (e : List ℕ) × Fits m i unit.challenge e × (unit.response ≡ e)) is (refl, unit.response, (refl, refl), refl)))
      (λ e. tt)

  requested_shows : (draw : List ℕ) (peer id : ℕ) (owed : Owed) (user : User) (r : Request) (subscriber : Option Subscriber) → unit_brought r ≡ Some values → Shows (taken s reading peer id (requested s.fit s.next owed m draw user r subscriber))
  requested_shows draw peer id owed user (request.AuthWtmUser (Some unit)) subscriber is =
      cond_both (list_any (owes peer id) s.dialogues) (Err refusal.Twice) (Ok (carried_out s reading peer id (visited s.fit s.next owed user (Some unit)))) Shows
      (λ t. tt) (λ t. visited_shows peer id owed user unit (same_Some _ values is))
  requested_shows draw peer id owed user r subscriber is = absurd (none-some values is)

  came_shows : (draw : List ℕ) (peer : ℕ) (subscribers : List Subscriber) (id : ℕ) (b : Body) → values_brought b ≡ Some values → Shows (came m s reading peer draw subscribers id b)
  came_shows draw peer subscribers id (body.Invoke i) is = requested_shows draw peer id (record { peer = peer; id = record { 0 = id } }) i.user i.request (subscriber_for subscribers i.user) is
  came_shows draw peer subscribers id (body.ReturnResult (WtatParam Home r)) is = met_shows peer id r (drawn_challenge draw) (found (awaits peer id) s.dialogues) (same_Some _ values is) refl
  came_shows draw peer subscribers id b is = absurd (none-some values is)

  received_shows : (draw : List ℕ) (peer : ℕ) (subscribers : List Subscriber) (r : Result Apdu NoApdu) → said values_brought r ≡ Some values → Shows (received m s reading peer draw subscribers r)
  received_shows draw peer subscribers (Ok a) is = came_shows draw peer subscribers a.id a.body is
  received_shows draw peer subscribers (Err e) is = absurd (none-some values is)

  -- so it is at the edge
  edge_shows : (name : OwnNumber) (c out : List ℕ) (decision : Decision) → Shows decision →
      (at_edge s out decision).result ≡ Ok (Reported name (report.Challenge c)) → (e : List ℕ) × Fits m values c e × Holds (at_edge s out decision).service name.0 e
  edge_shows name c out (Ok (Report own (report.Challenge given), t)) h is =
      let p : own ≡ name = cc in
      let q : given ≡ c = cc in
      (h.0, subst (λ (x : List ℕ). Fits m values x h.0) q h.1, subst (λ (n : OwnNumber). Holds t n.0 h.0) p h.2)
  edge_shows name c out decision h is = cc

pub delivery_shows : (m : Meaning) (s : Service) → Names s → (values : WtatInfo) (name : OwnNumber) (c : List ℕ) (d : Call) → said_to values_brought d ≡ Some values →
    (called m s d).result ≡ Ok (Reported name (report.Challenge c)) → (e : List ℕ) × Fits m values c e × Holds (called m s d).service name.0 e
delivery_shows m s names values name c (Delivery reading peer draw bytes links subscribers out) is =
    edge_shows m s names reading values name c out _
    (checked_ways (Shows m s names reading values) (buffer_check (length out)) (λ _. delivered m s reading peer draw bytes links subscribers) (λ n. tt)
    (λ _ _. checked_ways (Shows m s names reading values) (ready s reading) _ (λ n. tt)
    (λ _ _. checked_ways (Shows m s names reading values) (draw_check links peer draw) (λ drawn. received m s reading peer drawn subscribers (received_as bytes)) (λ n. tt)
    (λ drawn _. received_shows m s names reading values drawn peer subscribers (received_as bytes) is))))
delivery_shows m s names values name c d is = absurd (none-some values is)
