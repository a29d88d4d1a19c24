-- What each request does to the one place that it writes. Assumes nothing.
use Rattle.std.proofs.Common.{◌≡◌, ℕ, ◌+◌, ◌≤◌, Bool, true, false, ◌&&◌, eqb, List, Some, None, Ok, Option, Result, sym, refl, ap, ◌∙◌, arith, inl}
use Rattle.std.proofs.lemmas.Bool.{false≢true, and_parts, eqb-true}
use Rattle.std.proofs.lemmas.Option.{none-some}
use Rattle.wire.specs.declared.codes.Provider.TheVariants.{Home, Server}
use Rattle.apdu.specs.declared.apdus.Apdu.{Apdu}
use Rattle.apdu.specs.NoApdu.{NoApdu}
use Rattle.apdu.specs.declared.apdus.Body.TheVariants as body
use Rattle.apdu.specs.declared.apdus.Invoke.{Invoke}
use Rattle.apdu.specs.declared.apdus.Request.TheVariants.{AuthWtmUser, WtatParam, WtanParam}
use Rattle.apdu.specs.Laws.{IsInvoke}
use Rattle.entries.specs.declared.link.Link.{Link}
use Rattle.exchange.specs.declared.dialogue.Dialogue.{Dialogue}
use Rattle.exchange.specs.declared.invokes.Owed.{Owed}
use Rattle.exchange.specs.declared.outcome.Outcome.{Outcome}
use Rattle.exchange.specs.declared.outcome.Outcome.TheVariants.{Send}
use Rattle.exchange.specs.declared.service.Service.{Service}
use Rattle.exchange.specs.declared.state.State.{State}
use Rattle.exchange.specs.declared.state.State.TheVariants.{FetchingForInitiation, Initiating, FetchingForVisitor, Requesting, Executing, RequestingProof, FetchingProof}
use Rattle.exchange.specs.Bounds.{longest_timer, longest_dialogue}
use Rattle.exchange.specs.Calls.{initiated, initiated_with_values, visitor_started, proof_requested, dialled_check, user_check, challenge_check, asks}
use Rattle.exchange.specs.Moves.{OpensOwing, IsClock}
use Rattle.exchange.specs.Runs.{Call, PlainInitiation, InitiationWithValues, VisitorStart, NetworkProof, reading_of, invokes, answers, brings, owing, lapses}
use Rattle.exchange.specs.Invokes.{following, asking}
use Rattle.exchange.specs.Service.{ready, room, written}
use Rattle.exchange.specs.State.{timer_of, end_of, asked_by, owed_by, is_asked_of, is_owed_to}
use Rattle.exchange.proofs.Checks.{Ready, ready_ok, Room, room_ok, user_ok, dialled_ok, challenge_ok, checked_ways}
use Rattle.exchange.proofs.Edge.{Sendable, says, TellsOnly}
use Rattle.exchange.proofs.Invariant.{Inv, Keeps, Put, CanAnswer, span, UserRight, refused_step, put_step}
use Rattle.exchange.proofs.Searched.{bit}

pub span_bounds : (state : State) → (longest_timer ≤ span state) × (span state ≤ longest_dialogue)
span_bounds (FetchingForInitiation asked user peer) = (omega arith, omega arith)
span_bounds (Initiating asked) = (omega arith, omega arith)
span_bounds (FetchingForVisitor asked owed computes) = (omega arith, omega arith)
span_bounds (Requesting asked owed computes) = (omega arith, omega arith)
span_bounds (Executing owed expected) = (omega arith, omega arith)
span_bounds (RequestingProof asked computes challenge) = (omega arith, omega arith)
span_bounds (FetchingProof asked owed computes) = (omega arith, omega arith)

pub numbered_id : (n peer id p : ℕ) → (eqb n id && eqb p peer) ≡ true → (n ≡ id) × (p ≡ peer)
numbered_id n peer id p h = let q = and_parts (eqb n id) (eqb p peer) h in (eqb-true n id q.0, eqb-true p peer q.1)

-- a dialogue that opens at a free place
pub record Opening (s : Service) (c : Call) (reading : ℕ) (state : State) (o : Outcome) : Type 0 where
  pub owed : (peer id : ℕ) → bit (brings (invokes id) peer c) ≡ bit (says (answers id) peer o) + bit (is_owed_to peer id (owed_by state))
  pub once : (peer id : ℕ) → brings (invokes id) peer c ≡ true → owing peer id s ≡ 0
  pub said : (peer id : ℕ) → says (invokes id) peer o ≡ is_asked_of peer id (asked_by state)
  pub got : (peer id : ℕ) → brings (answers id) peer c ≡ false
  pub lapse : (t : Service) (peer id : ℕ) → lapses peer id s t c ≡ 0
  pub no_clock : IsClock c → ⊥
  pub verdicts : TellsOnly c o
  pub asked : (peer id : ℕ) → is_asked_of peer id (asked_by state) ≡ true → id ≡ s.next.0
  pub answer : CanAnswer state
  pub user : UserRight state
  pub sendable : Sendable o
  pub reads : reading_of c ≡ reading
  pub owing : OpensOwing c (owed_by state)

module _ (s : Service) (inv : Inv s) where
  pub opening : (c : Call) (reading place : ℕ) (state : State) (o : Outcome) → Ready s reading → Room s place → Opening s c reading state o →
      Put s c reading (following s.next) place (Some (record { name = s.next; opened = reading; ends = end_of s.fit reading state; state = state })) o
  opening c reading place state o ready room p =
      let x : Option Dialogue = Some (record { name = s.next; opened = reading; ends = end_of s.fit reading state; state = state }) in
      let least = (span_bounds state).0 in
      let timer = inv.timers (timer_of state) in
      record {
        old = None;
        within = room.within;
        stands = room.free;
        rest = ready.rest;
        last = ready.last;
        next = omega arith;
        fine = record {
          later = omega arith;
          started = (reading, omega arith, omega arith, refl);
          spanned = omega arith;
          named = omega arith;
          numbered = λ peer id e. let k = p.asked peer id e in omega arith;
          answer = p.answer;
          user = p.user;
        };
        owed = λ peer id. omega (arith, p.owed peer id);
        once = p.once;
        awaited = λ peer id. omega (arith, ap bit (p.said peer id), ap bit (p.got peer id), p.lapse (written s reading (following s.next) place x) peer id);
        fresh = λ peer id e. (p.asked peer id (sym (p.said peer id) ∙ e), omega arith);
        sendable = p.sendable;
        stays = λ h. absurd (p.no_clock h);
        verdicts = p.verdicts;
        may = inl (refl, omega arith);
        arrives = inl (record { name = refl; opened = sym p.reads; ends = ap (λ z. end_of s.fit z state) (sym p.reads); owes = p.owing });
        departs = tt;
      }

  -- a request opens a dialogue that owes nothing, and its invoke goes to the peer from which it awaits the answer
  pub request : (c : Call) (reading place peer : ℕ) (state : State) (invoke : Invoke) → Ready s reading → Room s place →
      reading_of c ≡ reading → ((o : Option Owed) → o ≡ None → OpensOwing c o) →
      ((read : Result Apdu NoApdu → Bool) (p : ℕ) → brings read p c ≡ false) →
      ((t : Service) (p id : ℕ) → lapses p id s t c ≡ 0) → (IsClock c → ⊥) →
      owed_by state ≡ None → asked_by state ≡ Some (asking s.next peer) → CanAnswer state → UserRight state → IsInvoke invoke →
      Keeps s c (Ok (asks s reading place state peer invoke))
  request c reading place peer state invoke ready room reads owing none lapse no_clock owes awaits answer user is =
      let asked : (p id : ℕ) → is_asked_of p id (asked_by state) ≡ (eqb s.next.0 id && eqb peer p) = λ p id. ap (is_asked_of p id) awaits in
      let sent : Outcome = Send peer (record { id = s.next.0; body = body.Invoke invoke }) in
      put_step s inv c reading (following s.next) place _ sent
      (opening c reading place state sent ready room (record {
        owed = λ p id. omega (arith, ap bit (none (invokes id) p), ap (λ o. bit (is_owed_to p id o)) owes);
        once = λ p id e. absurd (false≢true (sym (none (invokes id) p) ∙ e));
        said = λ p id. sym (asked p id);
        got = λ p id. none (answers id) p;
        lapse = lapse;
        no_clock = no_clock;
        verdicts = λ v e. absurd (none-some v e);
        asked = λ p id e. sym (numbered_id s.next.0 p id peer (sym (asked p id) ∙ e)).0;
        answer = answer;
        user = user;
        sendable = (inv.next, is);
        reads = reads;
        owing = owing (owed_by state) owes;
      }))

  pub plain : (reading : ℕ) (digits : List ℕ) (peer : ℕ) (links : List Link) (out : List ℕ) → Keeps s (PlainInitiation reading digits peer links out) (initiated s reading digits peer links)
  plain reading digits peer links out =
      let c : Call = PlainInitiation reading digits peer links out in
      checked_ways (Keeps s c) (ready s reading) _ (refused_step s inv c) (λ u r.
      checked_ways (Keeps s c) (dialled_check digits peer links) _ (refused_step s inv c) (λ user d.
      checked_ways (Keeps s c) (room s) _ (refused_step s inv c) (λ place w.
      request c reading place peer (Initiating (asking s.next peer)) (record { user = user; request = AuthWtmUser None })
      (ready_ok s reading u r) (room_ok s place w) refl (λ o e. e) (λ read p. refl) (λ t p id. refl) (λ h. h) refl refl (λ o e. cc) tt (dialled_ok digits peer links user d, tt))))

  pub with_values : (reading : ℕ) (digits : List ℕ) (peer : ℕ) (links : List Link) (out : List ℕ) → Keeps s (InitiationWithValues reading digits peer links out) (initiated_with_values s reading digits peer links)
  with_values reading digits peer links out =
      let c : Call = InitiationWithValues reading digits peer links out in
      checked_ways (Keeps s c) (ready s reading) _ (refused_step s inv c) (λ u r.
      checked_ways (Keeps s c) (dialled_check digits peer links) _ (refused_step s inv c) (λ user d.
      checked_ways (Keeps s c) (room s) _ (refused_step s inv c) (λ place w.
      request c reading place s.fit.server (FetchingForInitiation (asking s.next s.fit.server) user peer) (record { user = user; request = WtatParam Server (record { computes = false; challenge = None }) })
      (ready_ok s reading u r) (room_ok s place w) refl (λ o e. e) (λ read p. refl) (λ t p id. refl) (λ h. h) refl refl (λ o e. cc) (dialled_ok digits peer links user d) (dialled_ok digits peer links user d, tt))))

  pub visitor : (reading : ℕ) (digits out : List ℕ) → Keeps s (VisitorStart reading digits out) (visitor_started s reading digits)
  visitor reading digits out =
      let c : Call = VisitorStart reading digits out in
      checked_ways (Keeps s c) (ready s reading) _ (refused_step s inv c) (λ u r.
      checked_ways (Keeps s c) (user_check digits) _ (refused_step s inv c) (λ user d.
      checked_ways (Keeps s c) (room s) _ (refused_step s inv c) (λ place w.
      request c reading place s.fit.home (Requesting (asking s.next s.fit.home) None s.fit.can_compute) (record { user = user; request = WtatParam Home (record { computes = s.fit.can_compute; challenge = None }) })
      (ready_ok s reading u r) (room_ok s place w) refl (λ o e. e) (λ read p. refl) (λ t p id. refl) (λ h. h) refl refl (λ o e. cc) tt (user_ok digits user d, tt))))

  pub network : (number reading : ℕ) (digits challenge out : List ℕ) → Keeps s (NetworkProof reading digits challenge out) (proof_requested s reading digits challenge number)
  network number reading digits challenge out =
      let c : Call = NetworkProof reading digits challenge out in
      checked_ways (Keeps s c) (ready s reading) _ (refused_step s inv c) (λ u r.
      checked_ways (Keeps s c) (user_check digits) _ (refused_step s inv c) (λ user d.
      checked_ways (Keeps s c) (challenge_check challenge) _ (refused_step s inv c) (λ drawn h.
      checked_ways (Keeps s c) (room s) _ (refused_step s inv c) (λ place w.
      request c reading place s.fit.home (RequestingProof (asking s.next s.fit.home) s.fit.can_compute drawn) (record { user = user; request = WtanParam Home (record { computes = s.fit.can_compute; challenge = drawn; algorithm = number }) })
      (ready_ok s reading u r) (room_ok s place w) refl (λ o e. e) (λ read p. refl) (λ t p id. refl) (λ h. h) refl refl (λ o e. cc) tt (user_ok digits user d, challenge_ok challenge drawn h)))))
