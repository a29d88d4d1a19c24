-- A call is refused with the lowest number whose condition holds, and done where none does. Assumes nothing.
use Rattle.std.proofs.Common.{◌≡◌, ◌≢◌, ℕ, ◌+◌, ◌<◌, ◌≤◌, ◌⊎◌, ◌↔◌, Bool, true, false, cond, not, ◌&&◌, ◌||◌, eqb, ltb, List, [], ◌∷◌, length, Some, None, Ok, Err, Option, Result, is_some, is_ok, sym, refl, ap, ◌∙◌, subst, inl, inr, ⊎_elim, nat_lt, arith}
use Rattle.std.specs.List.{list_any, AllByRecursion}
use Rattle.std.specs.Option.{ok_or}
use Rattle.std.proofs.Math.Bool.{or_comm}
use Rattle.std.proofs.lemmas.Bool.{true≢false, false≢true, both_ways, cond_both, and_parts, or_cases, or_parts, ltb-true, ltb-false, leb-true, eqb-true, eqb-false, eq-eqb, le-leb, cases_order}
use Rattle.std.proofs.lemmas.Option.{same_Some}
use Rattle.std.proofs.lemmas.List.{length-set}
use Rattle.refusal.specs.declared.Refusal.{Refusal}
use Rattle.refusal.specs.declared.Refusal.TheVariants.{ShortSheet, ClockBack, TimerDue, Misdialled, Garbled, Stray, Twice, Full, Spent, Misfitted}
use Rattle.refusal.specs.Refusals.{refusal_number, refusal_of}
use Rattle.wire.specs.declared.codes.Problem.{Problem}
use Rattle.wire.specs.declared.codes.Provider.TheVariants.{Home, Server}
use Rattle.wire.specs.Codes.{problem_number}
use Rattle.wire.specs.FieldValues.{exact}
use Rattle.wire.proofs.Options.{err_ok, ok_same, ok_or_back}
use Rattle.values.specs.Draw.{drawn_challenge}
use Rattle.values.specs.Sizes.{challenge_size, draw_size, response_size}
use Rattle.values.specs.User.{user_number}
use Rattle.apdu.specs.declared.apdus.Apdu.{Apdu}
use Rattle.apdu.specs.NoApdu.{NoApdu}
use Rattle.apdu.specs.declared.apdus.NoApdu.TheVariants as no_apdu
use Rattle.apdu.specs.declared.apdus.Body.{Body}
use Rattle.apdu.specs.declared.apdus.Body.TheVariants as body
use Rattle.apdu.specs.declared.apdus.ReturnResult.{ReturnResult}
use Rattle.apdu.specs.declared.apdus.ReturnResult.TheVariants.{AuthWtmUser, WtatParam, WtanParam}
use Rattle.apdu.specs.declared.apdus.WtatInfo.{WtatInfo}
use Rattle.apdu.specs.declared.apdus.WtatInfo.TheVariants as info
use Rattle.apdu.specs.declared.apdus.WtanParamRes.{WtanParamRes}
use Rattle.apdu.specs.declared.apdus.WtanParamRes.TheVariants as proof
use Rattle.apdu.specs.Decode.{received_as}
use Rattle.apdu.specs.Encode.{least_buffer}
use Rattle.algorithm.specs.Meaning.{Meaning}
use Rattle.entries.specs.declared.link.Link.{Link}
use Rattle.entries.specs.declared.subscriber.Subscriber.{Subscriber}
use Rattle.entries.specs.Link.{is_linked}
use Rattle.exchange.specs.declared.dialogue.Dialogue.{Dialogue}
use Rattle.exchange.specs.declared.dialogue.Event.{Event}
use Rattle.exchange.specs.declared.dialogue.Event.TheVariants as event
use Rattle.exchange.specs.declared.dialogue.Step.{Step}
use Rattle.exchange.specs.declared.dialogue.Step.TheVariants as steps
use Rattle.exchange.specs.declared.fit_out.FitOut.{FitOut}
use Rattle.exchange.specs.declared.handling.Handling.{Handling}
use Rattle.exchange.specs.declared.handling.Handling.TheVariants.{Answer}
use Rattle.exchange.specs.declared.invokes.Asked.{Asked}
use Rattle.exchange.specs.declared.invokes.OwnNumber.{OwnNumber}
use Rattle.exchange.specs.declared.invokes.Owed.{Owed}
use Rattle.exchange.specs.Done.{Done}
use Rattle.exchange.specs.declared.outcome.Outcome.{Outcome}
use Rattle.exchange.specs.declared.outcome.Report.{Report}
use Rattle.exchange.specs.declared.service.Service.{Service}
use Rattle.exchange.specs.declared.state.State.{State}
use Rattle.exchange.specs.declared.state.State.TheVariants.{FetchingForInitiation, Initiating, FetchingForVisitor, Requesting, Executing, RequestingProof, FetchingProof}
use Rattle.exchange.specs.EnterService.{fresh}
use Rattle.exchange.specs.FitOut.{fitted}
use Rattle.exchange.specs.Bounds.{most_dialogues, highest_reading, last_opening}
use Rattle.exchange.specs.Calls.{user_check, dialled_check, challenge_check, response_check}
use Rattle.exchange.specs.Deliver as deliver
use Rattle.exchange.specs.Dialogue as dialogue
use Rattle.exchange.specs.Moves.{IsClock}
use Rattle.exchange.specs.Conditions.{SomeOpen, IsUserText, IsUnlinked, IsMisdialled, IsGarbled, IsStray, IsTwice, IsOpening, is_awaited, Condition, RefusedByLowest, AlwaysRefuses}
use Rattle.exchange.specs.Outcome.{Decision, at_edge, buffer_check}
use Rattle.exchange.specs.Results.{is_session, is_proof_session}
use Rattle.exchange.specs.Runs.{Call, PlainInitiation, InitiationWithValues, VisitorStart, NetworkProof, Delivery, Reply, Clock, Given, reading_of, buffer_of, decided, called, at_end, is_invoke, invokes, awaiting}
use Rattle.exchange.specs.Service.{by, ◌>>=◌, ◌>>◌, timely, ready, room}
use Rattle.exchange.specs.State.{asked_by, is_asked_of, is_at_terminal}
use Rattle.exchange.specs.Table.{Has, ends_by, due, free_place, owes, awaits, awaits_reply, found}
use Rattle.exchange.proofs.Balanced.{step, start, run}
use Rattle.exchange.proofs.Decided.{user_text, no_user_text, unlinked, linked, some_open, none_open, absent, all_open, one_free, only_one}
use Rattle.exchange.proofs.Invariant.{Inv}
use Rattle.exchange.proofs.Names.{Leaves}
use Rattle.exchange.proofs.Searched.{FoundAt, found_at}
use Rattle.exchange.proofs.Slots.{has_at}

-- a refusal is known by its number; here and below the last case stands for each that is not written out
numbered_back : (n : Refusal) → refusal_of (refusal_number n) ≡ Some n
numbered_back ShortSheet = refl
numbered_back n = refl

same_number : (n k : Refusal) → refusal_number n ≡ refusal_number k → n ≡ k
same_number n k e = same_Some n k (sym (numbered_back n) ∙ ap refusal_of e ∙ numbered_back k)

one_at_least : (n : Refusal) → 1 ≤ refusal_number n
one_at_least ShortSheet = omega arith
one_at_least n = omega arith

same_err : {X : Type 0} (n k : Refusal) → ◌≡◌ {A = Result X Refusal} (Err n) (Err k) → n ≡ k
same_err n k e = cc

due_garbled : (id : ℕ) (problem : Problem) → ◌≡◌ {A = Result Apdu NoApdu} (Err (no_apdu.RejectDue id problem)) (Err no_apdu.Garbled) → ⊥
due_garbled id problem e = cc

-- bytes of a wanted size
exact_or : (wanted : ℕ) (bytes : List ℕ) (e : Refusal) → ok_or (exact wanted bytes) e ≡ cond (eqb (length bytes) wanted) (Ok bytes) (Err e)
exact_or wanted bytes e = by_size (eqb (length bytes) wanted)
  where
    by_size : (b : Bool) → ok_or (cond b (Some bytes) None) e ≡ cond b (Ok bytes) (Err e)
    by_size true = refl
    by_size false = refl

module _ (m : Meaning) (s : Service) (c : Call) where
  -- no condition of a lower refusal holds
  abbrev NoneBelow : Refusal → Type 0
  NoneBelow n = (k : Refusal) → refusal_number k < refusal_number n → ¬ (Condition m s c k)

  nothing_below : NoneBelow ShortSheet
  nothing_below k l = let h = one_at_least k in absurd (omega arith)

  -- one more
  past : (n next : Refusal) → refusal_number next ≡ refusal_number n + 1 → NoneBelow n → ¬ (Condition m s c n) → NoneBelow next
  past n next is below not k l =
      ⊎_elim (λ e. subst (λ (x : Refusal). ¬ (Condition m s c x)) (same_number n k (sym e)) not)
      (λ o. ⊎_elim (λ less. below k less) (λ more. absurd (omega arith)) o)
      (cases_order (refusal_number k) (refusal_number n))

  -- no call is misfitted
  none_holds : NoneBelow Misfitted → (n : Refusal) → ¬ (Condition m s c n)
  none_holds below Misfitted h = h
  none_holds below n h = below n (omega arith) h

  -- what is decided up to a refusal: with the lowest whose condition holds, and with none where no condition below it does
  abbrev UpTo : {X : Type 0} → Refusal → Result X Refusal → Type 0
  UpTo n (Ok x) = NoneBelow n
  UpTo n (Err k) = Condition m s c k × NoneBelow k

  lowest_done : (result : Result Done Refusal) → UpTo Misfitted result → (is_ok result ≡ true) ↔ ((n : Refusal) → ¬ (Condition m s c n))
  lowest_done (Ok done) u = (λ e. none_holds u, λ holds. refl)
  lowest_done (Err n) u = (λ e. absurd (false≢true e), λ holds. absurd (holds n u.0))

  lowest_refused : (result : Result Done Refusal) → UpTo Misfitted result → (n : Refusal) → (result ≡ Err n) ↔ (Condition m s c n × NoneBelow n)
  lowest_refused (Ok done) u n = (λ e. absurd (err_ok n done (sym e)), λ p. absurd (none_holds u n p.0))
  lowest_refused (Err k) u n = (
    λ e. subst (λ (x : Refusal). Condition m s c x × NoneBelow x) (same_err k n e) u,
    λ p. ⊎_elim (λ e. ap Err (same_number k n e))
        (λ q. ⊎_elim (λ less. absurd (p.1 k less u.0)) (λ more. absurd (u.1 n more p.0)) q)
        (cases_order (refusal_number k) (refusal_number n)),
  )

  lowest : (result : Result Done Refusal) → UpTo Misfitted result → RefusedByLowest m s c result
  lowest result u = record { done = lowest_done result u; refused = lowest_refused result u }

  -- a check, and what goes on where it is passed
  then : {X Y : Type 0} (n k : Refusal) (r : Result X Refusal) (f : X → Result Y Refusal) → UpTo n r → ((x : X) → r ≡ Ok x → NoneBelow n → UpTo k (f x)) → UpTo k (by r f Err)
  then n k (Ok x) f u go = go x refl u
  then n k (Err e) f u go = u

  -- what is decided is told
  at_the_edge : (out : List ℕ) (d : Decision) → UpTo Misfitted d → UpTo Misfitted (at_edge s out d).result
  at_the_edge out (Ok p) u = u
  at_the_edge out (Err n) u = u

  -- the buffer's size
  buffer_up_to : UpTo ClockBack (buffer_check (length (buffer_of c)))
  buffer_up_to =
      cond_both (ltb (length (buffer_of c)) least_buffer) _ _ (UpTo ClockBack)
      (λ t. (ltb-true (length (buffer_of c)) least_buffer t, nothing_below))
      (λ f. past ShortSheet ClockBack refl nothing_below (λ h. let l = ltb-false (length (buffer_of c)) least_buffer f in omega arith))

  -- the reading
  timely_up_to : NoneBelow ClockBack → UpTo TimerDue (timely s (reading_of c))
  timely_up_to sized =
      cond_both (ltb (reading_of c) s.last || ltb highest_reading (reading_of c)) _ _ (UpTo TimerDue)
      (λ t. (⊎_elim (λ e. inl (ltb-true (reading_of c) s.last e)) (λ e. inr (ltb-true highest_reading (reading_of c) e)) (or_cases _ _ t), sized))
      (λ f. let p = or_parts (ltb (reading_of c) s.last) (ltb highest_reading (reading_of c)) f in
      past ClockBack TimerDue refl sized
      (⊎_elim (λ h. let l = ltb-false (reading_of c) s.last p.0 in omega arith) (λ h. let l = ltb-false highest_reading (reading_of c) p.1 in omega arith)))

  -- and that no timer is due
  ready_up_to : ¬ (IsClock c) → NoneBelow ClockBack → UpTo Misdialled (ready s (reading_of c))
  ready_up_to no_clock sized =
      then TimerDue Misdialled (timely s (reading_of c)) (λ _. cond (due (reading_of c) s.dialogues) (Err TimerDue) (Ok tt)) (timely_up_to sized) (λ u e below.
      cond_both (due (reading_of c) s.dialogues) _ _ (UpTo Misdialled)
      (λ t. let p = some_open (ends_by (reading_of c)) refl s.dialogues t in ((no_clock, (p.0, p.1, leb-true p.0.ends (reading_of c) p.2)), below))
      (λ f. past TimerDue Misdialled refl below (λ h. none_open (ends_by (reading_of c)) s.dialogues f h.1.0 h.1.1 (le-leb h.1.0.ends (reading_of c) h.1.2))))

  -- the digits of a user
  user_up_to : (digits : List ℕ) → (¬ (IsUserText digits) → IsMisdialled c) → NoneBelow Misdialled → UpTo Misdialled (user_check digits)
  user_up_to digits bad below = user_at (user_number digits) refl
    where
      user_at : (o : Option ℕ) → user_number digits ≡ o → UpTo Misdialled (ok_or o Misdialled)
      user_at None e = (bad (no_user_text digits e), below)
      user_at (Some user) e = below

  is_text : (digits : List ℕ) (user : ℕ) → user_check digits ≡ Ok user → IsUserText digits
  is_text digits user e = user_text digits user (ok_or_back (user_number digits) Misdialled user e)

  -- a peer that has to be a link
  link_up_to : {X : Type 0} (links : List Link) (peer : ℕ) (r : Result X Refusal) → (is_linked links peer ≡ true → UpTo Garbled r) → (IsUnlinked links peer → IsMisdialled c) → NoneBelow Misdialled →
      UpTo Garbled (cond (is_linked links peer) r (Err Misdialled))
  link_up_to links peer r go bad below = cond_both (is_linked links peer) _ _ (UpTo Garbled) go (λ f. (bad (unlinked links peer f), below))

  dialled_up_to : (digits : List ℕ) (peer : ℕ) (links : List Link) → IsMisdialled c ↔ (¬ (IsUserText digits) ⊎ IsUnlinked links peer) → NoneBelow Misdialled → UpTo Garbled (dialled_check digits peer links)
  dialled_up_to digits peer links misdialled below =
      then Misdialled Garbled (user_check digits) (λ user. cond (is_linked links peer) (Ok user) (Err Misdialled)) (user_up_to digits (λ h. misdialled.1 (inl h)) below) (λ user e below.
      link_up_to links peer (Ok user)
      (λ t. past Misdialled Garbled refl below (λ h. ⊎_elim (λ no. no (is_text digits user e)) (linked links peer t) (misdialled.0 h)))
      (λ h. misdialled.1 (inr h)) below)

  -- bytes whose size is looked at
  size_up_to : (wanted : ℕ) (bytes : List ℕ) → IsMisdialled c ↔ (length bytes ≢ wanted) → NoneBelow Misdialled →
      UpTo Garbled (cond (eqb (length bytes) wanted) (Ok bytes) (Err Misdialled))
  size_up_to wanted bytes misdialled below =
      cond_both (eqb (length bytes) wanted) _ _ (UpTo Garbled)
      (λ t. past Misdialled Garbled refl below (λ h. misdialled.0 h (eqb-true (length bytes) wanted t)))
      (λ f. (misdialled.1 (eqb-false (length bytes) wanted f), below))

  exact_up_to : (wanted : ℕ) (bytes : List ℕ) → IsMisdialled c ↔ (length bytes ≢ wanted) → NoneBelow Misdialled →
      UpTo Garbled (ok_or (exact wanted bytes) Misdialled)
  exact_up_to wanted bytes misdialled below = subst (UpTo Garbled) (sym (exact_or wanted bytes Misdialled)) (size_up_to wanted bytes misdialled below)

  -- the conditions of what no call but a delivery or a reply brings, and those of requests
  skips : ¬ (IsGarbled c) → ¬ (IsStray m s c) → ¬ (IsTwice s c) → NoneBelow Garbled → NoneBelow Full
  skips garbled stray twice below =
      past Twice Full refl (past Stray Twice refl (past Garbled Stray refl below garbled) stray) twice

  no_request : ¬ (IsOpening c) → NoneBelow Full → NoneBelow Misfitted
  no_request other below = past Spent Misfitted refl (past Full Spent refl below (λ h. other h.0)) (λ h. other h.0)

-- what is awaited from a peer was asked
asked_some : (o : Option Asked) (peer id : ℕ) → is_asked_of peer id o ≡ true → is_some o ≡ true
asked_some None peer id e = absurd (false≢true e)
asked_some (Some asked) peer id e = refl

-- a step takes an event
abbrev takes : Step → Bool
takes steps.Stray = false
takes step = true

-- and it does exactly where what comes is awaited
module _ (m : Meaning) (fit : FitOut) (reading : ℕ) (next : OwnNumber) (d : Dialogue) where
  branch_takes : (b : Bool) (p : Step × Dialogue) → takes p.0 ≡ true → b ≡ takes (cond b p (dialogue.stray d)).0
  branch_takes true p e = sym e
  branch_takes false p e = refl

  fetching_takes : (user : ℕ) (asked : Asked) (i : WtatInfo) → (not (is_session i) || false) ≡ takes (dialogue.in_fetching_for_initiation m fit reading next d user asked i).0
  fetching_takes user asked (info.Unit unit) = refl
  fetching_takes user asked (info.Session session) = refl

  passing_takes : (computes session : Bool) (p : Step × Dialogue) → takes p.0 ≡ true → (not session || computes) ≡ takes (cond (computes || not session) p (dialogue.stray d)).0
  passing_takes computes session p e = or_comm (not session) computes ∙ branch_takes (computes || not session) p e

  requesting_takes : (owed : Option Owed) (computes : Bool) (drawn : List ℕ) (number : ℕ) (i : WtatInfo) →
      (not (is_session i) || (computes && eqb number m.number)) ≡ takes (dialogue.in_requesting m fit reading next d owed computes drawn number i).0
  requesting_takes owed computes drawn number (info.Unit unit) = refl
  requesting_takes owed computes drawn number (info.Session session) =
      branch_takes (computes && eqb number m.number) (dialogue.challenged fit reading d owed drawn (m.response session.key drawn)) refl

  proving_takes : (computes : Bool) (challenge : List ℕ) (r : WtanParamRes) → (not (is_proof_session r) || computes) ≡ takes (dialogue.in_requesting_proof m fit reading next d computes challenge r).0
  proving_takes computes challenge (proof.Response response) = refl
  proving_takes computes challenge (proof.Session session) = branch_takes computes _ refl

  result_takes : (state : State) (r : ReturnResult) (drawn : List ℕ) → is_awaited m.number state (body.ReturnResult r) ≡ takes (dialogue.resulted m fit reading next d state r drawn).0
  result_takes (FetchingForInitiation asked user peer) (WtatParam Server r) drawn = fetching_takes user _ r.info
  result_takes (Initiating asked) (AuthWtmUser v) drawn = refl
  result_takes (FetchingForVisitor asked owed computes) (WtatParam Server r) drawn = passing_takes computes (is_session r.info) _ refl
  result_takes (Requesting asked owed computes) (WtatParam Home r) drawn = requesting_takes owed computes drawn r.algorithm r.info
  result_takes (RequestingProof asked computes challenge) (WtanParam Home r) drawn = proving_takes computes challenge r
  result_takes (FetchingProof asked owed computes) (WtanParam Server r) drawn = passing_takes computes (is_proof_session r) _ refl
  result_takes state (WtatParam Home r) drawn = refl
  result_takes state (WtatParam Server r) drawn = refl
  result_takes state (WtanParam Home r) drawn = refl
  result_takes state (WtanParam Server r) drawn = refl
  result_takes state r drawn = refl

  failed_takes : (peer id : ℕ) → awaits peer id (Some d) ≡ true → (b : Body) (r : Report) → true ≡ takes (dialogue.failed m fit reading next d b r).0
  failed_takes peer id is b r =
      sym (asked_some (asked_by d.state) peer id is) ∙ branch_takes (is_some (asked_by d.state)) (dialogue.closes d (dialogue.concluded d b r)) refl

  reply_takes : (state : State) (response : List ℕ) → is_at_terminal state ≡ takes (dialogue.reply_step m fit reading next d state response).0
  reply_takes (Executing owed expected) response = refl
  reply_takes state response = refl

-- an event comes to the dialogue that a test finds, which is to await also what it says
module _ (m : Meaning) (s : Service) (c : Call) (reading : ℕ) (e : Event) (test : Option Dialogue → Bool) (free : test None ≡ false) (also : Dialogue → Bool) where
  abbrev Awaits : Dialogue → Type 0
  Awaits d = (test (Some d) ≡ true) × (also d ≡ true)

  module _
      (stray : ¬ (SomeOpen s Awaits) → IsStray m s c) (awaited : SomeOpen s Awaits → NoneBelow m s c Misfitted)
      (alike : (k : ℕ) (d other : Dialogue) → FoundAt test s.dialogues k d → Has other s.dialogues → test (Some other) ≡ true → also other ≡ also d)
      (taken : (k : ℕ) (d : Dialogue) → FoundAt test s.dialogues k d → also d ≡ takes (dialogue.stepped m s.fit reading s.next d e).0)
      (below : NoneBelow m s c Stray) where
    moved_up_to : (k : ℕ) (d : Dialogue) → FoundAt test s.dialogues k d → (p : Step × Dialogue) → also d ≡ takes p.0 → UpTo m s c Misfitted (deliver.moved s reading k p)
    moved_up_to k d f (steps.Stray, x) h = (stray (λ o. both_ways (also d) h (sym (alike k d o.0 f o.1 o.2.0) ∙ o.2.1)), below)
    moved_up_to k d f (steps.GoesOn o, x) h = awaited (d, has_at s.dialogues k d f.stands, (f.passes, h))
    moved_up_to k d f (steps.AsksAgain o, x) h = awaited (d, has_at s.dialogues k d f.stands, (f.passes, h))
    moved_up_to k d f (steps.Closes o, x) h = awaited (d, has_at s.dialogues k d f.stands, (f.passes, h))

    met_by : (o : Option (ℕ × Dialogue)) → found test s.dialogues ≡ o → UpTo m s c Misfitted (deliver.met m s reading e o)
    met_by None h = (stray (λ o. absent test free s.dialogues h o.0 o.1 o.2.0), below)
    met_by (Some (k, d)) h = let f = found_at test s.dialogues k d h in moved_up_to k d f _ (taken k d f)

    met_up_to : UpTo m s c Misfitted (deliver.met m s reading e (found test s.dialogues))
    met_up_to = met_by (found test s.dialogues) refl

-- what comes of clocks, deliveries and replies comes of no request
no_other : (m : Meaning) (s : Service) (c : Call) → IsOpening c → ¬ (IsClock c) × ¬ (IsGarbled c) × ¬ (IsStray m s c) × ¬ (IsTwice s c)
no_other m s (Delivery reading peer draw bytes links subscribers out) is = absurd is
no_other m s (Reply reading name response out) is = absurd is
no_other m s (Clock reading out) is = absurd is
no_other m s c is = ((λ h. h), (λ h. h), (λ h. h), (λ h. h))

-- a request
module _ (m : Meaning) (s : Service) (long : length s.dialogues ≡ most_dialogues) (c : Call) (request : IsOpening c) (sized : NoneBelow m s c ClockBack) where
  is_not : ¬ (IsClock c) × ¬ (IsGarbled c) × ¬ (IsStray m s c) × ¬ (IsTwice s c)
  is_not = no_other m s c request

  place_up_to : NoneBelow m s c Full → (o : Option ℕ) → free_place s.dialogues ≡ o → UpTo m s c Spent (ok_or o Full)
  place_up_to below None e = ((request, all_open s.dialogues e ∙ long), below)
  place_up_to below (Some k) e = past m s c Full Spent refl below (λ h. let l = one_free s.dialogues k e in let q = h.1 in omega arith)

  -- there is a place and a number
  room_up_to : NoneBelow m s c Full → UpTo m s c Misfitted (room s)
  room_up_to below =
      then m s c Spent Misfitted (ok_or (free_place s.dialogues) Full) (λ place. cond (nat_lt last_opening s.next.0) (Err Spent) (Ok place)) (place_up_to below (free_place s.dialogues) refl) (λ place e below.
      cond_both (nat_lt last_opening s.next.0) _ _ (UpTo m s c Misfitted)
      (λ t. ((request, ltb-true last_opening s.next.0 t), below))
      (λ f. past m s c Spent Misfitted refl below (λ h. let l = ltb-false last_opening s.next.0 f in let q = h.1 in omega arith)))

  opening_up_to : (opens : ℕ → Outcome × Service) → NoneBelow m s c Garbled → UpTo m s c Misfitted do
    place ← room s
    Ok (opens place)
  opening_up_to opens below =
      then m s c Misfitted Misfitted (room s) (λ place. Ok (opens place))
      (room_up_to (skips m s c is_not.1 is_not.2 is_not.3 below)) (λ place e below. below)

  -- after the reading
  timed_up_to : (d : Decision) → (NoneBelow m s c Misdialled → UpTo m s c Misfitted d) → UpTo m s c Misfitted do
    ready s (reading_of c)
    d
  timed_up_to d go = then m s c Misdialled Misfitted (ready s (reading_of c)) (λ _. d) (ready_up_to m s c is_not.0 sized) (λ u e below. go below)

  -- an initiation, whatever opens
  initiation_up_to : (digits : List ℕ) (peer : ℕ) (links : List Link) (opens : ℕ → ℕ → Outcome × Service) → IsMisdialled c ↔ (¬ (IsUserText digits) ⊎ IsUnlinked links peer) → UpTo m s c Misfitted do
    ready s (reading_of c)
    user ← dialled_check digits peer links
    place ← room s
    Ok (opens user place)
  initiation_up_to digits peer links opens misdialled =
      timed_up_to _ (λ below.
      then m s c Garbled Misfitted (dialled_check digits peer links) _ (dialled_up_to m s c digits peer links misdialled below) (λ user d below. opening_up_to (opens user) below))

-- a delivery
module _ (m : Meaning) (s : Service) (alone : (peer id : ℕ) → awaiting peer id s ≤ 1) (reading peer : ℕ) (draw bytes : List ℕ) (links : List Link) (subscribers : List Subscriber) (out : List ℕ) where
  abbrev delivery : Call
  delivery = Delivery reading peer draw bytes links subscribers out

  module _ (below : NoneBelow m s delivery Garbled) where
    not_garbled : (got : Result Apdu NoApdu) → received_as bytes ≡ got → ¬ (got ≡ Err no_apdu.Garbled) → NoneBelow m s delivery Stray
    not_garbled got is other = past m s delivery Garbled Stray refl below (λ h. other (sym is ∙ h))

    -- an invoke under an id
    taken_up_to : (id : ℕ) (h : Handling) → ((i : ℕ) → invokes i (received_as bytes) ≡ eqb id i) → ((a : Apdu) → received_as bytes ≡ Ok a → ¬ (is_invoke a.body ≡ false)) → NoneBelow m s delivery Stray →
        UpTo m s delivery Misfitted (deliver.taken s reading peer id h)
    taken_up_to id h invoke no_answer below =
        let unanswered : NoneBelow m s delivery Twice = past m s delivery Stray Twice refl below (λ q. no_answer q.0 q.1 q.2) in
        cond_both (list_any (owes peer id) s.dialogues) _ _ (UpTo m s delivery Misfitted)
        (λ t. ((id, invoke id ∙ eq-eqb id id refl, some_open (owes peer id) refl s.dialogues t), unanswered))
        (λ f. no_request m s delivery (λ q. q) (past m s delivery Twice Full refl unanswered (λ q.
        let same : id ≡ q.0 = eqb-true id q.0 (sym (invoke q.0) ∙ q.1) in
        none_open (owes peer id) s.dialogues f q.2.0 q.2.1 (subst (λ (i : ℕ). owes peer i (Some q.2.0) ≡ true) (sym same) q.2.2))))

    -- an answer
    module _ (a : Apdu) (is : received_as bytes ≡ Ok a) (answer : is_invoke a.body ≡ false) where
      no_invoke : (i : ℕ) → invokes i (received_as bytes) ≡ true → ⊥
      no_invoke i e = both_ways (is_invoke a.body) answer (and_parts (is_invoke a.body) (eqb a.id i) (sym (ap (invokes i) is) ∙ e)).0

      abbrev is_it : Apdu → Dialogue → Bool
      is_it x d = is_awaited m.number d.state x.body

      not_stray : (d : Dialogue) → Has d s.dialogues → awaits peer a.id (Some d) ≡ true → is_it a d ≡ true → ¬ (IsStray m s delivery)
      not_stray d h asked awaited q =
          let same : q.0 ≡ a = ok_same q.0 a (sym q.1 ∙ is) in
          q.3 (d, h, (ap (λ (x : Apdu). awaits peer x.id (Some d)) same ∙ asked, ap (λ (x : Apdu). is_it x d) same ∙ awaited))

      answer_up_to : (e : Event) → ((d : Dialogue) → awaits peer a.id (Some d) ≡ true → is_it a d ≡ takes (dialogue.stepped m s.fit reading s.next d e).0) → UpTo m s delivery Misfitted (deliver.answer_taken m s reading peer a.id e)
      answer_up_to e taken =
          let below : NoneBelow m s delivery Stray = not_garbled (Ok a) is (λ q. err_ok no_apdu.Garbled a (sym q)) in
          met_up_to m s delivery reading e (awaits peer a.id) refl (is_it a) (λ no. (a, is, answer, no))
          (λ o. no_request m s delivery (λ q. q)
          (past m s delivery Twice Full refl (past m s delivery Stray Twice refl below (not_stray o.0 o.1 o.2.0 o.2.1)) (λ q. no_invoke q.0 q.1)))
          (λ k d other f h p. ap (is_it a) (only_one (awaits peer a.id) refl s.dialogues k d other (alone peer a.id) f h p))
          (λ k d f. taken d f.passes) below

    came_up_to : (drawn : List ℕ) (id : ℕ) (b : Body) → received_as bytes ≡ Ok (record { id = id; body = b }) → UpTo m s delivery Misfitted (deliver.came m s reading peer drawn subscribers id b)
    came_up_to drawn id (body.Invoke i) is =
        taken_up_to id _ (λ j. ap (invokes j) is) (λ a q h. true≢false (ap (λ (x : Apdu). is_invoke x.body) (ok_same _ a (sym is ∙ q)) ∙ h)) (not_garbled (Ok _) is (λ q. err_ok no_apdu.Garbled _ (sym q)))
    came_up_to drawn id (body.ReturnResult r) is =
        answer_up_to (record { id = id; body = body.ReturnResult r }) is refl (event.Result r (drawn_challenge drawn)) (λ d p. result_takes m s.fit reading s.next d d.state r (drawn_challenge drawn))
    came_up_to drawn id (body.ReturnError x) is =
        answer_up_to (record { id = id; body = body.ReturnError x }) is refl (event.Error x) (λ d p. failed_takes m s.fit reading s.next d peer id p _ _)
    came_up_to drawn id (body.Reject x) is =
        answer_up_to (record { id = id; body = body.Reject x }) is refl (event.Reject x) (λ d p. failed_takes m s.fit reading s.next d peer id p _ _)

    received_up_to : (drawn : List ℕ) (got : Result Apdu NoApdu) → received_as bytes ≡ got → UpTo m s delivery Misfitted (deliver.received m s reading peer drawn subscribers got)
    received_up_to drawn (Ok a) is = came_up_to drawn a.id a.body is
    received_up_to drawn (Err (no_apdu.RejectDue id problem)) is =
        taken_up_to id (Answer (body.Reject (problem_number problem))) (λ i. ap (invokes i) is) (λ a q h. err_ok (no_apdu.RejectDue id problem) a (sym is ∙ q)) (not_garbled (Err (no_apdu.RejectDue id problem)) is (due_garbled id problem))
    received_up_to drawn (Err no_apdu.Garbled) is = (is, below)

  delivered_up_to : NoneBelow m s delivery ClockBack → UpTo m s delivery Misfitted (decided m s delivery)
  delivered_up_to sized =
      then m s delivery Misdialled Misfitted (ready s reading) _ (ready_up_to m s delivery (λ h. h) sized) (λ u r below.
      then m s delivery Garbled Misfitted (deliver.draw_check links peer draw) _
      (link_up_to m s delivery links peer (ok_or (exact draw_size draw) Misdialled)
      (λ t. exact_up_to m s delivery draw_size draw (⊎_elim (λ no. absurd (linked links peer t no)) (λ h. h), inr) below) inl below)
      (λ drawn e below. received_up_to below drawn (received_as bytes) refl))

-- a reply
module _ (m : Meaning) (s : Service) (reading : ℕ) (name : OwnNumber) (response out : List ℕ) where
  abbrev reply : Call
  reply = Reply reading name response out

  met_reply : (given : List ℕ) → NoneBelow m s reply Garbled → UpTo m s reply Misfitted (deliver.met m s reading (event.Reply given) (found (awaits_reply name) s.dialogues))
  met_reply given below =
      met_up_to m s reply reading (event.Reply given) (awaits_reply name) refl (λ d. true) (λ no o. no (o.0, o.1, (o.2, refl)))
      (λ o. no_request m s reply (λ h. h) (skips m s reply (λ h. h) (λ none. none (o.0, o.1, o.2.0)) (λ h. h) below))
      (λ k d other f h p. refl)
      (λ k d f. sym (and_parts (is_at_terminal d.state) (eqb d.name.0 name.0) f.passes).0 ∙ reply_takes m s.fit reading s.next d d.state given)
      (past m s reply Garbled Stray refl below (λ h. h))

  replied_up_to : NoneBelow m s reply ClockBack → UpTo m s reply Misfitted (decided m s reply)
  replied_up_to sized =
      then m s reply Misdialled Misfitted (ready s reading) _ (ready_up_to m s reply (λ h. h) sized) (λ u r below.
      then m s reply Garbled Misfitted (response_check response) _ (size_up_to m s reply response_size response ((λ h. h), (λ h. h)) below) (λ given e below. met_reply given below))

-- every call
module _ (m : Meaning) (s : Service) (long : length s.dialogues ≡ most_dialogues) (alone : (peer id : ℕ) → awaiting peer id s ≤ 1) where
  decided_up_to : (c : Call) → NoneBelow m s c ClockBack → UpTo m s c Misfitted (decided m s c)
  decided_up_to (PlainInitiation reading digits peer links out) sized =
      initiation_up_to m s long (PlainInitiation reading digits peer links out) tt sized digits peer links _ ((λ h. h), (λ h. h))
  decided_up_to (InitiationWithValues reading digits peer links out) sized =
      initiation_up_to m s long (InitiationWithValues reading digits peer links out) tt sized digits peer links _ ((λ h. h), (λ h. h))
  decided_up_to (VisitorStart reading digits out) sized =
      let c : Call = VisitorStart reading digits out in
      timed_up_to m s long c tt sized _ (λ below.
      then m s c Misdialled Misfitted (user_check digits) _ (user_up_to m s c digits (λ h. h) below) (λ user e below.
      opening_up_to m s long c tt sized _ (past m s c Misdialled Garbled refl below (λ no. no (is_text m s c digits user e)))))
  decided_up_to (NetworkProof reading digits challenge out) sized =
      let c : Call = NetworkProof reading digits challenge out in
      timed_up_to m s long c tt sized _ (λ below.
      then m s c Misdialled Misfitted (user_check digits) _ (user_up_to m s c digits inl below) (λ user e below.
      then m s c Garbled Misfitted (challenge_check challenge) _
      (exact_up_to m s c challenge_size challenge (⊎_elim (λ no. absurd (no (is_text m s c digits user e))) (λ h. h), inr) below) (λ drawn h below. opening_up_to m s long c tt sized _ below)))
  decided_up_to (Delivery reading peer draw bytes links subscribers out) sized = delivered_up_to m s alone reading peer draw bytes links subscribers out sized
  decided_up_to (Reply reading name response out) sized = replied_up_to m s reading name response out sized
  decided_up_to (Clock reading out) sized =
      let c : Call = Clock reading out in
      then m s c TimerDue Misfitted (timely s reading) _ (timely_up_to m s c sized) (λ u e below.
      no_request m s c (λ h. h) (skips m s c (λ h. h) (λ h. h) (λ h. h)
      (past m s c Misdialled Garbled refl (past m s c TimerDue Misdialled refl below (λ h. h.0 tt)) (λ h. h))))

  call_up_to : (c : Call) → UpTo m s c Misfitted (called m s c).result
  call_up_to c =
      at_the_edge m s c (buffer_of c) _
      (then m s c ClockBack Misfitted (buffer_check (length (buffer_of c))) (λ _. decided m s c) (buffer_up_to m s c) (λ u e sized. decided_up_to c sized))

-- the table keeps its places
leaves_long : (s t : Service) → Leaves s t → length s.dialogues ≡ most_dialogues → length t.dialogues ≡ most_dialogues
leaves_long s t l long = ⊎_elim (λ p. ap length p.0 ∙ long) (λ w. ap length w.is ∙ length-set s.dialogues w.place w.slot ∙ long) l

run_long : (cs : List (Meaning × Call)) (s : Service) → Inv s → AllByRecursion Given cs → length s.dialogues ≡ most_dialogues → length (at_end called s cs).dialogues ≡ most_dialogues
run_long [] s inv given long = long
run_long ((m, c) ∷ cs) s inv given long =
    let one = step m given.0.0 s inv c given.0.1 in
    run_long cs (called m s c).service one.inv given.1 (leaves_long s (called m s c).service one.leaves long)

pub always_refuses : (f : FitOut) → fitted f ≡ true → AlwaysRefuses (fresh f)
always_refuses f lawful calls given m c =
    let inv = start f lawful in
    let now : Service = at_end called (fresh f) calls in
    lowest m now c _ (call_up_to m now (run_long calls (fresh f) inv given refl) (run calls (fresh f) inv given).inv.awaited c)
