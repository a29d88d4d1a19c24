-- What one write of the table does to the dialogues that stand in it. Assumes nothing.
use Rattle.std.proofs.Common.{◌≡◌, ℕ, zero, suc, ◌+◌, ◌<◌, ◌⊎◌, Bool, true, false, List, [], ◌∷◌, length, slice_set, get_or, Some, None, Ok, Option, sym, refl, ap, ◌∙◌, subst, inl, inr, ⊎_elim, arith}
use Rattle.std.proofs.lemmas.Bool.{true≢false, both_ways}
use Rattle.std.proofs.lemmas.Option.{none-some, same_Some}
use Rattle.exchange.specs.declared.dialogue.Dialogue.{Dialogue}
use Rattle.exchange.specs.declared.fit_out.FitOut.{FitOut}
use Rattle.exchange.specs.declared.invokes.OwnNumber.{OwnNumber}
use Rattle.exchange.specs.Done.{Done}
use Rattle.exchange.specs.declared.service.Service.{Service}
use Rattle.exchange.specs.Outcome.{After}
use Rattle.exchange.specs.Moves.{Opened, WentOn, Closes, HasLeft, IsClock, Moves}
use Rattle.exchange.specs.Runs.{Call, CallMade, invokes, answers, brings, takes, sends, sends_to}
use Rattle.exchange.specs.Service.{written}
use Rattle.exchange.specs.State.{owed_by, is_owed_to}
use Rattle.exchange.specs.Table.{Has, owes, has_left}
use Rattle.exchange.proofs.Left.{has_place, left_none, left_set}
use Rattle.exchange.proofs.Names.{At, Names}
use Rattle.exchange.proofs.Searched.{bit}
use Rattle.exchange.proofs.Slots.{has_set, has_at}

-- what is written: none, or a dialogue that the call opens, or one that goes on
abbrev pub Arrives : Service → Call → Option Dialogue → Type 0
Arrives s c None = Unit {0}
Arrives s c (Some d) = Opened s.fit s c d ⊎ WentOn s.fit s c d

-- what stood there: none, or a dialogue that the call closes, or one that keeps its name
abbrev pub Departs : Call → Option Dialogue → Option Dialogue → Type 0
Departs c None x = Unit {0}
Departs c (Some d) None = Closes c d
Departs c (Some d) (Some e) = e.name ≡ d.name

-- it stands there still, or it stood at the place that is written
pub kept : (xs : List (Option Dialogue)) (k : ℕ) (y : Option Dialogue) (d : Dialogue) → Has d xs → Has d (slice_set xs k y) ⊎ (get_or xs k None ≡ Some d)
kept [] k y d h = absurd h
kept (x ∷ xs) zero y d h = ⊎_elim inr (λ m. inl (inr m)) h
kept (x ∷ xs) (suc k) y d h = ⊎_elim (λ e. inl (inl e)) (λ m. ⊎_elim (λ q. inl (inr q)) inr (kept xs k y d m)) h

set_has : (xs : List (Option Dialogue)) (k : ℕ) (e : Dialogue) → k < length xs → Has e (slice_set xs k (Some e))
set_has [] k e l = absurd (omega arith)
set_has (x ∷ xs) zero e l = inl refl
set_has (x ∷ xs) (suc k) e l = inr (set_has xs k e (omega arith))

-- an answer that is sent is to what was taken, or to what the old dialogue owed and the new one does not
by_count : (taken was now sent : Bool) → bit taken + bit was ≡ bit sent + bit now → sent ≡ true → (taken ≡ true) ⊎ ((was ≡ true) × (now ≡ false))
by_count true was now sent e h = inl refl
by_count false true false sent e h = inr (refl, refl)
by_count false true true sent e h = let one = ap bit h in absurd (omega arith)
by_count false false now sent e h = let one = ap bit h in absurd (omega arith)

-- one place is written, and an APDU is sent or not
module _ (s : Service) (names : Names s) (c : Call) (r : ℕ) (n : OwnNumber) (k : ℕ) (x old : Option Dialogue) (done : Done) (left : List ℕ) (within : k < length s.dialogues) (stands : get_or s.dialogues k None ≡ old) (arrives : Arrives s c x) (departs : Departs c old x) where
  abbrev made : CallMade
  made = record { before = s; call = c; after = record { result = Ok done; service = written s r n k x; buffer = left } }

  -- what has left stood at the place
  left_here : (d : Dialogue) → HasLeft made d → get_or s.dialogues k None ≡ Some d
  left_here d h = ⊎_elim (λ m. absurd (left_none (slice_set s.dialogues k x) d d h.gone m refl)) (λ e. e) (kept s.dialogues k x d h.stood)

  closed_by : (o y : Option Dialogue) (d : Dialogue) → Departs c o y → o ≡ Some d → y ≡ x → has_left (slice_set s.dialogues k x) (Some d) ≡ true → Closes c d
  closed_by None y d h is same gone = absurd (none-some d is)
  closed_by (Some e) None d h is same gone = subst (Closes c) (same_Some e d is) h
  closed_by (Some e) (Some new) d h is same gone =
      let stays : Has new (slice_set s.dialogues k x) = subst (λ (y : Option Dialogue). Has new (slice_set s.dialogues k y)) same (set_has s.dialogues k new within) in
      absurd (left_none (slice_set s.dialogues k x) d new gone stays (ap (λ (m : OwnNumber). m.0) h ∙ ap (λ (b : Dialogue). b.name.0) (same_Some e d is)))

  -- the old dialogue keeps its debt where another of its name stands there now
  other_name : (peer id : ℕ) (d : Dialogue) → At s.dialogues k d → owes peer id (Some d) ≡ true → owes peer id x ≡ false → (e : Dialogue) → x ≡ Some e → e.name.0 ≡ d.name.0 → ⊥
  other_name peer id d at owed unowed e is same =
      ⊎_elim
      (λ o. let low = names.named k d at in let high : e.name.0 ≡ s.next.0 = ap (λ (m : OwnNumber). m.0) o.name in omega arith)
      (λ g. let p = has_place s.dialogues g.from g.stood in
      let here : p.0 ≡ k = names.apart p.0 k g.from d p.1 at (sym (ap (λ (m : OwnNumber). m.0) g.name) ∙ same) in
      let is_d : g.from ≡ d = same_Some g.from d (sym (subst (λ (i : ℕ). At s.dialogues i g.from) here p.1) ∙ at) in
      let still : owes peer id (Some e) ≡ true = ap (is_owed_to peer id) (g.owes ∙ ap (λ (b : Dialogue). owed_by b.state) is_d) ∙ owed in
      both_ways (owes peer id (Some e)) (ap (owes peer id) (sym is) ∙ unowed) still)
      (subst (Arrives s c) is arrives)

  owed_left : (peer id : ℕ) (o : Option Dialogue) → old ≡ o → owes peer id o ≡ true → owes peer id x ≡ false → (d : Dialogue) × HasLeft made d × (is_owed_to peer id (owed_by d.state) ≡ true)
  owed_left peer id None is owed unowed = absurd (true≢false (sym owed))
  owed_left peer id (Some d) is owed unowed =
      let at : At s.dialogues k d = stands ∙ is in
      (d, record { stood = has_at s.dialogues k d at; gone = left_set s names k x d at (other_name peer id d at owed unowed) }, owed)

  pub put_moves : (IsClock c → r ≡ s.last) → ((peer id : ℕ) → bit (brings (invokes id) peer c) + bit (owes peer id old) ≡ bit (sends (answers id) peer left (Ok done)) + bit (owes peer id x)) → Moves s.fit made
  put_moves stays counts = record {
    comes = λ d h. ⊎_elim (λ e. inr (refl, subst (Arrives s c) e arrives)) inl (has_set s.dialogues k x d h);
    goes = λ d h. (refl, closed_by old x d departs (sym stands ∙ left_here d h) refl h.gone);
    alone = λ d other h g. same_Some d other (sym (left_here d h) ∙ left_here other g);
    reading = λ clock d h. stays clock;
    answers = λ peer id sent.
        ⊎_elim inl (λ p. inr (owed_left peer id old refl p.0 p.1))
        (by_count (brings (invokes id) peer c) (owes peer id old) (owes peer id x) (sends (answers id) peer left (Ok done)) (counts peer id) sent);
  }

-- where the table is as it was, and an answer is sent only to what was taken
pub same_moves : (fit : FitOut) (s : Service) (c : Call) (a : After) → a.service.dialogues ≡ s.dialogues →
    ((peer id : ℕ) → sends_to (answers id) peer (record { before = s; call = c; after = a }) ≡ true → takes (invokes id) peer (record { before = s; call = c; after = a }) ≡ true) →
    Moves fit (record { before = s; call = c; after = a })
same_moves fit s c a e answered =
    let none : (d : Dialogue) → HasLeft (record { before = s; call = c; after = a }) d → ⊥
    = λ d h. left_none a.service.dialogues d d h.gone (subst (Has d) (sym e) h.stood) refl in
    record {
      comes = λ d h. inl (subst (Has d) e h);
      goes = λ d h. absurd (none d h);
      alone = λ d other h g. absurd (none d h);
      reading = λ clock d h. absurd (none d h);
      answers = λ peer id sent. inl (answered peer id sent);
    }
