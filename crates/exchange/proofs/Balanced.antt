-- From one call to every run. Assumes nothing.
use Rattle.std.proofs.Common.{◌≡◌, ℕ, ◌+◌, ◌<◌, ◌≤◌, Bool, true, false, ◌&&◌, leb, List, [], ◌∷◌, length, None, Option, All, sum_by, count_by, refl, ap, ◌∙◌, ⊎_elim, arith}
use Rattle.std.specs.List.{AllByRecursion, list_all}
use Rattle.std.proofs.lemmas.Bool.{and_parts, leb-true}
use Rattle.std.proofs.lemmas.List.Elements.{All-replicate, All-head, All-tail}
use Rattle.std.proofs.lemmas.List.Sums.{sum_by-cons}
use Rattle.algorithm.specs.Meaning.{Meaning, IsSized}
use Rattle.exchange.specs.declared.dialogue.Dialogue.{Dialogue}
use Rattle.exchange.specs.declared.fit_out.FitOut.{FitOut}
use Rattle.exchange.specs.declared.fit_out.Timer.{Timer}
use Rattle.exchange.specs.declared.fit_out.Timer.TheVariants.{T1, T2, T3, T4, T5, Tr}
use Rattle.exchange.specs.declared.service.Service.{Service}
use Rattle.exchange.specs.Balance.{Running, AlwaysBalanced}
use Rattle.exchange.specs.Bounds.{most_dialogues, least_peer_timer, least_radio_timer, longest_timer}
use Rattle.exchange.specs.EnterService.{fresh}
use Rattle.exchange.specs.FitOut.{duration, within, peer_timers_fit, fitted}
use Rattle.exchange.specs.Outcome.{at_edge, buffer_check}
use Rattle.exchange.specs.Runs.{Call, PlainInitiation, InitiationWithValues, VisitorStart, NetworkProof, Delivery, Reply, Clock, Typed, Given, CallMade, buffer_of, decided, called, history, at_end, invokes, answers, takes, sends_to, owing, awaiting, expires}
use Rattle.exchange.specs.State.{end_of}
use Rattle.exchange.specs.Table.{Has}
use Rattle.exchange.proofs.Checks.{checked_ways}
use Rattle.exchange.proofs.Closings.{clock, reply}
use Rattle.exchange.proofs.Deliveries.{delivery}
use Rattle.exchange.proofs.Invariant.{Fine, Inv, Step, Keeps, refused_step}
use Rattle.exchange.proofs.Names.{fresh_names}
use Rattle.exchange.proofs.Searched.{bit, Open}
use Rattle.exchange.proofs.Steps.{span_bounds, plain, with_values, visitor, network}

decision : (m : Meaning) → IsSized m → (s : Service) → Inv s → (c : Call) → Typed c → Keeps s c (decided m s c)
decision m sized s inv (PlainInitiation reading digits peer links out) typed = plain s inv reading digits peer links out
decision m sized s inv (InitiationWithValues reading digits peer links out) typed = with_values s inv reading digits peer links out
decision m sized s inv (VisitorStart reading digits out) typed = visitor s inv reading digits out
decision m sized s inv (NetworkProof reading digits challenge out) typed = network s inv m.number reading digits challenge out
decision m sized s inv (Delivery reading peer draw bytes links subscribers out) typed = delivery m sized s inv reading peer draw bytes links subscribers out typed.0 typed.1
decision m sized s inv (Reply reading name response out) typed = reply s inv m reading name response out
decision m sized s inv (Clock reading out) typed = clock s inv reading out

pub step : (m : Meaning) → IsSized m → (s : Service) → Inv s → (c : Call) → Typed c → Step s c (called m s c)
step m sized s inv c typed =
    checked_ways (λ d. Step s c (at_edge s (buffer_of c) d)) (buffer_check (length (buffer_of c))) _ (λ n. refused_step s inv c n (buffer_of c)) (λ _ _. decision m sized s inv c typed (buffer_of c))

-- every run, from any exchange that the invariant holds of
pub record Run (s now : Service) (made : List CallMade) : Type 0 where
  pub inv : Inv now
  fit : now.fit ≡ s.fit
  owed : (peer id : ℕ) → count_by (takes (invokes id) peer) made + owing peer id s ≡ count_by (sends_to (answers id) peer) made + owing peer id now
  awaited : (peer id : ℕ) → count_by (sends_to (invokes id) peer) made + awaiting peer id s ≡ count_by (takes (answers id) peer) made + sum_by (expires peer id) made + awaiting peer id now
  once : (peer id : ℕ) → count_by (sends_to (invokes id) peer) made ≤ 1
  late : (peer id : ℕ) → id < s.next.0 → count_by (sends_to (invokes id) peer) made ≡ 0

once_from : (t : Bool) (n : ℕ) → (t ≡ true → n ≡ 0) → n ≤ 1 → bit t + n ≤ 1
once_from true n h l = let z = h refl in omega arith
once_from false n h l = omega arith

late_from : (t : Bool) (n : ℕ) → (t ≡ true → ⊥) → n ≡ 0 → bit t + n ≡ 0
late_from true n h e = absurd (h refl)
late_from false n h e = omega arith

counted : (test : CallMade → Bool) (e : CallMade) (es : List CallMade) → count_by test (e ∷ es) ≡ bit (test e) + count_by test es
counted test e es = sum_by-cons (λ x. bit (test x)) e es

pub run : (cs : List (Meaning × Call)) (s : Service) → Inv s → AllByRecursion Given cs → Run s (at_end called s cs) (history called s cs)
run [] s inv given = record { inv = inv; fit = refl; owed = λ peer id. refl; awaited = λ peer id. omega arith; once = λ peer id. omega arith; late = λ peer id l. refl }
run ((m, c) ∷ cs) s inv given =
    let a = step m given.0.0 s inv c given.0.1 in
    let b = run cs (called m s c).service a.inv given.1 in
    let e : CallMade = record { before = s; call = c; after = called m s c } in
    let es : List CallMade = history called (called m s c).service cs in
    record {
      inv = b.inv;
      fit = b.fit ∙ a.fit;
      owed = λ peer id. omega (arith, a.owed peer id, b.owed peer id, counted (takes (invokes id) peer) e es, counted (sends_to (answers id) peer) e es);
      awaited = λ peer id. omega (arith, a.awaited peer id, b.awaited peer id, counted (sends_to (invokes id) peer) e es, counted (takes (answers id) peer) e es, sum_by-cons (expires peer id) e es);
      once = λ peer id. let sum = counted (sends_to (invokes id) peer) e es in
          let most = once_from (sends_to (invokes id) peer e) (count_by (sends_to (invokes id) peer) es) (λ t. b.late peer id (omega (arith, a.fresh peer id t))) (b.once peer id) in omega arith;
      late = λ peer id l. let sum = counted (sends_to (invokes id) peer) e es in
          let none = late_from (sends_to (invokes id) peer e) (count_by (sends_to (invokes id) peer) es) (λ t. omega (arith, a.fresh peer id t)) (b.late peer id (omega (arith, a.next))) in omega arith;
    }

pub has : (P : Dialogue → Type 0) (slots : List (Option Dialogue)) → All (Open P) slots → (d : Dialogue) → Has d slots → P d
has P [] a d h = absurd h
has P (s ∷ ss) a d h = ⊎_elim (λ e. let f = All-head (Open P) s ss a in rw e at f) (has P ss (All-tail (Open P) s ss a) d) h

running : (fit : FitOut) (s : Service) → s.fit ≡ fit → Inv s → (d : Dialogue) → Has d s.dialogues → Running fit s d
running fit s same inv d h =
    let f = has (Fine s.fit s.last s.next.0) s.dialogues inv.fine d h in
    let most = (span_bounds d.state).1 in
    record { ends_later = f.later; started = (f.started.0, f.started.1, f.started.2, f.started.3 ∙ ap (λ (x : FitOut). end_of x f.started.0 d.state) same); opened = omega (arith, f.later, f.spanned) }

in_range : (low high n : ℕ) → within low high n ≡ true → (low ≤ n) × (n ≤ high)
in_range low high n h = let p = and_parts (leb low n) (leb n high) h in (leb-true low n p.0, leb-true n high p.1)

each_in_range : (low high : ℕ) (ns : List ℕ) → list_all (within low high) ns ≡ true → AllByRecursion (λ n. (low ≤ n) × (n ≤ high)) ns
each_in_range low high [] h = tt
each_in_range low high (n ∷ ns) h = let p = and_parts (within low high n) (list_all (within low high) ns) h in (in_range low high n p.0, each_in_range low high ns p.1)

-- every timer is in its range
record Timers (f : FitOut) : Type 0 where
  t1 : (least_peer_timer ≤ f.t1) × (f.t1 ≤ longest_timer)
  t2 : (least_peer_timer ≤ f.t2) × (f.t2 ≤ longest_timer)
  t3 : (least_peer_timer ≤ f.t3) × (f.t3 ≤ longest_timer)
  t4 : (least_peer_timer ≤ f.t4) × (f.t4 ≤ longest_timer)
  t5 : (least_peer_timer ≤ f.t5) × (f.t5 ≤ longest_timer)
  tr : (least_radio_timer ≤ f.tr) × (f.tr ≤ longest_timer)

timers : (f : FitOut) → fitted f ≡ true → Timers f
timers f h =
    let p = and_parts (peer_timers_fit f && within least_radio_timer longest_timer f.tr && leb 1 f.home) (leb 1 f.server) h in
    let q = and_parts (peer_timers_fit f && within least_radio_timer longest_timer f.tr) (leb 1 f.home) p.0 in
    let r = and_parts (peer_timers_fit f) (within least_radio_timer longest_timer f.tr) q.0 in
    let e = each_in_range least_peer_timer longest_timer (f.t1 ∷ f.t2 ∷ f.t3 ∷ f.t4 ∷ f.t5 ∷ []) r.0 in
    record { t1 = e.0; t2 = e.1.0; t3 = e.1.1.0; t4 = e.1.1.1.0; t5 = e.1.1.1.1.0; tr = in_range least_radio_timer longest_timer f.tr r.1 }

timer_in_range : (f : FitOut) → Timers f → (t : Timer) → (0 < duration f t) × (duration f t ≤ longest_timer)
timer_in_range f r T1 = (omega (arith, r.t1), omega (arith, r.t1))
timer_in_range f r T2 = (omega (arith, r.t2), omega (arith, r.t2))
timer_in_range f r T3 = (omega (arith, r.t3), omega (arith, r.t3))
timer_in_range f r T4 = (omega (arith, r.t4), omega (arith, r.t4))
timer_in_range f r T5 = (omega (arith, r.t5), omega (arith, r.t5))
timer_in_range f r Tr = (omega (arith, r.tr), omega (arith, r.tr))

pub start : (f : FitOut) → fitted f ≡ true → Inv (fresh f)
start f h = record {
  timers = timer_in_range f (timers f h);
  next = omega arith;
  fine = All-replicate (Open (Fine f 0 1)) most_dialogues None tt;
  owed = λ peer id. omega arith;
  awaited = λ peer id. omega arith;
  names = fresh_names f;
}

pub always_balanced : (f : FitOut) → fitted f ≡ true → AlwaysBalanced (fresh f)
always_balanced f h cs given =
    let r = run cs (fresh f) (start f h) given in
    record {
      answered = λ peer id. (omega (arith, r.owed peer id), r.inv.owed peer id);
      settled = λ peer id. (omega (arith, r.awaited peer id), r.once peer id);
      running = running f _ r.fit r.inv;
    }
