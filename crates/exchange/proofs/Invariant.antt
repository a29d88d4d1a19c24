-- What holds between the calls of a run, and what one call keeps: from the one place that it writes to the table. Assumes nothing.
use Rattle.std.proofs.Common.{◌≡◌, ℕ, ◌+◌, ◌<◌, ◌≤◌, Bool, true, false, List, length, get_or, set, Some, None, Ok, Err, Option, All, count_by, sym, refl, ap, ◌∙◌, subst, inl, inr, arith}
use Rattle.std.proofs.lemmas.Bool.{false≢true, false_from_ne_true}
use Rattle.std.proofs.lemmas.List.Elements.{All-set}
use Rattle.std.proofs.lemmas.Option.{none-some}
use Rattle.refusal.specs.declared.Refusal.{Refusal}
use Rattle.values.specs.User.{is_user}
use Rattle.exchange.specs.declared.dialogue.Dialogue.{Dialogue}
use Rattle.exchange.specs.declared.fit_out.FitOut.{FitOut}
use Rattle.exchange.specs.declared.fit_out.Timer.{Timer}
use Rattle.exchange.specs.declared.invokes.Owed.{Owed}
use Rattle.exchange.specs.declared.invokes.OwnNumber.{OwnNumber}
use Rattle.exchange.specs.declared.outcome.Outcome.{Outcome}
use Rattle.exchange.specs.declared.service.Service.{Service}
use Rattle.exchange.specs.declared.state.State.{State}
use Rattle.exchange.specs.declared.state.State.TheVariants.{FetchingForInitiation, Initiating, Executing}
use Rattle.exchange.specs.Bounds.{longest_timer, longest_dialogue}
use Rattle.exchange.specs.FitOut.{duration}
use Rattle.exchange.specs.Moves.{IsClock, Moves}
use Rattle.exchange.specs.Outcome.{Decision, After, at_edge, done_of, buffer_after}
use Rattle.exchange.specs.Runs.{Call, PlainInitiation, InitiationWithValues, VisitorStart, NetworkProof, Delivery, Reply, Clock, CallMade, invokes, answers, brings, takes, sends, sends_to, owing, awaiting, lapses, expires}
use Rattle.exchange.specs.Service.{read_at, written}
use Rattle.exchange.specs.State.{end_of, asked_by, owed_by, is_asked_of}
use Rattle.exchange.specs.Table.{owes, awaits}
use Rattle.exchange.specs.Verdicts.{TellsVerdicts}
use Rattle.exchange.proofs.Edge.{Sendable, says, TellsOnly, sends_edge, verdicts_edge}
use Rattle.exchange.proofs.Left.{none_late}
use Rattle.exchange.proofs.Moved.{Arrives, Departs, put_moves, same_moves}
use Rattle.exchange.proofs.Names.{Names, Leaves, May, leaves_names}
use Rattle.exchange.proofs.Searched.{bit, Open, Later, one_slot, count_none, bit_most}

-- how long after its opening a dialogue may last in a state
abbrev pub span : State → ℕ
span (Initiating asked) = longest_dialogue
span (Executing owed expected) = longest_dialogue
span s = longest_timer

-- what is owed has an id of at least 1
abbrev pub CanAnswer : State → Type 0
CanAnswer s = (owed : Owed) → owed_by s ≡ Some owed → 1 ≤ owed.id.0

-- the user of an initiation with values is one
abbrev pub UserRight : State → Type 0
UserRight (FetchingForInitiation asked user peer) = is_user user ≡ true
UserRight s = Unit {0}

-- an open dialogue of an exchange with this last reading and this next number
pub record Fine (fit : FitOut) (last next : ℕ) (d : Dialogue) : Type 0 where
  pub later : last < d.ends
  pub started : (reading : ℕ) × (d.opened ≤ reading) × (reading ≤ last) × (d.ends ≡ end_of fit reading d.state)
  pub spanned : d.ends ≤ d.opened + span d.state
  pub named : d.name.0 < next
  pub numbered : (peer id : ℕ) → is_asked_of peer id (asked_by d.state) ≡ true → id < next
  pub answer : CanAnswer d.state
  pub user : UserRight d.state

pub record Inv (s : Service) : Type 0 where
  pub timers : (t : Timer) → (0 < duration s.fit t) × (duration s.fit t ≤ longest_timer)
  pub next : 1 ≤ s.next.0
  pub fine : All (Open (Fine s.fit s.last s.next.0)) s.dialogues
  pub owed : (peer id : ℕ) → owing peer id s ≤ 1
  pub awaited : (peer id : ℕ) → awaiting peer id s ≤ 1
  pub names : Names s

abbrev pub made : Service → Call → After → CallMade
made s c a = record { before = s; call = c; after = a }

-- what one call keeps
pub record Step (s : Service) (c : Call) (a : After) : Type 0 where
  pub inv : Inv a.service
  pub owed : (peer id : ℕ) → bit (takes (invokes id) peer (made s c a)) + owing peer id s ≡ bit (sends_to (answers id) peer (made s c a)) + owing peer id a.service
  pub awaited : (peer id : ℕ) → bit (sends_to (invokes id) peer (made s c a)) + awaiting peer id s ≡ bit (takes (answers id) peer (made s c a)) + expires peer id (made s c a) + awaiting peer id a.service
  pub next : s.next.0 ≤ a.service.next.0
  pub leaves : Leaves s a.service
  pub fit : a.service.fit ≡ s.fit
  pub moves : Moves s.fit (made s c a)
  pub verdicts : TellsVerdicts (made s c a)
  pub fresh : (peer id : ℕ) → sends_to (invokes id) peer (made s c a) ≡ true → (id ≡ s.next.0) × (s.next.0 < a.service.next.0)

-- what a call decides keeps it, whatever the buffer
abbrev pub Keeps : Service → Call → Decision → Type 0
Keeps s c decision = (out : List ℕ) → Step s c (at_edge s out decision)

-- what is said of the one place that a done call writes
pub record Put (s : Service) (c : Call) (r : ℕ) (n : OwnNumber) (k : ℕ) (x : Option Dialogue) (o : Outcome) : Type 0 where
  pub old : Option Dialogue
  pub within : k < length s.dialogues
  pub stands : get_or s.dialogues k None ≡ old
  pub rest : All (Later r) s.dialogues
  pub last : s.last ≤ r
  pub next : s.next.0 ≤ n.0
  pub fine : Open (Fine s.fit r n.0) x
  pub owed : (peer id : ℕ) → bit (brings (invokes id) peer c) + bit (owes peer id old) ≡ bit (says (answers id) peer o) + bit (owes peer id x)
  pub once : (peer id : ℕ) → brings (invokes id) peer c ≡ true → owing peer id s ≡ 0
  pub awaited : (peer id : ℕ) → bit (says (invokes id) peer o) + bit (awaits peer id old) ≡ bit (brings (answers id) peer c) + lapses peer id s (written s r n k x) c + bit (awaits peer id x)
  pub fresh : (peer id : ℕ) → says (invokes id) peer o ≡ true → (id ≡ s.next.0) × (s.next.0 < n.0)
  pub sendable : Sendable o
  pub stays : IsClock c → r ≡ s.last
  pub verdicts : TellsOnly c o
  pub may : May s.next.0 n.0 old x
  pub arrives : Arrives s c x
  pub departs : Departs c old x

-- what is said of a done call that writes no place: what it takes it answers at once
pub record Only (s : Service) (c : Call) (r : ℕ) (o : Outcome) : Type 0 where
  pub rest : All (Later r) s.dialogues
  pub last : s.last ≤ r
  pub owed : (peer id : ℕ) → bit (brings (invokes id) peer c) ≡ bit (says (answers id) peer o)
  pub sent : (peer id : ℕ) → says (invokes id) peer o ≡ false
  pub got : (peer id : ℕ) → brings (answers id) peer c ≡ false
  pub verdicts : TellsOnly c o
  pub sendable : Sendable o

fine_later : (fit : FitOut) (last next r n : ℕ) (slot : Option Dialogue) → last ≤ r → next ≤ n → Open (Fine fit last next) slot → Later r slot → Open (Fine fit r n) slot
fine_later fit last next r n None h l f g = tt
fine_later fit last next r n (Some d) h l f g = record {
  later = g;
  started = (f.started.0, f.started.1, omega (arith, f.started.2), f.started.3);
  spanned = f.spanned;
  named = omega (arith, f.named);
  numbered = λ peer id e. let m = f.numbered peer id e in omega arith;
  answer = f.answer;
  user = f.user;
}

all_later : (fit : FitOut) (last next r n : ℕ) (slots : List (Option Dialogue)) → last ≤ r → next ≤ n → All (Open (Fine fit last next)) slots → All (Later r) slots → All (Open (Fine fit r n)) slots
all_later fit last next r n slots h l f g = λ k d w. fine_later fit last next r n (get_or slots k d) h l (f k d w) (g k d w)

at_most_one : (t : Bool) (a o o' : ℕ) → bit t + o ≡ a + o' → o ≤ 1 → (t ≡ true → o ≡ 0) → o' ≤ 1
at_most_one true a o o' e le h = let z = h refl in omega arith
at_most_one false a o o' e le h = omega arith

at_most_one_awaited : (t : Bool) (a l o x w w' : ℕ) → bit t + o ≡ a + l + x → w' + o ≡ w + x → w ≤ 1 → x ≤ 1 → (t ≡ true → w ≡ 0) → w' ≤ 1
at_most_one_awaited true a l o x w w' e f le le' h = let z = h refl in omega arith
at_most_one_awaited false a l o x w w' e f le le' h = omega arith

-- an id that is still to be taken is awaited by no dialogue
new_id : (fit : FitOut) (last next peer id : ℕ) → next ≤ id → (slot : Option Dialogue) → Open (Fine fit last next) slot → awaits peer id slot ≡ false
new_id fit last next peer id le None h = refl
new_id fit last next peer id le (Some d) h = false_from_ne_true _ (λ e. let l = h.numbered peer id e in omega arith)

unawaited : (s : Service) → Inv s → (peer id : ℕ) → id ≡ s.next.0 → awaiting peer id s ≡ 0
unawaited s inv peer id e = count_none (awaits peer id) (Open (Fine s.fit s.last s.next.0)) (new_id s.fit s.last s.next.0 peer id (omega arith)) s.dialogues inv.fine

-- nothing expires where the table is as it was
unlapsed : (c : Call) (s : Service) (r peer id : ℕ) → lapses peer id s (read_at s r) c ≡ 0
unlapsed (Clock reading out) s r peer id = none_late reading peer id s.dialogues s.dialogues (λ e h. h)
unlapsed (PlainInitiation reading digits to links out) s r peer id = refl
unlapsed (InitiationWithValues reading digits to links out) s r peer id = refl
unlapsed (VisitorStart reading digits out) s r peer id = refl
unlapsed (NetworkProof reading digits challenge out) s r peer id = refl
unlapsed (Delivery reading from draw bytes links subscribers out) s r peer id = refl
unlapsed (Reply reading name response out) s r peer id = refl

-- an answer that is sent goes to the invoke that was taken
took : (taken sent : Bool) → bit taken ≡ bit sent → sent ≡ true → taken ≡ true
took true sent e h = refl
took false sent e h = let one = ap bit h in absurd (omega arith)

module _ (s : Service) (inv : Inv s) (c : Call) where
  pub refused_step : (n : Refusal) → Keeps s c (Err n)
  refused_step n out = record {
    inv = inv;
    owed = λ peer id. refl;
    awaited = λ peer id. omega arith;
    next = omega arith;
    fresh = λ peer id e. absurd (false≢true e);
    verdicts = record { sent = λ v e. absurd (none-some v e); reported = λ v e. absurd (none-some v e) };
    leaves = inl (refl, omega arith);
    fit = refl;
    moves = same_moves s.fit s c (at_edge s out (Err n)) refl (λ peer id e. absurd (false≢true e));
  }

  -- one place is written
  pub put_step : (r : ℕ) (n : OwnNumber) (k : ℕ) (x : Option Dialogue) (o : Outcome) → Put s c r n k x o → Keeps s c (Ok (o, written s r n k x))
  put_step r n k x o p out =
      let tell = sends_edge o out p.sendable in
      let owed : (peer id : ℕ) → bit (brings (invokes id) peer c) + owing peer id s ≡ bit (says (answers id) peer o) + count_by (owes peer id) (set s.dialogues k x)
      = λ peer id. omega (arith, p.owed peer id, one_slot s.dialogues k x p.old (owes peer id) p.within p.stands) in
      let awaited : (peer id : ℕ) → count_by (awaits peer id) (set s.dialogues k x) + bit (awaits peer id p.old) ≡ awaiting peer id s + bit (awaits peer id x)
      = λ peer id. one_slot s.dialogues k x p.old (awaits peer id) p.within p.stands in
      let leaves : Leaves s (written s r n k x) = inr (record { next = p.next; place = k; slot = x; is = refl; may = subst (λ (slot : Option Dialogue). May s.next.0 n.0 slot x) (sym p.stands) p.may }) in
      record {
        inv = record {
          timers = inv.timers;
          next = omega (arith, p.next, inv.next);
          fine = All-set (Open (Fine s.fit r n.0)) s.dialogues k x p.fine (all_later s.fit s.last s.next.0 r n.0 s.dialogues p.last p.next inv.fine p.rest);
          owed = λ peer id. at_most_one (brings (invokes id) peer c) _ _ _ (owed peer id) (inv.owed peer id) (p.once peer id);
          awaited = λ peer id. at_most_one_awaited (says (invokes id) peer o) _ _ _ _ _ _ (p.awaited peer id) (awaited peer id) (inv.awaited peer id) (bit_most (awaits peer id x)) (λ e. unawaited s inv peer id (p.fresh peer id e).0);
          names = leaves_names s (written s r n k x) inv.names leaves;
        };
        leaves = leaves;
        fit = refl;
        moves = put_moves s inv.names c r n k x p.old (done_of o) (buffer_after o out) p.within p.stands p.arrives p.departs p.stays
            (λ peer id. omega (arith, p.owed peer id, ap bit (tell (answers id) peer)));
        owed = λ peer id. omega (arith, owed peer id, ap bit (tell (answers id) peer));
        awaited = λ peer id. omega (arith, p.awaited peer id, awaited peer id, ap bit (tell (invokes id) peer));
        next = p.next;
        verdicts = verdicts_edge s (written s r n k x) c out o p.sendable p.verdicts;
        fresh = λ peer id e. p.fresh peer id (sym (tell (invokes id) peer) ∙ e);
      }

  -- no place is
  pub only_step : (r : ℕ) (o : Outcome) → Only s c r o → Keeps s c (Ok (o, read_at s r))
  only_step r o p out =
      let tell = sends_edge o out p.sendable in
      record {
        verdicts = verdicts_edge s (read_at s r) c out o p.sendable p.verdicts;
        inv = record { timers = inv.timers; next = inv.next; fine = all_later s.fit s.last s.next.0 r s.next.0 s.dialogues p.last (omega arith) inv.fine p.rest; owed = inv.owed; awaited = inv.awaited; names = leaves_names s (read_at s r) inv.names (inl (refl, omega arith)) };
        leaves = inl (refl, omega arith);
        fit = refl;
        moves = same_moves s.fit s c (at_edge s out (Ok (o, read_at s r))) refl
            (λ peer id sent. took (brings (invokes id) peer c) (sends (answers id) peer (buffer_after o out) (Ok (done_of o))) (omega (arith, p.owed peer id, ap bit (tell (answers id) peer))) sent);
        owed = λ peer id. omega (arith, p.owed peer id, ap bit (tell (answers id) peer));
        awaited = λ peer id. omega (arith, ap bit (p.sent peer id), ap bit (p.got peer id), ap bit (tell (invokes id) peer), unlapsed c s r peer id);
        next = omega arith;
        fresh = λ peer id e. absurd (false≢true (sym (p.sent peer id) ∙ (sym (tell (invokes id) peer) ∙ e)));
      }
