-- Names of dialogues, and a dialogue at a terminal, after one place of the table is written. Assumes nothing.
use Rattle.std.proofs.Common.{◌≡◌, ◌≢◌, ℕ, zero, suc, ◌<◌, ◌≤◌, ◌⊎◌, List, [], ◌∷◌, get_or, set, replicate, Some, None, Option, sym, refl, ap, ◌∙◌, subst, inl, inr, ⊎_elim, arith}
use Rattle.std.proofs.lemmas.Option.{none-some, same_Some}
use Rattle.exchange.specs.declared.dialogue.Dialogue.{Dialogue}
use Rattle.exchange.specs.declared.fit_out.FitOut.{FitOut}
use Rattle.exchange.specs.declared.state.State.{State}
use Rattle.exchange.specs.declared.state.State.TheVariants.{FetchingForInitiation, Initiating, FetchingForVisitor, Requesting, Executing, RequestingProof, FetchingProof}
use Rattle.exchange.specs.declared.service.Service.{Service}
use Rattle.exchange.specs.EnterService.{fresh}

-- a dialogue stands at a place
abbrev pub At : List (Option Dialogue) → ℕ → Dialogue → Type 0
At xs i d = get_or xs i None ≡ Some d

-- it is what was written, or it stood there before, at another place
pub at_set : (xs : List (Option Dialogue)) (k i : ℕ) (y : Option Dialogue) (d : Dialogue) → At (set xs k y) i d → ((i ≡ k) × (y ≡ Some d)) ⊎ ((i ≢ k) × At xs i d)
at_set [] k i y d h = absurd (none-some d h)
at_set (x ∷ xs) zero zero y d h = inl (refl, h)
at_set (x ∷ xs) zero (suc i) y d h = inr ((λ e. omega arith), h)
at_set (x ∷ xs) (suc k) zero y d h = inr ((λ e. omega arith), h)
at_set (x ∷ xs) (suc k) (suc i) y d h = ⊎_elim (λ p. inl (ap suc p.0, p.1)) (λ p. inr ((λ e. p.0 (omega arith)), p.1)) (at_set xs k i y d h)

-- a state is at a terminal, from which a response is expected
abbrev pub Expects : List ℕ → State → Type 0
Expects e (Executing owed expected) = expected ≡ e
Expects e st = ⊥

-- a state is not at a terminal
abbrev pub Elsewhere : State → Type 0
Elsewhere (Executing owed expected) = ⊥
Elsewhere st = Unit {0}

not_there : (e : List ℕ) (st : State) → Elsewhere st → Expects e st → ⊥
not_there e (FetchingForInitiation asked user peer) h x = x
not_there e (Initiating asked) h x = x
not_there e (FetchingForVisitor asked owed computes) h x = x
not_there e (Requesting asked owed computes) h x = x
not_there e (Executing owed expected) h x = h
not_there e (RequestingProof asked computes challenge) h x = x
not_there e (FetchingProof asked owed computes) h x = x

-- names are below the next number, and no two dialogues have one
pub record Names (s : Service) : Type 0 where
  pub named : (i : ℕ) (d : Dialogue) → At s.dialogues i d → d.name.0 < s.next.0
  pub apart : (i j : ℕ) (d e : Dialogue) → At s.dialogues i d → At s.dialogues j e → d.name.0 ≡ e.name.0 → i ≡ j

-- the dialogue with a name, if it is still there, is at a terminal, from which a response is expected
pub record Holds (s : Service) (n : ℕ) (e : List ℕ) : Type 0 where
  pub old : n < s.next.0
  pub all : (i : ℕ) (d : Dialogue) → At s.dialogues i d → d.name.0 ≡ n → Expects e d.state

-- a dialogue that opens
abbrev pub Opens : ℕ → ℕ → Dialogue → Type 0
Opens n m d = (d.name.0 ≡ n) × (n < m)

-- a dialogue that goes on, where an old one stood that was not at a terminal
pub record GoesOn (old : Option Dialogue) (d : Dialogue) : Type 0 where
  pub from : Dialogue
  pub was : old ≡ Some from
  pub named : d.name.0 ≡ from.name.0
  pub elsewhere : Elsewhere from.state

-- what may be written where an old dialogue stood: none, one that opens, or one that goes on
abbrev pub May : ℕ → ℕ → Option Dialogue → Option Dialogue → Type 0
May n m old None = Unit {0}
May n m old (Some d) = Opens n m d ⊎ GoesOn old d

-- one place is written
pub record Writes (s t : Service) : Type 0 where
  pub next : s.next.0 ≤ t.next.0
  pub place : ℕ
  pub slot : Option Dialogue
  pub is : t.dialogues ≡ set s.dialogues place slot
  pub may : May s.next.0 t.next.0 (get_or s.dialogues place None) slot

-- or the table is as it was
abbrev pub Leaves : Service → Service → Type 0
Leaves s t = ((t.dialogues ≡ s.dialogues) × (s.next.0 ≤ t.next.0)) ⊎ Writes s t

module _ (s t : Service) (k : Names s) (w : Writes s t) where
  back : (i : ℕ) (d : Dialogue) → At t.dialogues i d → ((i ≡ w.place) × (w.slot ≡ Some d)) ⊎ ((i ≢ w.place) × At s.dialogues i d)
  back i d h = at_set s.dialogues w.place i w.slot d (subst (λ (xs : List (Option Dialogue)). At xs i d) w.is h)

  may_be : (d : Dialogue) → w.slot ≡ Some d → Opens s.next.0 t.next.0 d ⊎ GoesOn (get_or s.dialogues w.place None) d
  may_be d e = subst (May s.next.0 t.next.0 (get_or s.dialogues w.place None)) e w.may

  named_new : (d : Dialogue) → w.slot ≡ Some d → d.name.0 < t.next.0
  named_new d e = ⊎_elim (λ o. omega (arith, o.0, o.1)) (λ g. omega (arith, g.named, w.next, k.named w.place g.from g.was)) (may_be d e)

  -- another dialogue has another name
  other : (d : Dialogue) (j : ℕ) (e : Dialogue) → w.slot ≡ Some d → j ≢ w.place → At s.dialogues j e → d.name.0 ≡ e.name.0 → ⊥
  other d j e h ne a same = ⊎_elim (λ o. omega (arith, o.0, same, k.named j e a)) (λ g. ne (k.apart j w.place e g.from a g.was (sym same ∙ g.named))) (may_be d h)

  written_names : Names t
  written_names = record {
    named = λ i d a. ⊎_elim (λ p. named_new d p.1) (λ p. omega (arith, w.next, k.named i d p.1)) (back i d a);
    apart = λ i j d e a b same.
        ⊎_elim (λ p. ⊎_elim (λ q. p.0 ∙ sym q.0) (λ q. absurd (other d j e p.1 q.0 q.1 same)) (back j e b))
        (λ p. ⊎_elim (λ q. absurd (other e i d q.1 p.0 p.1 (sym same))) (λ q. k.apart i j d e p.1 q.1 same) (back j e b)) (back i d a);
  }

  holds_new : (n : ℕ) (e : List ℕ) → Holds s n e → (d : Dialogue) → w.slot ≡ Some d → d.name.0 ≡ n → ⊥
  holds_new n e h d is same =
      ⊎_elim (λ o. omega (arith, o.0, same, h.old))
      (λ g. not_there e g.from.state g.elsewhere (h.all w.place g.from g.was (sym g.named ∙ same))) (may_be d is)

  written_holds : (n : ℕ) (e : List ℕ) → Holds s n e → Holds t n e
  written_holds n e h = record {
    old = omega (arith, h.old, w.next);
    all = λ i d a same. ⊎_elim (λ p. absurd (holds_new n e h d p.1 same)) (λ p. h.all i d p.1 same) (back i d a);
  }

  -- what was written at the terminal is the only one with its name
  pub written_holds_it : (d : Dialogue) (e : List ℕ) → w.slot ≡ Some d → Expects e d.state → Holds t d.name.0 e
  written_holds_it d e is x = record {
    old = named_new d is;
    all = λ i b a same.
        ⊎_elim (λ p. subst (λ (c : Dialogue). Expects e c.state) (same_Some d b (sym is ∙ p.1)) x)
        (λ p. absurd (other d i b is p.0 p.1 (sym same))) (back i b a);
  }

module _ (s t : Service) (same : t.dialogues ≡ s.dialogues) (up : s.next.0 ≤ t.next.0) where
  same_at : (i : ℕ) (d : Dialogue) → At t.dialogues i d → At s.dialogues i d
  same_at i d h = subst (λ (xs : List (Option Dialogue)). At xs i d) same h

  same_names : Names s → Names t
  same_names k = record {
    named = λ i d a. omega (arith, k.named i d (same_at i d a));
    apart = λ i j d e a b. k.apart i j d e (same_at i d a) (same_at j e b);
  }

  same_holds : (n : ℕ) (e : List ℕ) → Holds s n e → Holds t n e
  same_holds n e h = record { old = omega (arith, h.old); all = λ i d a. h.all i d (same_at i d a) }

pub leaves_names : (s t : Service) → Names s → Leaves s t → Names t
leaves_names s t k l = ⊎_elim (λ p. same_names s t p.0 p.1 k) (λ w. written_names s t k w) l

pub leaves_holds : (s t : Service) → Names s → Leaves s t → (n : ℕ) (e : List ℕ) → Holds s n e → Holds t n e
leaves_holds s t k l n e h = ⊎_elim (λ p. same_holds s t p.0 p.1 n e h) (λ w. written_holds s t k w n e h) l

none_at : (n i : ℕ) (d : Dialogue) → At (replicate n None) i d → ⊥
none_at zero i d h = none-some d h
none_at (suc n) zero d h = none-some d h
none_at (suc n) (suc i) d h = none_at n i d h

-- in a fresh exchange nothing is open
pub fresh_names : (f : FitOut) → Names (fresh f)
fresh_names f = record { named = λ i d a. absurd (none_at 32 i d a); apart = λ i j d e a b n. absurd (none_at 32 i d a) }
