-- Of the dialogues that have ended, the fold over the places finds the one that ends first. Assumes nothing.
use Rattle.std.proofs.Common.{◌≡◌, ℕ, ◌+◌, ◌<◌, ◌≤◌, true, false, ◌&&◌, leb, ◌⊎◌, List, [], ◌∷◌, IfSome, Some, None, Ok, Option, sym, refl, ap, ◌∙◌, subst, inl, inr, ⊎_elim, arith}
use Rattle.std.proofs.lemmas.Bool.{cond_both, and_parts, and_cases, leb-true, leb-false}
use Rattle.std.proofs.lemmas.Bool.Decides.{nat_tests}
use Rattle.apdu.specs.declared.apdus.Body.{Body}
use Rattle.exchange.specs.declared.dialogue.Dialogue.{Dialogue}
use Rattle.exchange.specs.declared.dialogue.Step.{Step}
use Rattle.exchange.specs.declared.dialogue.Step.TheVariants.{Closes}
use Rattle.exchange.specs.declared.invokes.Owed.{Owed}
use Rattle.exchange.specs.declared.outcome.Outcome.{Outcome}
use Rattle.exchange.specs.declared.outcome.Report.{Report}
use Rattle.exchange.specs.declared.service.Service.{Service}
use Rattle.exchange.specs.Dialogue.{answer_or_report, expired}
use Rattle.exchange.specs.Outcome.{done_of}
use Rattle.exchange.specs.State.{owed_by}
use Rattle.exchange.specs.Table.{Has, ends_before, better, first_to_end_from, first_to_end}
use Rattle.exchange.specs.Laws.{NoneEnded, EndsFirst, Earliest}

-- d ends before e, or with it where its name is no higher
abbrev NoLater : Dialogue → Dialogue → Type 0
NoLater d e = (d.ends < e.ends) ⊎ ((d.ends ≡ e.ends) × (d.name.0 ≤ e.name.0))

no_later_itself : (d : Dialogue) → NoLater d d
no_later_itself d = inr (refl, omega arith)

no_later_further : (a b c : Dialogue) → NoLater a b → NoLater b c → NoLater a c
no_later_further a b c p q = grind arith

ends_before_no_later : (a b : Dialogue) → ends_before a b ≡ true → NoLater a b
ends_before_no_later a b e = grind (arith, nat_tests)

else_no_later : (a b : Dialogue) → ends_before a b ≡ false → NoLater b a
else_no_later a b e = grind (arith, nat_tests)

-- the dialogue of the best so far, as at a place
abbrev slot_of : Option (ℕ × Dialogue) → Option Dialogue
slot_of None = None
slot_of (Some (place, d)) = Some d

module _ (reading : ℕ) where
  -- what was found is the first to end of the dialogues at these places
  abbrev Finds : List (Option Dialogue) → Option (ℕ × Dialogue) → Type 0
  Finds slots None = NoneEnded reading slots
  Finds slots (Some (place, d)) = Has d slots × (d.ends ≤ reading) × ((e : Dialogue) → Has e slots → NoLater d e)

  abbrev Ended : Option (ℕ × Dialogue) → Type 0
  Ended best = IfSome best (λ p. p.1.ends ≤ reading)

  -- e has not ended by the reading, or one at these places ends no later
  abbrev Later : List (Option Dialogue) → Dialogue → Type 0
  Later slots e = (reading < e.ends) ⊎ ((d : Dialogue) × Has d slots × NoLater d e)

  -- what is found at the places xs is found at ys too, where ys has the dialogues of xs and, beside them, only later ones
  finds_more : (xs ys : List (Option Dialogue)) (found : Option (ℕ × Dialogue)) → ((d : Dialogue) → Has d xs → Has d ys) → ((e : Dialogue) → Has e ys → Later xs e) → Finds xs found → Finds ys found
  finds_more xs ys None has later h =
      λ e m. ⊎_elim (λ l. l) (λ p. let k = h p.0 p.1 in let q = p.2 in grind arith) (later e m)
  finds_more xs ys (Some (place, d)) has later h =
      (has d h.0, h.1, λ e m. ⊎_elim (λ l. inl (omega (arith, h.1))) (λ p. no_later_further d p.0 e (h.2 p.0 p.1) p.2) (later e m))

module _ (reading : ℕ) (ss : List (Option Dialogue)) where
  -- the dialogue at y, if there is one, is later than the one at x or one of the rest
  abbrev SlotLater : Option Dialogue → Option Dialogue → Type 0
  SlotLater x y = (e : Dialogue) → y ≡ Some e → Later reading (x ∷ ss) e

  later_itself : (x : Option Dialogue) → SlotLater x x
  later_itself x e p = inr (e, inl p, no_later_itself e)

  free_later : (x : Option Dialogue) → SlotLater x None
  free_later x e p = cc

  other_later : (a b : Dialogue) → NoLater a b → SlotLater (Some a) (Some b)
  other_later a b h e p = let q : b ≡ e = cc in inr (a, inl refl, rw q at h)

  running_later : (x : Option Dialogue) (d : Dialogue) → reading < d.ends → SlotLater x (Some d)
  running_later x d h e p = let q : d ≡ e = cc in inl (rw q at h)

  -- of the slots y and z one is x, and the other is later
  finds_both : (x y z : Option Dialogue) (found : Option (ℕ × Dialogue)) → (x ≡ y) ⊎ (x ≡ z) → SlotLater x y → SlotLater x z → Finds reading (x ∷ ss) found → Finds reading (y ∷ z ∷ ss) found
  finds_both x y z found is hy hz =
      finds_more reading (x ∷ ss) (y ∷ z ∷ ss) found
      (λ d. ⊎_elim (λ p. ⊎_elim (λ q. inl (sym q ∙ p)) (λ q. inr (inl (sym q ∙ p))) is) (λ m. inr (inr m)))
      (λ e. ⊎_elim (hy e) (⊎_elim (hz e) (λ m. inr (e, inr m, no_later_itself e))))

  -- one turn of the fold: the new best has ended, and what is found with it is found with the old best and the slot
  abbrev Turn : Option (ℕ × Dialogue) → Option Dialogue → Option (ℕ × Dialogue) → Type 0
  Turn best s new = Ended reading new × ((found : Option (ℕ × Dialogue)) → Finds reading (slot_of new ∷ ss) found → Finds reading (slot_of best ∷ s ∷ ss) found)

  turn_ended : (i : ℕ) (d : Dialogue) (best : Option (ℕ × Dialogue)) → Ended reading best → Turn best (Some d) (better reading i (Some d) best)
  turn_ended i d None k =
      cond_both (leb d.ends reading) _ _ (Turn None (Some d))
      (λ t. (leb-true d.ends reading t, λ found. finds_both (Some d) None (Some d) found (inr refl) (free_later (Some d)) (later_itself (Some d))))
      (λ f. (k, λ found. finds_both None None (Some d) found (inl refl) (later_itself None) (running_later None d (leb-false d.ends reading f))))
  turn_ended i d (Some (j, b)) k =
      cond_both (leb d.ends reading && ends_before d b) _ _ (Turn (Some (j, b)) (Some d))
      (λ t. let p = and_parts (leb d.ends reading) (ends_before d b) t in
      (leb-true d.ends reading p.0, λ found. finds_both (Some d) (Some b) (Some d) found (inr refl) (other_later d b (ends_before_no_later d b p.1)) (later_itself (Some d))))
      (λ f. (
        k,
        λ found. finds_both (Some b) (Some b) (Some d) found (inl refl) (later_itself (Some b))
            (⊎_elim (λ l. running_later (Some b) d (leb-false d.ends reading l)) (λ l. other_later b d (else_no_later d b l)) (and_cases (leb d.ends reading) (ends_before d b) f)),
      ))

  turn : (i : ℕ) (s : Option Dialogue) (best : Option (ℕ × Dialogue)) → Ended reading best → Turn best s (better reading i s best)
  turn i None best k = (k, λ found. finds_both (slot_of best) (slot_of best) None found (inl refl) (later_itself (slot_of best)) (free_later (slot_of best)))
  turn i (Some d) best k = turn_ended i d best k

first_from_finds : (reading : ℕ) (ss : List (Option Dialogue)) (i : ℕ) (best : Option (ℕ × Dialogue)) → Ended reading best → Finds reading (slot_of best ∷ ss) (first_to_end_from reading i best ss)
first_from_finds reading [] i None k = λ e. ⊎_elim (λ p. cc) absurd
first_from_finds reading [] i (Some (j, b)) k = (inl refl, k, λ e. ⊎_elim (λ p. let q : b ≡ e = cc in rw q (no_later_itself e)) absurd)
first_from_finds reading (s ∷ ss) i best k = let t = turn reading ss i s best k in t.1 _ (first_from_finds reading ss (i + 1) _ t.0)

first_to_end_finds : (reading : ℕ) (slots : List (Option Dialogue)) → Finds reading slots (first_to_end reading slots)
first_to_end_finds reading slots =
    finds_more reading (None ∷ slots) slots (first_to_end reading slots)
    (λ d. ⊎_elim (λ p. cc) (λ m. m))
    (λ e m. inr (e, inr m, no_later_itself e))
    (first_from_finds reading slots 0 None tt)

-- what ends first, in the words of the law
as_law : (reading : ℕ) (slots : List (Option Dialogue)) (place : ℕ) (d : Dialogue) → Finds reading slots (Some (place, d)) → EndsFirst reading slots d
as_law reading slots place d h = (h.0, h.1, λ e m b. let n = h.2 e m in ⊎_elim (λ p. ⊎_elim (λ q. omega arith) (λ q. omega (arith, q.0)) n) (λ p. ⊎_elim (λ q. omega (arith, p.0)) (λ q. omega (arith, p.1, q.1)) n) b)

pub first_to_end_is : (reading : ℕ) (slots : List (Option Dialogue)) (found : Option (ℕ × Dialogue)) → first_to_end reading slots ≡ found → Finds reading slots found
first_to_end_is reading slots found e = subst (Finds reading slots) e (first_to_end_finds reading slots)

-- what is told of the dialogue that ends first
module _ (reading : ℕ) (s : Service) (place : ℕ) (d : Dialogue) (found : first_to_end reading s.dialogues ≡ Some (place, d)) where
  ends_first : EndsFirst reading s.dialogues d
  ends_first = as_law reading s.dialogues place d (first_to_end_is reading s.dialogues _ found)

  concluded_first : (b : Body) (r : Report) (o : Option Owed) → owed_by d.state ≡ o → Earliest s reading (Ok (done_of (answer_or_report o b d.name r)))
  concluded_first b r None e = (d, (e, refl), ends_first)
  concluded_first b r (Some owed) e = (d, (owed, e, refl), ends_first)

  pub done_first : (o : Outcome) → o ≡ expired d → Earliest s reading (Ok (done_of o))
  done_first o is = subst (λ (x : Outcome). Earliest s reading (Ok (done_of x))) (sym is) (concluded_first _ _ (owed_by d.state) refl)

-- a step that closes, and leaves the dialogue as it was
pub closing : (d left : Dialogue) (step : Step) (n m : Outcome) → ◌≡◌ {A = Step × Dialogue} (step, left) (Closes m, d) → step ≡ Closes n → n ≡ m
closing d left step n m e is = let first : step ≡ Closes m = ap (λ (p : Step × Dialogue). p.0) e in cc
