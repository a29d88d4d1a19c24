-- What a search of the table tells, and a count after one place is written. Assumes nothing.
use Rattle.std.proofs.Common.{◌≡◌, ℕ, ◌+◌, ◌<◌, ◌≤◌, Bool, true, false, cond, List, [], ◌∷◌, length, get_or, set, Some, None, Option, All, count_by, position, refl, ap, subst, arith}
use Rattle.std.specs.List.{list_any}
use Rattle.std.specs.Option.{option_map}
use Rattle.std.proofs.lemmas.Bool.{or_parts, leb-false}
use Rattle.std.proofs.lemmas.Option.{same_Some}
use Rattle.std.proofs.lemmas.List.Elements.{All-head, All-tail, All-nil, All-cons}
use Rattle.std.proofs.lemmas.List.Quantifiers.{position-Some}
use Rattle.std.proofs.lemmas.List.Sums.{sum_by-cons, sum_by-set, get_or-le-sum_by}
use Rattle.exchange.specs.declared.dialogue.Dialogue.{Dialogue}
use Rattle.exchange.specs.Table.{ends_by, due, standing_at, found}

abbrev pub bit : Bool → ℕ
bit b = cond b 1 0

-- a fact of each dialogue in a list of places
abbrev pub Open : (Dialogue → Type 0) → Option Dialogue → Type 0
Open P None = Unit {0}
Open P (Some d) = P d

-- the timer ends after the reading
abbrev pub Later : ℕ → Option Dialogue → Type 0
Later reading slot = Open (λ d. reading < d.ends) slot

later_from : (reading : ℕ) (slot : Option Dialogue) → ends_by reading slot ≡ false → Later reading slot
later_from reading None h = tt
later_from reading (Some d) h = leb-false d.ends reading h

pub none_due : (reading : ℕ) (slots : List (Option Dialogue)) → due reading slots ≡ false → All (Later reading) slots
none_due reading [] h = All-nil (Later reading)
none_due reading (s ∷ ss) h =
    let p = or_parts (ends_by reading s) (list_any (ends_by reading) ss) h in
    All-cons (Later reading) s ss (later_from reading s p.0) (none_due reading ss p.1)

pub none_passes : (test : Option Dialogue → Bool) (slots : List (Option Dialogue)) → list_any test slots ≡ false → count_by test slots ≡ 0
none_passes test [] h = refl
none_passes test (s ∷ ss) h =
    let p = or_parts (test s) (list_any test ss) h in
    omega (arith, sum_by-cons (λ x. bit (test x)) s ss, none_passes test ss p.1, ap bit p.0)

-- what a search finds stands at that place, and passes
pub record FoundAt (test : Option Dialogue → Bool) (slots : List (Option Dialogue)) (k : ℕ) (d : Dialogue) : Type 0 where
  pub within : k < length slots
  pub stands : get_or slots k None ≡ Some d
  pub passes : test (Some d) ≡ true

some_pair : (k j : ℕ) (d e : Dialogue) → ◌≡◌ {A = Option (ℕ × Dialogue)} (Some (k, d)) (Some (j, e)) → (k ≡ j) × (d ≡ e)
some_pair k j d e h = let q = same_Some {A = ℕ × Dialogue} (k, d) (j, e) h in (ap (λ (p : ℕ × Dialogue). p.0) q, ap (λ (p : ℕ × Dialogue). p.1) q)

standing : (slot : Option Dialogue) (place k : ℕ) (d : Dialogue) → option_map {U = ℕ × Dialogue} (λ e. (place, e)) slot ≡ Some (k, d) → (place ≡ k) × (slot ≡ Some d)
standing None place k d h = cc
standing (Some e) place k d h = let p = some_pair place k e d h in (p.0, ap Some p.1)

found_place : (test : Option Dialogue → Bool) (slots : List (Option Dialogue)) (o : Option ℕ) (k : ℕ) (d : Dialogue) → position test slots ≡ o → standing_at slots o ≡ Some (k, d) → FoundAt test slots k d
found_place test slots None k d e h = cc
found_place test slots (Some place) k d e h =
    let p = position-Some test slots place None e in
    let q = standing (get_or slots place None) place k d h in
    let passes : test (Some d) ≡ true = rw q.1 at p.1 in
    subst (λ (j : ℕ). FoundAt test slots j d) q.0 (record { within = p.0; stands = q.1; passes = passes })

pub found_at : (test : Option Dialogue → Bool) (slots : List (Option Dialogue)) (k : ℕ) (d : Dialogue) → found test slots ≡ Some (k, d) → FoundAt test slots k d
found_at test slots k d h = found_place test slots (position test slots) k d refl h

-- a count after one place is written
pub one_slot : (slots : List (Option Dialogue)) (k : ℕ) (x old : Option Dialogue) (test : Option Dialogue → Bool) → k < length slots → get_or slots k None ≡ old → count_by test (set slots k x) + bit (test old) ≡ count_by test slots + bit (test x)
one_slot slots k x old test l w = rw w at (sum_by-set (λ y. bit (test y)) slots k x None l)

pub count_at : (slots : List (Option Dialogue)) (k : ℕ) (old : Option Dialogue) (test : Option Dialogue → Bool) → k < length slots → get_or slots k None ≡ old → bit (test old) ≤ count_by test slots
count_at slots k old test l w = rw w at (get_or-le-sum_by (λ y. bit (test y)) slots k None l)

-- no place passes
pub count_none : (test : Option Dialogue → Bool) (P : Option Dialogue → Type 0) → ((x : Option Dialogue) → P x → test x ≡ false) → (slots : List (Option Dialogue)) → All P slots → count_by test slots ≡ 0
count_none test P h [] a = refl
count_none test P h (x ∷ xs) a =
    omega (arith, sum_by-cons (λ y. bit (test y)) x xs, count_none test P h xs (All-tail P x xs a), ap bit (h x (All-head P x xs a)))

pub bit_most : (b : Bool) → bit b ≤ 1
bit_most true = omega arith
bit_most false = omega arith
