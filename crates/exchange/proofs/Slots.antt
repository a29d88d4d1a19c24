-- The dialogues that stand in the table, after one place is written. Assumes nothing.
use Rattle.std.proofs.Common.{◌≡◌, ℕ, zero, suc, ◌≤◌, ◌⊎◌, List, [], ◌∷◌, length, Some, None, Option, sum_by, slice_set, get_or, inl, inr, ⊎_elim, arith}
use Rattle.std.proofs.lemmas.List.{length-set}
use Rattle.std.proofs.lemmas.List.Sums.{sum_by-cons}
use Rattle.values.specs.declared.user.User.{User}
use Rattle.exchange.specs.declared.dialogue.Dialogue.{Dialogue}
use Rattle.exchange.specs.State.{named_in}
use Rattle.exchange.specs.Table.{Has, one_more, to_take}

-- it is what was written, or it stood there before
pub has_set : (xs : List (Option Dialogue)) (i : ℕ) (y : Option Dialogue) (d : Dialogue) → Has d (slice_set xs i y) → (y ≡ Some d) ⊎ Has d xs
has_set [] i y d h = absurd h
has_set (x ∷ xs) zero y d h = ⊎_elim inl (λ m. inr (inr m)) h
has_set (x ∷ xs) (suc i) y d h = ⊎_elim (λ e. inr (inl e)) (λ m. ⊎_elim inl (λ k. inr (inr k)) (has_set xs i y d m)) h

-- what stands at a place is in the table
pub has_at : (xs : List (Option Dialogue)) (i : ℕ) (d : Dialogue) → get_or xs i None ≡ Some d → Has d xs
has_at [] i d e = cc
has_at (x ∷ xs) zero d e = inl e
has_at (x ∷ xs) (suc i) d e = inr (has_at xs i d e)

one_at_most : (o : Option User) → one_more o ≤ 1
one_at_most None = omega arith
one_at_most (Some user) = omega arith

taken_at_most : (s : Option Dialogue) → to_take s ≤ 1
taken_at_most None = omega arith
taken_at_most (Some d) = one_at_most (named_in d.state)

-- at most one more number for each place
few : (xs : List (Option Dialogue)) → sum_by to_take xs ≤ length xs
few [] = omega arith
few (s ∷ xs) = let h = few xs in let one = taken_at_most s in let e = sum_by-cons to_take s xs in omega arith

pub few_set : (xs : List (Option Dialogue)) (i : ℕ) (y : Option Dialogue) → sum_by to_take (slice_set xs i y) ≤ length xs
few_set xs i y = let h = few (slice_set xs i y) in let e = length-set xs i y in omega arith
