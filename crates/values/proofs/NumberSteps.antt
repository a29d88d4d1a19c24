-- Steps of the loops over digits. Assumes nothing.
use Rattle.std.proofs.Common.{◌≡◌, ℕ, ◌+◌, ◌-◌, ◌*◌, ◌/◌, ◌%◌, ◌^◌, ◌<◌, ◌≤◌, true, false, ◌⊎◌, List, ◌∷◌, length, get_or, drop, None, ◌∙◌, ⊎_elim, arith}
use Rattle.std.proofs.lemmas.List.{at_drop_more}
use Rattle.std.proofs.lemmas.Bool.Decides.{nat_tests}
use Rattle.values.proofs.Powers.{below_most}
use Rattle.values.specs.User.{is_digit, number, is_user}

number_digit : (n c : ℕ) (cs : List ℕ) → 48 ≤ c → c ≤ 57 → number n (c ∷ cs) ≡ number (n * 10 + (c - 48)) cs
number_digit n c cs l h = let e : is_digit c ≡ true = grind (arith, nat_tests) in rw e

pub number_more : (n i : ℕ) (cs : List ℕ) → i < length cs → 48 ≤ get_or cs i 0 → get_or cs i 0 ≤ 57 → number n (drop i cs) ≡ number (n * 10 + (get_or cs i 0 - 48)) (drop (i + 1) cs)
number_more n i cs h l u = at_drop_more (number n) cs i 0 h ∙ number_digit n _ (drop (i + 1) cs) l u

pub number_none : (n i : ℕ) (cs : List ℕ) → i < length cs → (get_or cs i 0 < 48) ⊎ (57 < get_or cs i 0) → number n (drop i cs) ≡ None
number_none n i cs h o =
    let e : is_digit (get_or cs i 0) ≡ false = ⊎_elim (λ l. grind (arith, nat_tests)) (λ l. grind (arith, nat_tests)) o in
    at_drop_more (number n) cs i 0 h ∙ rw e

-- a count of digits and a number below its power of ten make a lawful key
pub lawful : (k n : ℕ) → 1 ≤ k → k ≤ 15 → n < 10 ^ k → is_user ((k * 1000000000000000 + n)) ≡ true
lawful k n one most small =
    let all : n < 10 ^ 15 = below_most 10 n k 15 (omega arith) small most in
    let q : (k * 1000000000000000 + n) / 1000000000000000 ≡ k = omega arith in
    let r : (k * 1000000000000000 + n) % 1000000000000000 ≡ n = omega arith in
    rw (q, r) (grind (arith, nat_tests))
