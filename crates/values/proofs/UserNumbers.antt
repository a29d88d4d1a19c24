-- A user number that is written is read, and the reverse. Assumes nothing.
use Rattle.std.proofs.Common.{◌≡◌, ℕ, zero, suc, ◌+◌, ◌-◌, ◌*◌, ◌/◌, ◌%◌, ◌^◌, ◌<◌, ◌≤◌, true, cond, ◌&&◌, leb, List, [], ◌∷◌, ◌++◌, length, Some, None, Option, sym, refl, ap, ◌∙◌, subst, ⊎_elim, add-zero, pow-suc, zero-add, arith}
use Rattle.std.proofs.lemmas.Option.{none-some, same_Some}
use Rattle.std.proofs.lemmas.List.{append_assoc, append-nil}
use Rattle.std.proofs.lemmas.Bool.{leb-true, ltb-true, cases_Bool, and_parts}
use Rattle.std.proofs.lemmas.Bool.Decides.{nat_tests}
use Rattle.wire.specs.Digits.{digits}
use Rattle.wire.proofs.DigitLemmas.{length_digits}
use Rattle.values.specs.User.{is_digit, number, counted, user_number, user_digits, is_user}
use Rattle.values.proofs.NumberSteps.{lawful}
use Rattle.values.proofs.Powers.{below_next, below_most}

-- one more digit behind those that make n
number_push : (m n c : ℕ) (cs : List ℕ) → is_digit c ≡ true → number m cs ≡ Some n → number m (cs ++ (c ∷ [])) ≡ Some (n * 10 + (c - 48))
number_push m n c [] d e = let q : m ≡ n = cc in rw (d, q)
number_push m n c (x ∷ cs) d e =
    ⊎_elim (λ y. rw y (number_push (m * 10 + (x - 48)) n c cs d (rw y at e))) (λ y. absurd (none-some n (rw y at e))) (cases_Bool (is_digit x))

number_digits : (k n : ℕ) → n < 10 ^ k → number 0 (digits k n) ≡ Some n
number_digits zero n h = let z : 0 ≡ n = omega arith in ap Some z
number_digits (suc k) n h =
    let s : n / 10 < 10 ^ k = omega (arith, rw pow-suc at h) in
    let d : is_digit (48 + n % 10) ≡ true = grind (arith, nat_tests) in
    let q : n / 10 * 10 + ((48 + n % 10) - 48) ≡ n = omega arith in
    number_push 0 (n / 10) (48 + n % 10) (digits k (n / 10)) d (number_digits k (n / 10) s) ∙ ap Some q

-- the digits of a lawful number are at most 15
pub few_digits : (u : ℕ) → is_user u ≡ true → length (user_digits u) ≤ 15
few_digits u h =
    let p = and_parts (leb 1 (u / 1000000000000000) && leb (u / 1000000000000000) 15) _ h in
    let most : u / 1000000000000000 ≤ 15 = leb-true _ _ (and_parts (leb 1 (u / 1000000000000000)) _ p.0).1 in
    omega (arith, length_digits (u / 1000000000000000) (u % 1000000000000000))

pub user_there : (u : ℕ) → is_user u ≡ true → user_number (user_digits u) ≡ Some u
user_there u h =
    let p = and_parts (leb 1 (u / 1000000000000000) && leb (u / 1000000000000000) 15) _ h in
    let len = length_digits (u / 1000000000000000) (u % 1000000000000000) in
    let num = number_digits (u / 1000000000000000) (u % 1000000000000000) (ltb-true _ _ p.1) in
    let q : u / 1000000000000000 * 1000000000000000 + u % 1000000000000000 ≡ u = omega arith in
    (λ i. cond (leb 1 (len i) && leb (len i) 15) (counted (len i) (num i)) None) ∙ rw p.0 (λ i. Some ((q i)))

number_back : (k m n : ℕ) (cs : List ℕ) → number m cs ≡ Some n → digits (k + length cs) n ≡ digits k m ++ cs
number_back k m n [] e = let q : m ≡ n = cc in (λ i. digits (add-zero k i) (sym q i)) ∙ sym (append-nil (digits k m))
number_back k m n (c ∷ cs) e =
    ⊎_elim
    (λ y.
    let p = and_parts (leb 48 c) (leb c 57) y in
    let low : 48 ≤ c = leb-true _ _ p.0 in
    let high : c ≤ 57 = leb-true _ _ p.1 in
    let a : (m * 10 + (c - 48)) / 10 ≡ m = omega arith in
    let b : 48 + (m * 10 + (c - 48)) % 10 ≡ c = omega arith in
    let s : k + suc (length cs) ≡ suc k + length cs = omega arith in
    (λ i. digits (s i) n) ∙ number_back (suc k) (m * 10 + (c - 48)) n cs (rw y at e) ∙ (λ i. (digits k (a i) ++ (b i ∷ [])) ++ cs) ∙ append_assoc (digits k m) (c ∷ []) cs)
    (λ y. absurd (none-some n (rw y at e)))
    (cases_Bool (is_digit c))

number_small : (j m n : ℕ) (cs : List ℕ) → m < 10 ^ j → number m cs ≡ Some n → n < 10 ^ (j + length cs)
number_small j m n [] h e = let q : m ≡ n = cc in rw add-zero (rw q at h)
number_small j m n (c ∷ cs) h e =
    ⊎_elim
    (λ y.
    let p = and_parts (leb 48 c) (leb c 57) y in
    let high : c ≤ 57 = leb-true _ _ p.1 in
    let s : j + 1 + length cs ≡ j + suc (length cs) = omega arith in
    subst (λ (x : ℕ). n < 10 ^ x) s (number_small (j + 1) (m * 10 + (c - 48)) n cs (below_next 10 m (c - 48) j h (omega arith)) (rw y at e)))
    (λ y. absurd (none-some n (rw y at e)))
    (cases_Bool (is_digit c))

counted_back : (k : ℕ) (u : ℕ) (o : Option ℕ) → counted k o ≡ Some u → (n : ℕ) × ((o ≡ Some n) × ((k * 1000000000000000 + n) ≡ u))
counted_back k u None e = absurd (none-some u e)
counted_back k u (Some n) e = (n, (refl, same_Some _ u e))

pub user_back : (cs : List ℕ) (u : ℕ) → user_number cs ≡ Some u → (user_digits u ≡ cs) × (is_user u ≡ true)
user_back cs u e =
    ⊎_elim
    (λ y.
    let b = and_parts (leb 1 (length cs)) (leb (length cs) 15) y in
    let least : 1 ≤ length cs = leb-true _ _ b.0 in
    let most : length cs ≤ 15 = leb-true _ _ b.1 in
    let p = counted_back (length cs) u (number 0 cs) (rw y at e) in
    let n : ℕ = p.0 in
    let small : n < 10 ^ length cs = rw zero-add at (number_small 0 0 n cs (omega arith) p.1.0) in
    let all : n < 10 ^ 15 = below_most 10 n (length cs) 15 (omega arith) small most in
    let q : (length cs * 1000000000000000 + n) / 1000000000000000 ≡ length cs = omega arith in
    let r : (length cs * 1000000000000000 + n) % 1000000000000000 ≡ n = omega arith in
    let same : digits (length cs) n ≡ cs = (λ i. digits (sym (zero-add (length cs)) i) n) ∙ number_back 0 0 n cs p.1.0 in
    subst (λ (w : ℕ). (user_digits w ≡ cs) × (is_user w ≡ true)) p.1.1 ((λ i. digits (q i) (r i)) ∙ same, lawful (length cs) n least most small))
    (λ y. absurd (none-some u (rw y at e)))
    (cases_Bool (leb 1 (length cs) && leb (length cs) 15))
