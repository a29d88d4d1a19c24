-- A number that is written is read, and the reverse. Assumes nothing.
use Rattle.std.proofs.Common.{◌≡◌, ℕ, zero, suc, ◌+◌, ◌*◌, ◌/◌, ◌%◌, ◌^◌, ◌<◌, ◌≤◌, List, [], ◌∷◌, ◌++◌, length, sym, refl, ap, ◌∙◌, subst, arith, append_assoc, append-nil, pow-suc, mul-le-mul_right, mul_assoc}
use Rattle.std.proofs.Math.Nat.{div-div-eq-div-mul, pow-succ'}
use Rattle.std.specs.Int.{byte_at, bytes_high_first}
use Rattle.wire.specs.Fields.{Bytes}
use Rattle.records.specs.Numbers.{big_endian, number, in_bytes}

length_high : (k n : ℕ) → length (bytes_high_first k n) ≡ k
length_high zero n = refl
length_high (suc k) n = ap suc (length_high k n)

pub length_in_bytes : (k n : ℕ) → length (in_bytes k n) ≡ k
unfolding in_bytes
length_in_bytes k n = length_high k n

-- a byte of a number is the next lower one of the number without its last byte
higher : (k n : ℕ) → byte_at (suc k) n ≡ byte_at k (n / 256)
higher zero n = refl
higher (suc k) n = ap (λ (m : ℕ). n / m % 256) (pow-succ' 256 (suc k)) ∙ ap (λ (m : ℕ). m % 256) (sym (div-div-eq-div-mul n 256 (256 ^ suc k)))

-- the last byte of a number, and what stands before it
last : (k n : ℕ) → bytes_high_first (suc k) n ≡ bytes_high_first k (n / 256) ++ (n % 256 ∷ [])
last zero n = refl
last (suc k) n = λ i. higher k n i ∷ last k n i

one_more : (h b : ℕ) (xs : List ℕ) → big_endian h (xs ++ (b ∷ [])) ≡ big_endian h xs * 256 + b
one_more h b [] = refl
one_more h b (x ∷ xs) = one_more (h * 256 + x) b xs

high_there : (k n : ℕ) → n < 256 ^ k → number (bytes_high_first k n) ≡ n
high_there zero n h = omega arith
high_there (suc k) n h =
    let fits : n < 256 ^ k * 256 = subst (λ (m : ℕ). n < m) (pow-suc 256 k) h in
    let front : number (bytes_high_first k (n / 256)) ≡ n / 256 = high_there k (n / 256) (omega arith) in
    ap number (last k n) ∙ one_more 0 (n % 256) (bytes_high_first k (n / 256)) ∙ omega (arith, front)

pub number_there : (k n : ℕ) → n < 256 ^ k → number (in_bytes k n) ≡ n
unfolding in_bytes
number_there k n h = high_there k n h

bytes_on : (b : ℕ) (bs : List ℕ) → Bytes (b ∷ bs) → Bytes bs
bytes_on b bs all i = all (suc i)

-- bytes that are read behind a number are written behind its own
high_back : (j h : ℕ) (bs : List ℕ) → Bytes bs → bytes_high_first (j + length bs) (big_endian h bs) ≡ bytes_high_first j h ++ bs
high_back j h [] all = ap (λ (k : ℕ). bytes_high_first k h) (omega arith) ∙ sym (append-nil (bytes_high_first j h))
high_back j h (b ∷ bs) all =
    let byte : b < 256 = all 0 in
    let above : (h * 256 + b) / 256 ≡ h = omega arith in
    let below : (h * 256 + b) % 256 ≡ b = omega arith in
    let places : j + length (b ∷ bs) ≡ suc j + length bs = omega arith in
    ap (λ (k : ℕ). bytes_high_first k (big_endian h (b ∷ bs))) places
    ∙ high_back (suc j) (h * 256 + b) bs (bytes_on b bs all)
    ∙ (λ i. last j (h * 256 + b) i ++ bs)
    ∙ (λ i. (bytes_high_first j (above i) ++ (below i ∷ [])) ++ bs)
    ∙ append_assoc (bytes_high_first j h) (b ∷ []) bs

pub number_back : (k : ℕ) (bs : List ℕ) → Bytes bs → length bs ≡ k → in_bytes k (number bs) ≡ bs
unfolding in_bytes
number_back k bs all size =
    let places : k ≡ 0 + length bs = omega (arith, size) in
    ap (λ (m : ℕ). bytes_high_first m (number bs)) places ∙ high_back 0 0 bs all

below_by : (h : ℕ) (bs : List ℕ) → Bytes bs → big_endian h bs < (h + 1) * 256 ^ length bs
below_by h [] all = omega arith
below_by h (b ∷ bs) all =
    let byte : b < 256 = all 0 in
    let rest = below_by (h * 256 + b) bs (bytes_on b bs all) in
    let wider : (h * 256 + b + 1) * 256 ^ length bs ≤ ((h + 1) * 256) * 256 ^ length bs = mul-le-mul_right (256 ^ length bs) (omega arith) in
    let same : (h + 1) * 256 ^ length (b ∷ bs) ≡ ((h + 1) * 256) * 256 ^ length bs = ap (λ (m : ℕ). (h + 1) * m) (pow-succ' 256 (length bs)) ∙ sym (mul_assoc (h + 1) 256 (256 ^ length bs)) in
    omega (arith, rest, wider, same)

pub number_below : (k : ℕ) (bs : List ℕ) → Bytes bs → length bs ≡ k → number bs < 256 ^ k
number_below k bs all size = subst (λ (m : ℕ). number bs < 256 ^ m) size (omega (arith, below_by 0 bs all))
