-- Bounds of a number that is read digit by digit, in any base. Assumes nothing.
use Rattle.std.proofs.Common.{ℕ, ◌+◌, ◌*◌, ◌^◌, ◌<◌, ◌≤◌, mul-le-mul_right, suc-mul, pow-suc, add-one, arith}
use native.Mathlib.Nat.{pow-le-pow_right}

pub below_next : (base n d i : ℕ) → n < base ^ i → d < base → n * base + d < base ^ (i + 1)
below_next base n d i h k = rw (add-one, pow-suc) (omega (arith, mul-le-mul_right base h, suc-mul n base))

pub below_most : (base n i k : ℕ) → 0 < base → n < base ^ i → i ≤ k → n < base ^ k
below_most base n i k pos h most = let m : base ^ i ≤ base ^ k = pow-le-pow_right pos most in omega arith
