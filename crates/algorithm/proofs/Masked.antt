-- A masked challenge, byte by byte. Assumes nothing.
use Rattle.std.proofs.Common.{◌≡◌, ℕ, zero, suc, ◌<◌, List, [], ◌∷◌, length, get_or, refl, ap, arith}
use Rattle.std.specs.Prelude.{bit_xor}
use Rattle.algorithm.specs.Operator.{masked}

pub length_masked : (challenge mask : List ℕ) → length (masked challenge mask) ≡ length challenge
length_masked [] mask = refl
length_masked (c ∷ cs) [] = refl
length_masked (c ∷ cs) (o ∷ os) = ap suc (length_masked cs os)

pub get_or_masked : (challenge mask : List ℕ) (k : ℕ) → k < length challenge → k < length mask → get_or (masked challenge mask) k 0 ≡ bit_xor (get_or challenge k 0) (get_or mask k 0)
get_or_masked [] mask k h i = absurd (omega arith)
get_or_masked (c ∷ cs) [] k h i = absurd (omega arith)
get_or_masked (c ∷ cs) (o ∷ os) zero h i = refl
get_or_masked (c ∷ cs) (o ∷ os) (suc k) h i = get_or_masked cs os k (omega arith) (omega arith)
