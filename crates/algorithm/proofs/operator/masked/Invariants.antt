use Rattle.std.proofs.Common.{◌≡◌, ◌<◌, ◌≤◌, ℕ, length, get_or}
use Rattle.std.specs.Prelude.{bit_xor}
use Rattle.algorithm.proofs.operator.masked.Given as goal

abbrev pub invariant-loop-i : goal.invariant-loop-i
invariant-loop-i l = record {
  long : length l.changed ≡ 8;
  done : (k : ℕ) → k < l.i → get_or l.changed k 0 ≡ bit_xor (get_or l.challenge k 0) (get_or l.mask k 0);
  left : (k : ℕ) → l.i ≤ k → get_or l.changed k 0 ≡ get_or l.challenge k 0;
}
