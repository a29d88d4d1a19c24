use Rattle.std.proofs.Common.{◌≡◌, ◌++◌, length, drop}
use Rattle.wire.specs.Digits.{digits}
use Rattle.wire.proofs.digits.put_digits.Given as goal

abbrev pub invariant-loop-i : goal.invariant-loop-i
invariant-loop-i l = (length l.places ≡ length l.initial.places) × (digits l.i l.number ++ drop l.i l.places ≡ digits (length l.initial.places) l.initial.number)
