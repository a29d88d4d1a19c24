-- Our numbers, and our invokes to peers.
use Rattle.std.specs.Prelude.{ℕ, ◌+◌}
use Rattle.exchange.specs.declared.invokes.Asked.{Asked}
use Rattle.exchange.specs.declared.invokes.OwnNumber.{OwnNumber}

-- the number after one
abbrev pub following : OwnNumber → OwnNumber
following number = record { 0 = number.0 + 1 }

-- the invoke to a peer under a number
abbrev pub asking : OwnNumber → ℕ → Asked
asking number peer = record { peer = peer; id = number }
