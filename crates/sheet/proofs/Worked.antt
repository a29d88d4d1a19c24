-- The worked cases, by computation. Assumes nothing.
use Rattle.std.proofs.Common.{refl}
use Rattle.algorithm.specs.Xtea.{cycles, enciphered}
use Rattle.sheet.specs.Cases.{CasesStand}

pub cases_stand : CasesStand
unfolding cycles enciphered
cases_stand = refl
