-- The worked cases, by computation. Assumes nothing.
use Rattle.std.proofs.Common.{refl}
use Rattle.apdu.specs.Cases.{CasesStand}

pub cases_stand : CasesStand
cases_stand = (refl, refl)
