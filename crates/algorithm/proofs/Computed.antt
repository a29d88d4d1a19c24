-- The published values, computed. Assumes nothing.
use Rattle.std.proofs.Common.{refl}
use Rattle.algorithm.specs.Xtea.{cycles, enciphered}
use Rattle.algorithm.specs.Published.{PublishedStand}

pub published_stand : PublishedStand
unfolding enciphered cycles
published_stand = (refl, refl, refl, refl, refl, refl)
