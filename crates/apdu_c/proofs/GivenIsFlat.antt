-- The APDU that fields make says what they say. Assumes nothing.
use Rattle.std.proofs.Common.{sym}
use Rattle.apdu_c.specs.Flat.{filled}
use Rattle.apdu_c.specs.Laws.{GivenIsFlat}
use Rattle.apdu_c.proofs.Says.{says}

pub given_is_flat : GivenIsFlat
given_is_flat f a e =
    let s = says f a e in
    ((λ t. filled (sym s.id t) (sym s.kind t) (sym s.operation t) (s.parts t)), sym s.present)
