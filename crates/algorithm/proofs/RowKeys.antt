-- No two challenges have one key. Assumes nothing.
use Rattle.std.proofs.Common.{refl, sym, ap, ◌∙◌}
use Rattle.std.specs.Int.{w64, to_be_bytes}
use Rattle.std.proofs.lemmas.Nat.{be_bytes_8}
use Rattle.algorithm.specs.Row.{challenge_key, NoTwoWithOneKey}

pub no_two_with_one_key : NoTwoWithOneKey
unfolding challenge_key
no_two_with_one_key one other whole as_whole same =
    sym (be_bytes_8 one (challenge_key one) whole.long whole.small refl) ∙ ap (to_be_bytes w64) same ∙ be_bytes_8 other (challenge_key other) as_whole.long as_whole.small refl
