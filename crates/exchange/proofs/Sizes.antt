-- What a server makes of a draw and a user's key has its sizes. Assumes nothing.
use Rattle.std.proofs.Common.{ℕ, List, Some, None, Option, length-take-le, length-drop, arith}
use Rattle.std.proofs.lemmas.Bool.{cond_both}
use Rattle.wire.specs.FieldValues.{IfAny, OfSize}
use Rattle.values.specs.Challenge.{IsChallenge}
use Rattle.values.specs.Draw.{drawn_challenge, drawn_parameter}
use Rattle.values.specs.Proof.{UnitSized, SessionSized}
use Rattle.values.specs.Sizes.{challenge_size, parameter_size, user_key_size, draw_size}
use Rattle.apdu.specs.declared.apdus.WtatParamArg.{WtatParamArg}
use Rattle.apdu.specs.declared.apdus.WtanParamArg.{WtanParamArg}
use Rattle.apdu.specs.Laws.{IsWtatParamArg, IsWtatInfo, IsWtatParamRes, IsWtanParamRes}
use Rattle.algorithm.specs.declared.direction.Direction.{Direction}
use Rattle.algorithm.specs.declared.direction.Direction.TheVariants.{User, Network}
use Rattle.algorithm.specs.Meaning.{Meaning, IsSized}
use Rattle.exchange.specs.Server.{challenge_or, session_made, unit_made, values_made, proof_made}

module _ (draw : List ℕ) (whole : OfSize draw_size draw) where
  pub challenge_sized : IsChallenge (drawn_challenge draw)
  challenge_sized = length-take-le challenge_size draw (omega arith)

  pub parameter_sized : OfSize parameter_size (drawn_parameter draw)
  parameter_sized = omega (arith, length-drop challenge_size draw)

  pub challenge_or_sized : (challenge : Option (List ℕ)) → IfAny IsChallenge challenge → IsChallenge (challenge_or challenge draw)
  challenge_or_sized None is = challenge_sized
  challenge_or_sized (Some challenge) is = is

  module _ (m : Meaning) (sized : IsSized m) (key : List ℕ) (keyed : OfSize user_key_size key) where
    pub session_sized : (d : Direction) → SessionSized (session_made m draw key d)
    session_sized d = (sized.session d key (drawn_parameter draw) keyed parameter_sized, parameter_sized)

    pub unit_sized : (challenge : List ℕ) → IsChallenge challenge → UnitSized (unit_made m draw key challenge)
    unit_sized challenge is = (is, sized.response (session_made m draw key User).key challenge (session_sized User).0)

    pub values_sized : (a : WtatParamArg) → IsWtatParamArg a → IsWtatParamRes (values_made m draw key a)
    values_sized a is =
        cond_both a.computes _ _ IsWtatInfo
        (λ _. session_sized User)
        (λ _. unit_sized (challenge_or a.challenge draw) (challenge_or_sized a.challenge is))

    pub proof_sized : (a : WtanParamArg) → IsWtanParamRes (proof_made m draw key a)
    proof_sized a =
        cond_both a.computes _ _ IsWtanParamRes
        (λ _. session_sized Network)
        (λ _. sized.response (session_made m draw key Network).key a.challenge (session_sized Network).0)
