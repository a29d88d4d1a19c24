-- What a user, or the network, is checked by: units and sessions.
use Rattle.std.specs.Prelude.{ℕ, List, ◌++◌, Option}
use Rattle.std.specs.Option.{option_map}
use Rattle.values.specs.declared.proof.AuthUnit.{AuthUnit}
use Rattle.values.specs.declared.proof.AuthSession.{AuthSession}
use Rattle.wire.specs.FieldValues.{OfSize, pair}
use Rattle.values.specs.Challenge.{IsChallenge}
use Rattle.values.specs.Sizes.{challenge_size, response_size, session_key_size, parameter_size}

-- a unit as it stands in a field
abbrev pub unit_value : AuthUnit → List ℕ
unit_value u = u.challenge ++ u.response

-- a session as it stands in a field
abbrev pub session_value : AuthSession → List ℕ
session_value s = s.key ++ s.parameter

-- the unit in the value of a field
abbrev pub unit_of : List ℕ → Option AuthUnit
unit_of v =
    option_map (λ p. record { challenge = p.0; response = p.1 })
    (pair challenge_size response_size v)

-- the session in the value of a field
abbrev pub session_of : List ℕ → Option AuthSession
session_of v =
    option_map (λ p. record { key = p.0; parameter = p.1 })
    (pair session_key_size parameter_size v)

-- a unit has parts of their sizes, as its type says
abbrev pub UnitSized : AuthUnit → Type 0
UnitSized u = IsChallenge u.challenge × OfSize response_size u.response

-- a session has parts of their sizes, as its type says
abbrev pub SessionSized : AuthSession → Type 0
SessionSized s = OfSize session_key_size s.key × OfSize parameter_size s.parameter
