-- Units and sessions that are written are read, and the reverse. Assumes nothing.
use Rattle.std.proofs.Common.{◌≡◌, ℕ, List, Some, ap, subst}
use Rattle.std.specs.Option.{option_map}
use Rattle.values.specs.declared.proof.AuthUnit.{AuthUnit}
use Rattle.values.specs.declared.proof.AuthSession.{AuthSession}
use Rattle.wire.specs.FieldValues.{pair}
use Rattle.wire.proofs.Options.{mapped_back}
use Rattle.wire.proofs.ValueLemmas.{pair_there, pair_back}
use Rattle.values.specs.Proof.{unit_value, session_value, unit_of, session_of, UnitSized, SessionSized}
use Rattle.values.specs.Sizes.{challenge_size, response_size, session_key_size, parameter_size}

pub unit_there : (u : AuthUnit) → UnitSized u → unit_of (unit_value u) ≡ Some u
unit_there u z = ap (option_map (λ p. record { challenge = p.0; response = p.1 })) (pair_there challenge_size response_size u.challenge u.response z.0 z.1)

pub unit_back : (v : List ℕ) (u : AuthUnit) → unit_of v ≡ Some u → (unit_value u ≡ v) × UnitSized u
unit_back v u e =
    let p = mapped_back _ (pair challenge_size response_size v) u e in
    subst (λ (x : AuthUnit). (unit_value x ≡ v) × UnitSized x) p.1.1 (pair_back challenge_size response_size v p.0 p.1.0)

pub session_there : (s : AuthSession) → SessionSized s → session_of (session_value s) ≡ Some s
session_there s z = ap (option_map (λ p. record { key = p.0; parameter = p.1 })) (pair_there session_key_size parameter_size s.key s.parameter z.0 z.1)

pub session_back : (v : List ℕ) (s : AuthSession) → session_of v ≡ Some s → (session_value s ≡ v) × SessionSized s
session_back v s e =
    let p = mapped_back _ (pair session_key_size parameter_size v) s e in
    subst (λ (x : AuthSession). (session_value x ≡ v) × SessionSized x) p.1.1 (pair_back session_key_size parameter_size v p.0 p.1.0)
