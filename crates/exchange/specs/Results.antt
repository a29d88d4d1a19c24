-- What results bring.
use Rattle.std.specs.Prelude.{Bool, true, false}
use Rattle.apdu.specs.declared.apdus.WtatInfo.{WtatInfo}
use Rattle.apdu.specs.declared.apdus.WtatInfo.TheVariants as info
use Rattle.apdu.specs.declared.apdus.WtanParamRes.{WtanParamRes}
use Rattle.apdu.specs.declared.apdus.WtanParamRes.TheVariants as proof

-- a result brings a session, and no unit
abbrev pub is_session : WtatInfo → Bool
is_session (info.Unit unit) = false
is_session (info.Session session) = true

-- a result brings a session, and no response
abbrev pub is_proof_session : WtanParamRes → Bool
is_proof_session (proof.Session session) = true
is_proof_session (proof.Response response) = false
