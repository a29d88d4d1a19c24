-- The fields 04 to 0D of an APDU, those that are there.
use Rattle.std.specs.Prelude.{ℕ, ◌+◌, ◌^◌, Bool, false, cond, List, is_some, Some, None, Option}
use Rattle.wire.specs.Codes.{verdict_number, error_number}
use Rattle.wire.specs.declared.codes.ErrorCode.{ErrorCode}
use Rattle.wire.specs.declared.codes.Verdict.{Verdict}
use Rattle.wire.specs.Tags as tag
use Rattle.values.specs.declared.proof.AuthSession.{AuthSession}
use Rattle.values.specs.declared.proof.AuthUnit.{AuthUnit}
use Rattle.apdu.specs.declared.apdus.WtanParamArg.{WtanParamArg}
use Rattle.apdu.specs.declared.apdus.WtanParamRes.{WtanParamRes}
use Rattle.apdu.specs.declared.apdus.WtanParamRes.TheVariants as wtan
use Rattle.apdu.specs.declared.apdus.WtatInfo.{WtatInfo}
use Rattle.apdu.specs.declared.apdus.WtatInfo.TheVariants as wtat
use Rattle.apdu.specs.declared.apdus.WtatParamArg.{WtatParamArg}
use Rattle.apdu.specs.declared.apdus.WtatParamRes.{WtatParamRes}

-- the fields 04 to 0D, those that are there, with their values as C has them
pub record Parts : Type 0 where
  pub user : Option ℕ
  pub computes : Bool
  pub challenge : Option (List ℕ)
  pub algorithm : Option ℕ
  pub unit : Option AuthUnit
  pub session : Option AuthSession
  pub response : Option (List ℕ)
  pub verdict : Option ℕ
  pub error : Option ℕ
  pub problem : Option ℕ

-- bit t, if the field with the tag t is there
abbrev pub bit : ℕ → Bool → ℕ
bit t there = cond there (2 ^ t) 0

-- the bits of the fields 05 to 0D that are there
abbrev pub bits_after_user : Parts → ℕ
bits_after_user p =
    bit tag.can_compute p.computes + bit tag.challenge (is_some p.challenge)
    + bit tag.algorithm (is_some p.algorithm) + bit tag.unit (is_some p.unit)
    + bit tag.session (is_some p.session) + bit tag.response (is_some p.response)
    + bit tag.verdict (is_some p.verdict) + bit tag.error (is_some p.error)
    + bit tag.problem (is_some p.problem)

-- the bits of the fields that are there
abbrev pub present_bits : Parts → ℕ
present_bits p = bit tag.user (is_some p.user) + bits_after_user p

-- no field is there
abbrev pub no_parts : Parts
no_parts =
    record {
      user = None;
      computes = false;
      challenge = None;
      algorithm = None;
      unit = None;
      session = None;
      response = None;
      verdict = None;
      error = None;
      problem = None;
    }

-- the argument of authWtmUser
abbrev pub auth_wtm_arg_parts : Option AuthUnit → Parts
auth_wtm_arg_parts unit = record no_parts { unit = unit }

-- the argument of getWtatParam and wtatParamEnq
abbrev pub wtat_param_arg_parts : WtatParamArg → Parts
wtat_param_arg_parts a = record no_parts { computes = a.computes; challenge = a.challenge }

-- the argument of getWtanParam and wtanParamEnq
abbrev pub wtan_param_arg_parts : WtanParamArg → Parts
wtan_param_arg_parts a =
    record no_parts {
      computes = a.computes;
      challenge = Some a.challenge;
      algorithm = Some a.algorithm;
    }

-- the result of authWtmUser
abbrev pub auth_wtm_res_parts : Verdict → Parts
auth_wtm_res_parts v = record no_parts { verdict = Some (verdict_number v) }

-- the unit that a user is checked by, if it is one
abbrev pub wtat_unit : WtatInfo → Option AuthUnit
wtat_unit (wtat.Unit u) = Some u
wtat_unit (wtat.Session s) = None

-- the session that a user is checked by, if it is one
abbrev pub wtat_session : WtatInfo → Option AuthSession
wtat_session (wtat.Unit u) = None
wtat_session (wtat.Session s) = Some s

-- the result of getWtatParam and wtatParamEnq
abbrev pub wtat_param_res_parts : WtatParamRes → Parts
wtat_param_res_parts r =
    record no_parts {
      algorithm = Some r.algorithm;
      unit = wtat_unit r.info;
      session = wtat_session r.info;
    }

-- the session that the network proves itself by, if it is one
abbrev pub wtan_session : WtanParamRes → Option AuthSession
wtan_session (wtan.Session s) = Some s
wtan_session (wtan.Response r) = None

-- the response that the network proves itself by, if it is one
abbrev pub wtan_response : WtanParamRes → Option (List ℕ)
wtan_response (wtan.Session s) = None
wtan_response (wtan.Response r) = Some r

-- the result of getWtanParam and wtanParamEnq
abbrev pub wtan_param_res_parts : WtanParamRes → Parts
wtan_param_res_parts r = record no_parts { session = wtan_session r; response = wtan_response r }

-- the error of a return error
abbrev pub return_error_parts : ErrorCode → Parts
return_error_parts e = record no_parts { error = Some (error_number e) }

-- the problem of a reject
abbrev pub reject_parts : ℕ → Parts
reject_parts p = record no_parts { problem = Some p }
