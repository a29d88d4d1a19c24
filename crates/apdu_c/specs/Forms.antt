-- What stands in the fields 05 to 0D, as data: the parts of each value, and the value that fields from C give.
use Rattle.std.specs.Prelude.{ℕ, ◌^◌, Bool, not, Some, Option, ◌==◌, bit_and, if◌then◌else◌}
use Rattle.std.specs.Bool.{then_some}
use Rattle.std.specs.Option.{option_map}
use Rattle.wire.specs.Codes.{verdict_of, error_of}
use Rattle.wire.specs.declared.codes.ErrorCode.{ErrorCode}
use Rattle.wire.specs.declared.codes.Operation.{Operation}
use Rattle.wire.specs.declared.codes.Operation.TheVariants as operation
use Rattle.wire.specs.declared.codes.Verdict.{Verdict}
use Rattle.wire.specs.Tags as tag
use Rattle.values.specs.declared.proof.AuthSession.{AuthSession}
use Rattle.values.specs.declared.proof.AuthUnit.{AuthUnit}
use Rattle.apdu.specs.declared.apdus.Request.{Request}
use Rattle.apdu.specs.declared.apdus.Request.TheVariants as request
use Rattle.apdu.specs.declared.apdus.ReturnResult.{ReturnResult}
use Rattle.apdu.specs.declared.apdus.ReturnResult.TheVariants as answer
use Rattle.apdu.specs.declared.apdus.WtanParamArg.{WtanParamArg}
use Rattle.apdu.specs.declared.apdus.WtanParamRes.{WtanParamRes}
use Rattle.apdu.specs.declared.apdus.WtanParamRes.TheVariants as wtan
use Rattle.apdu.specs.declared.apdus.WtatInfo.{WtatInfo}
use Rattle.apdu.specs.declared.apdus.WtatInfo.TheVariants as wtat
use Rattle.apdu.specs.declared.apdus.WtatParamArg.{WtatParamArg}
use Rattle.apdu.specs.declared.apdus.WtatParamRes.{WtatParamRes}
use Rattle.apdu_c.specs.declared.fields.Fields.{Fields}
use Rattle.apdu_c.specs.Parts.{Parts, auth_wtm_arg_parts, wtat_param_arg_parts, wtan_param_arg_parts, auth_wtm_res_parts, wtat_param_res_parts, wtan_param_res_parts, return_error_parts, reject_parts}

-- bit t of n is set
abbrev pub has_bit : ℕ → ℕ → Bool
has_bit t n = not (bit_and n (2 ^ t) == 0)

-- the field with the tag t is there
abbrev pub has : ℕ → Fields → Bool
has t f = has_bit t f.present

-- values as they are given, there or not

abbrev pub given_unit : Fields → AuthUnit
given_unit f = record { challenge = f.unit_challenge; response = f.unit_response }

abbrev pub given_session : Fields → AuthSession
given_session f = record { key = f.session_key; parameter = f.session_parameter }

-- arguments and results: what may be absent goes by its bit

abbrev pub given_auth_wtm_arg : Fields → Option AuthUnit
given_auth_wtm_arg f = then_some (has tag.unit f) (given_unit f)

abbrev pub given_wtat_param_arg : Fields → WtatParamArg
given_wtat_param_arg f =
    record {
      computes = has tag.can_compute f;
      challenge = then_some (has tag.challenge f) f.challenge;
    }

abbrev pub given_wtan_param_arg : Fields → WtanParamArg
given_wtan_param_arg f =
    record {
      computes = has tag.can_compute f;
      challenge = f.challenge;
      algorithm = f.algorithm;
    }

-- a unit, if its bit is set, and else a session
abbrev pub given_wtat_info : Fields → WtatInfo
given_wtat_info f =
    if has tag.unit f then wtat.Unit (given_unit f) else wtat.Session (given_session f)

abbrev pub given_wtat_param_res : Fields → WtatParamRes
given_wtat_param_res f = record { algorithm = f.algorithm; info = given_wtat_info f }

-- a session, if its bit is set, and else a response
abbrev pub given_wtan_param_res : Fields → WtanParamRes
given_wtan_param_res f =
    if has tag.session f then wtan.Session (given_session f) else wtan.Response f.response

-- the parts of a value, and the value that fields give, if they give one
pub record Form (B : Type 0) : Type 0 where
  pub parts : B → Parts
  pub given : Fields → Option B

abbrev pub auth_wtm_arg : Form (Option AuthUnit)
auth_wtm_arg = record { parts = auth_wtm_arg_parts; given = λ f. Some (given_auth_wtm_arg f) }

abbrev pub wtat_param_arg : Form WtatParamArg
wtat_param_arg = record { parts = wtat_param_arg_parts; given = λ f. Some (given_wtat_param_arg f) }

abbrev pub wtan_param_arg : Form WtanParamArg
wtan_param_arg = record { parts = wtan_param_arg_parts; given = λ f. Some (given_wtan_param_arg f) }

-- None where the verdict is no verdict's number
abbrev pub auth_wtm_res : Form Verdict
auth_wtm_res = record { parts = auth_wtm_res_parts; given = λ f. verdict_of f.verdict }

abbrev pub wtat_param_res : Form WtatParamRes
wtat_param_res = record { parts = wtat_param_res_parts; given = λ f. Some (given_wtat_param_res f) }

abbrev pub wtan_param_res : Form WtanParamRes
wtan_param_res = record { parts = wtan_param_res_parts; given = λ f. Some (given_wtan_param_res f) }

-- None where the error is no error's number
abbrev pub return_error : Form ErrorCode
return_error = record { parts = return_error_parts; given = λ f. error_of f.error }

-- the problem of a reject, which may be any
abbrev pub reject : Form ℕ
reject = record { parts = reject_parts; given = λ f. Some f.problem }

-- the parts of what is asked
abbrev pub request_parts : Request → Parts
request_parts (request.AuthWtmUser unit) = auth_wtm_arg.parts unit
request_parts (request.WtatParam provider arg) = wtat_param_arg.parts arg
request_parts (request.WtanParam provider arg) = wtan_param_arg.parts arg

-- what is asked by this operation
abbrev pub given_request : Operation → Fields → Option Request
given_request operation.AuthWtmUser f = option_map request.AuthWtmUser (auth_wtm_arg.given f)
given_request (operation.WtatParam provider) f =
    option_map (request.WtatParam provider) (wtat_param_arg.given f)
given_request (operation.WtanParam provider) f =
    option_map (request.WtanParam provider) (wtan_param_arg.given f)

-- the parts of what an operation gave
abbrev pub result_parts : ReturnResult → Parts
result_parts (answer.AuthWtmUser verdict) = auth_wtm_res.parts verdict
result_parts (answer.WtatParam provider res) = wtat_param_res.parts res
result_parts (answer.WtanParam provider res) = wtan_param_res.parts res

-- what this operation gave
abbrev pub given_result : Operation → Fields → Option ReturnResult
given_result operation.AuthWtmUser f = option_map answer.AuthWtmUser (auth_wtm_res.given f)
given_result (operation.WtatParam provider) f =
    option_map (answer.WtatParam provider) (wtat_param_res.given f)
given_result (operation.WtanParam provider) f =
    option_map (answer.WtanParam provider) (wtan_param_res.given f)
