-- What C is handed of an APDU.
use Rattle.std.specs.Prelude.{ℕ, ◌+◌, List, Some, replicate}
use Rattle.std.specs.Option.{unwrap_or}
use Rattle.wire.specs.Codes.{kind_number, operation_number}
use Rattle.values.specs.declared.proof.AuthSession.{AuthSession}
use Rattle.values.specs.declared.proof.AuthUnit.{AuthUnit}
use Rattle.values.specs.Sizes.{challenge_size, response_size, session_key_size, parameter_size}
use Rattle.apdu.specs.declared.apdus.Apdu.{Apdu}
use Rattle.apdu.specs.declared.apdus.Body.{Body}
use Rattle.apdu.specs.declared.apdus.Body.TheVariants as body
use Rattle.apdu.specs.declared.apdus.Invoke.{Invoke}
use Rattle.apdu.specs.Encode.{kind_of_body}
use Rattle.apdu.specs.Operations.{request_operation, result_operation}
use Rattle.apdu_c.specs.declared.fields.Fields.{Fields}
use Rattle.apdu_c.specs.Forms.{given_unit, given_session, request_parts, result_parts, return_error, reject}
use Rattle.apdu_c.specs.Parts.{Parts, bits_after_user, present_bits}

-- the value of an array that is absent
abbrev pub zeros : ℕ → List ℕ
zeros n = replicate n 0

-- the value of a unit that is absent
abbrev pub zero_unit : AuthUnit
zero_unit = record { challenge = zeros challenge_size; response = zeros response_size }

-- the value of a session that is absent
abbrev pub zero_session : AuthSession
zero_session = record { key = zeros session_key_size; parameter = zeros parameter_size }

-- the user, and the parts of what is asked
abbrev pub invoke_parts : Invoke → Parts
invoke_parts i = record (request_parts i.request) { user = Some i.user }

-- the fields 04 to 0D of an APDU
abbrev pub body_parts : Body → Parts
body_parts (body.Invoke i) = invoke_parts i
body_parts (body.ReturnResult r) = result_parts r
body_parts (body.ReturnError e) = return_error.parts e
body_parts (body.Reject p) = reject.parts p

-- the operation's number; 0 where there is none
abbrev pub body_operation : Body → ℕ
body_operation (body.Invoke i) = operation_number (request_operation i.request)
body_operation (body.ReturnResult r) = operation_number (result_operation r)
body_operation (body.ReturnError e) = 0
body_operation (body.Reject p) = 0

-- a struct with these parts, and zeros for those that are absent
abbrev pub filled : ℕ → ℕ → ℕ → Parts → Fields
filled id kind operation p =
    record {
      user = unwrap_or p.user 0;
      present = present_bits p;
      id = id;
      kind = kind;
      operation = operation;
      algorithm = unwrap_or p.algorithm 0;
      verdict = unwrap_or p.verdict 0;
      error = unwrap_or p.error 0;
      problem = unwrap_or p.problem 0;
      challenge = unwrap_or p.challenge (zeros challenge_size);
      unit_challenge = (unwrap_or p.unit zero_unit).challenge;
      unit_response = (unwrap_or p.unit zero_unit).response;
      session_key = (unwrap_or p.session zero_session).key;
      session_parameter = (unwrap_or p.session zero_session).parameter;
      response = unwrap_or p.response (zeros response_size);
    }

-- f with these values of fields 05 to 0D, and its own for those that are absent
abbrev pub put_in : Fields → Parts → Fields
put_in f p =
    record f {
      algorithm = unwrap_or p.algorithm f.algorithm;
      verdict = unwrap_or p.verdict f.verdict;
      error = unwrap_or p.error f.error;
      problem = unwrap_or p.problem f.problem;
      challenge = unwrap_or p.challenge f.challenge;
      unit_challenge = (unwrap_or p.unit (given_unit f)).challenge;
      unit_response = (unwrap_or p.unit (given_unit f)).response;
      session_key = (unwrap_or p.session (given_session f)).key;
      session_parameter = (unwrap_or p.session (given_session f)).parameter;
      response = unwrap_or p.response f.response;
    }

-- f with these parts in fields 05 to 0D
abbrev pub with_parts : Fields → Parts → Fields
with_parts f p = record (put_in f p) { present = f.present + bits_after_user p }

-- what C is handed of an APDU
abbrev pub flat : Apdu → Fields
flat a = filled a.id (kind_number (kind_of_body a.body)) (body_operation a.body) (body_parts a.body)
