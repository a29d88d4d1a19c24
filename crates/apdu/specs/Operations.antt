-- What goes with each operation.
use Rattle.std.specs.Prelude.{ℕ, List, Option}
use Rattle.std.specs.Option.{option_map}
use Rattle.wire.specs.declared.codes.Operation.{Operation}
use Rattle.wire.specs.declared.codes.Operation.TheVariants as operation
use Rattle.apdu.specs.declared.apdus.Request.{Request}
use Rattle.apdu.specs.declared.apdus.Request.TheVariants as request
use Rattle.apdu.specs.declared.apdus.ReturnResult.{ReturnResult}
use Rattle.apdu.specs.declared.apdus.ReturnResult.TheVariants as answer
use Rattle.apdu.specs.Grammar.{auth_wtm_arg, wtat_param_arg, wtan_param_arg, auth_wtm_res, wtat_param_res, wtan_param_res}
use Rattle.apdu.specs.Shapes.{shaped, shape_bytes}

-- the operation that asks it
abbrev pub request_operation : Request → Operation
request_operation (request.AuthWtmUser unit) = operation.AuthWtmUser
request_operation (request.WtatParam provider arg) = operation.WtatParam provider
request_operation (request.WtanParam provider arg) = operation.WtanParam provider

-- what follows the user of an invoke with this operation
abbrev pub request_of : Operation → List ℕ → Option Request
request_of operation.AuthWtmUser bs = option_map request.AuthWtmUser (shaped auth_wtm_arg bs)
request_of (operation.WtatParam provider) bs =
    option_map (request.WtatParam provider) (shaped wtat_param_arg bs)
request_of (operation.WtanParam provider) bs =
    option_map (request.WtanParam provider) (shaped wtan_param_arg bs)

-- what follows the user, as it is written
abbrev pub request_bytes : Request → List ℕ
request_bytes (request.AuthWtmUser unit) = shape_bytes auth_wtm_arg unit
request_bytes (request.WtatParam provider arg) = shape_bytes wtat_param_arg arg
request_bytes (request.WtanParam provider arg) = shape_bytes wtan_param_arg arg

-- the operation that gave it
abbrev pub result_operation : ReturnResult → Operation
result_operation (answer.AuthWtmUser verdict) = operation.AuthWtmUser
result_operation (answer.WtatParam provider res) = operation.WtatParam provider
result_operation (answer.WtanParam provider res) = operation.WtanParam provider

-- what follows the operation of a result
abbrev pub result_of : Operation → List ℕ → Option ReturnResult
result_of operation.AuthWtmUser bs = option_map answer.AuthWtmUser (shaped auth_wtm_res bs)
result_of (operation.WtatParam provider) bs =
    option_map (answer.WtatParam provider) (shaped wtat_param_res bs)
result_of (operation.WtanParam provider) bs =
    option_map (answer.WtanParam provider) (shaped wtan_param_res bs)

-- what follows the operation, as it is written
abbrev pub result_bytes : ReturnResult → List ℕ
result_bytes (answer.AuthWtmUser verdict) = shape_bytes auth_wtm_res verdict
result_bytes (answer.WtatParam provider res) = shape_bytes wtat_param_res res
result_bytes (answer.WtanParam provider res) = shape_bytes wtan_param_res res
