-- What a string of bytes is.
use Rattle.std.specs.Prelude.{ℕ, List, Some, None, Ok, Err, Option, Result}
use Rattle.std.specs.Option.{option_map, ok_or}
use Rattle.wire.specs.declared.codes.Kind.{Kind}
use Rattle.wire.specs.declared.codes.Kind.TheVariants as kind
use Rattle.wire.specs.declared.codes.Operation.{Operation}
use Rattle.wire.specs.declared.codes.Problem.TheVariants.{UnknownOperation, WrongArgument}
use Rattle.wire.specs.Codes.{kind_of, operation_of}
use Rattle.wire.specs.Fields.{value, after}
use Rattle.wire.specs.Tags as tag
use Rattle.wire.specs.FieldValues.{bind as ◌>>=◌, one, must}
use Rattle.values.specs.InvokeId.{id_in}
use Rattle.values.specs.User.{user_number}
use Rattle.apdu.specs.declared.apdus.Apdu.{Apdu}
use Rattle.apdu.specs.declared.apdus.Body.{Body}
use Rattle.apdu.specs.declared.apdus.Body.TheVariants as body
use Rattle.apdu.specs.declared.apdus.Invoke.{Invoke}
use Rattle.apdu.specs.declared.apdus.ReturnResult.{ReturnResult}
use Rattle.apdu.specs.NoApdu.{NoApdu}
use Rattle.apdu.specs.declared.apdus.NoApdu.TheVariants.{RejectDue, Garbled}
use Rattle.apdu.specs.Grammar.{return_error, reject}
use Rattle.apdu.specs.Operations.{request_of, result_of}
use Rattle.apdu.specs.Shapes.{shaped}

-- the operation's number in field 03
abbrev pub operation_in : List ℕ → Option ℕ
operation_in bs = must one (value tag.operation bs)

-- what follows the operation of an invoke: the user in field 04, and the request
abbrev pub argument_in : Operation → List ℕ → Option Invoke
argument_in o bs = do
  user ← must user_number (value tag.user bs)
  request ← request_of o (after tag.user bs)
  Some (record { user = user; request = request })

-- an invoke of an operation
abbrev pub invoke_with : ℕ → Option Operation → List ℕ → Result Invoke NoApdu
invoke_with id None bs = Err (RejectDue id UnknownOperation)
invoke_with id (Some o) bs = ok_or (argument_in o bs) (RejectDue id WrongArgument)

-- what follows the number of an operation
abbrev pub invoke_numbered : ℕ → Option ℕ → List ℕ → Result Invoke NoApdu
invoke_numbered id None bs = Err Garbled
invoke_numbered id (Some n) bs = invoke_with id (operation_of n) bs

-- what follows the invoke id of an invoke
abbrev pub invoke_in : ℕ → List ℕ → Result Invoke NoApdu
invoke_in id bs = invoke_numbered id (operation_in bs) (after tag.operation bs)

-- what follows the invoke id of a result
abbrev pub result_in : List ℕ → Option ReturnResult
result_in bs = do
  number ← operation_in bs
  operation ← operation_of number
  result_of operation (after tag.operation bs)

-- the value of a result, changed
abbrev pub result_map : {A B E : Type 0} → (A → B) → Result A E → Result B E
result_map f (Ok x) = Ok (f x)
result_map f (Err e) = Err e

-- what follows the invoke id
abbrev pub body_in : Kind → ℕ → List ℕ → Result Body NoApdu
body_in kind.Invoke id bs = result_map body.Invoke (invoke_in id bs)
body_in kind.ReturnResult id bs = ok_or (option_map body.ReturnResult (result_in bs)) Garbled
body_in kind.ReturnError id bs =
    ok_or (option_map body.ReturnError (shaped return_error bs)) Garbled
body_in kind.Reject id bs = ok_or (option_map body.Reject (shaped reject bs)) Garbled

-- a body under an id
abbrev pub with_id : ℕ → Body → Apdu
with_id id b = record { id = id; body = b }

-- an APDU, from its kind and id and what follows them
abbrev pub body_after : Option Kind → Option ℕ → List ℕ → Result Apdu NoApdu
body_after None id bs = Err Garbled
body_after (Some k) None bs = Err Garbled
body_after (Some k) (Some id) bs = result_map (with_id id) (body_in k id bs)

-- the kind in field 01
abbrev pub kind_in : List ℕ → Option Kind
kind_in bs = do
  number ← must one (value tag.kind bs)
  kind_of number

-- what a string of bytes is
abbrev pub received_as : List ℕ → Result Apdu NoApdu
received_as bs =
    let rest : List ℕ = after tag.kind bs in
    body_after (kind_in bs) (must id_in (value tag.id rest)) (after tag.id rest)
