-- The APDU that the fields from C make.
use Rattle.std.specs.Prelude.{ℕ, ◌+◌, true, List, Some, None, Option, ◌==◌, if◌then◌else◌}
use Rattle.std.specs.Option.{option_map}
use Rattle.std.specs.Bool.{then_some}
use Rattle.wire.specs.Codes.{kind_of, operation_of}
use Rattle.wire.specs.declared.codes.Kind.{Kind}
use Rattle.wire.specs.declared.codes.Kind.TheVariants as kind
use Rattle.wire.specs.declared.codes.Operation.{Operation}
use Rattle.wire.specs.Tags as tag
use Rattle.wire.specs.FieldValues.{bind as ◌>>=◌}
use Rattle.values.specs.InvokeId.{numbered_id}
use Rattle.values.specs.User.{user_with_key}
use Rattle.apdu.specs.declared.apdus.Apdu.{Apdu}
use Rattle.apdu.specs.declared.apdus.Body.{Body}
use Rattle.apdu.specs.declared.apdus.Body.TheVariants as body
use Rattle.apdu.specs.declared.apdus.Invoke.{Invoke}
use Rattle.apdu.specs.declared.apdus.Request.{Request}
use Rattle.apdu.specs.declared.apdus.ReturnResult.{ReturnResult}
use Rattle.apdu.specs.Decode.{with_id}
use Rattle.apdu_c.specs.declared.fields.Fields.{Fields}
use Rattle.apdu_c.specs.Flat.{body_parts}
use Rattle.apdu_c.specs.Forms.{Form, request_parts, given_request, result_parts, given_result, return_error, reject}
use Rattle.apdu_c.specs.Parts.{bit, bits_after_user, present_bits}

-- the user, and what is asked by this operation; None where the number is no user's key
abbrev pub given_invoke : Operation → Fields → Option Invoke
given_invoke o f = do
  user ← user_with_key f.user
  request ← given_request o f
  Some (record { user = user; request = request })

-- the body of this kind; None where a value that it needs is none that it can have
abbrev pub given_body : Kind → Fields → Option Body
given_body kind.Invoke f = do
  operation ← operation_of f.operation
  option_map body.Invoke (given_invoke operation f)
given_body kind.ReturnResult f = do
  operation ← operation_of f.operation
  option_map body.ReturnResult (given_result operation f)
given_body kind.ReturnError f =
    if f.operation == 0 then option_map body.ReturnError (return_error.given f) else None
given_body kind.Reject f =
    if f.operation == 0 then option_map body.Reject (reject.given f) else None

-- the body that the fields make, where those that are there are exactly its own
abbrev pub fitting_body : Fields → Option Body
fitting_body f = do
  kind ← kind_of f.kind
  body ← given_body kind f
  then_some (f.present == present_bits (body_parts body)) body

-- the APDU that the fields make; None where the id is 0
abbrev pub apdu_of : Fields → Option Apdu
apdu_of f = do
  id ← numbered_id f.id
  body ← fitting_body f
  Some (record { id = id; body = body })

-- the steps by which it is made

-- the part that the fields make, where those that are there are exactly its own and these
abbrev pub fitting_part : {B : Type 0} → ℕ → Form B → Fields → Option B
fitting_part others form f = do
  part ← form.given f
  then_some (f.present == others + bits_after_user (form.parts part)) part

-- what an invoke asks, where the fields that are there are exactly its own and the user's
abbrev pub fitting_request : Fields → Option Request
fitting_request f = do
  operation ← operation_of f.operation
  request ← given_request operation f
  then_some (f.present == bit tag.user true + bits_after_user (request_parts request)) request

-- the user, and what is asked of it
abbrev pub fitting_invoke : Fields → Option Invoke
fitting_invoke f = do
  user ← user_with_key f.user
  request ← fitting_request f
  Some (record { user = user; request = request })

-- what an operation gave, where the fields that are there are exactly its own
abbrev pub fitting_result : Fields → Option ReturnResult
fitting_result f = do
  operation ← operation_of f.operation
  result ← given_result operation f
  then_some (f.present == present_bits (result_parts result)) result

-- the APDU with this id and with a body made of what the fields give, if they give it
abbrev pub apdu_with : {X : Type 0} → ℕ → (X → Body) → Option X → Option Apdu
apdu_with id make given = option_map (λ x. with_id id (make x)) given

-- the buffer after an APDU is handed on with it; as it was, if there is no APDU
abbrev pub left_for : (Apdu → List ℕ → List ℕ) → Option Apdu → List ℕ → List ℕ
left_for leaves None out = out
left_for leaves (Some a) out = leaves a out
