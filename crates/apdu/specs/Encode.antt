-- How an APDU is written.
use Rattle.std.specs.Prelude.{ℕ, ◌+◌, List, [], ◌∷◌, ◌++◌, length, Ok, Err, Result, nat_le, if◌then◌else◌}
use Rattle.refusal.specs.declared.Refusal.{Refusal}
use Rattle.refusal.specs.declared.Refusal.TheVariants.{ShortSheet}
use Rattle.wire.specs.declared.codes.Kind.{Kind}
use Rattle.wire.specs.declared.codes.Kind.TheVariants as kind
use Rattle.wire.specs.declared.codes.Operation.{Operation}
use Rattle.wire.specs.Codes.{kind_number, operation_number}
use Rattle.wire.specs.Fields.{field, two}
use Rattle.wire.specs.Fronts.{front}
use Rattle.wire.specs.Tags as tag
use Rattle.values.specs.User.{user_digits}
use Rattle.apdu.specs.declared.apdus.Apdu.{Apdu}
use Rattle.apdu.specs.declared.apdus.Body.{Body}
use Rattle.apdu.specs.declared.apdus.Body.TheVariants as body
use Rattle.apdu.specs.declared.apdus.Invoke.{Invoke}
use Rattle.apdu.specs.Grammar.{return_error, reject}
use Rattle.apdu.specs.Operations.{request_operation, request_bytes, result_operation, result_bytes}
use Rattle.apdu.specs.Shapes.{shape_bytes, shape_room}

-- the bytes of the smallest buffer that an APDU is written into
abbrev pub least_buffer : ℕ
least_buffer = 64

-- room that suffices for what an invoke has behind its id: the operation, a user of 15 digits and a request
abbrev pub invoke_room : ℕ
invoke_room = 22 + shape_room

-- room that suffices for what a result has behind its id: the operation and what it gave
abbrev pub result_room : ℕ
result_room = 4 + shape_room

-- room that suffices behind an id
abbrev pub body_room : ℕ
body_room = invoke_room

-- the bytes of the longest APDU
abbrev pub longest_apdu : ℕ
longest_apdu = 49

-- the kind and the invoke id
abbrev pub head : Kind → ℕ → List ℕ
head k id = field tag.kind (kind_number k ∷ []) ++ field tag.id (two id)

-- the operation
abbrev pub operation_field : Operation → List ℕ
operation_field o = field tag.operation (operation_number o ∷ [])

-- the kind that says what it is
abbrev pub kind_of_body : Body → Kind
kind_of_body (body.Invoke i) = kind.Invoke
kind_of_body (body.ReturnResult r) = kind.ReturnResult
kind_of_body (body.ReturnError e) = kind.ReturnError
kind_of_body (body.Reject p) = kind.Reject

-- what follows the operation of an invoke
abbrev pub argument_bytes : Invoke → List ℕ
argument_bytes i = field tag.user (user_digits i.user) ++ request_bytes i.request

-- what follows the invoke id
abbrev pub body_bytes : Body → List ℕ
body_bytes (body.Invoke i) = operation_field (request_operation i.request) ++ argument_bytes i
body_bytes (body.ReturnResult r) = operation_field (result_operation r) ++ result_bytes r
body_bytes (body.ReturnError e) = shape_bytes return_error e
body_bytes (body.Reject p) = shape_bytes reject p

-- the bytes of an APDU
abbrev pub encode : Apdu → List ℕ
encode a = head (kind_of_body a.body) a.id ++ body_bytes a.body

-- how many bytes are written to a buffer, or the refusal
abbrev pub write_answer : Apdu → List ℕ → Result ℕ Refusal
write_answer a out =
    if nat_le least_buffer (length out) then Ok (length (encode a)) else Err ShortSheet

-- the buffer after
abbrev pub write_buffer : Apdu → List ℕ → List ℕ
write_buffer a out =
    if nat_le least_buffer (length out) then front (encode a) out else out
