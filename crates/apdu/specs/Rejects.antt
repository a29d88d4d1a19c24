-- Which strings of bytes are invokes that are due a reject, told by how an invoke is written.
use Rattle.std.specs.Prelude.{◌≡◌, ◌≢◌, ◌↔◌, ℕ, ◌<◌, ◌≤◌, List, [], ◌∷◌, ◌++◌, Err}
use Rattle.wire.specs.declared.codes.Kind.TheVariants as kind
use Rattle.wire.specs.declared.codes.Operation.{Operation}
use Rattle.wire.specs.declared.codes.Problem.{Problem}
use Rattle.wire.specs.declared.codes.Problem.TheVariants.{UnknownOperation, WrongArgument}
use Rattle.apdu.specs.declared.apdus.NoApdu.TheVariants.{RejectDue}
use Rattle.wire.specs.Codes.{operation_number}
use Rattle.wire.specs.Fields.{Bytes, field}
use Rattle.wire.specs.Tags as tag
use Rattle.apdu.specs.declared.apdus.Invoke.{Invoke}
use Rattle.apdu.specs.Decode.{received_as}
use Rattle.apdu.specs.Encode.{head, argument_bytes}
use Rattle.apdu.specs.Laws.{IsInvoke}
use Rattle.apdu.specs.Operations.{request_operation}

-- an invoke as it is written: its kind and id, the number of its operation, and the rest
abbrev pub invoke_bytes : ℕ → ℕ → List ℕ → List ℕ
invoke_bytes id number rest = head kind.Invoke id ++ field tag.operation (number ∷ []) ++ rest

-- no operation has the number
abbrev pub NoOperation : ℕ → Type 0
NoOperation number = (o : Operation) → operation_number o ≢ number

-- the rest is written for no invoke of the operation
abbrev pub NoArgument : Operation → List ℕ → Type 0
NoArgument o rest =
    (i : Invoke) → IsInvoke i → request_operation i.request ≡ o → argument_bytes i ≢ rest

-- the fault that a problem names: no operation has the number, or it has no such argument
abbrev pub Fault : Problem → ℕ → List ℕ → Type 0
Fault UnknownOperation number rest = NoOperation number
Fault WrongArgument number rest =
    (o : Operation) × ((operation_number o ≡ number) × NoArgument o rest)

-- the bytes are an invoke with this id that is due a reject with this problem
pub record IsDueReject (bs : List ℕ) (id : ℕ) (problem : Problem) : Type 0 where
  pub number : ℕ
  pub rest : List ℕ
  pub form : bs ≡ invoke_bytes id number rest
  pub id_at_least : 1 ≤ id
  pub id_below : id < 65536
  pub number_below : number < 256
  pub fault : Fault problem number rest

-- what is read as due a reject with an id and a problem is exactly what is due one by its form
abbrev pub RejectDueExactly : Type 0
RejectDueExactly =
    (bs : List ℕ) (id : ℕ) (problem : Problem) → Bytes bs
    → (received_as bs ≡ Err (RejectDue id problem)) ↔ IsDueReject bs id problem
