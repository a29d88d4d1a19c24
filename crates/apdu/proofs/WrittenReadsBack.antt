-- Every APDU that is written reads back as the same APDU. Assumes nothing.
use Rattle.std.proofs.Common.{◌≡◌, ℕ, ◌+◌, ◌*◌, ◌/◌, ◌%◌, ◌≤◌, true, leb, List, [], ◌∷◌, ◌++◌, Some, Ok, refl, ap, ◌∙◌, arith}
use Rattle.std.specs.Option.{option_map, ok_or}
use Rattle.std.proofs.lemmas.Bool.{le-leb}
use Rattle.wire.specs.declared.codes.Kind.{Kind}
use Rattle.wire.specs.declared.codes.Kind.TheVariants as kind
use Rattle.wire.specs.declared.codes.Operation.{Operation}
use Rattle.wire.specs.declared.codes.Operation.TheVariants as operation
use Rattle.wire.specs.declared.codes.Provider.TheVariants.{Home, Server}
use Rattle.wire.specs.declared.codes.Problem.TheVariants.{WrongArgument}
use Rattle.wire.specs.Codes.{kind_of, kind_number, operation_of, operation_number}
use Rattle.wire.specs.Fields.{value, after, field, two}
use Rattle.wire.specs.Tags as tag
use Rattle.wire.specs.FieldValues.{bind, one, must}
use Rattle.wire.proofs.FieldLemmas.{value_there, after_there}
use Rattle.values.specs.InvokeId.{id_in}
use Rattle.apdu.specs.declared.apdus.Body.{Body}
use Rattle.apdu.specs.declared.apdus.Body.TheVariants as body
use Rattle.apdu.specs.declared.apdus.NoApdu.TheVariants.{Garbled, RejectDue}
use Rattle.apdu.specs.Decode.{result_map, invoke_numbered, invoke_with, body_in, body_after, with_id, received_as}
use Rattle.apdu.specs.Encode.{head, kind_of_body, argument_bytes, body_bytes}
use Rattle.apdu.specs.Grammar.{return_error, reject}
use Rattle.apdu.specs.Laws.{Always, IsBody, WrittenReadsBack}
use Rattle.apdu.specs.Operations.{request_operation, result_operation, result_of, result_bytes}
use Rattle.apdu.proofs.Grammar.{return_error_round, reject_round}
use Rattle.apdu.proofs.Operations.{argument_there, result_there}
use Rattle.apdu.proofs.Shapes.{shape_there}

kind_there : (k : Kind) → kind_of (kind_number k) ≡ Some k
kind_there kind.Invoke = refl
kind_there kind.ReturnResult = refl
kind_there kind.ReturnError = refl
kind_there kind.Reject = refl

pub operation_there : (o : Operation) → operation_of (operation_number o) ≡ Some o
operation_there operation.AuthWtmUser = refl
operation_there (operation.WtatParam Home) = refl
operation_there (operation.WtatParam Server) = refl
operation_there (operation.WtanParam Home) = refl
operation_there (operation.WtanParam Server) = refl

id_there : (i : ℕ) → 1 ≤ i → id_in (two i) ≡ Some i
id_there i h =
    let q : i / 256 * 256 + i % 256 ≡ i = omega arith in
    let t : leb 1 i ≡ true = le-leb 1 i h in
    simp (q, t)

body_there : (i : ℕ) (b : Body) → IsBody b → body_in (kind_of_body b) i (body_bytes b) ≡ Ok b
body_there i (body.Invoke x) z =
    let o : Operation = request_operation x.request in
    let v = value_there tag.operation (operation_number o ∷ []) (argument_bytes x) (omega arith) in
    let a = after_there tag.operation (operation_number o ∷ []) (argument_bytes x) (omega arith) in
    (λ t. result_map body.Invoke (invoke_numbered i (must one (v t)) (a t))) ∙ (λ t. result_map body.Invoke (invoke_with i (operation_there o t) (argument_bytes x))) ∙ ap (λ y. result_map body.Invoke (ok_or y (RejectDue i WrongArgument))) (argument_there x z)
body_there i (body.ReturnResult x) z =
    let o : Operation = result_operation x in
    let v = value_there tag.operation (operation_number o ∷ []) (result_bytes x) (omega arith) in
    let a = after_there tag.operation (operation_number o ∷ []) (result_bytes x) (omega arith) in
    (λ t. ok_or (option_map body.ReturnResult (bind (must one (v t)) λ n. bind (operation_of n) λ p. result_of p (a t))) Garbled) ∙ (λ t. ok_or (option_map body.ReturnResult (bind (operation_there o t) λ p. result_of p (result_bytes x))) Garbled) ∙ ap (λ r. ok_or (option_map body.ReturnResult r) Garbled) (result_there x z)
body_there i (body.ReturnError e) z = ap (λ r. ok_or (option_map body.ReturnError r) Garbled) (shape_there return_error Always return_error_round e tt)
body_there i (body.Reject p) z = ap (λ r. ok_or (option_map body.Reject r) Garbled) (shape_there reject Always reject_round p tt)

pub head_there : (k : Kind) (i : ℕ) (bs : List ℕ) → 1 ≤ i → received_as (head k i ++ bs) ≡ result_map (with_id i) (body_in k i bs)
head_there k i bs h =
    let rest : List ℕ = field tag.id (two i) ++ bs in
    let v1 = value_there tag.kind (kind_number k ∷ []) rest (omega arith) in
    let a1 = after_there tag.kind (kind_number k ∷ []) rest (omega arith) in
    let v2 = value_there tag.id (two i) bs (omega arith) in
    let a2 = after_there tag.id (two i) bs (omega arith) in
    (λ t. body_after (bind (must one (v1 t)) kind_of) (must id_in (value tag.id (a1 t))) (after tag.id (a1 t))) ∙ (λ t. body_after (kind_there k t) (must id_in (v2 t)) (a2 t)) ∙ ap (λ o. body_after (Some k) o bs) (id_there i h)

pub written_reads_back : WrittenReadsBack
written_reads_back a z = head_there (kind_of_body a.body) a.id (body_bytes a.body) z.0 ∙ ap (result_map (with_id a.id)) (body_there a.id a.body z.1)
