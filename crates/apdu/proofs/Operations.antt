-- What goes with an operation is read as it was written, and the reverse. Assumes nothing.
use Rattle.std.proofs.Common.{◌≡◌, ℕ, true, List, ◌++◌, Some, Option, refl, ap, ◌∙◌, subst, arith}
use Rattle.std.proofs.lemmas.Option.{same_Some}
use Rattle.std.specs.Option.{option_map}
use Rattle.wire.specs.declared.codes.Operation.{Operation}
use Rattle.wire.specs.declared.codes.Operation.TheVariants as operation
use Rattle.wire.specs.Fields.{Bytes, value, after, optional_field}
use Rattle.wire.specs.Tags as tag
use Rattle.wire.specs.FieldValues.{IfAny, bind, must}
use Rattle.wire.proofs.FieldLemmas.{value_there, after_there, field_back, bytes_after}
use Rattle.wire.proofs.Options.{bind_back, mapped_back}
use Rattle.wire.proofs.ValueLemmas.{must_back}
use Rattle.values.specs.Proof.{UnitSized}
use Rattle.values.specs.User.{user_number, user_digits, is_user}
use Rattle.values.proofs.UserNumbers.{few_digits, user_there, user_back}
use Rattle.apdu.specs.declared.apdus.Invoke.{Invoke}
use Rattle.apdu.specs.declared.apdus.Request.{Request}
use Rattle.apdu.specs.declared.apdus.Request.TheVariants as request
use Rattle.apdu.specs.declared.apdus.ReturnResult.{ReturnResult}
use Rattle.apdu.specs.declared.apdus.ReturnResult.TheVariants as answer
use Rattle.apdu.specs.Decode.{argument_in}
use Rattle.apdu.specs.Encode.{argument_bytes}
use Rattle.apdu.specs.Grammar.{auth_wtm_arg, wtat_param_arg, wtan_param_arg, auth_wtm_res, wtat_param_res, wtan_param_res}
use Rattle.apdu.specs.Laws.{Always, IsWtatParamArg, IsWtanParamArg, IsRequest, IsInvoke, IsWtatParamRes, IsWtanParamRes, IsResult}
use Rattle.apdu.specs.Operations.{request_operation, request_of, request_bytes, result_operation, result_of, result_bytes}
use Rattle.apdu.specs.Shapes.{Shape, shaped, shape_bytes}
use Rattle.apdu.proofs.Grammar.{auth_wtm_arg_round, wtat_param_arg_round, wtan_param_arg_round, auth_wtm_res_round, wtat_param_res_round, wtan_param_res_round}
use Rattle.apdu.proofs.Shapes.{RoundTrip, shape_there, shape_back}

-- a value of one shape, as what is made of it: its operation, its bytes, and what holds of it
pub record Goes {X : Type 0} (operation : X → Operation) (bytes : X → List ℕ) (P : X → Type 0) (o : Operation) (bs : List ℕ) (x : X) : Type 0 where
  pub operation_is : operation x ≡ o
  pub bytes_are : bytes x ≡ bs
  pub holds : P x

goes_by :
    {X B : Type 0} (operation : X → Operation) (bytes : X → List ℕ) (P : X → Type 0) (t : Shape B) (Z : B → Type 0) → RoundTrip t Z → (o : Operation) (make : B → X) →
    ((y : B) → operation (make y) ≡ o) → ((y : B) → bytes (make y) ≡ shape_bytes t y) → ((y : B) → Z y → P (make y)) →
    (bs : List ℕ) (x : X) → Bytes bs → option_map make (shaped t bs) ≡ Some x → Goes operation bytes P o bs x
goes_by operation bytes P t Z round o make op by hold bs x b e =
    let p = mapped_back make (shaped t bs) x e in
    let q = shape_back t Z round bs p.0 b p.1.0 in
    subst (Goes operation bytes P o bs) p.1.1 (record { operation_is = op p.0; bytes_are = by p.0 ∙ q.0; holds = hold p.0 q.1 })

-- requests

request_there : (r : Request) → IsRequest r → request_of (request_operation r) (request_bytes r) ≡ Some r
request_there (request.AuthWtmUser unit) z = ap (option_map request.AuthWtmUser) (shape_there auth_wtm_arg (IfAny UnitSized) auth_wtm_arg_round unit z)
request_there (request.WtatParam provider arg) z = ap (option_map (request.WtatParam provider)) (shape_there wtat_param_arg IsWtatParamArg wtat_param_arg_round arg z)
request_there (request.WtanParam provider arg) z = ap (option_map (request.WtanParam provider)) (shape_there wtan_param_arg IsWtanParamArg wtan_param_arg_round arg z)

request_back : (o : Operation) (bs : List ℕ) (r : Request) → Bytes bs → request_of o bs ≡ Some r → Goes request_operation request_bytes IsRequest o bs r
request_back operation.AuthWtmUser = goes_by request_operation request_bytes IsRequest auth_wtm_arg (IfAny UnitSized) auth_wtm_arg_round operation.AuthWtmUser request.AuthWtmUser (λ y. refl) (λ y. refl) (λ y z. z)
request_back (operation.WtatParam provider) = goes_by request_operation request_bytes IsRequest wtat_param_arg IsWtatParamArg wtat_param_arg_round (operation.WtatParam provider) (request.WtatParam provider) (λ y. refl) (λ y. refl) (λ y z. z)
request_back (operation.WtanParam provider) = goes_by request_operation request_bytes IsRequest wtan_param_arg IsWtanParamArg wtan_param_arg_round (operation.WtanParam provider) (request.WtanParam provider) (λ y. refl) (λ y. refl) (λ y z. z)

-- users and requests

with_request : ℕ → Request → Option Invoke
with_request user r = Some (record { user = user; request = r })

pub argument_there : (i : Invoke) → IsInvoke i → argument_in (request_operation i.request) (argument_bytes i) ≡ Some i
unfolding with_request
argument_there i z =
    let o : Operation = request_operation i.request in
    let rest : List ℕ = request_bytes i.request in
    let v = value_there tag.user (user_digits i.user) rest (omega (arith, few_digits i.user z.0)) in
    let a = after_there tag.user (user_digits i.user) rest (omega (arith, few_digits i.user z.0)) in
    (λ t. bind (must user_number (v t)) λ user. bind (request_of o (a t)) (with_request user)) ∙ (λ t. bind (user_there i.user z.0 t) λ user. bind (request_of o rest) (with_request user)) ∙ ap (λ r. bind r (with_request i.user)) (request_there i.request z.1)

pub argument_back : (o : Operation) (bs : List ℕ) (i : Invoke) → Bytes bs → argument_in o bs ≡ Some i → Goes (λ j. request_operation j.request) argument_bytes IsInvoke o bs i
argument_back o bs i b e =
    let rest : List ℕ = after tag.user bs in
    let p = bind_back (must user_number (value tag.user bs)) _ i e in
    let q = bind_back (request_of o rest) _ i p.1.1 in
    let is : record { user = p.0; request = q.0 } ≡ i = same_Some _ i q.1.1 in
    let u = must_back user_number user_digits (λ (key : ℕ). is_user key ≡ true) user_back (value tag.user bs) p.0 p.1.0 in
    let r = request_back o rest q.0 (bytes_after tag.user bs b) q.1.0 in
    subst (Goes (λ (j : Invoke). request_operation j.request) argument_bytes IsInvoke o bs) is (record { operation_is = r.operation_is; bytes_are = (λ t. optional_field tag.user (u.0 t) ++ r.bytes_are t) ∙ field_back tag.user bs b; holds = (u.1, r.holds) })

-- results

pub result_there : (r : ReturnResult) → IsResult r → result_of (result_operation r) (result_bytes r) ≡ Some r
result_there (answer.AuthWtmUser verdict) z = ap (option_map answer.AuthWtmUser) (shape_there auth_wtm_res Always auth_wtm_res_round verdict z)
result_there (answer.WtatParam provider res) z = ap (option_map (answer.WtatParam provider)) (shape_there wtat_param_res IsWtatParamRes wtat_param_res_round res z)
result_there (answer.WtanParam provider res) z = ap (option_map (answer.WtanParam provider)) (shape_there wtan_param_res IsWtanParamRes wtan_param_res_round res z)

pub result_back : (o : Operation) (bs : List ℕ) (r : ReturnResult) → Bytes bs → result_of o bs ≡ Some r → Goes result_operation result_bytes IsResult o bs r
result_back operation.AuthWtmUser = goes_by result_operation result_bytes IsResult auth_wtm_res Always auth_wtm_res_round operation.AuthWtmUser answer.AuthWtmUser (λ y. refl) (λ y. refl) (λ y z. z)
result_back (operation.WtatParam provider) = goes_by result_operation result_bytes IsResult wtat_param_res IsWtatParamRes wtat_param_res_round (operation.WtatParam provider) (answer.WtatParam provider) (λ y. refl) (λ y. refl) (λ y z. z)
result_back (operation.WtanParam provider) = goes_by result_operation result_bytes IsResult wtan_param_res IsWtanParamRes wtan_param_res_round (operation.WtanParam provider) (answer.WtanParam provider) (λ y. refl) (λ y. refl) (λ y z. z)
