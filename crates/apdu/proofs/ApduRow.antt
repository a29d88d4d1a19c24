-- An APDU as one row of fields whose tags rise. Assumes nothing.
use Rattle.std.proofs.Common.{◌≡◌, ℕ, ◌<◌, List, [], ◌∷◌, ◌++◌, length, Some, Option, refl, ap, arith}
use Rattle.wire.specs.Fields.{field, two}
use Rattle.wire.specs.Codes.{kind_number, operation_number}
use Rattle.wire.specs.Tags as tag
use Rattle.wire.specs.FieldValues.{IfAny}
use Rattle.values.specs.Proof.{UnitSized}
use Rattle.values.specs.User.{user_digits}
use Rattle.values.proofs.UserNumbers.{few_digits}
use Rattle.apdu.specs.declared.apdus.Apdu.{Apdu}
use Rattle.apdu.specs.declared.apdus.Body.{Body}
use Rattle.apdu.specs.declared.apdus.Body.TheVariants as body
use Rattle.apdu.specs.declared.apdus.Request.{Request}
use Rattle.apdu.specs.declared.apdus.Request.TheVariants as request
use Rattle.apdu.specs.declared.apdus.ReturnResult.{ReturnResult}
use Rattle.apdu.specs.declared.apdus.ReturnResult.TheVariants as answer
use Rattle.apdu.specs.Encode.{kind_of_body, body_bytes, encode}
use Rattle.apdu.specs.Grammar.{auth_wtm_arg, wtat_param_arg, wtan_param_arg, auth_wtm_res, wtat_param_res, wtan_param_res, return_error, reject}
use Rattle.apdu.specs.Laws.{Always, IsWtatParamArg, IsWtanParamArg, IsRequest, IsWtatParamRes, IsWtanParamRes, IsResult, IsBody, IsApdu}
use Rattle.apdu.specs.Operations.{request_operation, request_bytes, result_operation, result_bytes}
use Rattle.apdu.specs.Shapes.{row_bytes, Shape, shape_bytes}
use Rattle.apdu.proofs.Grammar.{auth_wtm_arg_round, wtat_param_arg_round, wtan_param_arg_round, auth_wtm_res_round, wtat_param_res_round, wtan_param_res_round, return_error_round, reject_round}
use Rattle.apdu.proofs.Rows.{Fills, Above, Rising}
use Rattle.apdu.proofs.Shapes.{RoundTrip}

-- some bytes are a row of fields whose tags are above t and rise
pub record RowAbove (t : ℕ) (bs : List ℕ) : Type 0 where
  pub tags : List ℕ
  pub values : List (Option (List ℕ))
  pub above : Above t tags
  pub rising : Rising tags
  pub fills : Fills tags values
  pub bytes : row_bytes tags values ≡ bs

-- a field in front of such a row
field_then : (t : ℕ) (v bs : List ℕ) (s : ℕ) → s < t → length v < 65536 → RowAbove t bs → RowAbove s (field t v ++ bs)
field_then t v bs s low short r =
    record {
      tags = t ∷ r.tags;
      values = Some v ∷ r.values;
      above = (low, above_less s t r.tags low r.above);
      rising = (r.above, r.rising);
      fills = (short, r.fills);
      bytes = ap (λ l. field t v ++ l) r.bytes;
    }
  where
    above_less : (s t : ℕ) (ts : List ℕ) → s < t → Above t ts → Above s ts
    above_less s t [] low a = tt
    above_less s t (u ∷ ts) low a = (omega arith, above_less s t ts low a.1)

-- a value of a shape
shape_row : {B : Type 0} (s : Shape B) (P : B → Type 0) → RoundTrip s P → (t : ℕ) → Above t s.tags → (x : B) → P x → RowAbove t (shape_bytes s x)
shape_row s P round t above x z = record { tags = s.tags; values = s.values_of x; above = above; rising = round.rising; fills = round.fills x z; bytes = refl }

request_row : (r : Request) → IsRequest r → RowAbove tag.user (request_bytes r)
request_row (request.AuthWtmUser unit) = shape_row auth_wtm_arg (IfAny UnitSized) auth_wtm_arg_round tag.user (omega arith) unit
request_row (request.WtatParam provider arg) = shape_row wtat_param_arg IsWtatParamArg wtat_param_arg_round tag.user (omega arith) arg
request_row (request.WtanParam provider arg) = shape_row wtan_param_arg IsWtanParamArg wtan_param_arg_round tag.user (omega arith) arg

result_row : (r : ReturnResult) → IsResult r → RowAbove tag.operation (result_bytes r)
result_row (answer.AuthWtmUser verdict) = shape_row auth_wtm_res Always auth_wtm_res_round tag.operation (omega arith) verdict
result_row (answer.WtatParam provider res) = shape_row wtat_param_res IsWtatParamRes wtat_param_res_round tag.operation (omega arith) res
result_row (answer.WtanParam provider res) = shape_row wtan_param_res IsWtanParamRes wtan_param_res_round tag.operation (omega arith) res

body_row : (b : Body) → IsBody b → RowAbove tag.id (body_bytes b)
body_row (body.Invoke i) z =
    field_then tag.operation (operation_number (request_operation i.request) ∷ []) _ tag.id (omega arith) (omega arith)
    (field_then tag.user (user_digits i.user) _ tag.operation (omega arith) (omega (arith, few_digits i.user z.0)) (request_row i.request z.1))
body_row (body.ReturnResult r) z = field_then tag.operation (operation_number (result_operation r) ∷ []) _ tag.id (omega arith) (omega arith) (result_row r z)
body_row (body.ReturnError e) z = shape_row return_error Always return_error_round tag.id (omega arith) e tt
body_row (body.Reject p) z = shape_row reject Always reject_round tag.id (omega arith) p tt

pub apdu_row : (a : Apdu) → IsApdu a → RowAbove 0 (encode a)
apdu_row a z =
    field_then tag.kind (kind_number (kind_of_body a.body) ∷ []) (field tag.id (two a.id) ++ body_bytes a.body) 0 (omega arith) (omega arith)
    (field_then tag.id (two a.id) (body_bytes a.body) tag.kind (omega arith) (omega arith) (body_row a.body z.1))
