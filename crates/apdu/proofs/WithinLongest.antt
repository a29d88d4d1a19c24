-- How long an APDU is at most. Assumes nothing.
use Rattle.std.proofs.Common.{ℕ, ◌≤◌, Bool, true, false, List, [], ◌∷◌, length, Some, None, Option, refl, arith}
use Rattle.std.proofs.lemmas.List.{length-append}
use Rattle.wire.specs.declared.codes.Provider.TheVariants.{Home}
use Rattle.wire.specs.Fields.{flagged, optional_field}
use Rattle.wire.specs.Tags as tag
use Rattle.wire.specs.FieldValues.{IfAny}
use Rattle.values.specs.Challenge.{IsChallenge}
use Rattle.values.proofs.UserNumbers.{few_digits}
use Rattle.apdu.specs.declared.apdus.Apdu.{Apdu}
use Rattle.apdu.specs.declared.apdus.Body.{Body}
use Rattle.apdu.specs.declared.apdus.Body.TheVariants as body
use Rattle.apdu.specs.declared.apdus.Request.{Request}
use Rattle.apdu.specs.declared.apdus.Request.TheVariants as request
use Rattle.apdu.specs.declared.apdus.ReturnResult.{ReturnResult}
use Rattle.apdu.specs.declared.apdus.ReturnResult.TheVariants as answer
use Rattle.apdu.specs.declared.apdus.WtatInfo.{WtatInfo}
use Rattle.apdu.specs.declared.apdus.WtatInfo.TheVariants as wtat
use Rattle.apdu.specs.declared.apdus.WtanParamRes.{WtanParamRes}
use Rattle.apdu.specs.declared.apdus.WtanParamRes.TheVariants as wtan
use Rattle.apdu.specs.Encode.{body_bytes, encode}
use Rattle.apdu.specs.Grammar.{wtat_info_values, wtan_param_values}
use Rattle.apdu.specs.Laws.{IsRequest, IsWtatInfo, IsWtanParamRes, IsResult, IsBody, IsApdu, WithinLongest}
use Rattle.apdu.specs.Operations.{request_bytes, result_bytes}
use Rattle.apdu.specs.Shapes.{row_bytes}

flag_length : (t : ℕ) (b : Bool) → length (optional_field t (flagged b)) ≤ 3
flag_length t true = omega arith
flag_length t false = omega arith

challenge_length : (t : ℕ) (o : Option (List ℕ)) → IfAny IsChallenge o → length (optional_field t o) ≤ 11
challenge_length t None z = omega arith
challenge_length t (Some c) z = omega arith

request_length : (r : Request) → IsRequest r → length (request_bytes r) ≤ 18
request_length (request.AuthWtmUser None) z = omega arith
request_length (request.AuthWtmUser (Some u)) z = simp length-append (omega arith)
request_length (request.WtatParam provider arg) z = simp length-append (omega (arith, flag_length tag.can_compute arg.computes, challenge_length tag.challenge arg.challenge z))
request_length (request.WtanParam provider arg) z = simp length-append (omega (arith, flag_length tag.can_compute arg.computes))

info_length : (i : WtatInfo) → IsWtatInfo i → length (row_bytes (tag.unit ∷ tag.session ∷ []) (wtat_info_values i)) ≤ 27
info_length (wtat.Unit u) z = simp length-append (omega arith)
info_length (wtat.Session s) z = simp length-append (omega arith)

proof_length : (r : WtanParamRes) → IsWtanParamRes r → length (row_bytes (tag.session ∷ tag.response ∷ []) (wtan_param_values r)) ≤ 27
proof_length (wtan.Session s) z = simp length-append (omega arith)
proof_length (wtan.Response r) z = simp length-append (omega arith)

result_length : (r : ReturnResult) → IsResult r → length (result_bytes r) ≤ 31
result_length (answer.AuthWtmUser verdict) z = omega arith
result_length (answer.WtatParam provider res) z = omega (arith, info_length res.info z)
result_length (answer.WtanParam provider res) z = omega (arith, proof_length res z)

body_length : (b : Body) → IsBody b → length (body_bytes b) ≤ 40
body_length (body.Invoke i) z = simp length-append (omega (arith, few_digits i.user z.0, request_length i.request z.1))
body_length (body.ReturnResult r) z = omega (arith, result_length r z)
body_length (body.ReturnError e) z = omega arith
body_length (body.Reject p) z = omega arith

apdu_length : (a : Apdu) → IsApdu a → length (encode a) ≤ 49
apdu_length a z = omega (arith, body_length a.body z.1)

-- a user of 15 digits, and every field of getWtanParam
longest : Apdu
longest =
    record {
      id = 1;
      body = body.Invoke (record { user = 15000000000000000; request = request.WtanParam Home (record { computes = true; challenge = 0 ∷ 0 ∷ 0 ∷ 0 ∷ 0 ∷ 0 ∷ 0 ∷ 0 ∷ []; algorithm = 1 }) });
    }

pub within_longest : WithinLongest
unfolding longest
within_longest = (apdu_length, (longest, ((omega arith, (refl, refl)), refl)))
