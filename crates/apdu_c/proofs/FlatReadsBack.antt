-- The struct of an APDU makes the same APDU. Assumes nothing.
use Rattle.std.proofs.Common.{◌≡◌, ℕ, leb, true, cond, Some, None, refl}
use Rattle.std.proofs.lemmas.Bool.{le-leb}
use Rattle.wire.specs.Codes.{kind_number}
use Rattle.apdu.specs.declared.apdus.Apdu.{Apdu}
use Rattle.apdu.specs.declared.apdus.Body.{Body}
use Rattle.apdu.specs.declared.apdus.Body.TheVariants as body
use Rattle.apdu.specs.declared.apdus.Request.{Request}
use Rattle.apdu.specs.declared.apdus.Request.TheVariants as request
use Rattle.apdu.specs.declared.apdus.ReturnResult.TheVariants as answer
use Rattle.apdu.specs.Encode.{kind_of_body}
use Rattle.apdu.specs.Laws.{IsBody, IsApdu}
use Rattle.apdu.proofs.ReadWritesBack.{read_writes_back}
use Rattle.apdu_c.specs.Flat.{body_operation, body_parts, filled, flat}
use Rattle.apdu_c.specs.Forms.{request_parts}
use Rattle.apdu_c.specs.Given.{apdu_of}
use Rattle.apdu_c.specs.Laws.{parts_in, FlatReadsBack}
use Rattle.apdu_c.proofs.Forms.{with_user, Said, auth_wtm_arg_lawful, wtat_param_arg_lawful, wtan_param_arg_lawful, auth_wtm_res_lawful, wtat_param_res_lawful, wtan_param_res_lawful, return_error_lawful, reject_lawful}
use Rattle.apdu_c.proofs.Says.{Held, makes}

module _ (id k o : ℕ) where
  request_back : (user : ℕ) (r : Request) → Said true (filled id k o (with_user true user (request_parts r))) (request_parts r)
  request_back user (request.AuthWtmUser unit) = auth_wtm_arg_lawful.back id k o user unit
  request_back user (request.WtatParam provider arg) = wtat_param_arg_lawful.back id k o user arg
  request_back user (request.WtanParam provider arg) = wtan_param_arg_lawful.back id k o user arg

  body_back : (b : Body) → body_parts b ≡ parts_in (filled id k o (body_parts b)).present (filled id k o (body_parts b))
  body_back (body.Invoke i) = request_back i.user i.request
  body_back (body.ReturnResult (answer.AuthWtmUser verdict)) = auth_wtm_res_lawful.back id k o 0 verdict
  body_back (body.ReturnResult (answer.WtatParam provider res)) = wtat_param_res_lawful.back id k o 0 res
  body_back (body.ReturnResult (answer.WtanParam provider res)) = wtan_param_res_lawful.back id k o 0 res
  body_back (body.ReturnError e) = return_error_lawful.back id k o 0 e
  body_back (body.Reject p) = reject_lawful.back id k o 0 p

body_held : (b : Body) → IsBody b → Held b
body_held (body.Invoke i) z = λ t. cond (z.0 t) (Some i.user) None
body_held (body.ReturnResult r) z = tt
body_held (body.ReturnError e) z = tt
body_held (body.Reject p) z = tt

flat_of_any : (a : Apdu) → IsApdu a → apdu_of (flat a) ≡ Some a
flat_of_any a z =
    let first : leb 1 a.id ≡ true = le-leb _ _ z.0 in
    makes (flat a) a (record {
      id = refl;
      kind = refl;
      operation = refl;
      present = refl;
      parts = body_back a.id (kind_number (kind_of_body a.body)) (body_operation a.body) a.body;
      held_id = λ t. cond (first t) (Some a.id) None;
      held = body_held a.body z.1;
    })

pub flat_reads_back : FlatReadsBack
flat_reads_back = record { of_any = flat_of_any; of_read = λ bs a b e. flat_of_any a (read_writes_back bs a b e).1.0 }
