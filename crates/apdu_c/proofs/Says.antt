-- Fields make an APDU exactly where they say what it says. Assumes nothing.
use Rattle.std.proofs.Common.{◌≡◌, ◌+◌, Bool, true, false, cond, eqb, is_some, Some, None, sym, refl, ap, ◌∙◌, subst}
use Rattle.std.proofs.lemmas.Bool.{eq-eqb, eqb-true}
use Rattle.std.proofs.lemmas.Option.{cond_some, same_Some}
use Rattle.std.specs.Bool.{then_some}
use Rattle.std.specs.Option.{option_map}
use Rattle.wire.specs.Codes.{kind_number, kind_of, kinds, operation_number, operation_of, operations}
use Rattle.wire.specs.declared.codes.Kind.{Kind}
use Rattle.wire.specs.declared.codes.Kind.TheVariants as kind
use Rattle.wire.specs.declared.codes.Operation.{Operation}
use Rattle.wire.specs.declared.codes.Operation.TheVariants as operation
use Rattle.wire.specs.declared.codes.Provider.TheVariants.{Home, Server}
use Rattle.wire.specs.Tags as tag
use Rattle.wire.specs.FieldValues.{bind}
use Rattle.wire.proofs.Options.{cond_back, bind_back, mapped_back}
use Rattle.wire.proofs.ValueLemmas.{coded_back}
use Rattle.values.specs.InvokeId.{numbered_id}
use Rattle.values.specs.User.{user_with_key}
use Rattle.apdu.specs.declared.apdus.Apdu.{Apdu}
use Rattle.apdu.specs.declared.apdus.Body.{Body}
use Rattle.apdu.specs.declared.apdus.Body.TheVariants as body
use Rattle.apdu.specs.declared.apdus.Invoke.{Invoke}
use Rattle.apdu.specs.declared.apdus.Request.{Request}
use Rattle.apdu.specs.declared.apdus.Request.TheVariants as request
use Rattle.apdu.specs.declared.apdus.ReturnResult.{ReturnResult}
use Rattle.apdu.specs.declared.apdus.ReturnResult.TheVariants as answer
use Rattle.apdu.specs.Encode.{kind_of_body}
use Rattle.apdu.specs.Operations.{request_operation, result_operation}
use Rattle.apdu_c.specs.declared.fields.Fields.{Fields}
use Rattle.apdu_c.specs.Flat.{invoke_parts, body_operation, body_parts}
use Rattle.apdu_c.specs.Forms.{Form, has, request_parts, given_request, result_parts, given_result, auth_wtm_arg, wtat_param_arg, wtan_param_arg, auth_wtm_res, wtat_param_res, wtan_param_res, return_error, reject}
use Rattle.apdu_c.specs.Given.{given_invoke, given_body, fitting_body, apdu_of}
use Rattle.apdu_c.specs.Laws.{parts_in}
use Rattle.apdu_c.specs.Parts.{Parts, bit, bits_after_user, present_bits}
use Rattle.apdu_c.proofs.Forms.{Fits, Said, Lawful, when_back, auth_wtm_arg_lawful, wtat_param_arg_lawful, wtan_param_arg_lawful, auth_wtm_res_lawful, wtat_param_res_lawful, wtan_param_res_lawful, return_error_lawful, reject_lawful}

-- a user's key, or an id, is one that there is
abbrev pub Held : Body → Type 0
Held (body.Invoke i) = user_with_key i.user ≡ Some i.user
Held (body.ReturnResult r) = Unit {0}
Held (body.ReturnError e) = Unit {0}
Held (body.Reject p) = Unit {0}

-- f says what a says, and a is such that fields can make it
pub record Says (f : Fields) (a : Apdu) : Type 0 where
  pub id : f.id ≡ a.id
  pub kind : f.kind ≡ kind_number (kind_of_body a.body)
  pub operation : f.operation ≡ body_operation a.body
  pub present : f.present ≡ present_bits (body_parts a.body)
  pub parts : body_parts a.body ≡ parts_in f.present f
  pub held_id : numbered_id a.id ≡ Some a.id
  pub held : Held a.body

result_no_user : (r : ReturnResult) → (result_parts r).user ≡ None
result_no_user (answer.AuthWtmUser verdict) = refl
result_no_user (answer.WtatParam provider res) = refl
result_no_user (answer.WtanParam provider res) = refl

-- what fields make says what they say

-- what goes with an operation
record Goes (f : Fields) {X : Type 0} (there : Bool) (operation : X → Operation) (parts : X → Parts) (o : Operation) (x : X) : Type 0 where
  operation_is : operation x ≡ o
  same : Fits there f (parts x) → Said there f (parts x)

-- an invoke
record InvokeGoes (f : Fields) (o : Operation) (i : Invoke) : Type 0 where
  operation_is : request_operation i.request ≡ o
  same : Fits true f (request_parts i.request) → invoke_parts i ≡ parts_in f.present f
  held : user_with_key i.user ≡ Some i.user

-- a body
record BodyGoes (f : Fields) (k : Kind) (b : Body) : Type 0 where
  kind_is : kind_of_body b ≡ k
  operation_is : f.operation ≡ body_operation b
  same : f.present ≡ present_bits (body_parts b) → body_parts b ≡ parts_in f.present f
  held : Held b

module _ (f : Fields) where
  goes_by :
      {X B : Type 0} (there : Bool) (operation : X → Operation) (parts : X → Parts) (m : Form B) → Lawful there m → (o : Operation) (make : B → X) →
      ((y : B) → operation (make y) ≡ o) → ((y : B) → (Fits there f (m.parts y) → Said there f (m.parts y)) → Fits there f (parts (make y)) → Said there f (parts (make y))) →
      (x : X) → option_map make (m.given f) ≡ Some x → Goes f there operation parts o x
  goes_by there operation parts m l o make op by x e =
      let p = mapped_back make (m.given f) x e in
      subst (Goes f there operation parts o) p.1.1 (record { operation_is = op p.0; same = by p.0 (l.kept f p.0 p.1.0) })

  request_goes : (o : Operation) (r : Request) → given_request o f ≡ Some r → Goes f true request_operation request_parts o r
  request_goes operation.AuthWtmUser = goes_by true request_operation request_parts auth_wtm_arg auth_wtm_arg_lawful operation.AuthWtmUser request.AuthWtmUser (λ y. refl) (λ y h. h)
  request_goes (operation.WtatParam provider) = goes_by true request_operation request_parts wtat_param_arg wtat_param_arg_lawful (operation.WtatParam provider) (request.WtatParam provider) (λ y. refl) (λ y h. h)
  request_goes (operation.WtanParam provider) = goes_by true request_operation request_parts wtan_param_arg wtan_param_arg_lawful (operation.WtanParam provider) (request.WtanParam provider) (λ y. refl) (λ y h. h)

  result_goes : (o : Operation) (r : ReturnResult) → given_result o f ≡ Some r → Goes f false result_operation result_parts o r
  result_goes operation.AuthWtmUser = goes_by false result_operation result_parts auth_wtm_res auth_wtm_res_lawful operation.AuthWtmUser answer.AuthWtmUser (λ y. refl) (λ y h. h)
  result_goes (operation.WtatParam provider) = goes_by false result_operation result_parts wtat_param_res wtat_param_res_lawful (operation.WtatParam provider) (answer.WtatParam provider) (λ y. refl) (λ y h. h)
  result_goes (operation.WtanParam provider) = goes_by false result_operation result_parts wtan_param_res wtan_param_res_lawful (operation.WtanParam provider) (answer.WtanParam provider) (λ y. refl) (λ y h. h)

  invoke_goes : (o : Operation) (i : Invoke) → given_invoke o f ≡ Some i → InvokeGoes f o i
  invoke_goes o i e =
      let u = bind_back (user_with_key f.user) _ i e in
      let r = bind_back (given_request o f) _ i u.1.1 in
      let c = cond_some _ f.user u.0 u.1.0 in
      let g = request_goes o r.0 r.1.0 in
      subst (InvokeGoes f o) (same_Some (record { user = u.0; request = r.0 }) i r.1.1) (record {
        operation_is = g.operation_is;
        same = λ h. (λ t. record (request_parts r.0) { user = Some (sym c.1 t) }) ∙ g.same h;
        held = ap user_with_key (sym c.1) ∙ u.1.0;
      })

  -- the number of the operation that the fields have
  operation_is : (o p : Operation) → operation_of f.operation ≡ Some o → p ≡ o → f.operation ≡ operation_number p
  operation_is o p e g = sym (ap operation_number g ∙ coded_back operation_number operations f.operation o e)

  body_goes : (k : Kind) (b : Body) → given_body k f ≡ Some b → BodyGoes f k b
  body_goes kind.Invoke b e =
      let o = bind_back (operation_of f.operation) _ b e in
      let i = mapped_back body.Invoke (given_invoke o.0 f) b o.1.1 in
      let g = invoke_goes o.0 i.0 i.1.0 in
      subst (BodyGoes f kind.Invoke) i.1.1 (record { kind_is = refl; operation_is = operation_is o.0 _ o.1.0 g.operation_is; same = g.same; held = g.held })
  body_goes kind.ReturnResult b e =
      let o = bind_back (operation_of f.operation) _ b e in
      let r = mapped_back body.ReturnResult (given_result o.0 f) b o.1.1 in
      let g = result_goes o.0 r.0 r.1.0 in
      let none = result_no_user r.0 in
      subst (BodyGoes f kind.ReturnResult) r.1.1 (record {
        kind_is = refl;
        operation_is = operation_is o.0 _ o.1.0 g.operation_is;
        same = λ h. (λ t. record (result_parts r.0) { user = none t }) ∙ g.same (h ∙ (λ t. bit tag.user (is_some (none t)) + bits_after_user (result_parts r.0)));
        held = tt;
      })
  body_goes kind.ReturnError b e =
      let z = cond_back (eqb f.operation 0) _ b e in
      let v = mapped_back body.ReturnError (return_error.given f) b z.1 in
      subst (BodyGoes f kind.ReturnError) v.1.1 (record { kind_is = refl; operation_is = eqb-true _ _ z.0; same = return_error_lawful.kept f v.0 v.1.0; held = tt })
  body_goes kind.Reject b e =
      let z = cond_back (eqb f.operation 0) _ b e in
      let v = mapped_back body.Reject (reject.given f) b z.1 in
      subst (BodyGoes f kind.Reject) v.1.1 (record { kind_is = refl; operation_is = eqb-true _ _ z.0; same = reject_lawful.kept f v.0 v.1.0; held = tt })

  pub says : (a : Apdu) → apdu_of f ≡ Some a → Says f a
  says a e =
      let n = bind_back (numbered_id f.id) _ a e in
      let b = bind_back (fitting_body f) _ a n.1.1 in
      let k = bind_back (kind_of f.kind) _ b.0 b.1.0 in
      let c = bind_back (given_body k.0 f) _ b.0 k.1.1 in
      let w = when_back (eqb f.present (present_bits (body_parts c.0))) c.0 b.0 c.1.1 in
      let i = cond_some _ f.id n.0 n.1.0 in
      let made : c.0 ≡ b.0 = w.1 in
      let g = subst (BodyGoes f k.0) made (body_goes k.0 c.0 c.1.0) in
      let set : f.present ≡ present_bits (body_parts b.0) = eqb-true f.present _ w.0 ∙ ap (λ x. present_bits (body_parts x)) made in
      subst (Says f) (same_Some (record { id = n.0; body = b.0 }) a b.1.1) (record {
        id = i.1;
        kind = sym (ap kind_number g.kind_is ∙ coded_back kind_number kinds f.kind k.0 k.1.0);
        operation = g.operation_is;
        present = set;
        parts = g.same set;
        held_id = ap numbered_id (sym i.1) ∙ n.1.0;
        held = g.held;
      })

-- fields that say what an APDU says make it

kind_there : (k : Kind) → kind_of (kind_number k) ≡ Some k
kind_there kind.Invoke = refl
kind_there kind.ReturnResult = refl
kind_there kind.ReturnError = refl
kind_there kind.Reject = refl

operation_there : (o : Operation) → operation_of (operation_number o) ≡ Some o
operation_there operation.AuthWtmUser = refl
operation_there (operation.WtatParam Home) = refl
operation_there (operation.WtatParam Server) = refl
operation_there (operation.WtanParam Home) = refl
operation_there (operation.WtanParam Server) = refl

module _ (f : Fields) where
  request_made : (r : Request) → Said true f (request_parts r) → given_request (request_operation r) f ≡ Some r
  request_made (request.AuthWtmUser unit) s = ap (option_map request.AuthWtmUser) (auth_wtm_arg_lawful.made f unit s)
  request_made (request.WtatParam provider arg) s = ap (option_map (request.WtatParam provider)) (wtat_param_arg_lawful.made f arg s)
  request_made (request.WtanParam provider arg) s = ap (option_map (request.WtanParam provider)) (wtan_param_arg_lawful.made f arg s)

  result_made : (r : ReturnResult) → Said false f (result_parts r) → given_result (result_operation r) f ≡ Some r
  result_made (answer.AuthWtmUser verdict) s = ap (option_map answer.AuthWtmUser) (auth_wtm_res_lawful.made f verdict s)
  result_made (answer.WtatParam provider res) s = ap (option_map (answer.WtatParam provider)) (wtat_param_res_lawful.made f res s)
  result_made (answer.WtanParam provider res) s = ap (option_map (answer.WtanParam provider)) (wtan_param_res_lawful.made f res s)

  invoke_made : (i : Invoke) → invoke_parts i ≡ parts_in f.present f → user_with_key i.user ≡ Some i.user → given_invoke (request_operation i.request) f ≡ Some i
  invoke_made i s h =
      let u = (when_back (has tag.user f) f.user i.user (ap (λ p. p.user) (sym s))).1 in
      let user : user_with_key f.user ≡ Some i.user = ap user_with_key u ∙ h in
      let asked = request_made i.request ((λ t. record (request_parts i.request) { user = Some (u t) }) ∙ s) in
      λ t. bind (user t) λ user. bind (asked t) λ request. Some (record { user = user; request = request })

  body_made : (b : Body) → f.operation ≡ body_operation b → body_parts b ≡ parts_in f.present f → Held b → given_body (kind_of_body b) f ≡ Some b
  body_made (body.Invoke i) o s h =
      (λ t. bind ((ap operation_of o ∙ operation_there (request_operation i.request)) t) λ operation. option_map body.Invoke (given_invoke operation f)) ∙ ap (option_map body.Invoke) (invoke_made i s h)
  body_made (body.ReturnResult r) o s h =
      (λ t. bind ((ap operation_of o ∙ operation_there (result_operation r)) t) λ operation. option_map body.ReturnResult (given_result operation f))
      ∙ ap (option_map body.ReturnResult) (result_made r ((λ t. record (result_parts r) { user = sym (result_no_user r) t }) ∙ s))
  body_made (body.ReturnError e) o s h =
      let zero : eqb f.operation 0 ≡ true = eq-eqb _ _ o in
      λ t. cond (zero t) (option_map body.ReturnError (return_error_lawful.made f e s t)) None
  body_made (body.Reject p) o s h =
      let zero : eqb f.operation 0 ≡ true = eq-eqb _ _ o in
      λ t. cond (zero t) (option_map body.Reject (reject_lawful.made f p s t)) None

  pub makes : (a : Apdu) → Says f a → apdu_of f ≡ Some a
  makes a s =
      let id : numbered_id f.id ≡ Some a.id = ap numbered_id s.id ∙ s.held_id in
      let kind : kind_of f.kind ≡ Some (kind_of_body a.body) = ap kind_of s.kind ∙ kind_there (kind_of_body a.body) in
      let given = body_made a.body s.operation s.parts s.held in
      let set : eqb f.present (present_bits (body_parts a.body)) ≡ true = eq-eqb _ _ s.present in
      let body : fitting_body f ≡ Some a.body =
      (λ t. bind (kind t) λ k. bind (given_body k f) λ b. then_some (eqb f.present (present_bits (body_parts b))) b)
      ∙ (λ t. bind (given t) λ b. then_some (eqb f.present (present_bits (body_parts b))) b)
      ∙ (λ t. then_some (set t) a.body) in
      λ t. bind (id t) λ id. bind (body t) λ body. Some (record { id = id; body = body })
