-- What is read is an APDU, and is written back as the same bytes. Assumes nothing.
use Rattle.std.proofs.Common.{◌≡◌, ℕ, ◌+◌, ◌*◌, ◌/◌, ◌%◌, ◌<◌, ◌≤◌, List, [], ◌∷◌, ◌++◌, length, get_or, Some, None, Ok, Err, Option, Result, sym, refl, ap, ◌∙◌, subst, arith}
use Rattle.std.proofs.lemmas.Option.{none-some}
use Rattle.std.specs.Option.{option_map, ok_or}
use Rattle.wire.specs.declared.codes.Kind.{Kind}
use Rattle.wire.specs.declared.codes.Kind.TheVariants as kind
use Rattle.wire.specs.declared.codes.Operation.{Operation}
use Rattle.wire.specs.declared.codes.Problem.TheVariants.{WrongArgument}
use Rattle.wire.specs.Codes.{kind_of, kind_number, kinds, operation_of, operation_number, operations}
use Rattle.wire.specs.Fields.{Bytes, value, after, field, two, optional_field}
use Rattle.wire.specs.Tags as tag
use Rattle.wire.specs.FieldValues.{one, must}
use Rattle.wire.proofs.FieldLemmas.{field_back, bytes_after}
use Rattle.wire.proofs.Options.{bind_back, mapped_back, err_ok, ok_same, ok_or_back}
use Rattle.wire.proofs.ValueLemmas.{coded_back}
use Rattle.values.specs.InvokeId.{id_in}
use Rattle.values.proofs.InvokeIds.{id_in_back}
use Rattle.apdu.specs.declared.apdus.Apdu.{Apdu}
use Rattle.apdu.specs.declared.apdus.Body.{Body}
use Rattle.apdu.specs.declared.apdus.Body.TheVariants as body
use Rattle.apdu.specs.declared.apdus.Invoke.{Invoke}
use Rattle.apdu.specs.declared.apdus.ReturnResult.{ReturnResult}
use Rattle.apdu.specs.NoApdu.{NoApdu}
use Rattle.apdu.specs.declared.apdus.NoApdu.TheVariants.{Garbled, RejectDue}
use Rattle.apdu.specs.Decode.{operation_in, argument_in, invoke_numbered, invoke_with, result_in, result_map, body_in, body_after, with_id, kind_in}
use Rattle.apdu.specs.Encode.{head, operation_field, kind_of_body, argument_bytes, body_bytes, encode}
use Rattle.apdu.specs.Grammar.{return_error, reject}
use Rattle.apdu.specs.Laws.{Always, IsBody, ReadWritesBack}
use Rattle.apdu.specs.Operations.{request_operation, result_operation, result_bytes}
use Rattle.apdu.specs.Shapes.{shaped}
use Rattle.apdu.proofs.Grammar.{byte_in, return_error_round, reject_round}
use Rattle.apdu.proofs.Operations.{argument_back, result_back}
use Rattle.apdu.proofs.Shapes.{shape_back}

ok_back : {A B E : Type 0} (f : A → B) (r : Result A E) (y : B) → result_map f r ≡ Ok y → (x : A) × ((r ≡ Ok x) × (f x ≡ y))
ok_back f (Err e) y h = absurd (err_ok e y h)
ok_back f (Ok x) y h = (x, (refl, ok_same (f x) y h))

-- what follows the invoke id

pub record Follows (k : Kind) (bs : List ℕ) (b : Body) : Type 0 where
  pub kind : kind_of_body b ≡ k
  pub bytes : body_bytes b ≡ bs
  pub holds : IsBody b

-- the operation stands in front
operation_back : (bs : List ℕ) (n : ℕ) (o : Operation) → Bytes bs → operation_in bs ≡ Some n → operation_of n ≡ Some o → operation_field o ++ after tag.operation bs ≡ bs
operation_back bs n o b e f =
    let c = coded_back operation_number operations n o f in
    let v = byte_in (value tag.operation bs) n e in
    (λ t. field tag.operation (c t ∷ []) ++ after tag.operation bs) ∙ (λ t. optional_field tag.operation (v t) ++ after tag.operation bs) ∙ field_back tag.operation bs b

invoke_with_back : (i : ℕ) (o : Option Operation) (bs : List ℕ) (y : Invoke) → invoke_with i o bs ≡ Ok y → (p : Operation) × ((o ≡ Some p) × (argument_in p bs ≡ Some y))
invoke_with_back i None bs y e = absurd (err_ok _ y e)
invoke_with_back i (Some p) bs y e = (p, (refl, ok_or_back (argument_in p bs) (RejectDue i WrongArgument) y e))

invoke_back : (i : ℕ) (n : Option ℕ) (bs : List ℕ) (y : Invoke) → Bytes bs → operation_in bs ≡ n → invoke_numbered i n (after tag.operation bs) ≡ Ok y → Follows kind.Invoke bs (body.Invoke y)
invoke_back i None bs y b h e = absurd (err_ok _ y e)
invoke_back i (Some n) bs y b h e =
    let p = invoke_with_back i (operation_of n) (after tag.operation bs) y e in
    let q = argument_back p.0 (after tag.operation bs) y (bytes_after tag.operation bs b) p.1.1 in
    let whole : operation_field (request_operation y.request) ++ argument_bytes y ≡ bs = (λ t. operation_field (q.operation_is t) ++ q.bytes_are t) ∙ operation_back bs n p.0 b h p.1.0 in
    record { kind = refl; bytes = whole; holds = q.holds }

-- an answer, as the body that it makes
answer_by : {B : Type 0} (make : B → Body) (k : Kind) (bs : List ℕ) (y : Body) (o : Option B) → ((x : B) → o ≡ Some x → Follows k bs (make x)) → ok_or {E = NoApdu} (option_map make o) Garbled ≡ Ok y → Follows k bs y
answer_by make k bs y o f e =
    let q = mapped_back make o y (ok_or_back (option_map make o) Garbled y e) in
    subst (Follows k bs) q.1.1 (f q.0 q.1.0)

return_result_back : (bs : List ℕ) → Bytes bs → (r : ReturnResult) → result_in bs ≡ Some r → Follows kind.ReturnResult bs (body.ReturnResult r)
return_result_back bs b r e =
    let p = bind_back (operation_in bs) _ r e in
    let q = bind_back (operation_of p.0) _ r p.1.1 in
    let g = result_back q.0 (after tag.operation bs) r (bytes_after tag.operation bs b) q.1.1 in
    let whole : operation_field (result_operation r) ++ result_bytes r ≡ bs = (λ t. operation_field (g.operation_is t) ++ g.bytes_are t) ∙ operation_back bs p.0 q.0 b p.1.0 q.1.0 in
    record { kind = refl; bytes = whole; holds = g.holds }

body_back : (k : Kind) (i : ℕ) (bs : List ℕ) (y : Body) → Bytes bs → body_in k i bs ≡ Ok y → Follows k bs y
body_back kind.Invoke i bs y b e =
    let p = ok_back body.Invoke (invoke_numbered i (operation_in bs) (after tag.operation bs)) y e in
    subst (Follows kind.Invoke bs) p.1.1 (invoke_back i (operation_in bs) bs p.0 b refl p.1.0)
body_back kind.ReturnResult i bs y b e = answer_by body.ReturnResult kind.ReturnResult bs y (result_in bs) (return_result_back bs b) e
body_back kind.ReturnError i bs y b e = answer_by body.ReturnError kind.ReturnError bs y (shaped return_error bs) (λ x h. record { kind = refl; bytes = (shape_back return_error Always return_error_round bs x b h).0; holds = tt }) e
body_back kind.Reject i bs y b e = answer_by body.Reject kind.Reject bs y (shaped reject bs) (λ x h. record { kind = refl; bytes = (shape_back reject Always reject_round bs x b h).0; holds = tt }) e

-- the kind and the invoke id

id_by : (v rest : List ℕ) (i : ℕ) → Bytes (field tag.id v ++ rest) → length v ≡ 2 → get_or v 0 0 * 256 + get_or v 1 0 ≡ i → (two i ≡ v) × (i < 65536)
id_by [] rest i b l n = absurd (omega arith)
id_by (x ∷ []) rest i b l n = absurd (omega arith)
id_by (x ∷ y ∷ []) rest i b l n =
    let high : x < 256 = b 3 in
    let low : y < 256 = b 4 in
    let p : i / 256 ≡ x = omega arith in
    let q : i % 256 ≡ y = omega arith in
    ((λ t. p t ∷ q t ∷ []), omega arith)
id_by (x ∷ y ∷ z ∷ v) rest i b l n = absurd (omega arith)

id_back : (o : Option (List ℕ)) (i : ℕ) (rest : List ℕ) → Bytes (optional_field tag.id o ++ rest) → must id_in o ≡ Some i → (Some (two i) ≡ o) × ((i < 65536) × (1 ≤ i))
id_back None i rest b e = absurd (none-some i e)
id_back (Some v) i rest b e =
    let p = id_in_back v i e in
    let q = id_by v rest i b p.0 p.1.0 in
    (ap Some q.0, (q.1, p.1.1))

record Head (k : Option Kind) (i : Option ℕ) (bs : List ℕ) (a : Apdu) : Type 0 where
  kind : k ≡ Some (kind_of_body a.body)
  id : i ≡ Some a.id
  bytes : body_bytes a.body ≡ bs
  holds : IsBody a.body

head_back : (k : Option Kind) (i : Option ℕ) (bs : List ℕ) (a : Apdu) → Bytes bs → body_after k i bs ≡ Ok a → Head k i bs a
head_back None i bs a b e = absurd (err_ok _ a e)
head_back (Some k) None bs a b e = absurd (err_ok _ a e)
head_back (Some k) (Some i) bs a b e =
    let p = ok_back (with_id i) (body_in k i bs) a e in
    let f = body_back k i bs p.0 b p.1.0 in
    subst (Head (Some k) (Some i) bs) p.1.1 (record { kind = ap Some (sym f.kind); id = refl; bytes = f.bytes; holds = f.holds })

-- bytes with a kind and an invoke id are the head of that kind and id, and what follows it
pub head_bytes : (bs : List ℕ) (k : Kind) (i : ℕ) → Bytes bs → kind_in bs ≡ Some k → must id_in (value tag.id (after tag.kind bs)) ≡ Some i → (head k i ++ after tag.id (after tag.kind bs) ≡ bs) × ((i < 65536) × (1 ≤ i))
head_bytes bs k i b e h =
    let r1 : List ℕ = after tag.kind bs in
    let r2 : List ℕ = after tag.id r1 in
    let b1 = bytes_after tag.kind bs b in
    let c = bind_back (must one (value tag.kind bs)) kind_of k e in
    let code = coded_back kind_number kinds c.0 k c.1.1 in
    let v = byte_in (value tag.kind bs) c.0 c.1.0 in
    let w = id_back (value tag.id r1) i r2 (subst Bytes (sym (field_back tag.id r1 b1)) b1) h in
    let tail : field tag.id (two i) ++ r2 ≡ r1 = (λ t. optional_field tag.id (w.0 t) ++ r2) ∙ field_back tag.id r1 b1 in
    ((λ t. field tag.kind (code t ∷ []) ++ tail t) ∙ (λ t. optional_field tag.kind (v t) ++ r1) ∙ field_back tag.kind bs b, w.1)

pub read_writes_back : ReadWritesBack
read_writes_back bs a b e =
    let r1 : List ℕ = after tag.kind bs in
    let r2 : List ℕ = after tag.id r1 in
    let b2 = bytes_after tag.id r1 (bytes_after tag.kind bs b) in
    let h = head_back (kind_in bs) (must id_in (value tag.id r1)) r2 a b2 e in
    let f = head_bytes bs (kind_of_body a.body) a.id b h.kind h.id in
    let whole : encode a ≡ bs = (λ t. head (kind_of_body a.body) a.id ++ h.bytes t) ∙ f.0 in
    (whole, ((f.1.1, h.holds), f.1.0))
