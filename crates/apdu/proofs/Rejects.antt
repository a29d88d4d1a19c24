-- An invoke is due a reject exactly where no operation has its number, or its operation has no such argument. Assumes nothing.
use Rattle.std.proofs.Common.{◌≡◌, ℕ, List, [], ◌∷◌, ◌++◌, Some, None, Err, Option, sym, refl, ap, ◌∙◌, subst, arith}
use Rattle.std.proofs.lemmas.Option.{none-some}
use Rattle.std.specs.Option.{ok_or}
use Rattle.wire.specs.declared.codes.Kind.TheVariants as kind
use Rattle.wire.specs.declared.codes.Operation.{Operation}
use Rattle.wire.specs.declared.codes.Problem.{Problem}
use Rattle.wire.specs.declared.codes.Problem.TheVariants.{UnknownOperation, WrongArgument}
use Rattle.apdu.specs.declared.apdus.Body.TheVariants as body
use Rattle.apdu.specs.declared.apdus.NoApdu.TheVariants.{RejectDue}
use Rattle.wire.specs.Codes.{operation_of, operation_number, operations}
use Rattle.wire.specs.Fields.{Bytes, value, after, field, optional_field}
use Rattle.wire.specs.Tags as tag
use Rattle.wire.specs.FieldValues.{one, must}
use Rattle.wire.proofs.FieldLemmas.{value_there, after_there, field_back, bytes_behind, bytes_after}
use Rattle.wire.proofs.ValueLemmas.{coded_back}
use Rattle.values.specs.InvokeId.{id_in}
use Rattle.apdu.specs.declared.apdus.Invoke.{Invoke}
use Rattle.apdu.specs.Decode.{result_map, argument_in, operation_in, invoke_numbered, invoke_with, kind_in, with_id, received_as}
use Rattle.apdu.specs.Encode.{head}
use Rattle.apdu.specs.Rejects.{NoOperation, NoArgument, Fault, IsDueReject, RejectDueExactly}
use Rattle.apdu.proofs.Due.{ok_or_err, due_after}
use Rattle.apdu.proofs.Grammar.{byte_in}
use Rattle.apdu.proofs.Operations.{argument_there, argument_back}
use Rattle.apdu.proofs.ReadWritesBack.{head_bytes}
use Rattle.apdu.proofs.WrittenReadsBack.{operation_there, head_there}

-- what the reader finds, and what is said of numbers and of invokes

known : (n : ℕ) (o : Operation) → operation_number o ≡ n → operation_of n ≡ Some o
known n o e = ap operation_of (sym e) ∙ operation_there o

unknown : (n : ℕ) (o : Option Operation) → operation_of n ≡ o → NoOperation n → o ≡ None
unknown n None e none = refl
unknown n (Some o) e none = absurd (none o (coded_back operation_number operations n o e))

unknown_back : (n : ℕ) → operation_of n ≡ None → NoOperation n
unknown_back n e o h = none-some o (sym e ∙ known n o h)

wrong : (o : Operation) (rest : List ℕ) (x : Option Invoke) → Bytes rest → argument_in o rest ≡ x → NoArgument o rest → x ≡ None
wrong o rest None b e none = refl
wrong o rest (Some i) b e none =
    let g = argument_back o rest i b e in
    absurd (none i g.holds g.operation_is g.bytes_are)

wrong_back : (o : Operation) (rest : List ℕ) → argument_in o rest ≡ None → NoArgument o rest
wrong_back o rest e i holds is bytes = none-some i (sym e ∙ sym (λ t. argument_in (is t) (bytes t)) ∙ argument_there i holds)

-- what follows the invoke id

fault_there : (p : Problem) (id n : ℕ) (rest : List ℕ) → Bytes rest → Fault p n rest → invoke_with id (operation_of n) rest ≡ Err (RejectDue id p)
fault_there UnknownOperation id n rest b f = ap (λ o. invoke_with id o rest) (unknown n (operation_of n) refl f)
fault_there WrongArgument id n rest b f =
    ap (λ o. invoke_with id o rest) (known n f.0 f.1.0) ∙ ap (λ x. ok_or x (RejectDue id WrongArgument)) (wrong f.0 rest (argument_in f.0 rest) b refl f.1.1)

fault_back : (p : Problem) (id n : ℕ) (o : Option Operation) (rest : List ℕ) → operation_of n ≡ o → invoke_with id o rest ≡ Err (RejectDue id p) → Fault p n rest
fault_back p id n None rest e h =
    let is : UnknownOperation ≡ p = cc in
    subst (λ (q : Problem). Fault q n rest) is (unknown_back n e)
fault_back p id n (Some o) rest e h =
    let q = ok_or_err (argument_in o rest) (RejectDue id WrongArgument) (RejectDue id p) h in
    let due = q.1 in
    let is : WrongArgument ≡ p = cc in
    subst (λ (r : Problem). Fault r n rest) is (o, (coded_back operation_number operations n o e, wrong_back o rest q.0))

operation_back : (o : Option ℕ) (id : ℕ) (rest : List ℕ) (p : Problem) → invoke_numbered id o rest ≡ Err (RejectDue id p) → (n : ℕ) × ((o ≡ Some n) × (invoke_with id (operation_of n) rest ≡ Err (RejectDue id p)))
operation_back None id rest p h = cc
operation_back (Some n) id rest p h = (n, (refl, h))

-- the whole

due_there : (bs : List ℕ) (id : ℕ) (problem : Problem) → Bytes bs → IsDueReject bs id problem → received_as bs ≡ Err (RejectDue id problem)
due_there bs id problem b d =
    let n : ℕ = d.number in
    let rest : List ℕ = d.rest in
    let v = value_there tag.operation (n ∷ []) rest (omega arith) in
    let a = after_there tag.operation (n ∷ []) rest (omega arith) in
    let bytes = bytes_behind (field tag.operation (n ∷ [])) rest (bytes_behind (head kind.Invoke id) (field tag.operation (n ∷ []) ++ rest) (subst Bytes d.form b)) in
    ap received_as d.form ∙ head_there kind.Invoke id (field tag.operation (n ∷ []) ++ rest) d.id_at_least ∙ (λ t. result_map (with_id id) (result_map body.Invoke (invoke_numbered id (must one (v t)) (a t)))) ∙ ap (λ r. result_map (with_id id) (result_map body.Invoke r)) (fault_there problem id n rest bytes d.fault)

due_back : (bs : List ℕ) (id : ℕ) (problem : Problem) → Bytes bs → received_as bs ≡ Err (RejectDue id problem) → IsDueReject bs id problem
due_back bs id problem b e =
    let r1 : List ℕ = after tag.kind bs in
    let r2 : List ℕ = after tag.id r1 in
    let rest : List ℕ = after tag.operation r2 in
    let b2 = bytes_after tag.id r1 (bytes_after tag.kind bs b) in
    let d = due_after (kind_in bs) (must id_in (value tag.id r1)) r2 id problem e in
    let h = head_bytes bs kind.Invoke id b d.0 d.1.0 in
    let q = operation_back (operation_in r2) id rest problem d.1.1 in
    let n : ℕ = q.0 in
    let v = byte_in (value tag.operation r2) n q.1.0 in
    let front : field tag.operation (n ∷ []) ++ rest ≡ r2 = (λ t. optional_field tag.operation (v t) ++ rest) ∙ field_back tag.operation r2 b2 in
    record {
      number = n;
      rest = rest;
      form = sym ((λ t. head kind.Invoke id ++ front t) ∙ h.0);
      id_at_least = h.1.1;
      id_below = h.1.0;
      number_below = subst Bytes (sym front) b2 3;
      fault = fault_back problem id n (operation_of n) rest refl q.1.1;
    }

pub reject_due_exactly : RejectDueExactly
reject_due_exactly bs id problem b = (due_back bs id problem b, due_there bs id problem b)
