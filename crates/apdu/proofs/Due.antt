-- What is read is an APDU, and an invoke that is due a reject has an id of at least 1. Assumes nothing.
use Rattle.std.proofs.Common.{◌≡◌, ℕ, ◌≤◌, List, Some, None, Ok, Err, Option, Result, sym, refl, ap, subst}
use Rattle.std.specs.Option.{option_map, ok_or}
use Rattle.wire.specs.declared.codes.Kind.{Kind}
use Rattle.wire.specs.declared.codes.Kind.TheVariants as kind
use Rattle.wire.specs.declared.codes.Operation.{Operation}
use Rattle.wire.specs.declared.codes.Problem.{Problem}
use Rattle.apdu.specs.declared.apdus.Apdu.{Apdu}
use Rattle.apdu.specs.NoApdu.{NoApdu}
use Rattle.apdu.specs.declared.apdus.NoApdu.TheVariants.{RejectDue, Garbled}
use Rattle.apdu.specs.declared.apdus.Body.TheVariants as body
use Rattle.wire.specs.Codes.{operation_of}
use Rattle.wire.specs.Fields.{Bytes, value, after}
use Rattle.wire.specs.Tags as tag
use Rattle.wire.specs.FieldValues.{must}
use Rattle.values.specs.InvokeId.{id_in}
use Rattle.values.proofs.InvokeIds.{id_in_back}
use Rattle.apdu.specs.Laws.{Lawful}
use Rattle.apdu.specs.Decode.{result_map, argument_in, operation_in, invoke_numbered, invoke_with, result_in, body_in, body_after, kind_in, with_id, received_as}
use Rattle.apdu.specs.Grammar.{return_error, reject}
use Rattle.apdu.specs.Shapes.{shaped}
use Rattle.apdu.proofs.ReadWritesBack.{read_writes_back}

err_back : {A B E : Type 0} (f : A → B) (r : Result A E) (e : E) → result_map f r ≡ Err e → r ≡ Err e
err_back f (Ok x) e h = cc
err_back f (Err y) e h = let q : y ≡ e = cc in cc

pub ok_or_err : {A E : Type 0} (o : Option A) (e d : E) → ok_or o e ≡ Err d → (o ≡ None) × (e ≡ d)
ok_or_err None e d h = (refl, cc)
ok_or_err (Some x) e d h = cc

due_with : (i : ℕ) (o : Option Operation) (bs : List ℕ) (id : ℕ) (p : Problem) → invoke_with i o bs ≡ Err (RejectDue id p) → i ≡ id
due_with i None bs id p h = cc
due_with i (Some o) bs id p h = let q = (ok_or_err (argument_in o bs) _ _ h).1 in cc

due_in : (i : ℕ) (o : Option ℕ) (bs : List ℕ) (id : ℕ) (p : Problem) → invoke_numbered i o bs ≡ Err (RejectDue id p) → i ≡ id
due_in i None bs id p h = cc
due_in i (Some n) bs id p h = due_with i (operation_of n) bs id p h

garbled_is : {A : Type 0} (o : Option A) (id : ℕ) (p : Problem) → ok_or o Garbled ≡ Err (RejectDue id p) → ⊥
garbled_is o id p h = let q = (ok_or_err o _ _ h).1 in cc

-- what follows the invoke id is what makes an invoke due a reject
abbrev DueBy : ℕ → List ℕ → ℕ → Problem → Type 0
DueBy i bs id p = invoke_numbered i (operation_in bs) (after tag.operation bs) ≡ Err (RejectDue id p)

due_body : (k : Kind) (i : ℕ) (bs : List ℕ) (id : ℕ) (p : Problem) → body_in k i bs ≡ Err (RejectDue id p) → (k ≡ kind.Invoke) × DueBy i bs id p
due_body kind.Invoke i bs id p h = (refl, err_back body.Invoke _ _ h)
due_body kind.ReturnResult i bs id p h = absurd (garbled_is (option_map body.ReturnResult (result_in bs)) id p h)
due_body kind.ReturnError i bs id p h = absurd (garbled_is (option_map body.ReturnError (shaped return_error bs)) id p h)
due_body kind.Reject i bs id p h = absurd (garbled_is (option_map body.Reject (shaped reject bs)) id p h)

pub due_after : (k : Option Kind) (o : Option ℕ) (bs : List ℕ) (id : ℕ) (p : Problem) → body_after k o bs ≡ Err (RejectDue id p) → (k ≡ Some kind.Invoke) × ((o ≡ Some id) × DueBy id bs id p)
due_after None o bs id p h = cc
due_after (Some k) None bs id p h = cc
due_after (Some k) (Some i) bs id p h =
    let q = due_body k i bs id p (err_back (with_id i) _ _ h) in
    let same : i ≡ id = due_in i (operation_in bs) (after tag.operation bs) id p q.1 in
    (ap Some q.0, (ap Some same, subst (λ (n : ℕ). DueBy n bs id p) same q.1))

lawful_id : (o : Option (List ℕ)) (id : ℕ) → must id_in o ≡ Some id → 1 ≤ id
lawful_id None id h = cc
lawful_id (Some v) id h = (id_in_back v id h).1.1

pub due_id : (bs : List ℕ) (id : ℕ) (p : Problem) → received_as bs ≡ Err (RejectDue id p) → 1 ≤ id
due_id bs id p h = lawful_id (value tag.id (after tag.kind bs)) id (due_after (kind_in bs) _ _ id p h).1.0

pub read_lawful : (bs : List ℕ) (r : Result Apdu NoApdu) → Bytes bs → r ≡ received_as bs → Lawful r
read_lawful bs (Ok a) bytes e = (read_writes_back bs a bytes (sym e)).1.0
read_lawful bs (Err (RejectDue id problem)) bytes e = due_id bs id problem (sym e)
read_lawful bs (Err Garbled) bytes e = tt
