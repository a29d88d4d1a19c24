-- What the value of a field that is an invoke id is. Assumes nothing.
use Rattle.std.proofs.Common.{◌≡◌, ℕ, ◌≤◌, leb, List, length, get_or, Some, sym, ap, ◌∙◌, subst}
use Rattle.std.proofs.lemmas.Option.{cond_some}
use Rattle.std.proofs.lemmas.Bool.{leb-true}
use Rattle.wire.specs.Fields.{of_two}
use Rattle.wire.specs.FieldValues.{exact}
use Rattle.wire.proofs.Options.{bind_back}
use Rattle.wire.proofs.ValueLemmas.{exact_back}
use Rattle.values.specs.InvokeId.{numbered_id, id_in}

pub numbered_id_back : (n id : ℕ) → numbered_id n ≡ Some id → (n ≡ id) × (1 ≤ id)
numbered_id_back n id e =
    let p = cond_some (leb 1 n) n id e in
    (p.1, subst (λ (m : ℕ). 1 ≤ m) p.1 (leb-true _ _ p.0))

-- it is two bytes, and the number that they are, from 1 on
pub id_in_back : (v : List ℕ) (id : ℕ) → id_in v ≡ Some id → (length v ≡ 2) × ((of_two (get_or v 0 0) (get_or v 1 0) ≡ id) × (1 ≤ id))
id_in_back v id e =
    let p = bind_back (exact 2 v) (λ bytes. numbered_id (of_two (get_or bytes 0 0) (get_or bytes 1 0))) id e in
    let q = exact_back 2 v p.0 p.1.0 in
    let n = numbered_id_back _ id p.1.1 in
    (ap length (sym q.0) ∙ q.1, (ap (λ bytes. of_two (get_or bytes 0 0) (get_or bytes 1 0)) (sym q.0) ∙ n.0, n.1))
