-- The record at the front of some bytes: what is written is read, and the reverse. Assumes nothing.
use Rattle.std.proofs.Common.{◌≡◌, ℕ, suc, ◌+◌, ◌*◌, ◌/◌, ◌%◌, true, leb, List, ◌++◌, length, Some, Option, sym, ap, ◌∙◌, subst, arith}
use Rattle.std.proofs.lemmas.Option.{same_Some}
use Rattle.std.proofs.lemmas.List.{take_at, drop_at, length-append}
use Rattle.std.proofs.lemmas.Bool.{le-leb}
use Rattle.wire.specs.Fields.{Bytes, Cut, next_field, field}
use Rattle.wire.proofs.FieldLemmas.{next_back}
use Rattle.wire.proofs.Options.{bind_back}
use Rattle.records.specs.Parts.{◌>>=◌}
use Rattle.records.specs.Laws.{AtFront, at_front, ReadWritesBack}
use Rattle.records.proofs.PartLemmas.{bytes_before}

-- a field that is written is read, whatever its length and whatever follows it
pub field_there : (t : ℕ) (v rest : List ℕ) → next_field (field t v ++ rest) ≡ Some (record { tag = t; value = v; rest = rest })
field_there t v rest =
    let n : ℕ = length v / 256 * 256 + length v % 256 in
    let is : length v ≡ n = omega arith in
    let head : leb 3 (length (field t v ++ rest)) ≡ true = le-leb 3 _ (omega arith) in
    let body : leb n (length (v ++ rest)) ≡ true = le-leb n _ (omega (arith, length-append v rest)) in
    rw (head, body, take_at v rest n is, drop_at v rest n is)

module _ {R : Type 0} (read : ℕ → List ℕ → Option R) where
  -- what a value is read as, and then the rest
  abbrev then_rest : List ℕ → Option R → Option (AtFront R)
  then_rest rest o = o >>= λ e. Some (record { entry = e; rest = rest })

  pub front_there : (t : ℕ) (v rest : List ℕ) (e : R) → read t v ≡ Some e → at_front read (field t v ++ rest) ≡ Some (record { entry = e; rest = rest })
  front_there t v rest e h = ap (λ (o : Option Cut). o >>= λ f. then_rest f.rest (read f.tag f.value)) (field_there t v rest) ∙ ap (then_rest rest) h

  pub front_back : (written : R → List ℕ) (Sized : R → Type 0) → ((t : ℕ) (v : List ℕ) (e : R) → Bytes v → read t v ≡ Some e → (written e ≡ field t v) × Sized e) → ReadWritesBack read written Sized
  front_back written Sized back bs e rest all h =
      let p = bind_back (next_field bs) (λ f. then_rest f.rest (read f.tag f.value)) _ h in
      let f : Cut = p.0 in
      let q = bind_back (read f.tag f.value) _ _ p.1.1 in
      let whole : field f.tag f.value ++ f.rest ≡ bs = next_back bs f all p.1.0 in
      let values : Bytes f.value = bytes_before f.value f.rest (λ i. subst Bytes (sym whole) all (suc (suc (suc i)))) in
      let same = same_Some _ _ q.1.1 in
      let is : q.0 ≡ e = ap (λ (x : AtFront R). x.entry) same in
      let b = back f.tag f.value q.0 values q.1.0 in
      let written_is : written q.0 ++ f.rest ≡ bs = ap (λ (xs : List ℕ). xs ++ f.rest) b.0 ∙ whole in
      (subst (λ (x : AtFront R). written x.entry ++ x.rest ≡ bs) same written_is, subst Sized is b.1)
