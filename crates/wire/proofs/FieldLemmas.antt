-- A field that is written is read, and the reverse. Assumes nothing.
use Rattle.std.proofs.Common.{◌≡◌, ℕ, ◌+◌, ◌*◌, ◌/◌, ◌%◌, ◌<◌, true, eqb, leb, List, [], ◌∷◌, ◌++◌, length, take, drop, Some, None, Option, sym, refl, ap, ◌∙◌, subst, ⊎_elim, arith}
use Rattle.std.proofs.lemmas.Option.{cond_some, none-some}
use Rattle.std.proofs.lemmas.List.{get_or-append-add, take_at, drop_at, length-append, take-append-drop, length-take-le}
use Rattle.std.proofs.lemmas.Bool.{le-leb, leb-true, cases_Bool, eq-eqb, eqb-true}
use Rattle.wire.specs.Fields.{Bytes, Cut, cut, next_field, value_in, rest_of, value, after, field, optional_field}

-- one field that is written is read

cut_there : (t : ℕ) (v rest : List ℕ) (n : ℕ) → n ≡ length v → cut t n (v ++ rest) ≡ Some (record { tag = t; value = v; rest = rest })
cut_there t v rest n e =
    let h : leb n (length (v ++ rest)) ≡ true = le-leb _ _ (simp length-append (omega arith)) in
    let a : take n (v ++ rest) ≡ v = take_at v rest n (sym e) in
    let b : drop n (v ++ rest) ≡ rest = drop_at v rest n (sym e) in
    simp (h, a, b)

pub next_there : (t : ℕ) (v rest : List ℕ) → length v < 65536 → next_field (field t v ++ rest) ≡ Some (record { tag = t; value = v; rest = rest })
next_there t v rest h =
    let p : leb 3 (length (field t v ++ rest)) ≡ true = le-leb _ _ (omega arith) in
    rw p (cut_there t v rest _ (omega arith))

pub value_there : (t : ℕ) (v rest : List ℕ) → length v < 65536 → value t (field t v ++ rest) ≡ Some v
value_there t v rest h = let e : eqb t t ≡ true = eq-eqb t t refl in ap (value_in t) (next_there t v rest h) ∙ rw e

pub after_there : (t : ℕ) (v rest : List ℕ) → length v < 65536 → after t (field t v ++ rest) ≡ rest
after_there t v rest h = let e : eqb t t ≡ true = eq-eqb t t refl in ap (rest_of t (field t v ++ rest)) (next_there t v rest h) ∙ rw e

-- one field that is read, and what follows it, are the bytes

cut_back : (t h l : ℕ) (rest : List ℕ) (f : Cut) → l < 256 → cut t (h * 256 + l) rest ≡ Some f → field f.tag f.value ++ f.rest ≡ t ∷ h ∷ l ∷ rest
cut_back t h l rest f k e =
    let p = cond_some _ _ f e in
    let n : length (take (h * 256 + l) rest) ≡ h * 256 + l = length-take-le _ rest (leb-true _ _ p.0) in
    let q : (h * 256 + l) / 256 ≡ h = omega arith in
    let r : (h * 256 + l) % 256 ≡ l = omega arith in
    let base : field t (take (h * 256 + l) rest) ++ drop (h * 256 + l) rest ≡ t ∷ h ∷ l ∷ rest = simp (n, q, r, take-append-drop) in
    subst (λ (g : Cut). field g.tag g.value ++ g.rest ≡ t ∷ h ∷ l ∷ rest) p.1 base

pub next_back : (bs : List ℕ) (f : Cut) → Bytes bs → next_field bs ≡ Some f → field f.tag f.value ++ f.rest ≡ bs
next_back [] f b e = absurd (none-some f e)
next_back (x ∷ []) f b e = absurd (none-some f e)
next_back (x ∷ y ∷ []) f b e = absurd (none-some f e)
next_back (t ∷ h ∷ l ∷ bs) f b e = let p : leb 3 (length (t ∷ h ∷ l ∷ bs)) ≡ true = le-leb _ _ (omega arith) in cut_back t h l bs f (b 2) (rw p at e)

back_by : (t : ℕ) (bs : List ℕ) → Bytes bs → (o : Option Cut) → next_field bs ≡ o → optional_field t (value_in t o) ++ rest_of t bs o ≡ bs
back_by t bs b None e = refl
back_by t bs b (Some f) e = ⊎_elim (λ y. let q : f.tag ≡ t = eqb-true _ _ y in rw y (subst (λ (u : ℕ). field u f.value ++ f.rest ≡ bs) q (next_back bs f b e))) (λ n. rw n) (cases_Bool (eqb f.tag t))

pub field_back : (t : ℕ) (bs : List ℕ) → Bytes bs → optional_field t (value t bs) ++ after t bs ≡ bs
field_back t bs b = back_by t bs b (next_field bs) refl

-- what stands behind some bytes is bytes
pub bytes_behind : (w rest : List ℕ) → Bytes (w ++ rest) → Bytes rest
bytes_behind w rest b i = subst (λ (x : ℕ). x < 256) (get_or-append-add w rest i 0) (b (length w + i))

pub bytes_after : (t : ℕ) (bs : List ℕ) → Bytes bs → Bytes (after t bs)
bytes_after t bs b = bytes_behind (optional_field t (value t bs)) (after t bs) (subst Bytes (sym (field_back t bs b)) b)
