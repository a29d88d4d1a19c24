-- Each sort of value that is written is read, and the reverse. Assumes nothing.
use Rattle.std.proofs.Common.{◌≡◌, ℕ, ◌+◌, Bool, true, false, eqb, ◌⊎◌, List, [], ◌∷◌, ◌++◌, length, take, drop, Some, None, Option, sym, refl, ap, ◌∙◌, subst, inl, inr, ⊎_elim, arith}
use Rattle.std.proofs.lemmas.Option.{cond_some, none-some, same_Some}
use Rattle.std.specs.Option.{option_map}
use Rattle.std.proofs.lemmas.List.{length-append, length-drop, length-take-le, take_at, drop_at, take-append-drop, nil_from_length}
use Rattle.std.proofs.lemmas.Bool.{eq-eqb, eqb-true, cases_Bool}
use Rattle.wire.specs.Codes.{coded}
use Rattle.wire.specs.Fields.{flagged}
use Rattle.wire.specs.FieldValues.{IfAny, OfSize, one, exact, pair, must, may, flag, either}
use Rattle.wire.proofs.Options.{mapped_back}

-- codes

pub coded_back : {A : Type 0} (number : A → ℕ) (xs : List A) (n : ℕ) (x : A) → coded number xs n ≡ Some x → number x ≡ n
coded_back number [] n x e = absurd (none-some x e)
coded_back number (y ∷ ys) n x e =
    ⊎_elim
    (λ h. let q : y ≡ x = same_Some y x (rw h at e) in ap number (sym q) ∙ sym (eqb-true n (number y) h))
    (λ h. coded_back number ys n x (rw h at e))
    (cases_Bool (eqb n (number y)))

-- one byte

pub one_back : (v : List ℕ) (n : ℕ) → one v ≡ Some n → n ∷ [] ≡ v
one_back [] n e = absurd (none-some n e)
one_back (x ∷ []) n e = let q : n ≡ x = cc in ap (λ y. y ∷ []) q
one_back (x ∷ y ∷ v) n e = let l : length (x ∷ y ∷ v) ≡ 1 = eqb-true _ _ (cond_some _ _ n e).0 in absurd (omega arith)

-- bytes of a known size

pub exact_there : (n : ℕ) (v : List ℕ) → length v ≡ n → exact n v ≡ Some v
exact_there n v h = let e : eqb (length v) n ≡ true = eq-eqb _ _ h in rw e

pub exact_back : (n : ℕ) (v w : List ℕ) → exact n v ≡ Some w → (w ≡ v) × OfSize n w
exact_back n v w e =
    let p = cond_some (eqb (length v) n) v w e in
    (sym p.1, subst (λ (x : List ℕ). length x ≡ n) p.1 (eqb-true _ _ p.0))

pub pair_there : (n m : ℕ) (v w : List ℕ) → length v ≡ n → length w ≡ m → pair n m (v ++ w) ≡ Some (v, w)
pair_there n m v w a b =
    let e : eqb (length (v ++ w)) (n + m) ≡ true = eq-eqb _ _ (simp length-append (omega arith)) in
    let s : take n (v ++ w) ≡ v = take_at v w n a in
    let t : drop n (v ++ w) ≡ w = drop_at v w n a in
    rw e (λ i. Some (s i, t i))

pub pair_back : (n m : ℕ) (v : List ℕ) (p : List ℕ × List ℕ) → pair n m v ≡ Some p → (p.0 ++ p.1 ≡ v) × ((length p.0 ≡ n) × (length p.1 ≡ m))
pair_back n m v p e =
    let c = cond_some (eqb (length v) (n + m)) (take n v, drop n v) p e in
    let l : length v ≡ n + m = eqb-true _ _ c.0 in
    let first : length (take n v) ≡ n = length-take-le n v (omega arith) in
    let second : length (drop n v) ≡ m = omega (arith, length-drop n v) in
    subst (λ (q : List ℕ × List ℕ). (q.0 ++ q.1 ≡ v) × ((length q.0 ≡ n) × (length q.1 ≡ m))) c.1 (take-append-drop n v, (first, second))

-- a value as it is read (f) and as it is written (g), in a field that has to be there or may be there

pub must_back : {A : Type 0} (f : List ℕ → Option A) (g : A → List ℕ) (P : A → Type 0) → ((v : List ℕ) (x : A) → f v ≡ Some x → (g x ≡ v) × P x) → (o : Option (List ℕ)) (x : A) → must f o ≡ Some x → (Some (g x) ≡ o) × P x
must_back f g P b None x e = absurd (none-some x e)
must_back f g P b (Some v) x e = let p = b v x e in (ap Some p.0, p.1)

pub may_there : {A : Type 0} (f : List ℕ → Option A) (g : A → List ℕ) (P : A → Type 0) → ((x : A) → P x → f (g x) ≡ Some x) → (o : Option A) → IfAny P o → may f (option_map g o) ≡ Some o
may_there f g P t None z = refl
may_there f g P t (Some x) z = ap (option_map Some) (t x z)

pub may_back : {A : Type 0} (f : List ℕ → Option A) (g : A → List ℕ) (P : A → Type 0) → ((v : List ℕ) (x : A) → f v ≡ Some x → (g x ≡ v) × P x) → (o : Option (List ℕ)) (y : Option A) → may f o ≡ Some y → (option_map g y ≡ o) × IfAny P y
may_back f g P b None y e = let q : None ≡ y = same_Some None y e in subst (λ (z : Option _). (option_map g z ≡ None) × IfAny P z) q (refl, tt)
may_back f g P b (Some v) y e =
    let p = mapped_back Some (f v) y e in
    let r = b v p.0 p.1.0 in
    subst (λ (z : Option _). (option_map g z ≡ Some v) × IfAny P z) p.1.1 (ap Some r.0, r.1)

pub flag_there : (b : Bool) → flag (flagged b) ≡ Some b
flag_there true = refl
flag_there false = refl

pub flag_back : (o : Option (List ℕ)) (b : Bool) → flag o ≡ Some b → flagged b ≡ o
flag_back None b e = ap flagged (sym (same_Some false b e))
flag_back (Some v) b e = let p = cond_some (eqb (length v) 0) true b e in ap flagged (sym p.1) ∙ ap Some (sym (nil_from_length v (eqb-true _ _ p.0)))

-- one of two values is there, and the other is not
pub either_back :
    {A : Type 0} (f g : List ℕ → Option A) (a b : Option (List ℕ)) (x : A) → either f g a b ≡ Some x →
    ((v : List ℕ) × ((a ≡ Some v) × ((b ≡ None) × (f v ≡ Some x)))) ⊎ ((w : List ℕ) × ((a ≡ None) × ((b ≡ Some w) × (g w ≡ Some x))))
either_back f g None None x e = absurd (none-some x e)
either_back f g (Some v) None x e = inl (v, (refl, (refl, e)))
either_back f g None (Some w) x e = inr (w, (refl, (refl, e)))
either_back f g (Some v) (Some w) x e = absurd (none-some x e)
