-- A row of fields that is written is read, and the reverse. Assumes nothing.
use Rattle.std.proofs.Common.{◌≡◌, ℕ, ◌<◌, false, eqb, List, [], ◌∷◌, ◌++◌, length, Some, None, Option, refl, ap, ◌∙◌, arith}
use Rattle.std.proofs.lemmas.List.{append_assoc}
use Rattle.std.proofs.lemmas.Bool.{ne_eqb}
use Rattle.wire.specs.Fields.{Bytes, value_in, rest_of, value, after, field, optional_field}
use Rattle.wire.proofs.FieldLemmas.{next_there, value_there, after_there, field_back, bytes_after}
use Rattle.apdu.specs.Shapes.{values, behind, row_bytes}

-- a value whose size two bytes can tell
abbrev pub Short : Option (List ℕ) → Type 0
Short None = Unit {0}
Short (Some v) = length v < 65536

-- one value for each tag
abbrev pub Fills : List ℕ → List (Option (List ℕ)) → Type 0
Fills [] [] = Unit {0}
Fills [] (v ∷ vs) = ⊥
Fills (t ∷ ts) [] = ⊥
Fills (t ∷ ts) (v ∷ vs) = Short v × Fills ts vs

abbrev pub Above : ℕ → List ℕ → Type 0
Above t [] = Unit {0}
Above t (u ∷ ts) = (t < u) × Above t ts

abbrev pub Rising : List ℕ → Type 0
Rising [] = Unit {0}
Rising (t ∷ ts) = Above t ts × Rising ts

-- bytes that do not begin with the tag t
abbrev Lacks : ℕ → List ℕ → Type 0
Lacks t bs = (value t bs ≡ None) × (after t bs ≡ bs)

lacks : (t : ℕ) (ts : List ℕ) (vs : List (Option (List ℕ))) → Above t ts → Fills ts vs → Lacks t (row_bytes ts vs)
lacks t [] vs a f = (refl, refl)
lacks t (u ∷ ts) [] a f = (refl, refl)
lacks t (u ∷ ts) (None ∷ vs) a f = lacks t ts vs a.1 f.1
lacks t (u ∷ ts) (Some v ∷ vs) a f =
    let rest : List ℕ = row_bytes ts vs in
    let n = next_there u v rest f.0 in
    let e : eqb u t ≡ false = ne_eqb u t (omega arith) in
    (ap (value_in t) n ∙ rw e, ap (rest_of t (field u v ++ rest)) n ∙ rw e)

pub row_there : (ts : List ℕ) (vs : List (Option (List ℕ))) → Rising ts → Fills ts vs → (values ts (row_bytes ts vs) ≡ vs) × (behind ts (row_bytes ts vs) ≡ [])
row_there [] [] r f = (refl, refl)
row_there [] (v ∷ vs) r f = absurd f
row_there (t ∷ ts) [] r f = absurd f
row_there (t ∷ ts) (None ∷ vs) r f =
    let l = lacks t ts vs r.0 f.1 in
    let h = row_there ts vs r.1 f.1 in
    ((λ i. l.0 i ∷ values ts (l.1 i)) ∙ ap (λ x. None ∷ x) h.0, ap (behind ts) l.1 ∙ h.1)
row_there (t ∷ ts) (Some v ∷ vs) r f =
    let rest : List ℕ = row_bytes ts vs in
    let p = value_there t v rest f.0 in
    let q = after_there t v rest f.0 in
    let h = row_there ts vs r.1 f.1 in
    ((λ i. p i ∷ values ts (q i)) ∙ ap (λ x. Some v ∷ x) h.0, ap (behind ts) q ∙ h.1)

pub row_back : (ts bs : List ℕ) → Bytes bs → row_bytes ts (values ts bs) ++ behind ts bs ≡ bs
row_back [] bs b = refl
row_back (t ∷ ts) bs b = append_assoc (optional_field t (value t bs)) (row_bytes ts (values ts (after t bs))) (behind ts (after t bs)) ∙ ap (λ l. optional_field t (value t bs) ++ l) (row_back ts (after t bs) (bytes_after t bs b)) ∙ field_back t bs b
