-- What holds of every shape: a value that is written is read, and the reverse. Assumes nothing.
use Rattle.std.proofs.Common.{◌≡◌, ℕ, cond, List, ◌++◌, Some, None, sym, ap, ◌∙◌}
use Rattle.std.proofs.lemmas.List.{append-nil, nil_from_length}
use Rattle.std.proofs.lemmas.Bool.{eqb-true}
use Rattle.wire.specs.Fields.{Bytes, is_nothing}
use Rattle.wire.proofs.Options.{cond_back}
use Rattle.apdu.specs.Shapes.{values, behind, row_bytes, Shape, shaped, shape_bytes}
use Rattle.apdu.proofs.Rows.{Fills, Rising, row_there, row_back}

-- a shape whose tags rise, and by which what is written is read as it was, and the reverse, where P holds of what is written
pub record RoundTrip {B : Type 0} (s : Shape B) (P : B → Type 0) : Type 0 where
  pub rising : Rising s.tags
  pub fills : (x : B) → P x → Fills s.tags (s.values_of x)
  pub there : (x : B) → P x → s.from_values (s.values_of x) ≡ Some x
  pub back : (bs : List ℕ) (x : B) → s.from_values (values s.tags bs) ≡ Some x → (s.values_of x ≡ values s.tags bs) × P x

pub shape_there : {B : Type 0} (s : Shape B) (P : B → Type 0) → RoundTrip s P → (x : B) → P x → shaped s (shape_bytes s x) ≡ Some x
shape_there s P l x z =
    let r = row_there s.tags (s.values_of x) l.rising (l.fills x z) in
    (λ i. cond (is_nothing (r.1 i)) (s.from_values (r.0 i)) None) ∙ l.there x z

pub shape_back : {B : Type 0} (s : Shape B) (P : B → Type 0) → RoundTrip s P → (bs : List ℕ) (x : B) → Bytes bs → shaped s bs ≡ Some x → (shape_bytes s x ≡ bs) × P x
shape_back s P l bs x b e =
    let p = cond_back (is_nothing (behind s.tags bs)) _ x e in
    let t = l.back bs x p.1 in
    let end = nil_from_length (behind s.tags bs) (eqb-true _ _ p.0) in
    (ap (row_bytes s.tags) t.0 ∙ sym (append-nil _) ∙ ap (λ r. row_bytes s.tags (values s.tags bs) ++ r) (sym end) ∙ row_back s.tags bs b, t.1)
