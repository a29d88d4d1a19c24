-- What one write leaves, and two. Assumes nothing.
use Rattle.std.proofs.Common.{◌≡◌, ℕ, ◌+◌, ◌-◌, ◌≤◌, List, ◌∷◌, ◌++◌, length, take, drop, sym, ap, subst, ◌∙◌, arith}
use borrow.Rule.Slice.PartMut.{put_mid}
use Rattle.std.proofs.lemmas.List.{append_assoc, take-append-drop, drop-drop, take_at, drop_at, length-append, length-take-le, length-drop}
use Rattle.wire.specs.declared.writer.Writer.{Writer}
use Rattle.wire.specs.Fields.{field, two}
use Rattle.wire.specs.Fronts.{front, written, unwritten, Wrote}

-- the part of the buffer from the writer's place on was written by a call, and is bs now
pub wrote_part : {w v : Writer} (bs ys : List ℕ) → ys ≡ bs → v.at ≡ w.at + length bs → w.at + length bs ≤ length w.out.now → v.out.now ≡ put_mid w.at (v.at - w.at) w.out.now ys → Wrote w bs v
unfolding written unwritten
wrote_part {w} {v} bs ys e k fits left =
    let xs : List ℕ = w.out.now in
    let at : length (take w.at xs) ≡ w.at = length-take-le w.at xs (omega (arith, fits)) in
    let long : length (take w.at xs ++ bs) ≡ v.at = simp length-append (omega (arith, at, k)) in
    let n : v.at - w.at ≡ length bs = omega (arith, k) in
    let is : v.out.now ≡ (take w.at xs ++ bs) ++ drop (length bs) (drop w.at xs) = simp (left, e, n, append_assoc) in
    record {
      before = ap (take v.at) is ∙ take_at (take w.at xs ++ bs) _ _ long;
      behind = ap (drop v.at) is ∙ drop_at (take w.at xs ++ bs) _ _ long;
      end = k;
      size = ap length is ∙ simp (length-append, length-drop) (omega (arith, at, fits));
    }

-- two writes, the second where the first ended, are one
pub wrote_then : {w v u : Writer} {a b : List ℕ} → Wrote w a v → Wrote v b u → Wrote w (a ++ b) u
wrote_then {w} {v} {u} {a} {b} f g = grind (arith, append_assoc, drop-drop, length-append)

-- the head of a field, and then its value
pub wrote_value : {w v u : Writer} (t n : ℕ) (bs : List ℕ) → length bs ≡ n → Wrote w (t ∷ two n) v → Wrote v bs u → Wrote w (field t bs) u
wrote_value {w} {v} {u} t n bs size head value = wrote_then (subst (λ (k : ℕ). Wrote w (t ∷ two k) v) (sym size) head) value

-- a writer that stood at the front
pub wrote_front : {w v : Writer} {bs : List ℕ} → w.at ≡ 0 → Wrote w bs v → v.out.now ≡ front bs w.out.now
unfolding written unwritten
wrote_front {w} {v} {bs} e h = sym (take-append-drop v.at v.out.now) ∙ simp (h.before, h.behind, e)
