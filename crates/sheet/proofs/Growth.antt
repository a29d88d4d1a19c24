-- One adding after another. Assumes nothing.
use Rattle.std.proofs.Common.{◌≡◌, ℕ, ◌+◌, ◌<◌, ◌≤◌, true, List, [], ◌∷◌, ◌++◌, length, take, is_ok, is_err, if◌then◌else◌, OnErr, Ok, Err, vec_items, vec_len, vec_capacity, Result, Vec, sym, ap, ◌∙◌, arith, append-nil}
use lib.Seq.{take-append-add}
use Rattle.std.proofs.lemmas.Bool.{false≢true}
use Rattle.std.proofs.lemmas.Grind.{flat_map-append}
use Rattle.std.proofs.lemmas.List.{append_assoc, length-append, take-append-le}
use Rattle.wire.specs.declared.writer.Writer.{Writer}
use Rattle.wire.specs.Fronts.{written as wire_written, Wrote}
use Rattle.records.specs.Sheet.{SheetEntry, sheet_bytes}
use Rattle.sheet.specs.Adds.{bytes_of, Adds}

-- what a writer that stood at the front has written
pub front_taken : {w v : Writer} {bs : List ℕ} → w.at ≡ 0 → Wrote w bs v → take v.at v.out.now ≡ bs
unfolding wire_written
front_taken {w} {v} {bs} e h = h.before ∙ ap (λ (n : ℕ). take n w.out.now ++ bs) e

module _ {Z E : Type 0} where
  -- a second adding behind one that was done
  pub adds_then : (r : Result (Unit {0}) E) (u v w : Vec ℕ Z) (a b : List SheetEntry) → Adds {E = E} (Ok tt) u v a → Adds r v w b → Adds r u w (a ++ b)
  adds_then (Ok x) u v w a b p q =
      record {
        done = q.done ∙ ap (λ (xs : List ℕ). xs ++ bytes_of b) p.done ∙ append_assoc (vec_items u) (bytes_of a) (bytes_of b) ∙ ap (λ (xs : List ℕ). vec_items u ++ xs) (sym (flat_map-append sheet_bytes a b));
        whole = tt;
        short = tt;
        room = omega (arith, p.room, q.room);
      }
  adds_then (Err e) u v w a b p q =
      let n : vec_len v ≡ vec_len u + length (bytes_of a) = v.ok.0 ∙ ap length p.done ∙ length-append (vec_items u) (bytes_of a) ∙ ap (λ (k : ℕ). k + length (bytes_of a)) (sym u.ok.0) in
      let all : length (bytes_of (a ++ b)) ≡ length (bytes_of a) + length (bytes_of b) = ap length (flat_map-append sheet_bytes a b) ∙ length-append (bytes_of a) (bytes_of b) in
      let first : take (length a + q.whole.n) (a ++ b) ≡ a ++ take q.whole.n b = take-append-add a b q.whole.n in
      let items : vec_items w ≡ vec_items u ++ bytes_of (take (length a + q.whole.n) (a ++ b)) =
      q.whole.items ∙ ap (λ (xs : List ℕ). xs ++ bytes_of (take q.whole.n b)) p.done ∙ append_assoc (vec_items u) (bytes_of a) (bytes_of (take q.whole.n b)) ∙ ap (λ (xs : List ℕ). vec_items u ++ xs) (sym (flat_map-append sheet_bytes a (take q.whole.n b))) ∙ ap (λ (es : List SheetEntry). vec_items u ++ bytes_of es) (sym first) in
      record {
        done = tt;
        whole = record { n = length a + q.whole.n; few = omega (arith, q.whole.few, length-append a b); items = items };
        short = omega (arith, p.room, q.short, n, all);
        room = omega (arith, p.room, q.room);
      }

  -- one that failed would have failed with more, and so does the call that passes the failure on
  pub adds_short : (e : E) (r : Result (Unit {0}) E) (u v : Vec ℕ Z) (a b : List SheetEntry) → is_err r ≡ true → Adds (Err e) u v a → Adds r u v (a ++ b)
  adds_short e (Ok x) u v a b failed p = absurd (false≢true failed)
  adds_short e (Err d) u v a b failed p =
      let all : length (bytes_of (a ++ b)) ≡ length (bytes_of a) + length (bytes_of b) = ap length (flat_map-append sheet_bytes a b) ∙ length-append (bytes_of a) (bytes_of b) in
      let first : take p.whole.n (a ++ b) ≡ take p.whole.n a = take-append-le p.whole.n a b (omega (arith, p.whole.few)) in
      record {
        done = tt;
        whole = record { n = p.whole.n; few = omega (arith, p.whole.few, length-append a b); items = p.whole.items ∙ ap (λ (es : List SheetEntry). vec_items u ++ bytes_of es) (sym first) };
        short = omega (arith, p.short, all);
        room = p.room;
      }

  -- a record that is added as one slice
  pub adds_slice : (r : Result (Unit {0}) E) (u v : Vec ℕ Z) (bs : List ℕ) (e : SheetEntry) → bs ≡ sheet_bytes e → vec_items v ≡ (if is_ok r then vec_items u ++ bs else vec_items u) → vec_capacity u ≤ vec_capacity v → OnErr r (vec_capacity u < vec_len u + length bs) → Adds r u v (e ∷ [])
  adds_slice (Ok x) u v bs e is items room full =
      record {
        done = items ∙ ap (λ (xs : List ℕ). vec_items u ++ xs) (is ∙ sym (append-nil (sheet_bytes e)));
        whole = tt;
        short = tt;
        room = room;
      }
  adds_slice (Err d) u v bs e is items room full =
      let size : length bs ≡ length (bytes_of (e ∷ [])) = ap length (is ∙ sym (append-nil (sheet_bytes e))) in
      record {
        done = tt;
        whole = record { n = 0; few = omega arith; items = items ∙ sym (append-nil (vec_items u)) };
        short = omega (arith, full, size);
        room = room;
      }
