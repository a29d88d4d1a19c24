-- A tape in pieces, one after another. Assumes nothing.
use Rattle.std.proofs.Common.{◌≡◌, ℕ, zero, suc, ◌+◌, ◌-◌, ◌≤◌, false, cond, leb, List, [], ◌∷◌, length, take, drop, Some, None, Option, Result, sym, refl, ap, ◌∙◌, ⊎_elim, arith, length-drop, eq-eqb, ne_eqb}
use Rattle.std.proofs.lemmas.Option.{none-some}
use borrow.Author.Tests.{eqb-false}
use Rattle.std.proofs.lemmas.Bool.{cases_Bool, leb-true}
use Rattle.wire.specs.Fields.{Cut, cut, next_field, is_nothing}
use Rattle.records.specs.Tape.{tape_read}
use Rattle.refusal.specs.declared.Refusal.{Refusal}
use Rattle.exchange.specs.declared.service.Service.{Service}
use Rattle.sheet.specs.Bench.{BenchView, AfterRecord, first_taken, record_taken}
use Rattle.sheet.specs.Run.{Piece, whole, cut_off, piece, pieces, pieces_of, blank, record_after, run_on, run_from, run_pieces, sheet_entries}

cut_shorter : (t n : ℕ) (bs : List ℕ) (f : Cut) → cut t n bs ≡ Some f → length f.rest ≤ length bs
cut_shorter t n bs f e =
    ⊎_elim
    (λ y. let is : f.rest ≡ drop n bs = (let s : cut t n bs ≡ Some (record { tag = t; value = take n bs; rest = drop n bs }) = rw y in cc) in omega (arith, ap length is, length-drop n bs))
    (λ y. absurd (none-some _ (rw y at e)))
    (cases_Bool (leb n (length bs)))

-- a record takes at least its head
pub rest_shorter : (bs : List ℕ) (f : Cut) → next_field bs ≡ Some f → length f.rest + 3 ≤ length bs
rest_shorter bs f e =
    ⊎_elim
    (λ y. omega (arith, cut_shorter _ _ (drop 3 bs) f (rw y at e), length-drop 3 bs, leb-true 3 (length bs) y))
    (λ y. absurd (none-some _ (rw y at e)))
    (cases_Bool (leb 3 (length bs)))

no_pieces : (n : ℕ) (bs : List ℕ) → length bs ≤ 0 → pieces n bs ≡ []
no_pieces zero bs h = refl
no_pieces (suc n) bs h = let z : length bs ≡ 0 = omega arith in rw (eq-eqb (length bs) 0 z)

-- any number of pieces that suffices gives the same
pieces_enough : (n m : ℕ) (bs : List ℕ) → length bs ≤ n → length bs ≤ m → pieces n bs ≡ pieces m bs
pieces_enough zero m bs h k = sym (no_pieces m bs h)
pieces_enough (suc n) zero bs h k = no_pieces (suc n) bs k
pieces_enough (suc n) (suc m) bs h k =
    ap (λ (ps : List Piece). cond (is_nothing bs) [] ps)
    (elim (next_field bs) as (λ o. next_field bs ≡ o → piece (pieces n) o ≡ piece (pieces m) o) [
      | None ↦ λ e. refl
      | Some f ↦ λ e. let s = rest_shorter bs f e in ap (λ (ps : List Piece). whole f.tag f.value ∷ ps) (pieces_enough n m f.rest (omega arith) (omega arith))
    ]
    refl)

-- the pieces of bytes that are there
some_pieces : (bs : List ℕ) (o : Option Cut) → is_nothing bs ≡ false → next_field bs ≡ o → (k : ℕ) × (length bs ≡ suc k) × (pieces_of bs ≡ piece (pieces k) o)
some_pieces bs o y e =
    let ne : length bs ≡ 0 → ⊥ = eqb-false (length bs) 0 y in
    let k : ℕ = length bs - 1 in
    let is : length bs ≡ suc k = omega (arith, ne) in
    (k, is, ap (λ (n : ℕ). pieces n bs) is ∙ rw y (ap (piece (pieces k)) e))

pub pieces_whole : (bs : List ℕ) (f : Cut) → next_field bs ≡ Some f → pieces_of bs ≡ whole f.tag f.value ∷ pieces_of f.rest
pieces_whole bs f e =
    let s = rest_shorter bs f e in
    let y : is_nothing bs ≡ false = ne_eqb (length bs) 0 (λ z. omega arith) in
    let p = some_pieces bs (Some f) y e in
    p.2 ∙ ap (λ (ps : List Piece). whole f.tag f.value ∷ ps) (pieces_enough p.0 (length f.rest) f.rest (omega (arith, p.1)) (omega arith))

-- bytes that are there, but no whole record
pub pieces_cut : (bs : List ℕ) → next_field bs ≡ None → is_nothing bs ≡ false → pieces_of bs ≡ cut_off ∷ []
pieces_cut bs e y = (some_pieces bs None y e).2

-- one record of the tape, and its record of the sheet
pub turn : (b : BenchView) (bs : List ℕ) (f : Cut) (a : AfterRecord) → next_field bs ≡ Some f → a ≡ record_taken b (tape_read f.tag f.value) blank → record_after a ∷ run_on a.bench (pieces_of f.rest) ≡ run_on b (pieces_of bs)
turn b bs f a next after =
    let rest : List Piece = pieces_of f.rest in
    ap (λ (r : AfterRecord). record_after r ∷ run_on r.bench rest) after ∙ ap (run_on b) (sym (pieces_whole bs f next))

-- the first record decides the run
pub first : (bs : List ℕ) (f : Cut) (r : Result Service Refusal) → next_field bs ≡ Some f → r ≡ first_taken (tape_read f.tag f.value) → sheet_entries bs ≡ run_from r (pieces_of f.rest)
first bs f r next after = ap run_pieces (pieces_whole bs f next) ∙ ap (λ (x : Result Service Refusal). run_from x (pieces_of f.rest)) (sym after)
