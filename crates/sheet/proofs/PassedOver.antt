-- A record that asks nothing changes nothing that follows. Assumes nothing.
use Rattle.std.proofs.Common.{◌≡◌, ℕ, zero, suc, ◌+◌, ◌*◌, ◌≤◌, true, leb, IsOk, List, [], ◌∷◌, ◌++◌, length, take, drop, Some, None, Ok, Err, Option, Result, sym, refl, ap, ◌∙◌, subst, ⊎_elim, arith}
use Rattle.std.specs.List.{AllByRecursion}
use Rattle.std.proofs.lemmas.Option.{cond_some, none-some}
use Rattle.std.proofs.lemmas.Bool.{cases_Bool, eqb-true, false≢true, le-leb, leb-true}
use Rattle.std.proofs.lemmas.Grind.{flat_map-append}
use Rattle.std.proofs.lemmas.List.{length-append, nil_from_length, take-append-le, drop-append-le}
use Rattle.refusal.specs.declared.Refusal.{Refusal}
use Rattle.refusal.specs.declared.Refusal.TheVariants.{Garbled}
use Rattle.wire.specs.Fields.{Cut, cut, next_field, is_nothing, field}
use Rattle.exchange.specs.declared.service.Service.{Service}
use Rattle.records.specs.Sheet.{SheetEntry, refused, done, sheet_bytes}
use Rattle.records.specs.Tape.{TapeEntry, fit_out, tape_read}
use Rattle.records.proofs.FrontLemmas.{field_there}
use Rattle.sheet.specs.Adds.{bytes_of}
use Rattle.sheet.specs.Bench.{BenchView, AfterRecord, first_taken, record_taken}
use Rattle.sheet.specs.Run.{Piece, whole, cut_off, piece, pieces, pieces_of, blank, record_after, run_on, starting, run_from, run_pieces, sheet_of}
use Rattle.sheet.specs.Laws.{IsWhole, GoesOn, AsksNothing, ChangesNothing}
use Rattle.sheet.proofs.Pieces.{rest_shorter, pieces_whole}

-- more bytes behind some do not change the record at their front

cut_on : (t n : ℕ) (bs more : List ℕ) (f : Cut) → cut t n bs ≡ Some f → cut t n (bs ++ more) ≡ Some (record { tag = f.tag; value = f.value; rest = f.rest ++ more })
cut_on t n bs more f e =
    let c = cond_some (leb n (length bs)) (record { tag = t; value = take n bs; rest = drop n bs }) f e in
    let enough : n ≤ length bs = leb-true _ _ c.0 in
    let long : leb n (length (bs ++ more)) ≡ true = le-leb _ _ (omega (arith, enough, length-append bs more)) in
    rw (long, take-append-le n bs more enough, drop-append-le n bs more enough) (ap (λ (g : Cut). Some (record { tag = g.tag; value = g.value; rest = g.rest ++ more })) c.1)

next_on : (bs more : List ℕ) (f : Cut) → next_field bs ≡ Some f → next_field (bs ++ more) ≡ Some (record { tag = f.tag; value = f.value; rest = f.rest ++ more })
next_on [] more f e = absurd (none-some f e)
next_on (x ∷ []) more f e = absurd (none-some f e)
next_on (x ∷ y ∷ []) more f e = absurd (none-some f e)
next_on (t ∷ h ∷ l ∷ bs) more f e =
    let short : leb 3 (length (t ∷ h ∷ l ∷ bs)) ≡ true = le-leb _ _ (omega arith) in
    let long : leb 3 (length (t ∷ h ∷ l ∷ (bs ++ more))) ≡ true = le-leb _ _ (omega arith) in
    rw long (cut_on t (h * 256 + l) bs more f (rw short at e))

-- whole records and what stands behind them

-- what is known of the bytes behind a record
abbrev JoinedBehind : ℕ → List ℕ → Type 0
JoinedBehind n more = (rest : List ℕ) → length rest ≤ n → AllByRecursion IsWhole (pieces n rest) → pieces_of (rest ++ more) ≡ pieces n rest ++ pieces_of more

joined_some : (n : ℕ) (bs more : List ℕ) → JoinedBehind n more → length bs ≤ suc n → (o : Option Cut) → next_field bs ≡ o → AllByRecursion IsWhole (piece (pieces n) o) → pieces_of (bs ++ more) ≡ piece (pieces n) o ++ pieces_of more
joined_some n bs more on h None e all = absurd all.0
joined_some n bs more on h (Some f) e all =
    pieces_whole (bs ++ more) _ (next_on bs more f e) ∙ ap (λ (ps : List Piece). whole f.tag f.value ∷ ps) (on f.rest (omega (arith, rest_shorter bs f e)) all.1)

joined : (n : ℕ) (bs more : List ℕ) → length bs ≤ n → AllByRecursion IsWhole (pieces n bs) → pieces_of (bs ++ more) ≡ pieces n bs ++ pieces_of more
joined zero [] more h all = refl
joined zero (b ∷ bs) more h all = absurd (omega arith)
joined (suc n) bs more h all =
    ⊎_elim
    (λ y. let none : bs ≡ [] = nil_from_length bs (eqb-true _ _ y) in rw y (ap (λ (xs : List ℕ). pieces_of (xs ++ more)) none))
    (λ y. rw y (joined_some n bs more (λ rest k a. joined n rest more k a) h (next_field bs) refl (rw y at all)))
    (cases_Bool (is_nothing bs))

-- the bench behind whole records
left_on : BenchView → List Piece → BenchView
left_on b [] = b
left_on b (cut_off ∷ ps) = b
left_on b (whole tag value ∷ ps) = left_on (record_taken b (tape_read tag value) blank).bench ps

run_joined : (b : BenchView) (ps qs : List Piece) → AllByRecursion IsWhole ps → run_on b (ps ++ qs) ≡ run_on b ps ++ run_on (left_on b ps) qs
unfolding left_on
run_joined b [] qs all = refl
run_joined b (cut_off ∷ ps) qs all = absurd all.0
run_joined b (whole tag value ∷ ps) qs all =
    let a : AfterRecord = record_taken b (tape_read tag value) blank in
    ap (λ (es : List SheetEntry). record_after a ∷ es) (run_joined a.bench ps qs all.1)

-- a run that goes on behind some pieces
record Behind (r : Result Service Refusal) (ps : List Piece) : Type 0 where
  bench : BenchView
  run : (qs : List Piece) → run_from r (ps ++ qs) ≡ run_from r ps ++ run_on bench qs

behind : (r : Result Service Refusal) (ps : List Piece) → IsOk r → AllByRecursion IsWhole ps → Behind r ps
behind (Ok s) ps ok all = record { bench = left_on (starting s) ps; run = λ qs. ap (λ (es : List SheetEntry). done ∷ es) (run_joined (starting s) ps qs all) }
behind (Err n) ps ok all = absurd (false≢true ok)

-- a run that goes on behind some bytes
record GoesBehind (before : List ℕ) : Type 0 where
  bench : BenchView
  run : (more : List ℕ) → sheet_of (before ++ more) ≡ sheet_of before ++ bytes_of (run_on bench (pieces_of more))

goes_behind : (before : List ℕ) (ps : List Piece) → pieces_of before ≡ ps → GoesOn ps → GoesBehind before
goes_behind before [] e g = absurd g
goes_behind before (cut_off ∷ ps) e g = absurd g
goes_behind before (whole tag value ∷ ps) e g =
    let r : Result Service Refusal = first_taken (tape_read tag value) in
    let b = behind r ps g.0 g.1 in
    let all : AllByRecursion IsWhole (pieces_of before) = subst (AllByRecursion IsWhole) (sym e) (tt, g.1) in
    let start : sheet_of before ≡ bytes_of (run_from r ps) = ap (λ (qs : List Piece). bytes_of (run_pieces qs)) e in
    record {
      bench = b.bench;
      run = λ more.
          let qs : List Piece = pieces_of more in
          let split : pieces_of (before ++ more) ≡ whole tag value ∷ (ps ++ qs) = joined (length before) before more (omega arith) all ∙ ap (λ (xs : List Piece). xs ++ qs) e in
          ap (λ (xs : List Piece). bytes_of (run_pieces xs)) split ∙ ap bytes_of (b.run qs) ∙ flat_map-append sheet_bytes (run_from r ps) (run_on b.bench qs) ∙ ap (λ (xs : List ℕ). xs ++ bytes_of (run_on b.bench qs)) (sym start);
    }

-- a record that asks nothing is refused with 5, and the bench stays
passed : (b : BenchView) (asked : Option TapeEntry) (ps : List Piece) → AsksNothing asked → record_after (record_taken b asked blank) ∷ run_on (record_taken b asked blank).bench ps ≡ refused Garbled ∷ run_on b ps
passed b None ps h = refl
passed b (Some (fit_out fit)) ps h = refl
passed b (Some asked) ps h = absurd h

pub changes_nothing : ChangesNothing
changes_nothing before behind tag value g asks =
    let b = goes_behind before (pieces_of before) refl g in
    let first : pieces_of (field tag value ++ behind) ≡ whole tag value ∷ pieces_of behind = pieces_whole (field tag value ++ behind) _ (field_there tag value behind) in
    let goes : run_on b.bench (pieces_of (field tag value ++ behind)) ≡ refused Garbled ∷ run_on b.bench (pieces_of behind) = ap (run_on b.bench) first ∙ passed b.bench (tape_read tag value) (pieces_of behind) asks in
    record {
      rest = bytes_of (run_on b.bench (pieces_of behind));
      without = b.run behind;
      within = b.run (field tag value ++ behind) ∙ ap (λ (es : List SheetEntry). sheet_of before ++ bytes_of es) goes;
    }
