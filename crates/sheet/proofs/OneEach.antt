-- One record of the sheet for each record of the tape. Assumes nothing.
use Rattle.std.proofs.Common.{◌≡◌, ℕ, zero, suc, List, [], ◌∷◌, length, take, map, Some, None, Ok, Err, Result, sym, refl, ap, ◌∙◌, subst}
use lib.Seq.{take-nil}
use Rattle.std.specs.List.{AllByRecursion}
use Rattle.std.proofs.lemmas.Bool.{cond_both}
use Rattle.refusal.specs.declared.Refusal.{Refusal}
use Rattle.refusal.specs.declared.Refusal.TheVariants.{Garbled}
use Rattle.wire.specs.Fields.{Cut, next_field, is_nothing}
use Rattle.exchange.specs.declared.service.Service.{Service}
use Rattle.exchange.specs.Service.{by}
use Rattle.records.specs.Sheet.{SheetEntry, sent, reported, refused, done, sheet_tag, sheet_value}
use Rattle.records.specs.Tags.{sheet_tag_number}
use Rattle.records.specs.Tape.{tape_read}
use Rattle.records.proofs.FrontLemmas.{field_there}
use Rattle.sheet.specs.Adds.{bytes_of}
use Rattle.sheet.specs.Bench.{BenchView, AfterRecord, first_taken, record_taken}
use Rattle.sheet.specs.Run.{Piece, whole, cut_off, piece, pieces, pieces_of, blank, record_after, run_on, starting, run_from, run_pieces}
use Rattle.sheet.specs.Laws.{OfSheet, number_taken, OneRecordEach}
use Rattle.sheet.proofs.Pieces.{pieces_whole}

-- a record of a sheet as a piece
pub piece_of : SheetEntry → Piece
piece_of e = whole (sheet_tag_number (sheet_tag e)) (sheet_value e)

-- the pieces of records that are written are those records
pub pieces_written : (es : List SheetEntry) → pieces_of (bytes_of es) ≡ map piece_of es
unfolding piece_of
pieces_written [] = refl
pieces_written (e ∷ es) =
    pieces_whole (bytes_of (e ∷ es)) _ (field_there (sheet_tag_number (sheet_tag e)) (sheet_value e) (bytes_of es)) ∙ ap (λ (ps : List Piece). piece_of e ∷ ps) (pieces_written es)

of_sheet : (e : SheetEntry) → OfSheet (piece_of e)
unfolding piece_of
of_sheet (sent peer apdu) = refl
of_sheet (reported name report) = refl
of_sheet (refused refusal) = refl
of_sheet done = refl

all_of_sheet : (es : List SheetEntry) → AllByRecursion OfSheet (map piece_of es)
all_of_sheet [] = tt
all_of_sheet (e ∷ es) = (of_sheet e, all_of_sheet es)

-- the first n records are those of the first n pieces

take_map : (n : ℕ) (es : List SheetEntry) → take n (map piece_of es) ≡ map piece_of (take n es)
take_map zero es = refl
take_map (suc n) [] = refl
take_map (suc n) (e ∷ es) = ap (λ (ps : List Piece). piece_of e ∷ ps) (take_map n es)

first_on : (n : ℕ) (b : BenchView) (ps : List Piece) → take n (run_on b ps) ≡ run_on b (take n ps)
first_on zero b ps = refl
first_on (suc n) b [] = refl
first_on (suc n) b (cut_off ∷ ps) = ap (λ (es : List SheetEntry). refused Garbled ∷ es) (take-nil n)
first_on (suc n) b (whole tag value ∷ ps) =
    let a : AfterRecord = record_taken b (tape_read tag value) blank in
    ap (λ (es : List SheetEntry). record_after a ∷ es) (first_on n a.bench ps)

first_from : (n : ℕ) (r : Result Service Refusal) (ps : List Piece) → take (suc n) (run_from r ps) ≡ run_from r (take n ps)
first_from n (Ok s) ps = ap (λ (es : List SheetEntry). done ∷ es) (first_on n (starting s) ps)
first_from n (Err m) ps = ap (λ (es : List SheetEntry). refused m ∷ es) (take-nil n)

first_pieces : (n : ℕ) (ps : List Piece) → take n (run_pieces ps) ≡ run_pieces (take n ps)
first_pieces zero ps = refl
first_pieces (suc n) [] = refl
first_pieces (suc n) (cut_off ∷ ps) = ap (λ (es : List SheetEntry). refused Garbled ∷ es) (take-nil n)
first_pieces (suc n) (whole tag value ∷ ps) = first_from n (first_taken (tape_read tag value)) ps

-- no piece, a cut one, or a whole one and then the others
by_pieces : (P : List Piece → Type 0) (n : ℕ) (bs : List ℕ) → P [] → P (cut_off ∷ []) → ((f : Cut) → P (whole f.tag f.value ∷ pieces n f.rest)) → P (pieces (suc n) bs)
by_pieces P n bs start last others = cond_both (is_nothing bs) [] (piece (pieces n) (next_field bs)) P (λ _. start) (λ _. elim (next_field bs) as (λ o. P (piece (pieces n) o)) [ None ↦ last | Some f ↦ others f ])

-- how many

count_on : (n : ℕ) (b : BenchView) (bs : List ℕ) → length (run_on b (pieces n bs)) ≡ length (pieces n bs)
count_on zero b bs = refl
count_on (suc n) b bs =
    by_pieces (λ ps. length (run_on b ps) ≡ length ps) n bs refl refl
    (λ f. let a : AfterRecord = record_taken b (tape_read f.tag f.value) blank in ap suc (count_on n a.bench f.rest))

count_from : (n : ℕ) (bs : List ℕ) (r : Result Service Refusal) → length (run_from r (pieces n bs)) ≡ by r (λ _. suc (length (pieces n bs))) (λ _. 1)
count_from n bs (Ok s) = ap suc (count_on n (starting s) bs)
count_from n bs (Err m) = refl

count_pieces : (n : ℕ) (bs : List ℕ) → length (run_pieces (pieces n bs)) ≡ number_taken (pieces n bs)
count_pieces zero bs = refl
count_pieces (suc n) bs = by_pieces (λ ps. length (run_pieces ps) ≡ number_taken ps) n bs refl refl (λ f. count_from n f.rest (first_taken (tape_read f.tag f.value)))

length_map : (es : List SheetEntry) → length (map piece_of es) ≡ length es
length_map [] = refl
length_map (e ∷ es) = ap suc (length_map es)

pub one_record_each : OneRecordEach
one_record_each tape =
    let ps : List Piece = pieces_of tape in
    let es : List SheetEntry = run_pieces ps in
    record {
      kinds = subst (AllByRecursion OfSheet) (sym (pieces_written es)) (all_of_sheet es);
      count = ap length (pieces_written es) ∙ length_map es ∙ count_pieces (length tape) tape;
      order = λ n. ap (take n) (pieces_written es) ∙ take_map n es ∙ ap (map piece_of) (first_pieces n ps) ∙ sym (pieces_written (run_pieces (take n ps)));
    }
