-- A record that is written is read as the same record, and one that is read is written as the same bytes.
use Rattle.std.specs.Prelude.{◌≡◌, ℕ, List, ◌++◌, Some, Option}
use Rattle.wire.specs.Fields.{Bytes, next_field}
use Rattle.records.specs.Parts.{◌>>=◌}
use Rattle.records.specs.Tape.{TapeSized, tape_read, tape_bytes}
use Rattle.records.specs.Sheet.{SheetSized, sheet_read, sheet_bytes}

-- the record at the front of some bytes, and what follows it
pub record AtFront (R : Type 0) : Type 0 where
  pub entry : R
  pub rest : List ℕ

-- the record at the front, by what a tag and a value are read as
abbrev pub at_front : {R : Type 0} → (ℕ → List ℕ → Option R) → List ℕ → Option (AtFront R)
at_front read bs = do
  f ← next_field bs
  e ← read f.tag f.value
  Some (record { entry = e; rest = f.rest })

-- a record is read where its bytes stand, whatever follows them
abbrev pub WrittenReadsBack :
    {R : Type 0} → (ℕ → List ℕ → Option R) → (R → List ℕ) → (R → Type 0) → Type 0
WrittenReadsBack {R} read written Sized =
    (e : R) (rest : List ℕ) → Sized e
    → at_front read (written e ++ rest) ≡ Some (record { entry = e; rest = rest })

-- where a record is read, its bytes stand, and then the rest; and its parts have their sizes
abbrev pub ReadWritesBack :
    {R : Type 0} → (ℕ → List ℕ → Option R) → (R → List ℕ) → (R → Type 0) → Type 0
ReadWritesBack {R} read written Sized =
    (bs : List ℕ) (e : R) (rest : List ℕ) → Bytes bs
    → at_front read bs ≡ Some (record { entry = e; rest = rest })
    → (written e ++ rest ≡ bs) × Sized e

abbrev pub TapeReadsBack : Type 0
TapeReadsBack = WrittenReadsBack tape_read tape_bytes TapeSized

abbrev pub TapeWritesBack : Type 0
TapeWritesBack = ReadWritesBack tape_read tape_bytes TapeSized

abbrev pub SheetReadsBack : Type 0
SheetReadsBack = WrittenReadsBack sheet_read sheet_bytes SheetSized

abbrev pub SheetWritesBack : Type 0
SheetWritesBack = ReadWritesBack sheet_read sheet_bytes SheetSized
