-- Adding records of a sheet to a vector, which may find no memory.
use Rattle.std.specs.Prelude.{◌≡◌, ℕ, ◌+◌, ◌<◌, ◌≤◌, List, ◌++◌, length, take, flat_map, IfOk, IfErr, vec_items, vec_len, vec_capacity, Result, Vec}
use Rattle.records.specs.Sheet.{SheetEntry, sheet_bytes}

-- the bytes of some records, one after another
abbrev pub bytes_of : List SheetEntry → List ℕ
bytes_of records = flat_map sheet_bytes records

-- the first n of some records, and not all of them, stand behind what stood there, each whole, and nothing else
pub record AddsFirst {Z : Type 0} (before after : Vec ℕ Z) (more : List SheetEntry) : Type 0 where
  pub n : ℕ
  pub few : n < length more
  pub items : vec_items after ≡ vec_items before ++ bytes_of (take n more)

pub record Adds {Z E : Type 0} (r : Result (Unit {0}) E) (before after : Vec ℕ Z) (more : List SheetEntry) : Type 0 where
  -- where the call is done, the records stand behind what stood there
  pub done : IfOk r (λ _. vec_items after ≡ vec_items before ++ bytes_of more)
  -- where it fails, whole records alone were added, from the first on
  pub whole : IfErr r (λ _. AddsFirst before after more)
  -- it fails only where the room that was there does not suffice
  pub short : IfErr r (λ _. vec_capacity before < vec_len before + length (bytes_of more))
  pub room : vec_capacity before ≤ vec_capacity after
