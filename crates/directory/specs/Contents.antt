-- What a directory holds.
use Rattle.std.specs.Prelude.{ℕ, ◌+◌, ◌-◌, List, ◌∷◌, ◌++◌, length, take, drop, Some, None, Option, slice_set}
use denote.Ref.{MutBor, at_last}
use Rattle.std.specs.List.{remove}
use Rattle.directory.specs.declared.directory.Directory.{Directory}

-- the records that it holds, in order
abbrev pub contents : {R : Type 0} → Directory R → List R
contents d = take d.count d.records.now

-- how many places it was lent, used and free
abbrev pub places : {R : Type 0} → Directory R → ℕ
places d = length d.records.now

-- the directory over lent places, all of them free
abbrev pub empty_over : {R : Type 0} → MutBor (List R) → Directory R
empty_over lent = record { records = lent; count = 0 }

-- with x in the first free place; the slice and its other places stay
abbrev pub stored : {R : Type 0} → Directory R → R → Directory R
stored d x = record {
  records = at_last d.records (slice_set d.records.now d.count x);
  count = d.count + 1;
}

-- without the record at place i: those behind it move one place down, and the place that they free holds the blank
abbrev pub vacated : {R : Type 0} → R → Directory R → ℕ → Directory R
vacated blank d i = record {
  records = at_last d.records (remove (contents d) i ++ blank ∷ drop d.count d.records.now);
  count = length (contents d) - 1;
}

-- without the record at a place, if there is such a place
abbrev pub without : {R : Type 0} → R → Directory R → Option ℕ → Directory R
without blank d None = d
without blank d (Some i) = vacated blank d i
