-- Adding and removing entries, where the entry or the key may be refused before the directory is looked at.
use Rattle.std.specs.Prelude.{ℕ, List, Ok, Err, Result, nat_eq}
use Rattle.refusal.specs.declared.Refusal.{Refusal}
use Rattle.directory.specs.declared.directory.Directory.{Directory}
use Rattle.directory.specs.Steps.{add_answer, add_list, remove_answer, remove_list}
use Rattle.directory.specs.Changes.{added, taken_out}

module _ {R : Type 0} (key : R → ℕ) where
  -- the answer to adding an entry to xs, with n places in all
  abbrev pub adding_answer : ℕ → List R → Result R Refusal → Result (Unit {0}) Refusal
  adding_answer n xs (Ok x) = add_answer nat_eq key n xs x
  adding_answer n xs (Err e) = Err e

  -- the entries left
  abbrev pub adding_left : ℕ → List R → Result R Refusal → List R
  adding_left n xs (Ok x) = add_list nat_eq key n xs x
  adding_left n xs (Err e) = xs

  -- the directory left
  abbrev pub with_entry : Directory R → Result R Refusal → Directory R
  with_entry d (Ok x) = added key d x
  with_entry d (Err e) = d

  -- the answer to removing the entry with a key from xs
  abbrev pub removing_answer : List R → Result ℕ Refusal → Result (Unit {0}) Refusal
  removing_answer xs (Ok q) = remove_answer nat_eq key xs q
  removing_answer xs (Err e) = Err e

  -- the entries left
  abbrev pub removing_left : List R → Result ℕ Refusal → List R
  removing_left xs (Ok q) = remove_list nat_eq key xs q
  removing_left xs (Err e) = xs

  -- the directory left
  abbrev pub without_entry : R → Directory R → Result ℕ Refusal → Directory R
  without_entry blank d (Ok q) = taken_out key blank d q
  without_entry blank d (Err e) = d
