-- What adding and removing a record answer and leave, under a test of keys.
use Rattle.std.specs.Prelude.{ℕ, Bool, List, [], ◌∷◌, ◌++◌, length, is_some, is_ok, Ok, Err, Result, nat_lt, if◌then◌else◌}
use Rattle.refusal.specs.declared.Refusal.{Refusal}
use Rattle.refusal.specs.declared.Refusal.TheVariants.{Stray, Twice, Full}
use Rattle.directory.specs.Found.{first_at}

module _ {R K : Type 0} (same : K → K → Bool) (key : R → K) where
  -- some record has the key
  abbrev pub known : List R → K → Bool
  known xs q = is_some (first_at same key xs q)

  -- the answer to adding x to xs, with n places in all
  abbrev pub add_answer : ℕ → List R → R → Result (Unit {0}) Refusal
  add_answer n xs x =
      if known xs (key x) then Err Twice
      else if nat_lt (length xs) n then Ok tt else Err Full

  -- the list left: longer by x where the answer is Ok
  abbrev pub add_list : ℕ → List R → R → List R
  add_list n xs x = if is_ok (add_answer n xs x) then xs ++ x ∷ [] else xs

  -- the answer to removing the record with a key from xs
  abbrev pub remove_answer : List R → K → Result (Unit {0}) Refusal
  remove_answer xs q = if known xs q then Ok tt else Err Stray

  -- the list left: without the first record that has the key
  abbrev pub remove_list : List R → K → List R
  remove_list [] q = []
  remove_list (x ∷ xs) q = if same (key x) q then xs else x ∷ remove_list xs q
