-- Lists of adding and removing, and what holds after each.
use Rattle.std.specs.Prelude.{◌≡◌, ℕ, ◌≤◌, true, false, if◌then◌else◌, ◌⊎◌, List, [], ◌∷◌, length, is_ok, Ok, ◌≢◌, nat_eq, slice_index_or}
use Rattle.std.specs.List.{AllPairs}
use Rattle.directory.specs.declared.directory.Directory.{Directory}
use Rattle.directory.specs.Contents.{contents, places, stored, without}
use Rattle.directory.specs.Found.{first_at}
use Rattle.directory.specs.Steps.{known, add_answer}

-- what may be done with a directory
pub data Change (R : Type 0) : Type 0 where
  -- of a record
  adding : R → Change R
  -- by its key
  removing : ℕ → Change R

module _ {R : Type 0} (key : R → ℕ) where
  -- the directory after adding x, done or refused
  abbrev pub added : Directory R → R → Directory R
  added d x = if is_ok (add_answer nat_eq key (places d) (contents d) x) then stored d x else d

  -- no two places hold records with one key
  abbrev pub NoKeyTwice : List R → Type 0
  NoKeyTwice xs = AllPairs (λ x y. key x ≢ key y) xs

  module _ (blank : R) where
    -- the directory after removing the record with a key, done or refused
    abbrev pub taken_out : Directory R → ℕ → Directory R
    taken_out d q = without blank d (first_at nat_eq key (contents d) q)

    -- the directory after a change, done or refused
    abbrev pub changed : Directory R → Change R → Directory R
    changed d (adding x) = added d x
    changed d (removing q) = taken_out d q

    -- the directory after changes, in order
    abbrev pub after : Directory R → List (Change R) → Directory R
    after d [] = d
    after d (c ∷ cs) = after (changed d c) cs

    -- what is to hold of the free places of a directory over memory that held the list lent
    pub record Freeing (lent : List R) (d : Directory R) : Type 0 where
      -- no place is lost
      pub size : places d ≡ length lent
      -- a free place holds the blank record, or what it held when it was lent
      pub erased :
          (k : ℕ) (x : R) → d.count ≤ k
          → (slice_index_or d.records.now k x ≡ blank)
          ⊎ (slice_index_or d.records.now k x ≡ slice_index_or lent k x)
      -- the place that removing frees holds the blank record
      pub cleared :
          (q : ℕ) (x : R) → known nat_eq key (contents d) q ≡ true
          → slice_index_or (taken_out d q).records.now (taken_out d q).count x ≡ blank
      -- once it is removed, a key is not there
      pub gone : (q : ℕ) → known nat_eq key (contents (taken_out d q)) q ≡ false
      -- and the place that it frees is used again
      pub reused :
          (q : ℕ) (x : R) → known nat_eq key (contents d) q ≡ true
          → known nat_eq key (contents (taken_out d q)) (key x) ≡ false
          → add_answer nat_eq key (places d) (contents (taken_out d q)) x ≡ Ok tt

  -- after every list of adding and removing no two records have one key, whatever the blank record
  abbrev pub NeverTwoOfAKey : Directory R → Type 0
  NeverTwoOfAKey d = (blank : R) (cs : List (Change R)) → NoKeyTwice (contents (after blank d cs))

  -- after every list of them a freed place is erased, and used again
  abbrev pub FreedIsErasedAndReused : Directory R → Type 0
  FreedIsErasedAndReused d =
      (blank : R) (cs : List (Change R)) → Freeing blank d.records.now (after blank d cs)
