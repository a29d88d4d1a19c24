-- The first record with a key, under a test of keys.
use Rattle.std.specs.Prelude.{ℕ, Bool, List, Option, find, position}

module _ {R K : Type 0} (same : K → K → Bool) (key : R → K) where
  -- its place
  abbrev pub first_at : List R → K → Option ℕ
  first_at xs q = position (λ x. same (key x) q) xs

  -- the record itself
  abbrev pub first_with : List R → K → Option R
  first_with xs q = find (λ x. same (key x) q) xs
