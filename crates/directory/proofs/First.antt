-- The first record with a key stands at the place that is found for the key. Assumes nothing.
use Rattle.std.proofs.Common.{◌≡◌, ℕ, Bool, List, length, Some, None, ◌≤◌, slice_get, slice_index_or, ap, ◌∙◌, arith}
use Rattle.std.proofs.lemmas.Bool.Decides.{nat_tests}
use Rattle.std.proofs.lemmas.List.Folds.{find_at}
use Rattle.std.proofs.lemmas.List.Quantifiers.{position-Some}
use Rattle.std.proofs.lemmas.Option.{slice_get-get_or, slice_get_past}
use Rattle.std.specs.List.{position_or_len}
use Rattle.directory.specs.Found.{first_at, first_with}

module _ {R K : Type 0} (same : K → K → Bool) (key : R → K) where
  -- the place that is found, and that none is
  pub place_found : (xs : List R) (q : K) (i : ℕ) → first_at same key xs q ≡ Some i → position_or_len (λ x. same (key x) q) xs ≡ i
  place_found xs q i e = grind (arith, nat_tests)

  pub place_past : (xs : List R) (q : K) → first_at same key xs q ≡ None → length xs ≤ position_or_len (λ x. same (key x) q) xs
  place_past xs q e = grind (arith, nat_tests)

  pub first_with_some : (xs : List R) (q : K) (i : ℕ) (d : R) → first_at same key xs q ≡ Some i → first_with same key xs q ≡ Some (slice_index_or xs i d)
  first_with_some xs q i d e =
      find_at (λ x. same (key x) q) xs ∙ ap (slice_get xs) (place_found xs q i e) ∙ slice_get-get_or xs i d (position-Some (λ x. same (key x) q) xs i d e).0

  pub first_with_none : (xs : List R) (q : K) → first_at same key xs q ≡ None → first_with same key xs q ≡ None
  first_with_none xs q e = find_at (λ x. same (key x) q) xs ∙ slice_get_past xs _ (place_past xs q e)
