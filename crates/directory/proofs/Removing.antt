-- Removing by key and removing at the place of the first record with the key. Assumes nothing.
use Rattle.std.proofs.Common.{nat_eq, sym, ◌≡◌, ℕ, suc, ◌+◌, ◌-◌, ◌<◌, ◌≤◌, Bool, List, [], ◌∷◌, ◌++◌, length, take, drop, Some, None, refl, ap, ◌∙◌, ⊎_elim, arith}
use Rattle.std.proofs.lemmas.Bool.{cases_Bool}
use Rattle.std.proofs.lemmas.List.{take_all, drop_all, append-nil}
use Rattle.std.proofs.lemmas.List.Edits.{length-remove}
use Rattle.std.proofs.Math.Seq.{take-append_seam}
use Rattle.std.specs.List.{remove, position_or_len}
use Rattle.std.proofs.lemmas.List.Quantifiers.{position-Some}
use Rattle.directory.specs.declared.directory.Directory.{Directory}
use Rattle.directory.specs.Contents.{contents, vacated, without}
use Rattle.directory.specs.Found.{first_at}
use Rattle.directory.specs.Steps.{remove_list}
use Rattle.directory.specs.Changes.{taken_out}
use Rattle.directory.proofs.First.{place_found, place_past}

remove_past : {R : Type 0} (xs : List R) (i : ℕ) → length xs ≤ i → remove xs i ≡ xs
remove_past xs i h =
    let front : take i xs ≡ xs = take_all i xs h in
    let back : drop (suc i) xs ≡ [] = drop_all (suc i) xs (omega arith) in
    rw (front, back, append-nil)

module _ {R K : Type 0} (same : K → K → Bool) (key : R → K) where
  remove_list_is : (xs : List R) (q : K) → remove_list same key xs q ≡ remove xs (position_or_len (λ x. same (key x) q) xs)
  remove_list_is [] q = refl
  remove_list_is (x ∷ xs) q =
      let p : ℕ = position_or_len (λ y. same (key y) q) xs in
      let one_more : suc p ≡ 1 + p = omega arith in
      ⊎_elim
      (λ y. rw y refl)
      (λ y. rw y (ap (λ (r : List R). x ∷ r) (remove_list_is xs q) ∙ ap (remove (x ∷ xs)) one_more))
      (cases_Bool (same (key x) q))

  pub remove_list_some : (xs : List R) (q : K) (i : ℕ) → first_at same key xs q ≡ Some i → remove_list same key xs q ≡ remove xs i
  remove_list_some xs q i e = remove_list_is xs q ∙ ap (remove xs) (place_found same key xs q i e)

  pub remove_list_none : (xs : List R) (q : K) → first_at same key xs q ≡ None → remove_list same key xs q ≡ xs
  remove_list_none xs q e = remove_list_is xs q ∙ remove_past xs _ (place_past same key xs q e)

module _ {R : Type 0} where
  -- what is in use once the record at a place is taken out
  take_vacated : (xs s : List R) (i : ℕ) (b : R) (n : ℕ) → i < length xs → n ≡ length xs - 1 → take n (remove xs i ++ b ∷ s) ≡ remove xs i
  take_vacated xs s i b n h e =
      let l : n ≡ length (remove xs i) = omega (arith, length-remove xs i h) in
      ap (λ (m : ℕ). take m (remove xs i ++ b ∷ s)) l ∙ take-append_seam (remove xs i) (b ∷ s)

  pub contents_vacated : (b : R) (d : Directory R) (i : ℕ) → i < length (contents d) → contents (vacated b d i) ≡ remove (contents d) i
  contents_vacated b d i h = take_vacated (contents d) (drop d.count d.records.now) i b _ h refl

  pub contents_taken_out : (key : R → ℕ) (b : R) (d : Directory R) (q : ℕ) → contents (taken_out key b d q) ≡ remove_list nat_eq key (contents d) q
  contents_taken_out key b d q =
      elim (first_at nat_eq key (contents d) q) as (λ o. first_at nat_eq key (contents d) q ≡ o → contents (without b d o) ≡ remove_list nat_eq key (contents d) q) [
        | None ↦ λ e. sym (remove_list_none nat_eq key (contents d) q e)
        | Some i ↦ λ e. contents_vacated b d i ((position-Some (λ x. nat_eq (key x) q) (contents d) i b e).0) ∙ sym (remove_list_some nat_eq key (contents d) q i e)
      ]
      refl
