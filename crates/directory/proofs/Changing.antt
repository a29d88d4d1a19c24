-- What every list of adding and removing keeps. Assumes nothing.
use Rattle.std.proofs.Common.{◌≡◌, ℕ, zero, suc, ◌+◌, ◌-◌, ◌<◌, ◌≤◌, Bool, true, false, cond, not, ◌⊎◌, List, [], ◌∷◌, length, drop, is_ok, is_some, Some, None, Ok, Err, Result, inl, inr, ◌≢◌, nat_eq, nat_lt, refl, sym, ap, ◌∙◌, subst, ⊎_elim, arith, length-take, length-set, length-drop}
use Rattle.std.specs.Prelude.{slice_index_or}
use Rattle.std.proofs.lemmas.Bool.{cases_lt, cond_both, false≢true, eq-eqb, eqb-true, ltb-true, lt-ltb}
use Rattle.std.proofs.lemmas.Bool.Decides.{nat_tests}
use Rattle.std.proofs.lemmas.List.{take_more_set, get_or-set_other, get_or-append_right, get_or-drop, length-append}
use Rattle.std.proofs.lemmas.List.Edits.{length-remove, get_or-remove_below, get_or-remove_above}
use Rattle.std.proofs.lemmas.List.Quantifiers.{all_pairs_push, all_pairs_remove, position-Some}
use Rattle.std.proofs.lemmas.List.Sums.{prefix_len_passes}
use Rattle.std.specs.List.{remove, prefix_len}
use Rattle.directory.specs.declared.directory.Directory.{Directory}
use Rattle.directory.specs.Contents.{contents, places, stored, vacated, without}
use Rattle.directory.specs.Found.{first_at}
use Rattle.directory.specs.Steps.{known, add_answer}
use Rattle.refusal.specs.declared.Refusal.{Refusal}
use Rattle.refusal.specs.declared.Refusal.TheVariants.{Twice, Full}
use Rattle.directory.specs.Changes.{Change, adding, removing, added, taken_out, after, NoKeyTwice, Freeing, NeverTwoOfAKey, FreedIsErasedAndReused}
use Rattle.directory.proofs.Removing.{contents_vacated}

abbrev decided : Bool → Bool → Result (Unit {0}) Refusal
decided twice room = cond twice (Err Twice) (cond room (Ok tt) (Err Full))

passed : (twice room : Bool) → is_ok (decided twice room) ≡ true → (twice ≡ false) × (room ≡ true)
passed true room e = absurd (false≢true e)
passed false true e = (refl, refl)
passed false false e = absurd (false≢true e)

module _ {R : Type 0} (key : R → ℕ) where
  -- a key that is not known is at no place
  unknown_differs : (xs : List R) (q : ℕ) → known nat_eq key xs q ≡ false → (k : ℕ) (d : R) → k < length xs → key (slice_index_or xs k d) ≢ q
  unknown_differs xs q unknown k d h e =
      let p : R → Bool = λ x. not (nat_eq (key x) q) in
      let reach : length xs ≤ prefix_len p xs = grind (arith, nat_tests) in
      let passes : not (nat_eq (key (slice_index_or xs k d)) q) ≡ true = prefix_len_passes p xs k d (omega arith) in
      let same : nat_eq (key (slice_index_or xs k d)) q ≡ true = eq-eqb _ _ e in
      false≢true (ap not (sym same) ∙ passes)

  -- and a key that is at no place is not known
  differs_unknown : (xs : List R) (q : ℕ) (d : R) → ((k : ℕ) → k < length xs → key (slice_index_or xs k d) ≢ q) → known nat_eq key xs q ≡ false
  differs_unknown xs q d differs =
      elim (first_at nat_eq key xs q) as (λ o. first_at nat_eq key xs q ≡ o → known nat_eq key xs q ≡ false) [
        | None ↦ λ e. rw e refl
        | Some i ↦ λ e. let found = position-Some (λ x. nat_eq (key x) q) xs i d e in absurd (differs i found.0 (eqb-true _ _ found.1))
      ]
      refl

  added_new : (n : ℕ) (xs : List R) (x : R) → is_ok (add_answer nat_eq key n xs x) ≡ true → (known nat_eq key xs (key x) ≡ false) × (length xs < n)
  added_new n xs x ok = let p = passed (known nat_eq key xs (key x)) (nat_lt (length xs) n) ok in (p.0, ltb-true (length xs) n p.1)

  module _ (blank : R) (lent : List R) where
    record Kept (d : Directory R) : Type 0 where
      fits : d.count ≤ length d.records.now
      size : places d ≡ length lent
      apart : NoKeyTwice key (contents d)
      erased : (k : ℕ) (x : R) → d.count ≤ k → (slice_index_or d.records.now k x ≡ blank) ⊎ (slice_index_or d.records.now k x ≡ slice_index_or lent k x)

    kept_stored : (d : Directory R) (x : R) → known nat_eq key (contents d) (key x) ≡ false → length (contents d) < places d → Kept d → Kept (stored d x)
    kept_stored d x new room kept =
        let long = length-take d.count d.records.now in
        let at : d.count < length d.records.now = omega arith in
        record {
          fits = omega (arith, length-set d.records.now d.count x);
          size = length-set d.records.now d.count x ∙ kept.size;
          apart = subst (NoKeyTwice key) (sym (take_more_set d.records.now d.count x at)) (all_pairs_push (λ y z. key y ≢ key z) (contents d) x kept.apart (unknown_differs (contents d) (key x) new));
          erased = λ k y h. subst (λ z. (z ≡ blank) ⊎ (z ≡ slice_index_or lent k y)) (sym (get_or-set_other d.records.now d.count k x y (omega arith))) (kept.erased k y (omega arith));
        }

    kept_added : (d : Directory R) (x : R) → Kept d → Kept (added key d x)
    kept_added d x kept =
        cond_both (is_ok (add_answer nat_eq key (places d) (contents d) x)) (stored d x) d Kept
        (λ ok. let new = added_new (places d) (contents d) x ok in kept_stored d x new.0 new.1 kept)
        (λ _. kept)

    kept_vacated : (d : Directory R) (i : ℕ) → i < length (contents d) → Kept d → Kept (vacated blank d i)
    kept_vacated d i h kept =
        let long = length-take d.count d.records.now in
        let less = length-remove (contents d) i h in
        let rest = length-drop d.count d.records.now in
        let more : List R = drop d.count d.records.now in
        let n : ℕ = length (contents d) - 1 in
        let whole = length-append (remove (contents d) i) (blank ∷ more) in
        let free : (k m : ℕ) (x : R) → k ≡ n + m → (slice_index_or (blank ∷ more) m x ≡ blank) ⊎ (slice_index_or (blank ∷ more) m x ≡ slice_index_or lent k x) =
        λ k m x. elim m as (λ m. k ≡ n + m → (slice_index_or (blank ∷ more) m x ≡ blank) ⊎ (slice_index_or (blank ∷ more) m x ≡ slice_index_or lent k x)) [
          | zero ↦ λ e. inl refl
          | suc m ↦ λ e.
              let at : k ≡ d.count + m = omega arith in
              subst (λ z. (z ≡ blank) ⊎ (z ≡ slice_index_or lent k x)) (ap (λ (j : ℕ). slice_index_or d.records.now j x) at ∙ sym (get_or-drop d.count d.records.now m x)) (kept.erased k x (omega arith))
        ] in
        record {
          fits = omega arith;
          size = omega (arith, kept.size);
          apart = subst (NoKeyTwice key) (sym (contents_vacated blank d i h)) (all_pairs_remove (λ y z. key y ≢ key z) (contents d) i h kept.apart);
          erased = λ k y below.
              subst (λ z. (z ≡ blank) ⊎ (z ≡ slice_index_or lent k y)) (sym (get_or-append_right (remove (contents d) i) (blank ∷ more) n k y (omega arith) (omega arith)))
              (free k (k - n) y (omega arith));
        }

    kept_taken_out : (d : Directory R) (q : ℕ) → Kept d → Kept (taken_out key blank d q)
    kept_taken_out d q kept =
        elim (first_at nat_eq key (contents d) q) as (λ o. first_at nat_eq key (contents d) q ≡ o → Kept (without blank d o)) [
          | None ↦ λ e. kept
          | Some i ↦ λ e. kept_vacated d i (position-Some (λ x. nat_eq (key x) q) (contents d) i blank e).0 kept
        ]
        refl

    kept_after : (cs : List (Change R)) (d : Directory R) → Kept d → Kept (after key blank d cs)
    kept_after [] d kept = kept
    kept_after (adding x ∷ cs) d kept = kept_after cs (added key d x) (kept_added d x kept)
    kept_after (removing q ∷ cs) d kept = kept_after cs (taken_out key blank d q) (kept_taken_out d q kept)

    gone : (d : Directory R) → Kept d → (q : ℕ) → known nat_eq key (contents (taken_out key blank d q)) q ≡ false
    gone d kept q =
        let xs : List R = contents d in
        elim (first_at nat_eq key xs q) as (λ o. first_at nat_eq key xs q ≡ o → known nat_eq key (contents (without blank d o)) q ≡ false) [
          | None ↦ λ e. rw e refl
          | Some i ↦ λ e.
              let found = position-Some (λ x. nat_eq (key x) q) xs i blank e in
              let less = length-remove xs i found.0 in
              let is : key (slice_index_or xs i blank) ≡ q = eqb-true _ _ found.1 in
              let differs : (k : ℕ) → k < length (remove xs i) → key (slice_index_or (remove xs i) k blank) ≢ q =
              λ k h r.
              ⊎_elim
              (λ y. let f = found.2 k y in let was = ap key (get_or-remove_below xs i blank k y found.0) in false≢true (sym f ∙ eq-eqb _ _ (sym was ∙ r)))
              (λ y. let was = ap key (get_or-remove_above xs i blank k y found.0) in kept.apart i (k + 1) blank (omega arith) (omega arith) (is ∙ sym r ∙ was))
              (cases_lt k i) in
              subst (λ ys. known nat_eq key ys q ≡ false) (sym (contents_vacated blank d i found.0)) (differs_unknown (remove xs i) q blank differs)
        ]
        refl

    cleared : (d : Directory R) → Kept d → (q : ℕ) (x : R) → known nat_eq key (contents d) q ≡ true → slice_index_or (taken_out key blank d q).records.now (taken_out key blank d q).count x ≡ blank
    cleared d kept q x there =
        elim (first_at nat_eq key (contents d) q) as (λ o. first_at nat_eq key (contents d) q ≡ o → slice_index_or (without blank d o).records.now (without blank d o).count x ≡ blank) [
          | None ↦ λ e. absurd (false≢true (sym (ap is_some e) ∙ there))
          | Some i ↦ λ e.
              let h = (position-Some (λ x. nat_eq (key x) q) (contents d) i blank e).0 in
              let less = length-remove (contents d) i h in
              let n : ℕ = length (contents d) - 1 in
              let more : List R = drop d.count d.records.now in
              let none : n - n ≡ 0 = omega arith in
              get_or-append_right (remove (contents d) i) (blank ∷ more) n n x (omega arith) (omega arith) ∙ ap (λ (k : ℕ). slice_index_or (blank ∷ more) k x) none
        ]
        refl

    reused : (d : Directory R) → Kept d → (q : ℕ) (x : R) → known nat_eq key (contents d) q ≡ true → known nat_eq key (contents (taken_out key blank d q)) (key x) ≡ false → add_answer nat_eq key (places d) (contents (taken_out key blank d q)) x ≡ Ok tt
    reused d kept q x there new =
        elim (first_at nat_eq key (contents d) q) as (λ o. first_at nat_eq key (contents d) q ≡ o → known nat_eq key (contents (without blank d o)) (key x) ≡ false → add_answer nat_eq key (places d) (contents (without blank d o)) x ≡ Ok tt) [
          | None ↦ λ e _. absurd (false≢true (sym (ap is_some e) ∙ there))
          | Some i ↦ λ e new.
              let h = (position-Some (λ x. nat_eq (key x) q) (contents d) i blank e).0 in
              let less = length-remove (contents d) i h in
              let long = length-take d.count d.records.now in
              let is = ap length (contents_vacated blank d i h) in
              let room : nat_lt (length (contents (vacated blank d i))) (places d) ≡ true = lt-ltb _ _ (omega arith) in
              ap (λ (b : Bool). decided b (nat_lt (length (contents (vacated blank d i))) (places d))) new ∙ ap (decided false) room
        ]
        refl new

    -- an empty directory over the lent memory, and after any changes
    kept_empty : (d : Directory R) → d.count ≡ 0 → d.records.now ≡ lent → Kept d
    kept_empty d none is = record {
      fits = omega arith;
      size = ap length is;
      apart = λ i j x h k. absurd (omega (arith, length-take d.count d.records.now));
      erased = λ k x h. inr (ap (λ (xs : List R). slice_index_or xs k x) is);
    }

    freeing : (d : Directory R) → Kept d → Freeing key blank lent d
    freeing d kept = record { size = kept.size; erased = kept.erased; cleared = cleared d kept; gone = gone d kept; reused = reused d kept }

  pub never_two_from_empty : (d : Directory R) → d.count ≡ 0 → NeverTwoOfAKey key d
  never_two_from_empty d none blank cs = (kept_after blank d.records.now cs d (kept_empty blank d.records.now d none refl)).apart

  pub freed_from_empty : (d : Directory R) → d.count ≡ 0 → FreedIsErasedAndReused key d
  freed_from_empty d none blank cs = freeing blank d.records.now (after key blank d cs) (kept_after blank d.records.now cs d (kept_empty blank d.records.now d none refl))
