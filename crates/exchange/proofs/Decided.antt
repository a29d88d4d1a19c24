-- What the tests of a call's checks tell, in the words of the conditions. Assumes nothing.
use Rattle.std.proofs.Common.{◌≡◌, ℕ, zero, suc, ◌+◌, ◌-◌, ◌*◌, ◌<◌, ◌≤◌, Bool, true, false, ◌&&◌, leb, List, [], ◌∷◌, length, get_or, set, Some, None, Option, is_some, count_by, position, sym, refl, ap, ◌∙◌, inl, inr, ⊎_elim, nat_eq, arith}
use Rattle.std.specs.List.{list_any, AllByRecursion, position_or_len}
use Rattle.std.specs.Option.{option_map}
use Rattle.std.proofs.lemmas.Bool.{false≢true, both_ways, and_parts, and_from, or_cases, or_parts, leb-true, eqb-true, eqb-false, le-leb}
use Rattle.std.proofs.lemmas.Bool.Decides.{nat_tests}
use Rattle.std.proofs.lemmas.Option.{none-some, same_Some}
use Rattle.std.proofs.lemmas.List.Elements.{All-from_get_or}
use Rattle.std.proofs.lemmas.List.Folds.{list_any_none, list_any_at}
use Rattle.std.proofs.lemmas.List.Quantifiers.{position-Some}
use Rattle.std.proofs.lemmas.List.Sums.{sum_by-cons, fails_before_first}
use Rattle.wire.proofs.Options.{cond_back}
use Rattle.values.specs.User.{most_digits, is_digit, number, counted, user_number}
use Rattle.entries.specs.declared.link.Link.{Link}
use Rattle.entries.specs.Link.{no_link, link_key, is_linked}
use Rattle.exchange.specs.declared.dialogue.Dialogue.{Dialogue}
use Rattle.exchange.specs.Conditions.{IsUserText, IsUnlinked}
use Rattle.exchange.specs.Table.{Has, is_free, free_place, standing_at, found}
use Rattle.exchange.proofs.Left.{has_place}
use Rattle.exchange.proofs.Moved.{kept}
use Rattle.exchange.proofs.Names.{At}
use Rattle.exchange.proofs.Searched.{bit, FoundAt, none_passes, one_slot, count_at}

-- the digits of a user, and what is none
all_digits : (n : ℕ) (text : List ℕ) (v : ℕ) → number n text ≡ Some v → AllByRecursion (λ c. (48 ≤ c) × (c ≤ 57)) text
all_digits n [] v h = tt
all_digits n (c ∷ text) v h =
    let p = cond_back (is_digit c) (number (n * 10 + (c - 48)) text) v h in
    let q = and_parts (leb 48 c) (leb c 57) p.0 in
    ((leb-true 48 c q.0, leb-true c 57 q.1), all_digits (n * 10 + (c - 48)) text v p.1)

no_digits : (n : ℕ) (text : List ℕ) → number n text ≡ None → AllByRecursion (λ c. (48 ≤ c) × (c ≤ 57)) text → ⊥
no_digits n [] h all = none-some n (sym h)
no_digits n (c ∷ text) h all =
    let y : is_digit c ≡ true = and_from (leb 48 c) (leb c 57) (le-leb 48 c all.0.0) (le-leb c 57 all.0.1) in
    no_digits (n * 10 + (c - 48)) text (rw y at h) all.1

counted_some : (k : ℕ) (o : Option ℕ) (u : ℕ) → counted k o ≡ Some u → (v : ℕ) × (o ≡ Some v)
counted_some k None u h = absurd (none-some u h)
counted_some k (Some v) u h = (v, refl)

counted_none : (k : ℕ) (o : Option ℕ) → counted k o ≡ None → o ≡ None
counted_none k None h = refl
counted_none k (Some v) h = absurd (none-some _ (sym h))

pub user_text : (text : List ℕ) (user : ℕ) → user_number text ≡ Some user → IsUserText text
user_text text user h =
    let p = cond_back (leb 1 (length text) && leb (length text) most_digits) (counted (length text) (number 0 text)) user h in
    let q = and_parts (leb 1 (length text)) (leb (length text) most_digits) p.0 in
    let v = counted_some (length text) (number 0 text) user p.1 in
    (leb-true 1 (length text) q.0, leb-true (length text) most_digits q.1, all_digits 0 text v.0 v.1)

pub no_user_text : (text : List ℕ) → user_number text ≡ None → ¬ (IsUserText text)
no_user_text text h is =
    let y : (leb 1 (length text) && leb (length text) most_digits) ≡ true
    = and_from _ _ (le-leb 1 (length text) is.0) (le-leb (length text) most_digits is.1) in
    no_digits 0 text (counted_none (length text) (number 0 text) (rw y at h)) is.2

-- a search finds a place exactly where some element passes
searched : {X : Type 0} (test : X → Bool) (xs : List X) (d : X) (o : Option ℕ) → position test xs ≡ o → list_any test xs ≡ is_some o
searched test xs d None e =
    let past : length xs ≤ position_or_len test xs = grind (arith, nat_tests) in
    list_any_none test xs (All-from_get_or (λ x. test x ≡ false) xs d (λ k l. fails_before_first test xs k d (omega arith)))
searched test xs d (Some k) e = let at = position-Some test xs k d e in list_any_at test xs k d at.0 at.1

-- the peer of a link, and one that is none of them
some_linked : (peer : ℕ) (links : List Link) → list_any (λ link. nat_eq (link_key link) peer) links ≡ is_linked links peer
some_linked peer links = searched (λ link. nat_eq (link_key link) peer) links no_link _ refl

unlinked_from : (peer : ℕ) (links : List Link) → list_any (λ link. nat_eq (link_key link) peer) links ≡ false → IsUnlinked links peer
unlinked_from peer [] h = tt
unlinked_from peer (link ∷ links) h =
    let p = or_parts (nat_eq link.peer peer) (list_any (λ l. nat_eq (link_key l) peer) links) h in
    (eqb-false link.peer peer p.0, unlinked_from peer links p.1)

linked_from : (peer : ℕ) (links : List Link) → list_any (λ link. nat_eq (link_key link) peer) links ≡ true → ¬ (IsUnlinked links peer)
linked_from peer [] h none = false≢true h
linked_from peer (link ∷ links) h none =
    ⊎_elim (λ e. none.0 (eqb-true link.peer peer e)) (λ e. linked_from peer links e none.1)
    (or_cases (nat_eq link.peer peer) (list_any (λ l. nat_eq (link_key l) peer) links) h)

pub unlinked : (links : List Link) (peer : ℕ) → is_linked links peer ≡ false → IsUnlinked links peer
unlinked links peer h = unlinked_from peer links (some_linked peer links ∙ h)

pub linked : (links : List Link) (peer : ℕ) → is_linked links peer ≡ true → ¬ (IsUnlinked links peer)
linked links peer h = linked_from peer links (some_linked peer links ∙ h)

-- what a test of all places tells of the open dialogues
pub some_open : (test : Option Dialogue → Bool) → test None ≡ false → (xs : List (Option Dialogue)) → list_any test xs ≡ true → (d : Dialogue) × Has d xs × (test (Some d) ≡ true)
some_open test none [] h = absurd (false≢true h)
some_open test none (None ∷ xs) h = let p = some_open test none xs (⊎_elim (λ e. absurd (both_ways (test None) none e)) (λ m. m) (or_cases (test None) (list_any test xs) h)) in (p.0, inr p.1, p.2)
some_open test none (Some d ∷ xs) h =
    ⊎_elim (λ e. (d, inl refl, e)) (λ m. let p = some_open test none xs m in (p.0, inr p.1, p.2)) (or_cases (test (Some d)) (list_any test xs) h)

pub none_open : (test : Option Dialogue → Bool) (xs : List (Option Dialogue)) → list_any test xs ≡ false → (d : Dialogue) → Has d xs → test (Some d) ≡ true → ⊥
none_open test [] h d m e = m
none_open test (x ∷ xs) h d m e =
    let p = or_parts (test x) (list_any test xs) h in
    ⊎_elim (λ q. both_ways (test (Some d)) (ap test (sym q) ∙ p.0) e) (λ r. none_open test xs p.1 d r e) m

-- a search that finds no dialogue
empty_at : (slot : Option Dialogue) (k : ℕ) → ◌≡◌ {A = Option (ℕ × Dialogue)} (option_map (λ d. (k, d)) slot) None → slot ≡ None
empty_at None k h = refl
empty_at (Some d) k h = absurd (none-some {A = ℕ × Dialogue} (k, d) (sym h))

none_found : (test : Option Dialogue → Bool) → test None ≡ false → (xs : List (Option Dialogue)) (o : Option ℕ) → position test xs ≡ o → standing_at xs o ≡ None → list_any test xs ≡ false
none_found test none xs None e h = searched test xs None None e
none_found test none xs (Some k) e h =
    absurd (both_ways (test None) none (ap test (sym (empty_at (get_or xs k None) k h)) ∙ (position-Some test xs k None e).1))

pub absent : (test : Option Dialogue → Bool) → test None ≡ false → (xs : List (Option Dialogue)) → found test xs ≡ None → (d : Dialogue) → Has d xs → test (Some d) ≡ true → ⊥
absent test none xs h = none_open test xs (none_found test none xs (position test xs) refl h)

-- the dialogues that are open, and the places that are free
open_and_free : (xs : List (Option Dialogue)) → count_by is_some xs + count_by is_free xs ≡ length xs
open_and_free [] = refl
open_and_free (None ∷ xs) = omega (arith, sum_by-cons (λ x. bit (is_some x)) None xs, sum_by-cons (λ x. bit (is_free x)) None xs, open_and_free xs)
open_and_free (Some d ∷ xs) = omega (arith, sum_by-cons (λ x. bit (is_some x)) (Some d) xs, sum_by-cons (λ x. bit (is_free x)) (Some d) xs, open_and_free xs)

pub all_open : (xs : List (Option Dialogue)) → free_place xs ≡ None → count_by is_some xs ≡ length xs
all_open xs h = omega (arith, open_and_free xs, none_passes is_free xs (searched is_free xs None None h))

pub one_free : (xs : List (Option Dialogue)) (k : ℕ) → free_place xs ≡ Some k → count_by is_some xs < length xs
one_free xs k h =
    let at = position-Some is_free xs k None h in
    omega (arith, open_and_free xs, count_at xs k (get_or xs k None) is_free at.0 refl, ap bit at.1)

-- where at most one place passes, there is no other
place_within : (xs : List (Option Dialogue)) (k : ℕ) (d : Dialogue) → At xs k d → k < length xs
place_within [] k d h = absurd (none-some d h)
place_within (x ∷ xs) zero d h = omega arith
place_within (x ∷ xs) (suc k) d h = let l = place_within xs k d h in omega arith

passing : (test : Option Dialogue → Bool) (xs : List (Option Dialogue)) (d : Dialogue) → Has d xs → test (Some d) ≡ true → 1 ≤ count_by test xs
passing test xs d m is =
    let p = has_place xs d m in
    omega (arith, count_at xs p.0 (Some d) test (place_within xs p.0 d p.1) p.1, ap bit is)

pub only_one : (test : Option Dialogue → Bool) → test None ≡ false → (xs : List (Option Dialogue)) (k : ℕ) (d other : Dialogue) → count_by test xs ≤ 1 → FoundAt test xs k d → Has other xs → test (Some other) ≡ true → other ≡ d
only_one test none xs k d other most at m is =
    ⊎_elim
    (λ q. let one = passing test (set xs k None) other q is in
    absurd (omega (arith, one_slot xs k None (Some d) test at.within at.stands, ap bit at.passes, ap bit none)))
    (λ q. same_Some other d (sym q ∙ at.stands))
    (kept xs k None other m)
