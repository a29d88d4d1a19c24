-- The first row with a key is the first row with the challenge. Assumes nothing.
use Rattle.std.proofs.Common.{◌≡◌, ℕ, Bool, true, List, [], ◌∷◌, nat_eq, refl, ap}
use Rattle.std.specs.List.{find}
use Rattle.std.specs.Bool.{one_answer}
use Rattle.std.specs.Str.{bytes_eq}
use Rattle.std.proofs.lemmas.Bool.Decides.{Decides-eqb}
use Rattle.std.proofs.lemmas.Slice.Eq.{bytes_eq-Decides}
use Rattle.directory.specs.Found.{first_with}
use Rattle.algorithm.specs.declared.row.Row.{Row}
use Rattle.algorithm.specs.Row.{IsWhole, challenge_key}
use Rattle.algorithm.specs.Card.{row_for}
use Rattle.algorithm.proofs.RowKeys.{no_two_with_one_key}

abbrev pub row_key : Row → ℕ
row_key row = challenge_key row.challenge

-- tests that answer the same find the same
find_same : {X : Type 0} (p q : X → Bool) → ((x : X) → p x ≡ q x) → (xs : List X) → find p xs ≡ find q xs
find_same p q same [] = refl
find_same p q same (x ∷ xs) = rw (same x, find_same p q same xs) refl

-- the test of keys is the test of challenges
same_test : (challenge : List ℕ) → IsWhole challenge → (row : Row) → nat_eq (row_key row) (challenge_key challenge) ≡ bytes_eq row.challenge challenge
same_test challenge whole row =
    let keys = Decides-eqb (row_key row) (challenge_key challenge) in
    let here : (nat_eq (row_key row) (challenge_key challenge) ≡ true → row.challenge ≡ challenge) × (row.challenge ≡ challenge → nat_eq (row_key row) (challenge_key challenge) ≡ true) =
    (λ e. no_two_with_one_key row.challenge challenge row.challenge_whole whole (keys.0 e), λ e. keys.1 (ap challenge_key e)) in
    one_answer {P = row.challenge ≡ challenge} _ _ here (bytes_eq-Decides row.challenge challenge)

pub first_row : (rows : List Row) (challenge : List ℕ) → IsWhole challenge → first_with nat_eq row_key rows (challenge_key challenge) ≡ row_for rows challenge
first_row rows challenge whole = find_same (λ row. nat_eq (row_key row) (challenge_key challenge)) (λ row. bytes_eq row.challenge challenge) (same_test challenge whole) rows
