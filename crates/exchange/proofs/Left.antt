-- What has left the table, after one place is written. Assumes nothing.
use Rattle.std.proofs.Common.{◌≡◌, ℕ, suc, Bool, true, false, ◌&&◌, List, [], ◌∷◌, length, set, Some, None, Option, ◌<◌, count_by, sym, refl, ap, ◌∙◌, subst, inl, inr, ⊎_elim, arith}
use Rattle.std.specs.List.{list_any}
use Rattle.std.proofs.lemmas.Bool.{both_ways, not-true, not_from_true, not_from_false, or_from, or_left, or_right, and_right, eq-eqb, ne_eqb}
use Rattle.std.proofs.lemmas.List.Sums.{sum_by-cons}
use Rattle.exchange.specs.declared.dialogue.Dialogue.{Dialogue}
use Rattle.exchange.specs.declared.invokes.OwnNumber.{OwnNumber}
use Rattle.exchange.specs.declared.service.Service.{Service}
use Rattle.exchange.specs.Runs.{leaves_late}
use Rattle.exchange.specs.Table.{Has, ends_by, awaits, is_named, has_left}
use Rattle.exchange.proofs.Names.{At, Names, at_set}
use Rattle.exchange.proofs.Searched.{bit, one_slot}

-- a dialogue of the table has a place
pub has_place : (xs : List (Option Dialogue)) (d : Dialogue) → Has d xs → (i : ℕ) × At xs i d
has_place [] d h = absurd h
has_place (x ∷ xs) d h = ⊎_elim (λ e. (0, e)) (λ m. let p = has_place xs d m in (suc p.0, p.1)) h

named_there : (xs : List (Option Dialogue)) (name : OwnNumber) (e : Dialogue) → Has e xs → e.name.0 ≡ name.0 → list_any (is_named name) xs ≡ true
named_there [] name e h same = absurd h
named_there (x ∷ xs) name e h same =
    ⊎_elim (λ q. or_left _ _ (subst (λ (o : Option Dialogue). is_named name o ≡ true) (sym q) (eq-eqb e.name.0 name.0 same)))
    (λ m. or_right _ _ (named_there xs name e m same)) h

unnamed : (xs : List (Option Dialogue)) (name : OwnNumber) → ((e : Dialogue) → Has e xs → e.name.0 ≡ name.0 → ⊥) → list_any (is_named name) xs ≡ false
unnamed [] name h = refl
unnamed (None ∷ xs) name h = unnamed xs name (λ e m. h e (inr m))
unnamed (Some d ∷ xs) name h = or_from _ _ (ne_eqb d.name.0 name.0 (h d (inl refl))) (unnamed xs name (λ e m. h e (inr m)))

-- what has left has its name in no place
pub left_none : (xs : List (Option Dialogue)) (d e : Dialogue) → has_left xs (Some d) ≡ true → Has e xs → e.name.0 ≡ d.name.0 → ⊥
left_none xs d e left h same = both_ways (list_any (is_named d.name) xs) (not-true _ left) (named_there xs d.name e h same)

-- what stood at the place that is written has left, where what is written has another name
pub left_set : (s : Service) → Names s → (k : ℕ) (x : Option Dialogue) (d : Dialogue) → At s.dialogues k d → ((e : Dialogue) → x ≡ Some e → e.name.0 ≡ d.name.0 → ⊥) → has_left (set s.dialogues k x) (Some d) ≡ true
left_set s names k x d at other =
    not_from_false _ (unnamed (set s.dialogues k x) d.name (λ e m same.
    let p = has_place (set s.dialogues k x) e m in
    ⊎_elim (λ q. other e q.1 same) (λ q. q.0 (names.apart p.0 k e d q.1 at same)) (at_set s.dialogues k p.0 x e p.1)))

-- none that stands in the table has left it
pub none_late : (reading peer id : ℕ) (after xs : List (Option Dialogue)) → ((e : Dialogue) → Has e xs → Has e after) → count_by (leaves_late reading peer id after) xs ≡ 0
none_late reading peer id after [] h = refl
none_late reading peer id after (None ∷ xs) h =
    omega (arith, sum_by-cons (λ x. bit (leaves_late reading peer id after x)) None xs, none_late reading peer id after xs (λ e m. h e (inr m)))
none_late reading peer id after (Some d ∷ xs) h =
    let stays : leaves_late reading peer id after (Some d) ≡ false = and_right _ _ (not_from_true _ (named_there after d.name d (h d (inl refl)) refl)) in
    omega (arith, sum_by-cons (λ x. bit (leaves_late reading peer id after x)) (Some d) xs, none_late reading peer id after xs (λ e m. h e (inr m)), ap bit stays)

and_bit : (b : Bool) → bit (b && true) ≡ bit b
and_bit true = refl
and_bit false = refl

-- where one place is freed, at most what stood there leaves late
pub one_late : (s : Service) → Names s → (reading peer id k : ℕ) (d : Dialogue) → k < length s.dialogues → At s.dialogues k d →
    count_by (leaves_late reading peer id (set s.dialogues k None)) s.dialogues ≡ bit (ends_by reading (Some d) && awaits peer id (Some d))
one_late s names reading peer id k d within at =
    let after : List (Option Dialogue) = set s.dialogues k None in
    let gone : has_left after (Some d) ≡ true = left_set s names k None d at (λ e h. cc) in
    let this : bit (leaves_late reading peer id after (Some d)) ≡ bit (ends_by reading (Some d) && awaits peer id (Some d))
    = ap (λ z. bit ((ends_by reading (Some d) && awaits peer id (Some d)) && z)) gone ∙ and_bit _ in
    omega (arith, one_slot s.dialogues k None (Some d) (leaves_late reading peer id after) within at, none_late reading peer id after after (λ e h. h), this)
