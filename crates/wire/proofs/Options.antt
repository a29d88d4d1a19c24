-- What an Option or a Result that is there tells of what it was made of. Assumes nothing.
use Rattle.std.proofs.Common.{◌≡◌, ℕ, Bool, true, false, cond, Some, None, Ok, Err, Option, Result, refl, ap, arith}
use Rattle.std.proofs.lemmas.Option.{none-some, same_Some}
use Rattle.std.specs.Option.{option_map, ok_or}
use Rattle.wire.specs.FieldValues.{bind}

pub cond_back : {A : Type 0} (b : Bool) (o : Option A) (y : A) → cond b o None ≡ Some y → (b ≡ true) × (o ≡ Some y)
cond_back true o y e = (refl, e)
cond_back false o y e = absurd (none-some y e)

pub bind_back : {A B : Type 0} (o : Option A) (f : A → Option B) (y : B) → bind o f ≡ Some y → (x : A) × ((o ≡ Some x) × (f x ≡ Some y))
bind_back None f y e = absurd (none-some y e)
bind_back (Some x) f y e = (x, (refl, e))

pub mapped_back : {A B : Type 0} (f : A → B) (o : Option A) (y : B) → option_map f o ≡ Some y → (x : A) × ((o ≡ Some x) × (f x ≡ y))
mapped_back f None y e = absurd (none-some y e)
mapped_back f (Some x) y e = (x, (refl, same_Some (f x) y e))

pub err_ok : {A E : Type 0} (e : E) (x : A) → ◌≡◌ {A = Result A E} (Err e) (Ok x) → ⊥
err_ok e x h = let z : ◌≡◌ {A = ℕ} 0 1 = cc in omega arith

pub ok_same : {A E : Type 0} (x y : A) → ◌≡◌ {A = Result A E} (Ok x) (Ok y) → x ≡ y
ok_same x y h = cc

pub ok_or_back : {A E : Type 0} (o : Option A) (e : E) (y : A) → ok_or o e ≡ Ok y → o ≡ Some y
ok_or_back None e y h = absurd (err_ok e y h)
ok_or_back (Some x) e y h = ap Some (ok_same x y h)
