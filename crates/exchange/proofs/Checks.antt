-- What a call knows once its checks are passed. Assumes nothing.
use Rattle.std.proofs.Common.{◌≡◌, ℕ, ◌<◌, ◌≤◌, Bool, true, false, cond, ◌||◌, ltb, List, [], ◌∷◌, length, get_or, Some, None, Ok, Err, Option, Result, All, find, refl, ap, ◌∙◌}
use Rattle.std.specs.List.{AllByRecursion}
use Rattle.std.specs.Option.{ok_or}
use Rattle.std.proofs.lemmas.Bool.{or_parts, ltb-false}
use Rattle.std.proofs.lemmas.List.Quantifiers.{position-Some}
use Rattle.wire.proofs.Options.{ok_or_back}
use Rattle.wire.proofs.ValueLemmas.{exact_back}
use Rattle.refusal.specs.declared.Refusal.TheVariants.{ClockBack, TimerDue, Misdialled, Full, Spent}
use Rattle.values.specs.Challenge.{challenge_of}
use Rattle.values.specs.Draw.{draw_of}
use Rattle.values.specs.Sizes.{challenge_size, draw_size}
use Rattle.values.specs.User.{user_number, is_user}
use Rattle.values.proofs.UserNumbers.{user_back}
use Rattle.entries.specs.declared.link.Link.{Link}
use Rattle.entries.specs.Link.{is_linked}
use Rattle.exchange.specs.declared.dialogue.Dialogue.{Dialogue}
use Rattle.exchange.specs.declared.service.Service.{Service}
use Rattle.exchange.specs.Bounds.{highest_reading, last_opening}
use Rattle.exchange.specs.Calls.{user_check, dialled_check, challenge_check}
use Rattle.exchange.specs.Deliver.{draw_check}
use Rattle.exchange.specs.Service.{by, timely, ready, room}
use Rattle.exchange.specs.Table.{due, is_free, free_place}
use Rattle.exchange.proofs.Searched.{Later, none_due}

unless : {X E : Type 0} (b : Bool) (e : E) (r : Result X E) (x : X) → cond b (Err e) r ≡ Ok x → (b ≡ false) × (r ≡ Ok x)
unless true e r x h = cc
unless false e r x h = (refl, h)

pub if_ok : {X E : Type 0} (b : Bool) (y x : X) (e : E) → cond b (Ok y) (Err e) ≡ Ok x → (b ≡ true) × (y ≡ x)
if_ok true y x e h = (refl, cc)
if_ok false y x e h = cc

if_else : {X E : Type 0} (b : Bool) (r : Result X E) (e : E) (x : X) → cond b r (Err e) ≡ Ok x → r ≡ Ok x
if_else true r e x h = h
if_else false r e x h = cc

by_ok : {X Y E : Type 0} (r : Result X E) (f : X → Result Y E) (y : Y) → by r f Err ≡ Ok y → (x : X) × ((r ≡ Ok x) × (f x ≡ Ok y))
by_ok (Ok x) f y h = (x, (refl, h))
by_ok (Err e) f y h = cc

-- the reading is no lower than the last one
pub timely_ok : (s : Service) (reading : ℕ) (u : Unit {0}) → timely s reading ≡ Ok u → s.last ≤ reading
timely_ok s reading u h =
    let q = unless (ltb reading s.last || ltb highest_reading reading) ClockBack (Ok tt) u h in
    ltb-false reading s.last (or_parts (ltb reading s.last) (ltb highest_reading reading) q.0).0

-- and no timer ends at or before it
pub record Ready (s : Service) (reading : ℕ) : Type 0 where
  pub last : s.last ≤ reading
  pub rest : All (Later reading) s.dialogues

pub ready_ok : (s : Service) (reading : ℕ) (u : Unit {0}) → ready s reading ≡ Ok u → Ready s reading
ready_ok s reading u h =
    let p = by_ok (timely s reading) (λ _. cond (due reading s.dialogues) (Err TimerDue) (Ok tt)) u h in
    let q = unless (due reading s.dialogues) TimerDue (Ok tt) u p.1.1 in
    record { last = timely_ok s reading p.0 p.1.0; rest = none_due reading s.dialogues q.0 }

free_is : (slot : Option Dialogue) → is_free slot ≡ true → slot ≡ None
free_is None h = refl
free_is (Some d) h = cc

-- the place is free
pub record Room (s : Service) (place : ℕ) : Type 0 where
  pub within : place < length s.dialogues
  pub free : get_or s.dialogues place None ≡ None

pub room_ok : (s : Service) (place : ℕ) → room s ≡ Ok place → Room s place
room_ok s place h =
    let p = by_ok (ok_or (free_place s.dialogues) Full) (λ k. cond (ltb last_opening s.next.0) (Err Spent) (Ok k)) place h in
    let q = unless (ltb last_opening s.next.0) Spent (Ok p.0) place p.1.1 in
    let is : p.0 ≡ place = cc in
    let at : free_place s.dialogues ≡ Some place = ok_or_back (free_place s.dialogues) Full p.0 p.1.0 ∙ ap Some is in
    let found = position-Some is_free s.dialogues place None at in
    record { within = found.0; free = free_is (get_or s.dialogues place None) found.1 }

pub user_ok : (digits : List ℕ) (user : ℕ) → user_check digits ≡ Ok user → is_user user ≡ true
user_ok digits user h = (user_back digits user (ok_or_back (user_number digits) Misdialled user h)).1

pub dialled_ok : (digits : List ℕ) (peer : ℕ) (links : List Link) (user : ℕ) → dialled_check digits peer links ≡ Ok user → is_user user ≡ true
dialled_ok digits peer links user h =
    let p = by_ok (user_check digits) (λ u. cond (is_linked links peer) (Ok u) (Err Misdialled)) user h in
    let q = if_ok (is_linked links peer) p.0 user Misdialled p.1.1 in
    user_ok digits user (p.1.0 ∙ ap Ok q.1)

pub challenge_ok : (challenge c : List ℕ) → challenge_check challenge ≡ Ok c → length c ≡ challenge_size
challenge_ok challenge c h = (exact_back challenge_size challenge c (ok_or_back (challenge_of challenge) Misdialled c h)).1

-- the draw is what was given, and has its size
pub draw_ok : (links : List Link) (peer : ℕ) (draw drawn : List ℕ) → draw_check links peer draw ≡ Ok drawn → (drawn ≡ draw) × (length drawn ≡ draw_size)
draw_ok links peer draw drawn h =
    let q = if_else (is_linked links peer) (ok_or (draw_of draw) Misdialled) Misdialled drawn h in
    exact_back draw_size draw drawn (ok_or_back (draw_of draw) Misdialled drawn q)

-- the ways through a check
pub by_ways : {X E Y : Type 0} (K : Y → Type 0) (r : Result X E) (f : X → Y) (g : E → Y) → ((x : X) → r ≡ Ok x → K (f x)) → ((e : E) → K (g e)) → K (by r f g)
by_ways K (Ok x) f g goes fails = goes x refl
by_ways K (Err e) f g goes fails = fails e

pub checked_ways : {X Y E : Type 0} (K : Result Y E → Type 0) (check : Result X E) (go : X → Result Y E) → ((n : E) → K (Err n)) → ((x : X) → check ≡ Ok x → K (go x)) → K (by check go Err)
checked_ways K check go fails goes = by_ways K check go Err goes fails

find_step : {X : Type 0} (P : X → Type 0) (b : Bool) (y x : X) (o : Option X) → cond b (Some y) o ≡ Some x → P y → (o ≡ Some x → P x) → P x
find_step P true y x o h here rest = let q : y ≡ x = cc in rw q at here
find_step P false y x o h here rest = rest h

pub find_has : {X : Type 0} (P : X → Type 0) (test : X → Bool) (xs : List X) (x : X) → find test xs ≡ Some x → AllByRecursion P xs → P x
find_has P test [] x h a = cc
find_has P test (y ∷ ys) x h a = find_step P (test y) y x (find test ys) h a.0 (λ k. find_has P test ys x k a.1)
