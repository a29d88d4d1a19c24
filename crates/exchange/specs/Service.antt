-- What an exchange in service keeps, and the checks that its calls share.
use Rattle.std.specs.Prelude.{◌≡◌, ℕ, ◌+◌, ◌≤◌, ◌||◌, length, Some, Ok, Err, Option, Result, if◌then◌else◌, nat_lt, slice_set, sum_by}
use Rattle.std.specs.Option.{ok_or}
use Rattle.refusal.specs.declared.Refusal.{Refusal}
use Rattle.refusal.specs.declared.Refusal.TheVariants.{ClockBack, TimerDue, Full, Spent}
use Rattle.exchange.specs.declared.dialogue.Dialogue.{Dialogue}
use Rattle.exchange.specs.declared.invokes.OwnNumber.{OwnNumber}
use Rattle.exchange.specs.declared.state.State.{State}
use Rattle.exchange.specs.declared.service.Service.{Service}
use Rattle.exchange.specs.Bounds.{most_dialogues, highest_reading, last_opening}
use Rattle.exchange.specs.Invokes.{following}
use Rattle.exchange.specs.State.{end_of}
use Rattle.exchange.specs.Table.{due, free_place, to_take}

-- there are places for as many dialogues as may be open, numbers begin at 1, and the numbers that open dialogues may
-- still take are numbers of two bytes
abbrev pub Sound : Service → Type 0
Sound s =
    (length s.dialogues ≡ most_dialogues) × (1 ≤ s.next.0)
    × (s.next.0 + sum_by to_take s.dialogues ≤ last_opening + most_dialogues + 1)

-- by what a result holds: a value, or an error
abbrev pub by : {X E Y : Type 0} → Result X E → (X → Y) → (E → Y) → Y
by (Ok x) f g = f x
by (Err e) f g = g e

-- for `do`: a check is passed, and what follows goes on
abbrev pub ◌>>=◌ : {X Y : Type 0} → Result X Refusal → (X → Result Y Refusal) → Result Y Refusal
◌>>=◌ check goes_on = by check goes_on Err

-- likewise for a check that gives nothing
abbrev pub ◌>>◌ : {X Y : Type 0} → Result X Refusal → Result Y Refusal → Result Y Refusal
◌>>◌ check goes_on = by check (λ _. goes_on) Err

-- the reading is no lower than the last one, and no higher than readings go
abbrev pub timely : Service → ℕ → Result (Unit {0}) Refusal
timely s reading =
    if nat_lt reading s.last || nat_lt highest_reading reading then Err ClockBack else Ok tt

-- and no timer is due
abbrev pub ready : Service → ℕ → Result (Unit {0}) Refusal
ready s reading = do
  timely s reading
  if due reading s.dialogues then Err TimerDue else Ok tt

-- the place that a dialogue takes, if there is a number for it
abbrev pub room : Service → Result ℕ Refusal
room s = do
  place ← ok_or (free_place s.dialogues) Full
  if nat_lt last_opening s.next.0 then Err Spent else Ok place

-- a dialogue opens under the next number, and the reading is the last one
abbrev pub opened : Service → ℕ → ℕ → State → Service
opened s reading place state =
    let d : Dialogue =
    record { name = s.next; opened = reading; ends = end_of s.fit reading state; state = state } in
    record s {
      last = reading;
      next = following s.next;
      dialogues = slice_set s.dialogues place (Some d);
    }

-- the reading becomes the last one
abbrev pub read_at : Service → ℕ → Service
read_at s reading = record s { last = reading }

-- what stands at a place is written, the next number is another, and the reading is the last one
abbrev pub written : Service → ℕ → OwnNumber → ℕ → Option Dialogue → Service
written s reading next place slot =
    record s { last = reading; next = next; dialogues = slice_set s.dialogues place slot }
