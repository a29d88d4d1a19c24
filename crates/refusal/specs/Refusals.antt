-- The one list of refusals: their numbers and their names.
use Rattle.std.specs.Prelude.{ℕ, List, [], ◌∷◌, codes, Option}
use Rattle.wire.specs.Codes.{coded}
use Rattle.refusal.specs.declared.Refusal.{Refusal}
use Rattle.refusal.specs.declared.Refusal.TheVariants.{ShortSheet, ClockBack, TimerDue, Misdialled, Garbled, Stray, Twice, Full, Spent, Misfitted}

-- a refusal's number
abbrev pub refusal_number : Refusal → ℕ
refusal_number ShortSheet = 1
refusal_number ClockBack = 2
refusal_number TimerDue = 3
refusal_number Misdialled = 4
refusal_number Garbled = 5
refusal_number Stray = 6
refusal_number Twice = 7
refusal_number Full = 8
refusal_number Spent = 9
refusal_number Misfitted = 10

-- all of them
abbrev pub refusals : List Refusal
refusals =
    ShortSheet ∷ ClockBack ∷ TimerDue ∷ Misdialled ∷ Garbled ∷ Stray ∷ Twice ∷ Full ∷ Spent
    ∷ Misfitted ∷ []

-- the refusal with a number
abbrev pub refusal_of : ℕ → Option Refusal
refusal_of n = coded refusal_number refusals n

-- a refusal's name
abbrev pub refusal_name : Refusal → List ℕ
refusal_name ShortSheet = codes "short sheet"
refusal_name ClockBack = codes "clock back"
refusal_name TimerDue = codes "timer due"
refusal_name Misdialled = codes "misdialled"
refusal_name Garbled = codes "garbled"
refusal_name Stray = codes "stray"
refusal_name Twice = codes "twice"
refusal_name Full = codes "full"
refusal_name Spent = codes "spent"
refusal_name Misfitted = codes "misfitted"
