-- Timers and the fit-out.
use Rattle.std.specs.Prelude.{ℕ, Bool, ◌&&◌, List, [], ◌∷◌, Option, nat_le}
use Rattle.std.specs.List.{list_all}
use Rattle.wire.specs.Codes.{coded}
use Rattle.exchange.specs.declared.fit_out.FitOut.{FitOut}
use Rattle.exchange.specs.declared.fit_out.Timer.{Timer}
use Rattle.exchange.specs.declared.fit_out.Timer.TheVariants.{T1, T2, T3, T4, T5, Tr}
use Rattle.exchange.specs.Bounds.{least_peer_timer, least_radio_timer, longest_timer}

-- the number of a timer
abbrev pub timer_number : Timer → ℕ
timer_number T1 = 1
timer_number T2 = 2
timer_number T3 = 3
timer_number T4 = 4
timer_number T5 = 5
timer_number Tr = 6

-- all timers
abbrev pub timers : List Timer
timers = T1 ∷ T2 ∷ T3 ∷ T4 ∷ T5 ∷ Tr ∷ []

-- the timer with a number
abbrev pub timer_of_number : ℕ → Option Timer
timer_of_number n = coded timer_number timers n

-- how long a timer runs, in milliseconds
abbrev pub duration : FitOut → Timer → ℕ
duration f T1 = f.t1
duration f T2 = f.t2
duration f T3 = f.t3
duration f T4 = f.t4
duration f T5 = f.t5
duration f Tr = f.tr

-- a number lies between two others, or is one of them
abbrev pub within : ℕ → ℕ → ℕ → Bool
within low high n = nat_le low n && nat_le n high

-- the timers of dialogues with peers are in their range
abbrev pub peer_timers_fit : FitOut → Bool
peer_timers_fit f =
    list_all (within least_peer_timer longest_timer) (f.t1 ∷ f.t2 ∷ f.t3 ∷ f.t4 ∷ f.t5 ∷ [])

-- every value is in its range
abbrev pub fitted : FitOut → Bool
fitted f =
    peer_timers_fit f && within least_radio_timer longest_timer f.tr
    && nat_le 1 f.home && nat_le 1 f.server
