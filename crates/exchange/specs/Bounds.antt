-- The bounds of an exchange. Readings and timers are in milliseconds.
use Rattle.std.specs.Prelude.{ℕ, ◌^◌}

-- how many dialogues may be open
abbrev pub most_dialogues : ℕ
most_dialogues = 32

-- no reading is higher
abbrev pub highest_reading : ℕ
highest_reading = 2 ^ 40

-- the last number under which a dialogue opens
abbrev pub last_opening : ℕ
last_opening = 60000

-- the least that the timers of dialogues with peers may run
abbrev pub least_peer_timer : ℕ
least_peer_timer = 15000

-- the least that the timer of the radio side may run
abbrev pub least_radio_timer : ℕ
least_radio_timer = 1000

-- the most that any timer may run
abbrev pub longest_timer : ℕ
longest_timer = 60000

-- a dialogue ends before it has lasted so long
abbrev pub longest_dialogue : ℕ
longest_dialogue = 120000
