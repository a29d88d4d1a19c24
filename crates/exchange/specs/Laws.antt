-- Which dialogue the clock closes, said of the whole table.
use Rattle.std.specs.Prelude.{◌≡◌, ℕ, ◌<◌, ◌≤◌, ◌⊎◌, List, Some, None, Ok, Err, Option, Result}
use Rattle.refusal.specs.declared.Refusal.{Refusal}
use Rattle.exchange.specs.declared.invokes.Owed.{Owed}
use Rattle.exchange.specs.declared.dialogue.Dialogue.{Dialogue}
use Rattle.exchange.specs.Done.{Done}
use Rattle.exchange.specs.declared.outcome.Done.TheVariants.{Quiet, Sent, Reported}
use Rattle.exchange.specs.declared.service.Service.{Service}
use Rattle.exchange.specs.State.{owed_by}
use Rattle.exchange.specs.Table.{Has}

-- a's timer ends before b's, or with it where a has the lower name
abbrev pub EndsBefore : Dialogue → Dialogue → Type 0
EndsBefore a b = (a.ends < b.ends) ⊎ ((a.ends ≡ b.ends) × (a.name.0 < b.name.0))

-- no timer has ended by the reading
abbrev pub NoneEnded : ℕ → List (Option Dialogue) → Type 0
NoneEnded reading slots = (e : Dialogue) → Has e slots → reading < e.ends

-- d's timer has ended by the reading, and no dialogue of the table ends before d
abbrev pub EndsFirst : ℕ → List (Option Dialogue) → Dialogue → Type 0
EndsFirst reading slots d =
    Has d slots × (d.ends ≤ reading)
    × ((e : Dialogue) → Has e slots → ¬ (EndsBefore e d))

-- what clock tells when it closes d: what is owed is answered, and otherwise d is reported
abbrev pub Tells : Dialogue → Done → Type 0
Tells d Quiet = ⊥
Tells d (Sent peer size) = (owed : Owed) × (owed_by d.state ≡ Some owed) × (owed.peer ≡ peer)
Tells d (Reported name report) = (owed_by d.state ≡ None) × (d.name ≡ name)

-- clock closes the dialogue whose timer ends first, the lowest name on a tie, once that timer has ended;
-- it is quiet only where no timer has ended
abbrev pub Earliest : Service → ℕ → Result Done Refusal → Type 0
Earliest s reading (Err n) = Unit {0}
Earliest s reading (Ok Quiet) = NoneEnded reading s.dialogues
Earliest s reading (Ok done) = (d : Dialogue) × Tells d done × EndsFirst reading s.dialogues d
