-- What can be done: the facts that the parts of a call hand on.
use Rattle.std.specs.Prelude.{ℕ, ◌+◌, ◌≤◌}
use Rattle.exchange.specs.declared.dialogue.Dialogue.{Dialogue}
use Rattle.exchange.specs.declared.dialogue.Event.{Event}
use Rattle.exchange.specs.declared.dialogue.Event.TheVariants as event
use Rattle.exchange.specs.declared.dialogue.Step.{Step}
use Rattle.exchange.specs.declared.dialogue.Step.TheVariants.{GoesOn, AsksAgain}
use Rattle.exchange.specs.State.{named_in}
use Rattle.exchange.specs.Table.{one_more}

-- a step leaves numbers for what may still take one, where the dialogue could take n more before it
abbrev pub CanMove : ℕ → Step × Dialogue → Type 0
CanMove n (GoesOn outcome, d) = one_more (named_in d.state) ≤ n
CanMove n (AsksAgain outcome, d) = one_more (named_in d.state) + 1 ≤ n
CanMove n (step, d) = Unit {0}

-- an event at which an algorithm may be asked: a result
abbrev pub BringsResult : Event → Type 0
BringsResult (event.Result r drawn) = Unit {0}
BringsResult e = ⊥
