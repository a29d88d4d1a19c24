-- What a state awaits, what it owes, and its timer.
use Rattle.std.specs.Prelude.{ℕ, ◌+◌, Bool, true, false, ◌&&◌, Some, None, Option, ◌==◌}
use Rattle.exchange.specs.declared.invokes.Asked.{Asked}
use Rattle.exchange.specs.declared.invokes.Owed.{Owed}
use Rattle.exchange.specs.declared.state.State.{State}
use Rattle.exchange.specs.declared.state.State.TheVariants.{FetchingForInitiation, Initiating, FetchingForVisitor, Requesting, Executing, RequestingProof, FetchingProof}
use Rattle.exchange.specs.declared.fit_out.FitOut.{FitOut}
use Rattle.exchange.specs.declared.fit_out.Timer.{Timer}
use Rattle.exchange.specs.declared.fit_out.Timer.TheVariants.{T1, T2, T3, T4, T5, Tr}
use Rattle.exchange.specs.FitOut.{duration}
use Rattle.values.specs.declared.user.User.{User}

-- the timer that runs in a state
abbrev pub timer_of : State → Timer
timer_of (FetchingForInitiation asked user peer) = T2
timer_of (Initiating asked) = T1
timer_of (FetchingForVisitor asked owed computes) = T2
timer_of (Requesting asked owed computes) = T3
timer_of (Executing owed expected) = Tr
timer_of (RequestingProof asked computes challenge) = T4
timer_of (FetchingProof asked owed computes) = T5

-- the reading at which the timer ends, where the state is entered at a reading
abbrev pub end_of : FitOut → ℕ → State → ℕ
end_of fit reading s = reading + duration fit (timer_of s)

-- the peer's invoke that is owed its answer
abbrev pub owed_by : State → Option Owed
owed_by (FetchingForVisitor asked owed computes) = Some owed
owed_by (Requesting asked owed computes) = owed
owed_by (Executing owed expected) = owed
owed_by (FetchingProof asked owed computes) = Some owed
owed_by s = None

-- our invoke whose answer is awaited
abbrev pub asked_by : State → Option Asked
asked_by (FetchingForInitiation asked user peer) = Some asked
asked_by (Initiating asked) = Some asked
asked_by (FetchingForVisitor asked owed computes) = Some asked
asked_by (Requesting asked owed computes) = Some asked
asked_by (Executing owed expected) = None
asked_by (RequestingProof asked computes challenge) = Some asked
asked_by (FetchingProof asked owed computes) = Some asked

-- a peer's id is owed its answer
abbrev pub is_owed_to : ℕ → ℕ → Option Owed → Bool
is_owed_to peer id None = false
is_owed_to peer id (Some owed) = (owed.id.0 == id) && (owed.peer == peer)

-- our invoke to a peer, under an id, is the one whose answer is awaited
abbrev pub is_asked_of : ℕ → ℕ → Option Asked → Bool
is_asked_of peer id None = false
is_asked_of peer id (Some asked) = (asked.id.0 == id) && (asked.peer == peer)

-- the terminal has a challenge
abbrev pub is_at_terminal : State → Bool
is_at_terminal (Executing owed expected) = true
is_at_terminal s = false

-- the user whom a later invoke names, where there will be one more invoke
abbrev pub named_in : State → Option User
named_in (FetchingForInitiation asked user peer) = Some user
named_in s = None
