-- What holds of every run: nothing that is asked is left without its one answer.
use Rattle.std.specs.Prelude.{◌≡◌, ℕ, ◌+◌, ◌<◌, ◌≤◌, List, count_by, sum_by}
use Rattle.std.specs.List.{AllByRecursion}
use Rattle.algorithm.specs.Meaning.{Meaning}
use Rattle.exchange.specs.declared.dialogue.Dialogue.{Dialogue}
use Rattle.exchange.specs.declared.fit_out.FitOut.{FitOut}
use Rattle.exchange.specs.declared.service.Service.{Service}
use Rattle.exchange.specs.Bounds.{longest_dialogue}
use Rattle.exchange.specs.Runs.{Call, Given, Machine, CallMade, called, history, at_end, invokes, answers, takes, sends_to, owing, awaiting, expires}
use Rattle.exchange.specs.State.{end_of}
use Rattle.exchange.specs.Table.{Has}

-- counted in a history: invokes taken from a peer under an id of the peer's
abbrev pub invokes_taken : ℕ → ℕ → List CallMade → ℕ
invokes_taken peer id made = count_by (takes (invokes id) peer) made

-- answers sent to a peer under an id of the peer's
abbrev pub answers_sent : ℕ → ℕ → List CallMade → ℕ
answers_sent peer id made = count_by (sends_to (answers id) peer) made

-- invokes sent to a peer under an id of ours
abbrev pub invokes_sent : ℕ → ℕ → List CallMade → ℕ
invokes_sent peer id made = count_by (sends_to (invokes id) peer) made

-- answers taken from a peer under an id of ours
abbrev pub answers_taken : ℕ → ℕ → List CallMade → ℕ
answers_taken peer id made = count_by (takes (answers id) peer) made

-- invokes to a peer under an id of ours that expired
abbrev pub expiries : ℕ → ℕ → List CallMade → ℕ
expiries peer id made = sum_by (expires peer id) made

-- each invoke taken from a peer is answered once, or a dialogue still owes the answer; at most one does
abbrev pub Answered : List CallMade → Service → Type 0
Answered made now =
    (peer id : ℕ)
    → (invokes_taken peer id made ≡ answers_sent peer id made + owing peer id now)
    × (owing peer id now ≤ 1)

-- no invoke of ours is sent twice under one id, and each was answered once, has expired, or a dialogue still awaits its answer
abbrev pub Settled : List CallMade → Service → Type 0
Settled made now =
    (peer id : ℕ) →
    (invokes_sent peer id made
    ≡ answers_taken peer id made + expiries peer id made + awaiting peer id now)
    × (invokes_sent peer id made ≤ 1)

-- the timer of an open dialogue is running, as it was fitted out
pub record Running (fit : FitOut) (now : Service) (d : Dialogue) : Type 0 where
  pub ends_later : now.last < d.ends
  -- it is the timer of the dialogue's state, and was started at a reading since the opening
  pub started :
      (reading : ℕ) × (d.opened ≤ reading) × (reading ≤ now.last)
      × (d.ends ≡ end_of fit reading d.state)
  -- the opening was less than 120 seconds ago
  pub opened : now.last < d.opened + longest_dialogue

-- nothing that was asked in a history is left without its one answer, and every timer runs
pub record Balanced (fit : FitOut) (made : List CallMade) (now : Service) : Type 0 where
  pub answered : Answered made now
  pub settled : Settled made now
  pub running : (d : Dialogue) → Has d now.dialogues → Running fit now d

-- after every list of calls, done or refused
abbrev pub BalancedBy : Machine → Service → Type 0
BalancedBy does s =
    (calls : List (Meaning × Call)) → AllByRecursion Given calls
    → Balanced s.fit (history does s calls) (at_end does s calls)

-- of an exchange that is called
abbrev pub AlwaysBalanced : Service → Type 0
AlwaysBalanced s = BalancedBy called s
