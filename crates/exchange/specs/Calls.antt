-- What each request and the clock decide, over what an exchange keeps.
use Rattle.std.specs.Prelude.{ℕ, false, List, length, Some, None, Ok, Err, Option, Result, ◌==◌, if◌then◌else◌}
use Rattle.std.specs.Option.{ok_or}
use Rattle.refusal.specs.declared.Refusal.{Refusal}
use Rattle.refusal.specs.declared.Refusal.TheVariants.{Misdialled}
use Rattle.wire.specs.declared.codes.Provider.TheVariants.{Home, Server}
use Rattle.values.specs.Challenge.{challenge_of}
use Rattle.values.specs.Sizes.{response_size}
use Rattle.values.specs.declared.user.User.{User}
use Rattle.values.specs.User.{user_number}
use Rattle.apdu.specs.declared.apdus.Body.TheVariants as body
use Rattle.apdu.specs.declared.apdus.Invoke.{Invoke}
use Rattle.apdu.specs.declared.apdus.WtatParamArg.{WtatParamArg}
use Rattle.apdu.specs.declared.apdus.WtanParamArg.{WtanParamArg}
use Rattle.apdu.specs.declared.apdus.Request.TheVariants.{AuthWtmUser, WtatParam, WtanParam}
use Rattle.entries.specs.declared.link.Link.{Link}
use Rattle.entries.specs.Link.{is_linked}
use Rattle.exchange.specs.declared.dialogue.Dialogue.{Dialogue}
use Rattle.exchange.specs.declared.outcome.Outcome.{Outcome}
use Rattle.exchange.specs.declared.outcome.Outcome.TheVariants.{Quiet, Send}
use Rattle.exchange.specs.declared.service.Service.{Service}
use Rattle.exchange.specs.declared.state.State.{State}
use Rattle.exchange.specs.declared.state.State.TheVariants.{FetchingForInitiation, Initiating, Requesting, RequestingProof}
use Rattle.exchange.specs.Dialogue.{expired}
use Rattle.exchange.specs.Invokes.{asking}
use Rattle.exchange.specs.Outcome.{Decision}
use Rattle.exchange.specs.Service.{◌>>=◌, ◌>>◌, timely, ready, room, opened, read_at, written}
use Rattle.exchange.specs.Table.{first_to_end}

-- the user that some digits write
abbrev pub user_check : List ℕ → Result User Refusal
user_check digits = ok_or (user_number digits) Misdialled

-- the user of an initiation, whose peer has to be a link
abbrev pub dialled_check : List ℕ → ℕ → List Link → Result User Refusal
dialled_check digits peer links = do
  user ← user_check digits
  if is_linked links peer then Ok user else Err Misdialled

-- a terminal's challenge
abbrev pub challenge_check : List ℕ → Result (List ℕ) Refusal
challenge_check challenge = ok_or (challenge_of challenge) Misdialled

-- a terminal's response
abbrev pub response_check : List ℕ → Result (List ℕ) Refusal
response_check response = if length response == response_size then Ok response else Err Misdialled

-- a dialogue opens in a state, and its invoke goes to a peer, under the next number
abbrev pub asks : Service → ℕ → ℕ → State → ℕ → Invoke → Outcome × Service
asks s reading place state peer invoke =
    (Send peer (record { id = s.next.0; body = body.Invoke invoke }), opened s reading place state)

-- a peer is asked to authenticate a user, without a unit
abbrev pub initiated : Service → ℕ → List ℕ → ℕ → List Link → Decision
initiated s reading digits peer links = do
  ready s reading
  user ← dialled_check digits peer links
  place ← room s
  let invoke : Invoke = record { user = user; request = AuthWtmUser None }
  Ok (asks s reading place (Initiating (asking s.next peer)) peer invoke)

-- the server is asked for a unit, which a later invoke is to bring to the peer
abbrev pub initiated_with_values : Service → ℕ → List ℕ → ℕ → List Link → Decision
initiated_with_values s reading digits peer links = do
  ready s reading
  user ← dialled_check digits peer links
  place ← room s
  let server = s.fit.server
  let arg : WtatParamArg = record { computes = false; challenge = None }
  let invoke : Invoke = record { user = user; request = WtatParam Server arg }
  Ok (asks s reading place (FetchingForInitiation (asking s.next server) user peer) server invoke)

-- Home is asked for a unit, or for a session where this exchange can compute
abbrev pub visitor_started : Service → ℕ → List ℕ → Decision
visitor_started s reading digits = do
  ready s reading
  user ← user_check digits
  place ← room s
  let home = s.fit.home
  let computes = s.fit.can_compute
  let arg : WtatParamArg = record { computes = computes; challenge = None }
  let invoke : Invoke = record { user = user; request = WtatParam Home arg }
  Ok (asks s reading place (Requesting (asking s.next home) None computes) home invoke)

-- Home is asked for the response to the terminal's challenge under an algorithm, or for a session where this exchange can compute
abbrev pub proof_requested : Service → ℕ → List ℕ → List ℕ → ℕ → Decision
proof_requested s reading digits challenge number = do
  ready s reading
  user ← user_check digits
  terminal_challenge ← challenge_check challenge
  place ← room s
  let home = s.fit.home
  let computes = s.fit.can_compute
  let arg : WtanParamArg =
      record { computes = computes; challenge = terminal_challenge; algorithm = number }
  let invoke : Invoke = record { user = user; request = WtanParam Home arg }
  let state = RequestingProof (asking s.next home) computes terminal_challenge
  Ok (asks s reading place state home invoke)

-- the clock closes a dialogue that was found, and the last reading stays; else the reading becomes the last one
abbrev pub clocked_by : Service → ℕ → Option (ℕ × Dialogue) → Outcome × Service
clocked_by s reading None = (Quiet, read_at s reading)
clocked_by s reading (Some (place, d)) = (expired d, written s s.last s.next place None)

-- the clock closes the dialogue whose timer ends first, once it has ended
abbrev pub clocked : Service → ℕ → Decision
clocked s reading = do
  timely s reading
  Ok (clocked_by s reading (first_to_end reading s.dialogues))
