-- What a call asks of the algorithm, apart from what is done with the answers.
use Rattle.std.specs.Prelude.{◌≡◌, ℕ, Bool, if◌then◌else◌, ◌&&◌, List, [], ◌∷◌, Some, None, Ok, Err, Option, Result, ◌==◌}
use Rattle.std.specs.List.{list_any, AllByRecursion}
use Rattle.refusal.specs.declared.Refusal.{Refusal}
use Rattle.wire.specs.declared.codes.Provider.TheVariants.{Home}
use Rattle.values.specs.Draw.{drawn_challenge, drawn_parameter}
use Rattle.apdu.specs.declared.apdus.WtatInfo.{WtatInfo}
use Rattle.apdu.specs.declared.apdus.WtatInfo.TheVariants as info
use Rattle.apdu.specs.declared.apdus.WtanParamRes.{WtanParamRes}
use Rattle.apdu.specs.declared.apdus.WtanParamRes.TheVariants as proof
use Rattle.apdu.specs.declared.apdus.Request.{Request}
use Rattle.apdu.specs.declared.apdus.Request.TheVariants as request
use Rattle.apdu.specs.declared.apdus.ReturnResult.{ReturnResult}
use Rattle.apdu.specs.declared.apdus.ReturnResult.TheVariants.{WtatParam, WtanParam}
use Rattle.apdu.specs.declared.apdus.Apdu.{Apdu}
use Rattle.apdu.specs.NoApdu.{NoApdu}
use Rattle.apdu.specs.declared.apdus.Body.{Body}
use Rattle.apdu.specs.declared.apdus.Body.TheVariants as body
use Rattle.apdu.specs.Decode.{received_as}
use Rattle.algorithm.specs.declared.direction.Direction.{Direction}
use Rattle.algorithm.specs.declared.direction.Direction.TheVariants.{User, Network}
use Rattle.algorithm.specs.Meaning.{Meaning}
use Rattle.algorithm.specs.Questions.{Question, AgreeOn}
use Rattle.algorithm.specs.Questions as question
use Rattle.entries.specs.declared.link.Link.{Link}
use Rattle.entries.specs.declared.subscriber.KeyPlace.{KeyPlace}
use Rattle.entries.specs.declared.subscriber.KeyPlace.TheVariants.{Here}
use Rattle.entries.specs.declared.subscriber.Subscriber.{Subscriber}
use Rattle.exchange.specs.declared.dialogue.Dialogue.{Dialogue}
use Rattle.exchange.specs.declared.dialogue.Event.{Event}
use Rattle.exchange.specs.declared.dialogue.Event.TheVariants as event
use Rattle.exchange.specs.declared.service.Service.{Service}
use Rattle.exchange.specs.declared.state.State.{State}
use Rattle.exchange.specs.declared.state.State.TheVariants.{Requesting, RequestingProof}
use Rattle.exchange.specs.Deliver.{draw_check}
use Rattle.exchange.specs.Runs.{Call, Delivery, decided}
use Rattle.exchange.specs.Server.{challenge_or, subscriber_for}
use Rattle.exchange.specs.Service.{◌>>=◌, ◌>>◌, by, ready}
use Rattle.exchange.specs.Table.{owes, awaits, found}

-- the response to a challenge under the session that a result brings, where the session is taken
abbrev pub session_asks : Bool → List ℕ → WtatInfo → List Question
session_asks taken challenge (info.Unit unit) = []
session_asks taken challenge (info.Session session) =
    if taken then question.response session.key challenge ∷ [] else []

-- likewise under the session of a network's proof
abbrev pub proof_session_asks : Bool → List ℕ → WtanParamRes → List Question
proof_session_asks taken challenge (proof.Response response) = []
proof_session_asks taken challenge (proof.Session session) =
    if taken then question.response session.key challenge ∷ [] else []

-- of the algorithm itself, a dialogue's step needs its number alone
module _ (number : ℕ) where
  -- what a result asks in a state: the response under a session that was asked for, in Requesting one of our own algorithm
  abbrev pub result_asks : State → ReturnResult → List ℕ → List Question
  result_asks (Requesting asked owed computes) (WtatParam Home r) drawn =
      session_asks (computes && (r.algorithm == number)) drawn r.info
  result_asks (RequestingProof asked computes challenge) (WtanParam Home r) drawn =
      proof_session_asks computes challenge r
  result_asks s r drawn = []

  -- what the dialogue's step asks at an event
  abbrev pub step_asks : Dialogue → Event → List Question
  step_asks d (event.Result r drawn) = result_asks d.state r drawn
  step_asks d e = []

  -- nothing is asked where no dialogue was found
  abbrev pub met_asks : Event → Option (ℕ × Dialogue) → List Question
  met_asks e None = []
  met_asks e (Some (place, d)) = step_asks d e

-- what is asked of a subscriber's key: nothing, where the key is not here
abbrev pub here_asks : KeyPlace → List Question → List Question
here_asks Here questions = questions
here_asks place questions = []

-- what is asked of the key of a subscriber, where there is one
abbrev pub key_asks : Option Subscriber → (List ℕ → List Question) → List Question
key_asks None asks = []
key_asks (Some subscriber) asks = here_asks subscriber.key_place (asks subscriber.user_key)

module _ (m : Meaning) (draw : List ℕ) where
  -- a session under a key and the drawn parameter, and where the asker cannot compute the response under it: that question
  -- rests on the answer to the first
  abbrev pub made_asks : Direction → Bool → List ℕ → List ℕ → List Question
  made_asks direction computes challenge key =
      question.session direction key (drawn_parameter draw)
      ∷ (if computes
      then []
      else question.response (m.session direction key (drawn_parameter draw)) challenge ∷ [])

  -- what the server asks at a request of a user, by the user's subscriber; for the network's proof under our own algorithm only
  abbrev pub server_asks : Request → Option Subscriber → List Question
  server_asks (request.AuthWtmUser unit) subscriber = []
  server_asks (request.WtatParam provider a) subscriber =
      key_asks subscriber (made_asks User a.computes (challenge_or a.challenge draw))
  server_asks (request.WtanParam provider a) subscriber =
      key_asks subscriber (λ key.
      if a.algorithm == m.number then made_asks Network a.computes a.challenge key else [])

  -- what an APDU of a peer asks: an invoke that is still owed asks nothing
  abbrev pub came_asks : Service → ℕ → List Subscriber → ℕ → Body → List Question
  came_asks s peer subscribers id (body.Invoke i) =
      if list_any (owes peer id) s.dialogues
      then []
      else server_asks i.request (subscriber_for subscribers i.user)
  came_asks s peer subscribers id (body.ReturnResult r) =
      met_asks m.number (event.Result r (drawn_challenge draw)) (found (awaits peer id) s.dialogues)
  came_asks s peer subscribers id b = []

  -- what no APDU is read from asks nothing
  abbrev pub received_asks : Service → ℕ → List Subscriber → Result Apdu NoApdu → List Question
  received_asks s peer subscribers (Ok a) = came_asks s peer subscribers a.id a.body
  received_asks s peer subscribers (Err e) = []

-- what a delivery asks, once its checks are passed
abbrev pub delivery_asks :
    Meaning → Service → ℕ → ℕ → List ℕ → List ℕ → List Link → List Subscriber
    → Result (List Question) Refusal
delivery_asks m s reading peer draw bytes links subscribers = do
  ready s reading
  drawn ← draw_check links peer draw
  Ok (received_asks m drawn s peer subscribers (received_as bytes))

-- a refusal asks nothing
abbrev pub questions : Result (List Question) Refusal → List Question
questions asked = by asked (λ questions. questions) (λ refusal. [])

-- what a call asks to decide: of the seven calls a delivery alone asks
abbrev pub call_asks : Meaning → Service → Call → List Question
call_asks m s (Delivery reading peer draw bytes links subscribers out) =
    questions (delivery_asks m s reading peer draw bytes links subscribers)
call_asks m s call = []

-- a call rests on the answers to its own questions alone: algorithms of one number that agree on them decide it alike
abbrev pub DecidedAlike : Type 0
DecidedAlike =
    (m n : Meaning)
    → m.number ≡ n.number
    → (s : Service) (c : Call)
    → AllByRecursion (AgreeOn m n) (call_asks m s c)
    → decided m s c ≡ decided n s c
