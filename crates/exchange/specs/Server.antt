-- The server's answer, and what else a peer's invoke comes to.
use Rattle.std.specs.Prelude.{ℕ, if◌then◌else◌, List, Some, None, Option, ◌==◌, nat_eq}
use Rattle.wire.specs.declared.codes.ErrorCode.{ErrorCode}
use Rattle.wire.specs.declared.codes.ErrorCode.TheVariants.{InvalidServedUserNr, ParamNotAvailable}
use Rattle.wire.specs.declared.codes.Provider.{Provider}
use Rattle.wire.specs.declared.codes.Provider.TheVariants as providers
use Rattle.values.specs.declared.proof.AuthUnit.{AuthUnit}
use Rattle.values.specs.declared.proof.AuthSession.{AuthSession}
use Rattle.values.specs.declared.user.User as user
use Rattle.values.specs.Draw.{drawn_challenge, drawn_parameter}
use Rattle.apdu.specs.declared.apdus.WtatParamArg.{WtatParamArg}
use Rattle.apdu.specs.declared.apdus.WtanParamArg.{WtanParamArg}
use Rattle.apdu.specs.declared.apdus.WtatParamRes.{WtatParamRes}
use Rattle.apdu.specs.declared.apdus.WtatInfo.TheVariants as info
use Rattle.apdu.specs.declared.apdus.WtanParamRes.{WtanParamRes}
use Rattle.apdu.specs.declared.apdus.WtanParamRes.TheVariants as proof
use Rattle.apdu.specs.declared.apdus.Invoke.{Invoke}
use Rattle.apdu.specs.declared.apdus.Request.{Request}
use Rattle.apdu.specs.declared.apdus.Request.TheVariants.{AuthWtmUser, WtatParam, WtanParam}
use Rattle.apdu.specs.declared.apdus.ReturnResult.TheVariants as result
use Rattle.apdu.specs.declared.apdus.Body.{Body}
use Rattle.apdu.specs.declared.apdus.Body.TheVariants as body
use Rattle.algorithm.specs.declared.direction.Direction.{Direction}
use Rattle.algorithm.specs.declared.direction.Direction.TheVariants.{User, Network}
use Rattle.algorithm.specs.Meaning.{Meaning}
use Rattle.directory.specs.Found.{first_with}
use Rattle.entries.specs.declared.subscriber.KeyPlace.{KeyPlace}
use Rattle.entries.specs.declared.subscriber.KeyPlace.TheVariants.{NoParameters, Here, Server}
use Rattle.entries.specs.declared.subscriber.Subscriber.{Subscriber}
use Rattle.entries.specs.Subscriber.{subscriber_key}
use Rattle.exchange.specs.declared.fit_out.FitOut.{FitOut}
use Rattle.exchange.specs.declared.invokes.Asked.{Asked}
use Rattle.exchange.specs.declared.invokes.OwnNumber.{OwnNumber}
use Rattle.exchange.specs.declared.invokes.Owed.{Owed}
use Rattle.exchange.specs.declared.state.State.{State}
use Rattle.exchange.specs.declared.state.State.TheVariants.{FetchingForVisitor, Requesting, Executing, FetchingProof}
use Rattle.exchange.specs.declared.handling.Handling.{Handling}
use Rattle.exchange.specs.declared.handling.Handling.TheVariants.{Answer, Opens}
use Rattle.exchange.specs.declared.outcome.Outcome.TheVariants as outcome
use Rattle.exchange.specs.declared.outcome.Report.TheVariants as report
use Rattle.exchange.specs.Dialogue.{invoked}
use Rattle.exchange.specs.Invokes.{asking}

-- the challenge that the asker sent, or the drawn one
abbrev pub challenge_or : Option (List ℕ) → List ℕ → List ℕ
challenge_or None draw = drawn_challenge draw
challenge_or (Some challenge) draw = challenge

-- the first subscriber of a user
abbrev pub subscriber_for : List Subscriber → user.User → Option Subscriber
subscriber_for subscribers u = first_with nat_eq subscriber_key subscribers u

-- an error at once
abbrev pub fails : ErrorCode → Handling
fails error = Answer (body.ReturnError error)

module _ (m : Meaning) (draw : List ℕ) (user_key : List ℕ) where
  -- a session under the user's key and the drawn parameter
  abbrev pub session_made : Direction → AuthSession
  session_made d = record {
    key = m.session d user_key (drawn_parameter draw);
    parameter = drawn_parameter draw;
  }

  -- a challenge, and the response to it under such a session
  abbrev pub unit_made : List ℕ → AuthUnit
  unit_made challenge = record {
    challenge = challenge;
    response = m.response (session_made User).key challenge;
  }

  -- the user's proof: a session for an asker that can compute, otherwise a unit
  abbrev pub values_made : WtatParamArg → WtatParamRes
  values_made a = record {
    algorithm = m.number;
    info = if a.computes
        then info.Session (session_made User)
        else info.Unit (unit_made (challenge_or a.challenge draw));
  }

  -- the network's proof: a session for an asker that can compute, otherwise the response
  abbrev pub proof_made : WtanParamArg → WtanParamRes
  proof_made a =
      if a.computes
      then proof.Session (session_made Network)
      else proof.Response (m.response (session_made Network).key a.challenge)

  -- the server's answer to a request for the user's proof, of a user whose key it has
  abbrev pub values_answer : Provider → WtatParamArg → Body
  values_answer provider a = body.ReturnResult (result.WtatParam provider (values_made a))

  -- likewise to one for the network's proof: error paramNotAvailable under another algorithm
  abbrev pub proof_answer : Provider → WtanParamArg → Body
  proof_answer provider a =
      if a.algorithm == m.number
      then body.ReturnResult (result.WtanParam provider (proof_made a))
      else body.ReturnError ParamNotAvailable

-- where the parameters of a user are: nowhere, here, or at the server
abbrev pub by_place : KeyPlace → Handling → Handling → Handling
by_place NoParameters here at_server = fails ParamNotAvailable
by_place Here here at_server = here
by_place Server here at_server = at_server

-- what a request for parameters comes to: where the key is here, and where it is at the server
abbrev pub served : Option Subscriber → (List ℕ → Body) → Handling → Handling
served None here at_server = fails InvalidServedUserNr
served (Some subscriber) here at_server =
    by_place subscriber.key_place (Answer (here subscriber.user_key)) at_server

-- a dialogue opens for a peer's invoke, and an invoke of ours goes to the peer that is asked
abbrev pub opens : Asked → State → Invoke → Handling
opens asked state invoke = Opens state (invoked asked invoke)

module _ (fit : FitOut) (next : OwnNumber) (owed : Owed) where
  -- authWtmUser: on to the terminal with the unit that it brings, or Home is asked for one
  abbrev pub visited : user.User → Option AuthUnit → Handling
  visited u (Some unit) =
      Opens (Executing (Some owed) unit.response)
      (outcome.Report next (report.Challenge unit.challenge))
  visited u None =
      let asked : Asked = asking next fit.home in
      opens asked (Requesting asked (Some owed) fit.can_compute)
      (record {
        user = u;
        request =
            WtatParam providers.Home (record { computes = fit.can_compute; challenge = None });
      })

  -- Home asks the server with the same fields; the server asks nobody
  abbrev pub forwarded : Provider → State → user.User → Request → Handling
  forwarded providers.Home state u request =
      opens (asking next fit.server) state (record { user = u; request = request })
  forwarded providers.Server state u request = fails ParamNotAvailable

  module _ (m : Meaning) (draw : List ℕ) where
    -- what a request of a user comes to, by its operation, the user's subscriber, the key's place, canCompute and the algorithm's number
    abbrev pub requested : user.User → Request → Option Subscriber → Handling
    requested u (AuthWtmUser unit) subscriber = visited u unit
    requested u (WtatParam provider a) subscriber =
        served subscriber (λ key. values_answer m draw key provider a)
        (forwarded provider (FetchingForVisitor (asking next fit.server) owed a.computes) u
        (WtatParam providers.Server a))
    requested u (WtanParam provider a) subscriber =
        served subscriber (λ key. proof_answer m draw key provider a)
        (forwarded provider (FetchingProof (asking next fit.server) owed a.computes) u
        (WtanParam providers.Server a))

    -- what a peer's invoke comes to
    abbrev pub handled : Invoke → Option Subscriber → Handling
    handled invoke subscriber = requested invoke.user invoke.request subscriber
