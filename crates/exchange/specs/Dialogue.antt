-- The step of one dialogue.
use Rattle.std.specs.Prelude.{ℕ, Bool, if◌then◌else◌, not, ◌&&◌, ◌||◌, List, is_some, Some, None, Option, ◌==◌}
use Rattle.std.specs.Str.{bytes_eq}
use Rattle.wire.specs.declared.codes.ErrorCode.TheVariants.{ParamNotAvailable, TemporarilyUnavailable}
use Rattle.wire.specs.declared.codes.Provider.TheVariants.{Home, Server}
use Rattle.wire.specs.declared.codes.Verdict.{Verdict}
use Rattle.wire.specs.declared.codes.Verdict.TheVariants.{Correct, Incorrect}
use Rattle.values.specs.declared.proof.AuthUnit.{AuthUnit}
use Rattle.values.specs.declared.user.User.{User}
use Rattle.apdu.specs.declared.apdus.WtatInfo.{WtatInfo}
use Rattle.apdu.specs.declared.apdus.WtatInfo.TheVariants as info
use Rattle.apdu.specs.declared.apdus.WtanParamRes.{WtanParamRes}
use Rattle.apdu.specs.declared.apdus.WtanParamRes.TheVariants as proof
use Rattle.apdu.specs.declared.apdus.Invoke.{Invoke}
use Rattle.apdu.specs.declared.apdus.Request.TheVariants as request
use Rattle.apdu.specs.declared.apdus.ReturnResult.{ReturnResult}
use Rattle.apdu.specs.declared.apdus.ReturnResult.TheVariants.{AuthWtmUser, WtatParam, WtanParam}
use Rattle.apdu.specs.declared.apdus.Body.{Body}
use Rattle.apdu.specs.declared.apdus.Body.TheVariants as body
use Rattle.algorithm.specs.Meaning.{Meaning}
use Rattle.exchange.specs.declared.fit_out.FitOut.{FitOut}
use Rattle.exchange.specs.declared.invokes.Asked.{Asked}
use Rattle.exchange.specs.declared.invokes.OwnNumber.{OwnNumber}
use Rattle.exchange.specs.declared.invokes.Owed.{Owed}
use Rattle.exchange.specs.declared.state.State.{State}
use Rattle.exchange.specs.declared.state.State.TheVariants.{FetchingForInitiation, Initiating, FetchingForVisitor, Requesting, Executing, RequestingProof, FetchingProof}
use Rattle.exchange.specs.declared.dialogue.Dialogue.{Dialogue}
use Rattle.exchange.specs.declared.dialogue.Event.{Event}
use Rattle.exchange.specs.declared.dialogue.Event.TheVariants as event
use Rattle.exchange.specs.declared.dialogue.Step.{Step}
use Rattle.exchange.specs.declared.dialogue.Step.TheVariants.{Stray, GoesOn, AsksAgain, Closes}
use Rattle.exchange.specs.declared.outcome.Cause.TheVariants as cause
use Rattle.exchange.specs.declared.outcome.Outcome.{Outcome}
use Rattle.exchange.specs.declared.outcome.Outcome.TheVariants as outcome
use Rattle.exchange.specs.declared.outcome.Report.{Report}
use Rattle.exchange.specs.declared.outcome.Report.TheVariants as report
use Rattle.exchange.specs.Invokes.{asking}
use Rattle.exchange.specs.Results.{is_session, is_proof_session}
use Rattle.exchange.specs.State.{timer_of, end_of, owed_by, asked_by}

-- an APDU goes to a peer
abbrev pub sent : ℕ → ℕ → Body → Outcome
sent peer id b = outcome.Send peer (record { id = id; body = b })

-- the answer to the peer that is owed it
abbrev pub answer : Owed → Body → Outcome
answer owed b = sent owed.peer owed.id.0 b

-- an invoke of ours to the peer that is asked
abbrev pub invoked : Asked → Invoke → Outcome
invoked asked invoke = sent asked.peer asked.id.0 (body.Invoke invoke)

-- the invoke that asks a peer to authenticate a user, with a unit
abbrev pub authenticate : Asked → User → AuthUnit → Outcome
authenticate asked user unit =
    invoked asked (record { user = user; request = request.AuthWtmUser (Some unit) })

-- what is owed gets an answer, and where nothing is owed a report is made under a name
abbrev pub answer_or_report : Option Owed → Body → OwnNumber → Report → Outcome
answer_or_report None b name r = outcome.Report name r
answer_or_report (Some owed) b name r = answer owed b

-- a report of a dialogue, under its name
abbrev pub reported : Dialogue → Report → Outcome
reported d r = outcome.Report d.name r

-- what a dialogue owes gets an answer, or a report is made of it
abbrev pub concluded : Dialogue → Body → Report → Outcome
concluded d b r = answer_or_report (owed_by d.state) b d.name r

-- the timer has ended: what is owed gets error temporarilyUnavailable, otherwise the failure is reported
abbrev pub expired : Dialogue → Outcome
expired d =
    concluded d (body.ReturnError TemporarilyUnavailable)
    (report.Failure (cause.Expiry (timer_of d.state)))

-- a response is correct where it is the expected one
abbrev pub verdict_on : List ℕ → List ℕ → Verdict
verdict_on response expected = if bytes_eq response expected then Correct else Incorrect

-- nothing awaits the event, and the dialogue is as it was
abbrev pub stray : Dialogue → Step × Dialogue
stray d = (Stray, d)

-- the dialogue closes with an outcome
abbrev pub closes : Dialogue → Outcome → Step × Dialogue
closes d o = (Closes o, d)

-- a dialogue goes on in a state, whose timer starts
abbrev pub goes_on : FitOut → ℕ → Dialogue → State → Dialogue
goes_on fit reading d s = record d { ends = end_of fit reading s; state = s }

-- on to the terminal, which is given a challenge, and from which a response is expected
abbrev pub challenged :
    FitOut → ℕ → Dialogue → Option Owed → List ℕ → List ℕ → Step × Dialogue
challenged fit reading d owed challenge expected = (
  GoesOn (reported d (report.Challenge challenge)),
  goes_on fit reading d (Executing owed expected),
)

module _ (m : Meaning) (fit : FitOut) (reading : ℕ) (next : OwnNumber) (d : Dialogue) where
  -- in FetchingForInitiation: a unit goes to the peer of the initiation, in another invoke under the next number
  abbrev pub in_fetching_for_initiation : User → Asked → WtatInfo → Step × Dialogue
  in_fetching_for_initiation user asked (info.Unit unit) =
      (AsksAgain (authenticate asked user unit), goes_on fit reading d (Initiating asked))
  in_fetching_for_initiation user asked (info.Session session) = stray d

  -- in Requesting: a unit is taken under any algorithm, a session only where it was asked for, and under our own
  abbrev pub in_requesting : Option Owed → Bool → List ℕ → ℕ → WtatInfo → Step × Dialogue
  in_requesting owed computes drawn number (info.Unit unit) =
      challenged fit reading d owed unit.challenge unit.response
  in_requesting owed computes drawn number (info.Session session) =
      if computes && (number == m.number)
      then challenged fit reading d owed drawn (m.response session.key drawn)
      else stray d

  -- in RequestingProof: the response, or the one that the session gives, where it was asked for
  abbrev pub in_requesting_proof : Bool → List ℕ → WtanParamRes → Step × Dialogue
  in_requesting_proof computes challenge (proof.Response response) =
      closes d (reported d (report.Response response))
  in_requesting_proof computes challenge (proof.Session session) =
      if computes
      then closes d (reported d (report.Response (m.response session.key challenge)))
      else stray d

  -- in FetchingForVisitor and FetchingProof: the same fields go to the peer that is owed them, a session only where it was asked for
  abbrev pub passed_on : Owed → Bool → ReturnResult → Step × Dialogue
  passed_on owed awaited r =
      if awaited then closes d (answer owed (body.ReturnResult r)) else stray d

  -- in Executing: the terminal's verdict
  abbrev pub judged : Option Owed → Verdict → Step × Dialogue
  judged owed v =
      closes d (answer_or_report owed (body.ReturnResult (AuthWtmUser v)) d.name (report.Verdict v))

  -- an answer that is no result: what is owed gets an error, otherwise the failure is reported
  abbrev pub failed : Body → Report → Step × Dialogue
  failed b r = if is_some (asked_by d.state) then closes d (concluded d b r) else stray d

  -- a result, and the challenge that was drawn for it
  abbrev pub resulted : State → ReturnResult → List ℕ → Step × Dialogue
  resulted (FetchingForInitiation asked user peer) (WtatParam Server r) drawn =
      in_fetching_for_initiation user (asking next peer) r.info
  resulted (Initiating asked) (AuthWtmUser v) drawn = closes d (reported d (report.Verdict v))
  resulted (FetchingForVisitor asked owed computes) (WtatParam Server r) drawn =
      passed_on owed (computes || not (is_session r.info)) (WtatParam Home r)
  resulted (Requesting asked owed computes) (WtatParam Home r) drawn =
      in_requesting owed computes drawn r.algorithm r.info
  resulted (RequestingProof asked computes challenge) (WtanParam Home r) drawn =
      in_requesting_proof computes challenge r
  resulted (FetchingProof asked owed computes) (WtanParam Server r) drawn =
      passed_on owed (computes || not (is_proof_session r)) (WtanParam Home r)
  resulted s r drawn = stray d

  -- the terminal's reply
  abbrev pub reply_step : State → List ℕ → Step × Dialogue
  reply_step (Executing owed expected) response = judged owed (verdict_on response expected)
  reply_step s response = stray d

  -- state and event together decide the step
  abbrev pub stepped : Event → Step × Dialogue
  stepped (event.Result r drawn) = resulted d.state r drawn
  stepped (event.Error e) = failed (body.ReturnError e) (report.Failure (cause.Error e))
  stepped (event.Reject problem) =
      failed (body.ReturnError ParamNotAvailable) (report.Failure (cause.Reject problem))
  stepped (event.Reply response) = reply_step d.state response
  stepped event.Expiry = closes d (expired d)
