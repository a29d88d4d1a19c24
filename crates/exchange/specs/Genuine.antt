-- What holds of every run: a reply is found genuine exactly when it is the algorithm's response to the challenge reported,
-- under the key of the user.
use Rattle.std.specs.Prelude.{◌≡◌, ◌≢◌, ◌⊎◌, ℕ, if◌then◌else◌, ◌==◌, List, [], ◌∷◌, ◌++◌, length, take, Some, None, Ok, Err, Option, Result, ◌↔◌}
use Rattle.std.specs.List.{AllByRecursion}
use Rattle.std.specs.Option.{option_map}
use Rattle.refusal.specs.declared.Refusal.{Refusal}
use Rattle.wire.specs.declared.codes.Verdict.{Verdict}
use Rattle.wire.specs.declared.codes.Verdict.TheVariants.{Correct}
use Rattle.apdu.specs.declared.apdus.WtatInfo.{WtatInfo}
use Rattle.apdu.specs.declared.apdus.WtatInfo.TheVariants as info
use Rattle.apdu.specs.declared.apdus.Request.{Request}
use Rattle.apdu.specs.declared.apdus.Request.TheVariants as request
use Rattle.apdu.specs.declared.apdus.ReturnResult.TheVariants.{AuthWtmUser, WtatParam}
use Rattle.wire.specs.declared.codes.Provider.TheVariants.{Home}
use Rattle.apdu.specs.declared.apdus.Body.{Body}
use Rattle.apdu.specs.declared.apdus.Body.TheVariants as body
use Rattle.apdu.specs.declared.apdus.Apdu.{Apdu}
use Rattle.apdu.specs.NoApdu.{NoApdu}
use Rattle.apdu.specs.Decode.{received_as}
use Rattle.values.specs.declared.user.User as users
use Rattle.values.specs.Sizes.{challenge_size}
use Rattle.algorithm.specs.declared.direction.Direction.TheVariants.{User}
use Rattle.algorithm.specs.Meaning.{Meaning, answered}
use Rattle.entries.specs.declared.link.Link.{Link}
use Rattle.entries.specs.declared.subscriber.Subscriber.{Subscriber}
use Rattle.exchange.specs.declared.fit_out.FitOut.{FitOut}
use Rattle.exchange.specs.declared.dialogue.Dialogue.{Dialogue}
use Rattle.exchange.specs.declared.invokes.Owed.{Owed}
use Rattle.exchange.specs.declared.invokes.OwnNumber.{OwnNumber}
use Rattle.exchange.specs.Done.{Done}
use Rattle.exchange.specs.declared.outcome.Done.TheVariants.{Sent, Reported}
use Rattle.exchange.specs.declared.outcome.Report.TheVariants as report
use Rattle.exchange.specs.declared.service.Service.{Service}
use Rattle.exchange.specs.Outcome.{After}
use Rattle.exchange.specs.EnterService.{entered}
use Rattle.exchange.specs.Runs.{Call, Delivery, Reply, Given, Machine, called, at_end}
use Rattle.exchange.specs.State.{owed_by, is_owed_to}
use Rattle.exchange.specs.Table.{Has}

-- what an APDU says, where some bytes are read as one
abbrev pub said : {A : Type 0} → (Body → Option A) → Result Apdu NoApdu → Option A
said in_body (Ok a) = in_body a.body
said in_body (Err e) = None

-- the user of a request for parameters
abbrev pub user_of_request : users.User → Request → Option users.User
user_of_request u (request.WtatParam provider a) = Some u
user_of_request u r = None

-- the user whose parameters are asked for, by an invoke of getWtatParam or wtatParamEnq
abbrev pub user_asked : Body → Option users.User
user_asked (body.Invoke i) = user_of_request i.user i.request
user_asked b = None

-- the unit or session in a result of getWtatParam or wtatParamEnq
abbrev pub values_written : Body → Option WtatInfo
values_written (body.ReturnResult (WtatParam provider r)) = Some r.info
values_written b = None

-- the unit in a request of authWtmUser
abbrev pub unit_brought : Request → Option WtatInfo
unit_brought (request.AuthWtmUser unit) = option_map info.Unit unit
unit_brought r = None

-- the unit in an invoke of authWtmUser, or the unit or session in a result of getWtatParam
abbrev pub values_brought : Body → Option WtatInfo
values_brought (body.Invoke i) = unit_brought i.request
values_brought (body.ReturnResult (WtatParam Home r)) = Some r.info
values_brought b = None

-- the verdict in a result of authWtmUser
abbrev pub verdict_in : Body → Option Verdict
verdict_in (body.ReturnResult (AuthWtmUser v)) = Some v
verdict_in b = None

-- what the APDU of a delivery says
abbrev pub said_to : {A : Type 0} → (Body → Option A) → Call → Option A
said_to in_body (Delivery reading peer draw bytes links subscribers out) =
    said in_body (received_as bytes)
said_to in_body call = None

-- what the APDU says that a call sent, which stands at the front of the buffer left
abbrev pub said_with : {A : Type 0} → (Body → Option A) → Result Done Refusal → List ℕ → Option A
said_with in_body (Ok (Sent peer size)) left = said in_body (received_as (take size left))
said_with in_body r left = None

-- what the APDU says that a call sent
abbrev pub said_by : {A : Type 0} → (Body → Option A) → After → Option A
said_by in_body after = said_with in_body after.result after.buffer

-- the verdict in an APDU that goes to a peer, where that peer is owed the answer under its id
abbrev pub verdict_for : Option Owed → ℕ → Result Apdu NoApdu → Option Verdict
verdict_for owed peer (Ok a) = if is_owed_to peer a.id owed then verdict_in a.body else None
verdict_for owed peer (Err e) = None

-- the verdict on a reply under a name: sent to the peer and under the id that are owed it, or reported under the name where
-- nothing is owed
abbrev pub verdict_with : OwnNumber → Option Owed → Result Done Refusal → List ℕ → Option Verdict
verdict_with name owed (Ok (Sent peer size)) left =
    verdict_for owed peer (received_as (take size left))
verdict_with name None (Ok (Reported own (report.Verdict v))) left =
    if own.0 == name.0 then Some v else None
verdict_with name owed r left = None

-- the verdict on a reply under a name, by what the call gave and left
abbrev pub verdict_by : OwnNumber → Option Owed → After → Option Verdict
verdict_by name owed after = verdict_with name owed after.result after.buffer

-- the first of some subscribers that is of a user
abbrev pub IsFirst : users.User → Subscriber → List Subscriber → Type 0
IsFirst user subscriber [] = ⊥
IsFirst user subscriber (one ∷ others) =
    ((one.user ≡ user) × (one ≡ subscriber))
    ⊎ ((one.user ≢ user) × IsFirst user subscriber others)

-- A server wrote values with a user's key and a parameter: an exchange, after any calls and given an algorithm of this meaning, was
-- asked for the parameters of a user whose first subscriber has the key, under a draw whose second half is the parameter, and
-- sent a result with the values.
pub record Wrote
    (does : Machine) (m : Meaning) (key parameter : List ℕ) (values : WtatInfo) : Type 0 where
  pub fit : FitOut
  pub server : Service
  pub enters : entered fit ≡ Ok server
  pub earlier : List (Meaning × Call)
  pub reading : ℕ
  pub peer : ℕ
  pub challenge : List ℕ
  pub bytes : List ℕ
  pub links : List Link
  pub subscribers : List Subscriber
  pub out : List ℕ
  pub given :
      AllByRecursion Given
      (earlier
      ++ (m, Delivery reading peer (challenge ++ parameter) bytes links subscribers out) ∷ [])
  pub half : length challenge ≡ challenge_size
  pub user : users.User
  pub asked : said user_asked (received_as bytes) ≡ Some user
  pub subscriber : Subscriber
  pub first : IsFirst user subscriber subscribers
  pub keyed : subscriber.user_key ≡ key
  pub wrote :
      said_by values_written
      (does m (at_end does server earlier)
      (Delivery reading peer (challenge ++ parameter) bytes links subscribers out))
      ≡ Some values

-- the dialogue with the name, as it stood before the reply, gets a verdict, which is correct exactly where the response is the
-- expected one
pub record Judges
    (before : Service) (name : OwnNumber) (reply : After) (response expected : List ℕ)
    : Type 0 where
  pub dialogue : Dialogue
  pub stood : Has dialogue before.dialogues
  pub named : dialogue.name ≡ name
  -- no other has the name
  pub alone : (other : Dialogue) → Has other before.dialogues → other.name ≡ name → other ≡ dialogue
  pub verdict : Verdict
  -- it goes to the peer and under the id that the dialogue owes, or is reported under the name
  pub told : verdict_by name (owed_by dialogue.state) reply ≡ Some verdict
  pub right : (verdict ≡ Correct) ↔ (response ≡ expected)

-- Where a server wrote values with a user's key and a parameter, and a delivery, given an algorithm of the same meaning, brings them
-- unaltered and reports a challenge under a name, then, whatever calls come next, and whatever algorithms they are given, a done
-- reply under that name is found correct exactly where it is the response to that challenge under the session that the user's key
-- and the parameter give.
abbrev pub GenuineBy : Machine → Service → Type 0
GenuineBy does s =
    (m : Meaning) (key parameter : List ℕ) (values : WtatInfo) →
    Wrote does m key parameter values →
    (earlier : List (Meaning × Call)) (delivery : Call) (later : List (Meaning × Call)) →
    AllByRecursion Given (earlier ++ (m, delivery) ∷ later) →
    said_to values_brought delivery ≡ Some values →
    (name : OwnNumber) (challenge : List ℕ) →
    (does m (at_end does s earlier) delivery).result
    ≡ Ok (Reported name (report.Challenge challenge)) →
    (n : Meaning) (reading : ℕ) (response out : List ℕ) (done : Done) →
    let before = at_end does s (earlier ++ (m, delivery) ∷ later) in
    let reply = does n before (Reply reading name response out) in
    reply.result ≡ Ok done →
    Judges before name reply response (answered m User key parameter challenge)

-- of an exchange that is called
abbrev pub AlwaysGenuine : Service → Type 0
AlwaysGenuine s = GenuineBy called s
