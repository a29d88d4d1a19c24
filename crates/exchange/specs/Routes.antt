-- Three routes, each run once over whole exchanges: what one sends is delivered to the next.
use Rattle.std.specs.Prelude.{◌≡◌, ℕ, ◌+◌, Bool, true, false, List, [], ◌++◌, take, slice_index, slice_set, Some, Ok, Result}
use Rattle.refusal.specs.declared.Refusal.{Refusal}
use Rattle.wire.specs.declared.codes.Verdict.TheVariants.{Correct, Incorrect}
use Rattle.apdu.specs.declared.apdus.WtatInfo.{WtatInfo}
use Rattle.apdu.specs.declared.apdus.WtatInfo.TheVariants as info
use Rattle.algorithm.specs.declared.direction.Direction.TheVariants.{User}
use Rattle.algorithm.specs.Meaning.{answered}
use Rattle.entries.specs.declared.subscriber.KeyPlace.{KeyPlace}
use Rattle.entries.specs.declared.subscriber.KeyPlace.TheVariants.{NoParameters, Here, Server}
use Rattle.exchange.specs.Done.{Done}
use Rattle.exchange.specs.declared.outcome.Done.TheVariants.{Sent, Reported}
use Rattle.exchange.specs.declared.outcome.Report.{Report}
use Rattle.exchange.specs.declared.outcome.Report.TheVariants as report
use Rattle.exchange.specs.declared.service.Service.{Service}
use Rattle.exchange.specs.Outcome.{After}
use Rattle.exchange.specs.Examples.{home, server, visitor_peer, asker, links, set_up, byte, sums, digits, user_key, subscribers, server_challenge, parameter, own_challenge, own_draw, buffer, first}
use Rattle.exchange.specs.Genuine.{said_by, values_written, values_brought}
use Rattle.exchange.specs.Runs.{InitiationWithValues, VisitorStart, Delivery, Reply, called}

-- the peer that an APDU was sent to
abbrev pub peer_in : Result Done Refusal → ℕ
peer_in (Ok (Sent peer size)) = peer
peer_in r = 0

-- the peer that a call sent an APDU to
abbrev pub goes_to : After → ℕ
goes_to after = peer_in after.result

-- the bytes that were sent
abbrev pub sent_in : Result Done Refusal → List ℕ → List ℕ
sent_in (Ok (Sent peer size)) left = take size left
sent_in r left = []

-- the bytes that a call sent
abbrev pub sent : After → List ℕ
sent after = sent_in after.result after.buffer

-- a call reports something of the first dialogue
abbrev pub Reports : Report → After → Type 0
Reports r after = after.result ≡ Ok (Reported first r)

-- they are delivered to an exchange, with its draw, the place of its user keys, and from a sender
abbrev pub delivered_to : Service → List ℕ → KeyPlace → ℕ → After → After
delivered_to receiver draw place sender after =
    called sums receiver (Delivery 10 sender draw (sent after) links (subscribers place) buffer)

-- to an exchange of no users
abbrev pub reaches : Service → ℕ → After → After
reaches receiver sender after = delivered_to receiver own_draw NoParameters sender after

-- to the server, which has the user keys
abbrev pub reaches_server : ℕ → After → After
reaches_server sender after =
    delivered_to (set_up false) (server_challenge ++ parameter) Here sender after

-- to Home, whose user keys are at the server
abbrev pub reaches_home : ℕ → After → After
reaches_home sender after = delivered_to (set_up false) own_draw Server sender after

-- the terminal replies
abbrev pub replied_to : After → List ℕ → After
replied_to challenged response = called sums challenged.service (Reply 10 first response buffer)

-- the response to a challenge under the session of the user's key and the server's parameter
abbrev pub right_response : List ℕ → List ℕ
right_response challenge = answered sums User user_key parameter challenge

-- the same with another last byte
abbrev pub wrong_response : List ℕ → List ℕ
wrong_response challenge =
    let right = right_response challenge in slice_set right 3 (byte (slice_index right 3 + 1))

-- the server's session, with its parameter
abbrev pub session_of_server : WtatInfo
session_of_server =
    info.Session (record { key = sums.session User user_key parameter; parameter = parameter })

-- the server's unit, of its challenge
abbrev pub unit_of_server : WtatInfo
unit_of_server =
    info.Unit (record { challenge = server_challenge; response = right_response server_challenge })

-- First route: an initiation with values.

-- the asker asks the server for a unit
abbrev pub asker_starts : After
asker_starts = called sums (set_up false) (InitiationWithValues 10 digits visitor_peer links buffer)

-- the server answers with one
abbrev pub server_answers_asker : After
server_answers_asker = reaches_server asker asker_starts

-- the asker sends the unit in its invoke
abbrev pub asker_invokes : After
asker_invokes = reaches asker_starts.service server server_answers_asker

-- the visited exchange gives the terminal its challenge
abbrev pub visited_challenges : After
visited_challenges = reaches (set_up false) asker asker_invokes

-- the terminal replies, and the asker is sent the verdict
abbrev pub visited_answers : List ℕ → After
visited_answers response = replied_to visited_challenges response

-- the verdict reaches the asker
abbrev pub asker_hears : List ℕ → After
asker_hears response = reaches asker_invokes.service visitor_peer (visited_answers response)

-- each sends to the next what it is to send, and the right response alone is found correct
pub record InitiationRuns : Type 0 where
  pub asker_asks_server : goes_to asker_starts ≡ server
  pub server_answers : goes_to server_answers_asker ≡ asker
  pub with_a_unit : said_by values_written server_answers_asker ≡ Some unit_of_server
  pub asker_asks_visited : goes_to asker_invokes ≡ visitor_peer
  pub with_that_unit : said_by values_brought asker_invokes ≡ Some unit_of_server
  pub terminal_is_challenged : Reports (report.Challenge server_challenge) visited_challenges
  pub visited_answers_asker : goes_to (visited_answers (right_response server_challenge)) ≡ asker
  pub right_is_correct :
      Reports (report.Verdict Correct) (asker_hears (right_response server_challenge))
  pub wrong_is_incorrect :
      Reports (report.Verdict Incorrect) (asker_hears (wrong_response server_challenge))

-- Second and third route: a visitor, for whom the visited exchange asks Home, and Home the server.
module _ (computes : Bool) where
  -- the visited exchange asks Home
  abbrev pub visited_starts : After
  visited_starts = called sums (set_up computes) (VisitorStart 10 digits buffer)

  -- Home asks the server
  abbrev pub home_forwards : After
  home_forwards = reaches_home visitor_peer visited_starts

  -- the server answers with its values
  abbrev pub server_answers_home : After
  server_answers_home = reaches_server home home_forwards

  -- Home answers with the same
  abbrev pub home_passes_on : After
  home_passes_on = reaches home_forwards.service server server_answers_home

  -- the visited exchange gives the terminal a challenge
  abbrev pub visitor_is_challenged : After
  visitor_is_challenged = reaches visited_starts.service home home_passes_on

  -- the terminal replies
  abbrev pub visitor_replies : List ℕ → After
  visitor_replies response = replied_to visitor_is_challenged response

-- each sends to the next what it is to send, and the right response alone is found correct
pub record VisitRuns (computes : Bool) (values : WtatInfo) (challenge : List ℕ) : Type 0 where
  pub visited_asks_home : goes_to (visited_starts computes) ≡ home
  pub home_asks_server : goes_to (home_forwards computes) ≡ server
  pub server_answers : goes_to (server_answers_home computes) ≡ home
  pub with_values : said_by values_written (server_answers_home computes) ≡ Some values
  pub home_answers : goes_to (home_passes_on computes) ≡ visitor_peer
  pub with_those_values : said_by values_brought (home_passes_on computes) ≡ Some values
  pub terminal_is_challenged : Reports (report.Challenge challenge) (visitor_is_challenged computes)
  pub right_is_correct :
      Reports (report.Verdict Correct) (visitor_replies computes (right_response challenge))
  pub wrong_is_incorrect :
      Reports (report.Verdict Incorrect) (visitor_replies computes (wrong_response challenge))

-- where the visited exchange cannot compute it gets the server's unit, and where it can a session,
-- for which it draws a challenge
pub record RoutesRun : Type 0 where
  pub unit_with_the_initiation : InitiationRuns
  pub unit_by_home : VisitRuns false unit_of_server server_challenge
  pub session_by_home : VisitRuns true session_of_server own_challenge
