-- Worked cases: tapes, and the sheets that they give.
use Rattle.std.specs.Prelude.{◌≡◌, ℕ, zero, suc, List, [], ◌∷◌, ◌++◌, map, flat_map, replicate, codes}
use Prim.Native.String.{String}
use Rattle.apdu.specs.Cases.{hex}
use Rattle.wire.specs.Fields.{field, two}
use Rattle.records.specs.declared.tags.TapeTag.{TapeTag}
use Rattle.records.specs.declared.tags.TapeTag.TheVariants as tape
use Rattle.records.specs.declared.tags.SheetTag.{SheetTag}
use Rattle.records.specs.declared.tags.SheetTag.TheVariants as sheet
use Rattle.records.specs.declared.tags.ReportKind.{ReportKind}
use Rattle.records.specs.declared.tags.ReportKind.TheVariants as report
use Rattle.records.specs.declared.tags.CauseKind.{CauseKind}
use Rattle.records.specs.declared.tags.CauseKind.TheVariants as cause
use Rattle.records.specs.Tags.{tape_tag_number, sheet_tag_number, report_kind_number, cause_kind_number}
use Rattle.sheet.specs.Run.{sheet_of}

-- each record of a tape, and the record of the sheet that it gives
abbrev pub Case : Type 0
Case = List (List ℕ × List ℕ)

abbrev pub tape_of : Case → List ℕ
tape_of case = flat_map (λ row. row.0) case

abbrev pub sheet_wanted : Case → List ℕ
sheet_wanted case = flat_map (λ row. row.1) case

-- The records of a tape.

abbrev pub asks : TapeTag → List ℕ → List ℕ
asks tag value = field (tape_tag_number tag) value

-- a time below 2^16, in four bytes and in eight
abbrev pub time : ℕ → List ℕ
time milliseconds = 0 ∷ 0 ∷ two milliseconds

abbrev pub reading : ℕ → List ℕ
reading milliseconds = 0 ∷ 0 ∷ 0 ∷ 0 ∷ time milliseconds

abbrev pub cannot : ℕ
cannot = 0

abbrev pub can : ℕ
can = 1

-- T2 to TR are 15,001 to 15,005, the Home peer is 1, the server peer 2, and it can compute or cannot
abbrev pub fits_out : ℕ → ℕ → List ℕ
fits_out t1 computing = asks tape.FitOut (time t1 ++ time 15001 ++ time 15002 ++ time 15003 ++ time 15004 ++ time 15005 ++ 1 ∷ 2 ∷ computing ∷ [])

-- T2 to TR are at the least that T1 may be, and it cannot compute
abbrev pub fits_out_evenly : ℕ → List ℕ
fits_out_evenly t1 = asks tape.FitOut (time t1 ++ time 15000 ++ time 15000 ++ time 15000 ++ time 15000 ++ time 15000 ++ 1 ∷ 2 ∷ cannot ∷ [])

abbrev pub links_to : ℕ → List ℕ
links_to peer = asks tape.Link (peer ∷ [])

-- the places of a subscriber's parameters
abbrev pub nowhere : ℕ
nowhere = 0

abbrev pub here : ℕ
here = 1

abbrev pub at_server : ℕ
at_server = 2

-- a subscriber with a key of sixteen bytes 7
abbrev pub subscribes : ℕ → String → List ℕ
subscribes place digits = asks tape.Subscriber (place ∷ replicate 16 7 ++ codes digits)

-- to peer 5
abbrev pub initiates : ℕ → String → List ℕ
initiates at digits = asks tape.PlainInitiation (reading at ++ 5 ∷ codes digits)

abbrev pub initiates_with_values : ℕ → String → List ℕ
initiates_with_values at digits = asks tape.InitiationWithValues (reading at ++ 5 ∷ codes digits)

abbrev pub starts_as_visitor : ℕ → String → List ℕ
starts_as_visitor at digits = asks tape.VisitorStart (reading at ++ codes digits)

-- the challenge that a terminal or an asker sends
abbrev pub challenge : List ℕ
challenge = hex "01 02 03 04 05 06 07 08"

abbrev pub asks_for_proof : ℕ → String → List ℕ
asks_for_proof at digits = asks tape.NetworkProof (reading at ++ challenge ++ codes digits)

-- the terminal of the dialogue with a name replies
abbrev pub replies : ℕ → ℕ → List ℕ → List ℕ
replies at name response = asks tape.Reply (reading at ++ two name ++ response)

-- the challenge and the parameter that every delivery draws
abbrev pub drawn : List ℕ
drawn = hex "21 22 23 24 25 26 27 28"

abbrev pub parameter : List ℕ
parameter = hex "31 32 33 34 35 36 37 38"

abbrev pub delivers : ℕ → ℕ → List ℕ → List ℕ
delivers at peer bytes = asks tape.Delivery (reading at ++ drawn ++ parameter ++ peer ∷ bytes)

abbrev pub clocks : ℕ → List ℕ
clocks at = asks tape.Clock (reading at)

-- APDUs: a kind, an id, an operation, and fields.

abbrev pub auth_wtm_user : ℕ
auth_wtm_user = 1

abbrev pub get_wtat_param : ℕ
get_wtat_param = 2

abbrev pub wtat_param_enq : ℕ
wtat_param_enq = 3

abbrev pub get_wtan_param : ℕ
get_wtan_param = 4

abbrev pub wtan_param_enq : ℕ
wtan_param_enq = 5

abbrev pub invoke : ℕ → ℕ → List ℕ → List ℕ
invoke id operation fields = field 1 (1 ∷ []) ++ field 2 (two id) ++ field 3 (operation ∷ []) ++ fields

abbrev pub result : ℕ → ℕ → List ℕ → List ℕ
result id operation fields = field 1 (2 ∷ []) ++ field 2 (two id) ++ field 3 (operation ∷ []) ++ fields

-- 1 invalidServedUserNr, 2 paramNotAvailable, 3 temporarilyUnavailable, 4 notAuthorized
abbrev pub error : ℕ → ℕ → List ℕ
error id code = field 1 (3 ∷ []) ++ field 2 (two id) ++ field 0x0C (code ∷ [])

abbrev pub reject : ℕ → ℕ → List ℕ
reject id problem = field 1 (4 ∷ []) ++ field 2 (two id) ++ field 0x0D (problem ∷ [])

abbrev pub user : String → List ℕ
user digits = field 4 (codes digits)

abbrev pub computes : List ℕ
computes = field 5 []

abbrev pub to_challenge : List ℕ
to_challenge = field 6 challenge

abbrev pub under : ℕ → List ℕ
under algorithm = field 7 (algorithm ∷ [])

abbrev pub unit : List ℕ → List ℕ → List ℕ
unit given response = field 8 (given ++ response)

abbrev pub session : List ℕ → List ℕ
session key = field 9 (key ++ parameter)

abbrev pub response : List ℕ → List ℕ
response bytes = field 0x0A bytes

abbrev pub correct : List ℕ
correct = field 0x0B (0 ∷ [])

abbrev pub incorrect : List ℕ
incorrect = field 0x0B (1 ∷ [])

-- What XTEA gives under the subscriber's key, calculated apart from this repository.

-- session(1, key, parameter) and session(2, key, parameter)
abbrev pub user_session : List ℕ
user_session = hex "660A3713 F4BFE33A D4E0E00C 601CE864"

abbrev pub network_session : List ℕ
network_session = hex "80D034CD 18B2CEA5 CFFFD286 78485530"

-- response(user_session, drawn), response(user_session, challenge) and response(network_session, challenge)
abbrev pub to_drawn : List ℕ
to_drawn = hex "87871EA8"

abbrev pub to_asked : List ℕ
to_asked = hex "55751003"

abbrev pub of_network : List ℕ
of_network = hex "03D9EEC1"

-- The records of a sheet.

abbrev pub says : SheetTag → List ℕ → List ℕ
says tag value = field (sheet_tag_number tag) value

-- of the dialogue with a name
abbrev pub reports : ReportKind → ℕ → List ℕ → List ℕ
reports kind name told = says sheet.Reported (report_kind_number kind ∷ two name ++ told)

abbrev pub fails : ℕ → CauseKind → ℕ → List ℕ
fails name kind number = reports report.Failure name (cause_kind_number kind ∷ number ∷ [])

abbrev pub done : List ℕ
done = says sheet.Done []

abbrev pub refusal : ℕ → List ℕ
refusal number = says sheet.Refused (number ∷ [])

abbrev pub sends : ℕ → List ℕ → List ℕ
sends peer apdu = says sheet.Sent (peer ∷ apdu)

abbrev pub gives_challenge : ℕ → List ℕ → List ℕ
gives_challenge name given = reports report.Challenge name given

abbrev pub found_correct : ℕ → List ℕ
found_correct name = reports report.Verdict name (0 ∷ [])

abbrev pub found_incorrect : ℕ → List ℕ
found_incorrect name = reports report.Verdict name (1 ∷ [])

abbrev pub failed_by_error : ℕ → ℕ → List ℕ
failed_by_error name code = fails name cause.Error code

abbrev pub failed_by_reject : ℕ → ℕ → List ℕ
failed_by_reject name problem = fails name cause.Reject problem

-- a timer by its number: T1 to T5 are 1 to 5, TR is 6
abbrev pub expired : ℕ → ℕ → List ℕ
expired name timer = fails name cause.Expiry timer

abbrev pub responds : ℕ → List ℕ → List ℕ
responds name bytes = reports report.Response name bytes

-- How cases begin.

-- in service, with links to peer 5, to Home and to the server
abbrev pub in_service : ℕ → Case
in_service computing = (fits_out 15000 computing, done) ∷ (links_to 5, done) ∷ (links_to 1, done) ∷ (links_to 2, done) ∷ []

-- with a link to peer 5 alone
abbrev pub linked_to_five : Case
linked_to_five = (fits_out_evenly 15000, done) ∷ (links_to 5, done) ∷ []

-- so many Visitor starts, under the numbers from 1 on
abbrev pub visitors : ℕ → Case
visitors zero = []
visitors (suc before) = visitors before ++ (starts_as_visitor 1000 "200", sends 1 (invoke (suc before) get_wtat_param (user "200"))) ∷ []

abbrev pub cases : List Case
cases =
    -- T1 of 14,999 is refused with 10, and 15,000 is taken
    ((fits_out 14999 cannot, refusal 10) ∷ [])
    ∷ ((fits_out 15000 cannot, done) ∷ [])
    ∷ ((fits_out_evenly 14999, refusal 10) ∷ [])
    ∷ ((fits_out_evenly 15000, done) ∷ [])
    -- a dialogue is opened and nobody answers: every byte written out
    ∷ ((hex "10001B 00003A98 00003A98 00003A98 00003A98 00003A98 00003A98 01 02 00", hex "330000")
    ∷ (hex "110001 05", hex "330000")
    ∷ (hex "20000C 00000000000003E8 05 323030", hex "300014 05 01000101 0200020001 03000101 040003323030")
    ∷ (hex "260008 0000000000003E80", hex "310005 03 0001 03 01")
    ∷ [])
    -- 15 digits are taken, and 16 are refused with 4
    ∷ (in_service cannot
    ++ (initiates 1000 "123451234512345", sends 5 (invoke 1 auth_wtm_user (user "123451234512345")))
    ∷ (initiates 1000 "0123451234512345", refusal 4)
    ∷ [])
    ∷ (linked_to_five ++ (initiates 1000 "123451234512345", sends 5 (invoke 1 auth_wtm_user (user "123451234512345"))) ∷ [])
    ∷ (linked_to_five ++ (initiates 1000 "0123451234512345", refusal 4) ∷ [])
    -- users 0 and 00 differ: each is asked for by its own digits
    ∷ (linked_to_five
    ++ (initiates 1000 "0", sends 5 (invoke 1 auth_wtm_user (user "0")))
    ∷ (initiates 1000 "00", sends 5 (invoke 2 auth_wtm_user (user "00")))
    ∷ [])
    ∷ (in_service cannot
    ++ (initiates 1000 "0", sends 5 (invoke 1 auth_wtm_user (user "0")))
    ∷ (initiates 1000 "00", sends 5 (invoke 2 auth_wtm_user (user "00")))
    ∷ [])
    -- and where one of them is a subscriber, here without parameters, the other is unknown
    ∷ (in_service cannot
    ++ (subscribes nowhere "0", done)
    ∷ (delivers 1000 5 (invoke 7 get_wtat_param (user "0")), sends 5 (error 7 2))
    ∷ (delivers 1000 5 (invoke 8 get_wtat_param (user "00")), sends 5 (error 8 1))
    ∷ [])
    ∷ (in_service cannot
    ++ (subscribes nowhere "00", done)
    ∷ (delivers 1000 5 (invoke 7 get_wtat_param (user "0")), sends 5 (error 7 1))
    ∷ (delivers 1000 5 (invoke 8 get_wtat_param (user "00")), sends 5 (error 8 2))
    ∷ [])
    -- an empty delivery is refused with 5, from a peer that is no link with 4
    ∷ (in_service cannot ++ (delivers 1000 5 [], refusal 5) ∷ (delivers 1000 6 [], refusal 4) ∷ [])
    -- a call at a timer's end is refused with 3, and one a millisecond before is not
    ∷ (in_service cannot
    ++ (initiates 1000 "200", sends 5 (invoke 1 auth_wtm_user (user "200")))
    ∷ (initiates 15999 "200", sends 5 (invoke 2 auth_wtm_user (user "200")))
    ∷ (initiates 16000 "200", refusal 3)
    ∷ [])
    ∷ (linked_to_five
    ++ (initiates 1000 "12345", sends 5 (invoke 1 auth_wtm_user (user "12345")))
    ∷ (initiates 15999 "12345", sends 5 (invoke 2 auth_wtm_user (user "12345")))
    ∷ (initiates 16000 "12345", refusal 3)
    ∷ [])
    -- an answer at the timer's end is refused with 3, and after the clock call with 6
    ∷ (in_service cannot
    ++ (initiates 1000 "200", sends 5 (invoke 1 auth_wtm_user (user "200")))
    ∷ (delivers 16000 5 (result 1 auth_wtm_user correct), refusal 3)
    ∷ (clocks 16000, expired 1 1)
    ∷ (delivers 16000 5 (result 1 auth_wtm_user correct), refusal 6)
    ∷ [])
    -- an answer a millisecond before the timer's end is taken, from the peer that was asked alone
    ∷ (in_service cannot
    ++ (initiates 1000 "200", sends 5 (invoke 1 auth_wtm_user (user "200")))
    ∷ (initiates 1000 "200", sends 5 (invoke 2 auth_wtm_user (user "200")))
    ∷ (delivers 15999 1 (result 1 auth_wtm_user correct), refusal 6)
    ∷ (delivers 15999 5 (result 1 auth_wtm_user correct), found_correct 1)
    ∷ (delivers 15999 5 (result 2 auth_wtm_user incorrect), found_incorrect 2)
    ∷ [])
    -- an invoke that is still owed is refused with 7 when it comes again; another peer's under the same id is not, nor is it once answered
    ∷ (in_service cannot
    ++ (delivers 1000 5 (invoke 7 auth_wtm_user (user "200")), sends 1 (invoke 1 get_wtat_param (user "200")))
    ∷ (delivers 1001 5 (invoke 7 auth_wtm_user (user "200")), refusal 7)
    ∷ (delivers 1001 1 (invoke 7 auth_wtm_user (user "200")), sends 1 (invoke 2 get_wtat_param (user "200")))
    ∷ (delivers 1002 1 (error 1 4), sends 5 (error 7 4))
    ∷ (delivers 1003 5 (invoke 7 auth_wtm_user (user "200")), sends 1 (invoke 3 get_wtat_param (user "200")))
    ∷ [])
    -- a reply that has not 14 bytes and a delivery that has not 25 are refused with 5, although their reading is before the last
    ∷ (in_service cannot
    ++ (clocks 1000, done)
    ∷ (asks tape.Reply (reading 0 ++ two 1 ++ 1 ∷ 2 ∷ 3 ∷ []), refusal 5)
    ∷ (asks tape.Reply (reading 0 ++ two 1 ++ 1 ∷ 2 ∷ 3 ∷ 4 ∷ 5 ∷ []), refusal 5)
    ∷ (asks tape.Delivery (reading 0 ++ drawn ++ parameter), refusal 5)
    ∷ (replies 0 1 (1 ∷ 2 ∷ 3 ∷ 4 ∷ []), refusal 2)
    ∷ (delivers 0 6 [], refusal 2)
    ∷ [])
    -- subscribers with each place are taken, users 0 and 00 both; place 3 and no digits are refused with 4, a user that is there with 7
    ∷ (in_service cannot
    ++ (subscribes nowhere "0", done)
    ∷ (subscribes here "00", done)
    ∷ (subscribes at_server "12345", done)
    ∷ (subscribes 3 "1", refusal 4)
    ∷ (subscribes here "", refusal 4)
    ∷ (subscribes here "0", refusal 7)
    ∷ [])
    -- a subscriber is no fit-out
    ∷ ((subscribes here "12345", refusal 10) ∷ [])
    -- 4 goes before 7, and a key of fifteen bytes is a wrong size
    ∷ (in_service cannot ++ (subscribes at_server "12345", done) ∷ (subscribes 3 "12345", refusal 4) ∷ (asks tape.Subscriber (0 ∷ replicate 15 7), refusal 5) ∷ [])
    -- each of the four requests ends with a timer of its own, whose number is reported; a millisecond before, the clock is quiet
    ∷ (in_service cannot
    ++ (initiates 1000 "200", sends 5 (invoke 1 auth_wtm_user (user "200")))
    ∷ (clocks 15999, done)
    ∷ (clocks 16000, expired 1 1)
    ∷ [])
    ∷ (in_service cannot
    ++ (initiates_with_values 1000 "200", sends 2 (invoke 1 wtat_param_enq (user "200")))
    ∷ (clocks 16000, done)
    ∷ (clocks 16001, expired 1 2)
    ∷ [])
    ∷ (in_service cannot
    ++ (starts_as_visitor 1000 "200", sends 1 (invoke 1 get_wtat_param (user "200")))
    ∷ (clocks 16001, done)
    ∷ (clocks 16002, expired 1 3)
    ∷ [])
    ∷ (in_service cannot
    ++ (asks_for_proof 1000 "200", sends 1 (invoke 1 get_wtan_param (user "200" ++ to_challenge ++ under 1)))
    ∷ (clocks 16002, done)
    ∷ (clocks 16003, expired 1 4)
    ∷ [])
    -- an exchange that can compute says so to Home, and not to the server in an initiation with values
    ∷ (in_service can
    ++ (starts_as_visitor 1000 "200", sends 1 (invoke 1 get_wtat_param (user "200" ++ computes)))
    ∷ (asks_for_proof 1000 "200", sends 1 (invoke 2 get_wtan_param (user "200" ++ computes ++ to_challenge ++ under 1)))
    ∷ (initiates_with_values 1000 "200", sends 2 (invoke 3 wtat_param_enq (user "200")))
    ∷ [])
    -- of two timers that end together the lower name goes first, and the last reading stays
    ∷ (in_service cannot
    ++ (starts_as_visitor 1000 "200", sends 1 (invoke 1 get_wtat_param (user "200")))
    ∷ (initiates_with_values 1001 "200", sends 2 (invoke 2 wtat_param_enq (user "200")))
    ∷ (clocks 16002, expired 1 3)
    ∷ (clocks 16002, expired 2 2)
    ∷ (clocks 1001, done)
    ∷ [])
    -- an initiation with values to a peer that is no link and a network proof without digits are refused with 4; a network proof
    -- with two bytes of a challenge has a wrong size
    ∷ ((fits_out 15000 cannot, done)
    ∷ (initiates_with_values 1000 "200", refusal 4)
    ∷ (asks_for_proof 1000 "", refusal 4)
    ∷ (asks tape.NetworkProof (reading 1000 ++ 1 ∷ 2 ∷ []), refusal 5)
    ∷ [])
    -- an initiation with values: the server's unit goes to the peer under one more number, a session is no answer; then the verdict
    ∷ (in_service cannot
    ++ (initiates_with_values 1000 "200", sends 2 (invoke 1 wtat_param_enq (user "200")))
    ∷ (delivers 2000 2 (result 1 wtat_param_enq (under 1 ++ session user_session)), refusal 6)
    ∷ (delivers 2000 2 (result 1 wtat_param_enq (under 1 ++ unit drawn to_drawn)), sends 5 (invoke 2 auth_wtm_user (user "200" ++ unit drawn to_drawn)))
    ∷ (delivers 3000 5 (result 2 auth_wtm_user correct), found_correct 1)
    ∷ [])
    -- a unit comes to the terminal in an invoke of authWtmUser: the right reply is correct, a wrong one incorrect
    ∷ (in_service cannot
    ++ (delivers 1000 5 (invoke 7 auth_wtm_user (user "200" ++ unit drawn to_drawn)), gives_challenge 1 drawn)
    ∷ (delivers 1000 5 (invoke 8 auth_wtm_user (user "200" ++ unit drawn to_drawn)), gives_challenge 2 drawn)
    ∷ (replies 1001 1 to_drawn, sends 5 (result 7 auth_wtm_user correct))
    ∷ (replies 1001 2 to_asked, sends 5 (result 8 auth_wtm_user incorrect))
    ∷ (replies 1001 2 to_drawn, refusal 6)
    ∷ [])
    -- a unit comes in a result of getWtatParam, for a user of our own and for a peer's invoke
    ∷ (in_service cannot
    ++ (starts_as_visitor 1000 "200", sends 1 (invoke 1 get_wtat_param (user "200")))
    ∷ (delivers 1000 5 (invoke 7 auth_wtm_user (user "200")), sends 1 (invoke 2 get_wtat_param (user "200")))
    ∷ (delivers 1001 1 (result 1 get_wtat_param (under 1 ++ unit challenge to_asked)), gives_challenge 1 challenge)
    ∷ (delivers 1001 1 (result 2 get_wtat_param (under 1 ++ unit challenge to_asked)), gives_challenge 2 challenge)
    ∷ (replies 1002 1 to_drawn, found_incorrect 1)
    ∷ (replies 1002 2 to_asked, sends 5 (result 7 auth_wtm_user correct))
    ∷ [])
    -- a session comes in a result of getWtatParam to an exchange that can compute, which draws the challenge; under another algorithm it is no answer
    ∷ (in_service can
    ++ (starts_as_visitor 1000 "200", sends 1 (invoke 1 get_wtat_param (user "200" ++ computes)))
    ∷ (delivers 1000 5 (invoke 7 auth_wtm_user (user "200")), sends 1 (invoke 2 get_wtat_param (user "200" ++ computes)))
    ∷ (delivers 1001 1 (result 1 get_wtat_param (under 2 ++ session user_session)), refusal 6)
    ∷ (delivers 1001 1 (result 1 get_wtat_param (under 1 ++ session user_session)), gives_challenge 1 drawn)
    ∷ (delivers 1001 1 (result 2 get_wtat_param (under 1 ++ session user_session)), gives_challenge 2 drawn)
    ∷ (replies 1002 1 to_drawn, found_correct 1)
    ∷ (replies 1002 2 to_asked, sends 5 (result 7 auth_wtm_user incorrect))
    ∷ [])
    -- a session is no answer where the exchange did not say that it can compute
    ∷ (in_service cannot
    ++ (starts_as_visitor 1000 "200", sends 1 (invoke 1 get_wtat_param (user "200")))
    ∷ (delivers 1001 1 (result 1 get_wtat_param (under 1 ++ session user_session)), refusal 6)
    ∷ [])
    -- the server answers getWtatParam: a unit of the drawn challenge, or of the asker's, or a session
    ∷ (in_service cannot
    ++ (subscribes here "200", done)
    ∷ (delivers 1000 5 (invoke 7 get_wtat_param (user "200")), sends 5 (result 7 get_wtat_param (under 1 ++ unit drawn to_drawn)))
    ∷ (delivers 1000 5 (invoke 7 get_wtat_param (user "200" ++ to_challenge)), sends 5 (result 7 get_wtat_param (under 1 ++ unit challenge to_asked)))
    ∷ (delivers 1000 5 (invoke 7 get_wtat_param (user "200" ++ computes)), sends 5 (result 7 get_wtat_param (under 1 ++ session user_session)))
    ∷ [])
    -- wtatParamEnq
    ∷ (in_service cannot
    ++ (subscribes here "200", done)
    ∷ (delivers 1000 5 (invoke 7 wtat_param_enq (user "200")), sends 5 (result 7 wtat_param_enq (under 1 ++ unit drawn to_drawn)))
    ∷ (delivers 1000 5 (invoke 7 wtat_param_enq (user "200" ++ computes)), sends 5 (result 7 wtat_param_enq (under 1 ++ session user_session)))
    ∷ [])
    -- getWtanParam: a response to the terminal's challenge, or a session; another algorithm gives error 2
    ∷ (in_service cannot
    ++ (subscribes here "200", done)
    ∷ (delivers 1000 5 (invoke 7 get_wtan_param (user "200" ++ to_challenge ++ under 1)), sends 5 (result 7 get_wtan_param (response of_network)))
    ∷ (delivers 1000 5 (invoke 7 get_wtan_param (user "200" ++ computes ++ to_challenge ++ under 1)), sends 5 (result 7 get_wtan_param (session network_session)))
    ∷ (delivers 1000 5 (invoke 7 get_wtan_param (user "200" ++ to_challenge ++ under 2)), sends 5 (error 7 2))
    ∷ [])
    -- wtanParamEnq
    ∷ (in_service cannot
    ++ (subscribes here "200", done)
    ∷ (delivers 1000 5 (invoke 7 wtan_param_enq (user "200" ++ to_challenge ++ under 1)), sends 5 (result 7 wtan_param_enq (response of_network)))
    ∷ (delivers 1000 5 (invoke 7 wtan_param_enq (user "200" ++ computes ++ to_challenge ++ under 1)), sends 5 (result 7 wtan_param_enq (session network_session)))
    ∷ (delivers 1000 5 (invoke 7 wtan_param_enq (user "200" ++ computes ++ to_challenge ++ under 2)), sends 5 (error 7 2))
    ∷ [])
    -- an unknown user gives error 1, one without parameters error 2, and so does one whose key is at the server, where the server is asked
    ∷ (in_service cannot
    ++ (subscribes nowhere "200", done)
    ∷ (subscribes at_server "2", done)
    ∷ (delivers 1000 5 (invoke 7 wtat_param_enq (user "20")), sends 5 (error 7 1))
    ∷ (delivers 1000 5 (invoke 7 get_wtan_param (user "20" ++ to_challenge ++ under 2)), sends 5 (error 7 1))
    ∷ (delivers 1000 5 (invoke 7 wtan_param_enq (user "200" ++ to_challenge ++ under 1)), sends 5 (error 7 2))
    ∷ (delivers 1000 5 (invoke 7 wtat_param_enq (user "2")), sends 5 (error 7 2))
    ∷ (delivers 1000 5 (invoke 7 wtan_param_enq (user "2" ++ to_challenge ++ under 1)), sends 5 (error 7 2))
    ∷ [])
    -- getWtatParam where the key is at the server: wtatParamEnq goes there with the same fields, and the result comes back with the same fields
    ∷ (in_service cannot
    ++ (subscribes at_server "200", done)
    ∷ (delivers 1000 5 (invoke 7 get_wtat_param (user "200" ++ computes ++ to_challenge)), sends 2 (invoke 1 wtat_param_enq (user "200" ++ computes ++ to_challenge)))
    ∷ (delivers 1000 5 (invoke 8 get_wtat_param (user "200")), sends 2 (invoke 2 wtat_param_enq (user "200")))
    ∷ (delivers 1001 2 (result 1 wtat_param_enq (under 9 ++ session user_session)), sends 5 (result 7 get_wtat_param (under 9 ++ session user_session)))
    ∷ (delivers 1001 2 (result 2 wtat_param_enq (under 1 ++ session user_session)), refusal 6)
    ∷ (delivers 1001 2 (result 2 wtat_param_enq (under 1 ++ unit drawn to_drawn)), sends 5 (result 8 get_wtat_param (under 1 ++ unit drawn to_drawn)))
    ∷ [])
    -- getWtanParam likewise, under any algorithm
    ∷ (in_service cannot
    ++ (subscribes at_server "200", done)
    ∷ (delivers 1000 5 (invoke 7 get_wtan_param (user "200" ++ to_challenge ++ under 9)), sends 2 (invoke 1 wtan_param_enq (user "200" ++ to_challenge ++ under 9)))
    ∷ (delivers 1000 5 (invoke 8 get_wtan_param (user "200" ++ computes ++ to_challenge ++ under 1)), sends 2 (invoke 2 wtan_param_enq (user "200" ++ computes ++ to_challenge ++ under 1)))
    ∷ (delivers 1001 2 (result 1 wtan_param_enq (response of_network)), sends 5 (result 7 get_wtan_param (response of_network)))
    ∷ (delivers 1001 2 (result 2 wtan_param_enq (session network_session)), sends 5 (result 8 get_wtan_param (session network_session)))
    ∷ [])
    -- the server's error is passed on, its reject gives error 2, and the end of the timer error 3
    ∷ (in_service cannot
    ++ (subscribes at_server "200", done)
    ∷ (delivers 1000 5 (invoke 7 get_wtat_param (user "200")), sends 2 (invoke 1 wtat_param_enq (user "200")))
    ∷ (delivers 1000 5 (invoke 8 get_wtat_param (user "200")), sends 2 (invoke 2 wtat_param_enq (user "200")))
    ∷ (delivers 1000 5 (invoke 9 get_wtan_param (user "200" ++ to_challenge ++ under 1)), sends 2 (invoke 3 wtan_param_enq (user "200" ++ to_challenge ++ under 1)))
    ∷ (delivers 1001 2 (error 1 4), sends 5 (error 7 4))
    ∷ (delivers 1001 2 (reject 2 1), sends 5 (error 8 2))
    ∷ (clocks 16003, done)
    ∷ (clocks 16004, sends 5 (error 9 3))
    ∷ [])
    -- Home's error and its reject are reported where nothing is owed
    ∷ (in_service cannot
    ++ (starts_as_visitor 1000 "200", sends 1 (invoke 1 get_wtat_param (user "200")))
    ∷ (asks_for_proof 1000 "200", sends 1 (invoke 2 get_wtan_param (user "200" ++ to_challenge ++ under 1)))
    ∷ (delivers 1001 1 (error 1 1), failed_by_error 1 1)
    ∷ (delivers 1001 1 (reject 2 200), failed_by_reject 2 200)
    ∷ [])
    -- the terminal's timer: what is owed gets error 3, otherwise the failure is reported
    ∷ (in_service cannot
    ++ (delivers 1000 5 (invoke 7 auth_wtm_user (user "200" ++ unit drawn to_drawn)), gives_challenge 1 drawn)
    ∷ (starts_as_visitor 1000 "200", sends 1 (invoke 2 get_wtat_param (user "200")))
    ∷ (delivers 1000 1 (result 2 get_wtat_param (under 1 ++ unit drawn to_drawn)), gives_challenge 2 drawn)
    ∷ (clocks 16004, done)
    ∷ (replies 16005 1 to_drawn, refusal 3)
    ∷ (clocks 16005, sends 5 (error 7 3))
    ∷ (clocks 16005, expired 2 6)
    ∷ [])
    -- a network proof: Home's response is reported, or the one that its session gives
    ∷ (in_service can
    ++ (asks_for_proof 1000 "200", sends 1 (invoke 1 get_wtan_param (user "200" ++ computes ++ to_challenge ++ under 1)))
    ∷ (asks_for_proof 1000 "200", sends 1 (invoke 2 get_wtan_param (user "200" ++ computes ++ to_challenge ++ under 1)))
    ∷ (delivers 1001 1 (result 1 get_wtan_param (response of_network)), responds 1 of_network)
    ∷ (delivers 1001 1 (result 2 get_wtan_param (session network_session)), responds 2 of_network)
    ∷ [])
    -- an invoke of an unknown operation and one with wrong fields are rejected
    ∷ (in_service cannot
    ++ (delivers 1000 5 (invoke 7 6 (user "200")), sends 5 (reject 7 1))
    ∷ (delivers 1000 5 (invoke 7 auth_wtm_user (user "")), sends 5 (reject 7 2))
    ∷ [])
    -- where 32 dialogues are open, an invoke that needs a place gets error 3, and one that needs none its answer
    ∷ (in_service cannot
    ++ visitors 32
    ++ (starts_as_visitor 1000 "200", refusal 8)
    ∷ (delivers 1000 5 (invoke 7 auth_wtm_user (user "200")), sends 5 (error 7 3))
    ∷ (delivers 1000 5 (invoke 7 auth_wtm_user (user "200" ++ unit drawn to_drawn)), sends 5 (error 7 3))
    ∷ (delivers 1000 5 (invoke 7 get_wtat_param (user "200")), sends 5 (error 7 1))
    ∷ [])
    ∷ []

-- every case gives its sheet
abbrev pub CasesStand : Type 0
CasesStand = map (λ case. sheet_of (tape_of case)) cases ≡ map sheet_wanted cases
