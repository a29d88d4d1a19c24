-- Worked cases: a string of bytes, and what it is.
use Rattle.std.specs.Prelude.{◌≡◌, ℕ, ◌+◌, ◌-◌, ◌*◌, true, false, List, [], ◌∷◌, map, Some, None, Ok, Err, Result, codes, ◌==◌, nat_le, if◌then◌else◌}
use Prim.Native.String.{String}
use Rattle.wire.specs.declared.codes.ErrorCode.TheVariants as error
use Rattle.wire.specs.declared.codes.Problem.TheVariants as problem
use Rattle.wire.specs.declared.codes.Provider.TheVariants.{Home, Server}
use Rattle.wire.specs.declared.codes.Verdict.TheVariants as verdict
use Rattle.values.specs.declared.proof.AuthUnit.{AuthUnit}
use Rattle.values.specs.declared.proof.AuthSession.{AuthSession}
use Rattle.apdu.specs.declared.apdus.WtatInfo.TheVariants as wtat
use Rattle.apdu.specs.declared.apdus.WtanParamRes.TheVariants as wtan
use Rattle.apdu.specs.declared.apdus.Request.{Request}
use Rattle.apdu.specs.declared.apdus.Request.TheVariants as request
use Rattle.apdu.specs.declared.apdus.ReturnResult.TheVariants as answer
use Rattle.apdu.specs.declared.apdus.Body.{Body}
use Rattle.apdu.specs.declared.apdus.Body.TheVariants as body
use Rattle.apdu.specs.declared.apdus.Apdu.{Apdu}
use Rattle.apdu.specs.NoApdu.{NoApdu}
use Rattle.apdu.specs.declared.apdus.NoApdu.TheVariants.{RejectDue, Garbled}
use Rattle.apdu.specs.Decode.{received_as}
use Rattle.apdu.specs.Encode.{encode}

-- the characters that are no space
abbrev pub unspaced : List ℕ → List ℕ
unspaced [] = []
unspaced (c ∷ cs) = if c == 32 then unspaced cs else c ∷ unspaced cs

-- the digit that a character is, of 0 to 9 and A to F
abbrev pub hex_digit : ℕ → ℕ
hex_digit c = if nat_le c 57 then c - 48 else c - 55

-- the bytes that pairs of digits are
abbrev pub paired : List ℕ → List ℕ
paired [] = []
paired (a ∷ []) = []
paired (a ∷ b ∷ cs) = (hex_digit a * 16 + hex_digit b) ∷ paired cs

-- the bytes of hexadecimal digits in pairs, spaces passed over
abbrev pub hex : String → List ℕ
hex s = paired (unspaced (codes s))

-- the user with the digits 200
abbrev pub user_200 : ℕ
user_200 = 3000000000000200

-- a challenge of the cases
abbrev pub challenge : List ℕ
challenge = 0x01 ∷ 0x02 ∷ 0x03 ∷ 0x04 ∷ 0x05 ∷ 0x06 ∷ 0x07 ∷ 0x08 ∷ []

-- a response of the cases
abbrev pub response : List ℕ
response = 0xA1 ∷ 0xA2 ∷ 0xA3 ∷ 0xA4 ∷ []

-- that challenge and response
abbrev pub unit : AuthUnit
unit = record { challenge = challenge; response = response }

-- a session of the cases
abbrev pub session : AuthSession
session =
    record {
      key = hex "101112131415161718191A1B1C1D1E1F";
      parameter = hex "2122232425262728";
    }

-- an APDU with an id
abbrev pub apdu : ℕ → Body → Result Apdu NoApdu
apdu id b = Ok (record { id = id; body = b })

-- an invoke that speaks of user 200
abbrev pub invoke_of : Request → Body
invoke_of r = body.Invoke (record { user = user_200; request = r })

-- a string of bytes, and what it is
pub record Case : Type 0 where
  pub bytes : List ℕ
  pub is : Result Apdu NoApdu

-- the case of some hexadecimal digits
abbrev pub case_of : String → Result Apdu NoApdu → Case
case_of digits is = record { bytes = hex digits; is = is }

-- the cases
abbrev pub cases : List Case
cases =
    -- invokes of authWtmUser, without and with a unit
    case_of "01 0001 01  02 0002 0001  03 0001 01  04 0003 323030"
    (apdu 1 (invoke_of (request.AuthWtmUser None)))
    ∷ case_of "01 0001 01  02 0002 0001  03 0001 01  04 0003 323030  08 000C 0102030405060708A1A2A3A4"
    (apdu 1 (invoke_of (request.AuthWtmUser (Some unit))))
    -- invokes of getWtatParam, with each choice of canCompute and challenge
    ∷ case_of "01 0001 01  02 0002 0002  03 0001 02  04 0003 323030"
    (apdu 2 (invoke_of (request.WtatParam Home (record { computes = false; challenge = None }))))
    ∷ case_of "01 0001 01  02 0002 0002  03 0001 02  04 0003 323030  05 0000"
    (apdu 2 (invoke_of (request.WtatParam Home (record { computes = true; challenge = None }))))
    ∷ case_of "01 0001 01  02 0002 0002  03 0001 02  04 0003 323030  06 0008 0102030405060708"
    (apdu 2 (invoke_of (request.WtatParam Home (record { computes = false; challenge = Some challenge }))))
    ∷ case_of "01 0001 01  02 0002 0002  03 0001 02  04 0003 323030  05 0000  06 0008 0102030405060708"
    (apdu 2 (invoke_of (request.WtatParam Home (record { computes = true; challenge = Some challenge }))))
    -- invokes of wtatParamEnq, with each choice of canCompute and challenge
    ∷ case_of "01 0001 01  02 0002 0002  03 0001 03  04 0003 323030"
    (apdu 2 (invoke_of (request.WtatParam Server (record { computes = false; challenge = None }))))
    ∷ case_of "01 0001 01  02 0002 0002  03 0001 03  04 0003 323030  05 0000"
    (apdu 2 (invoke_of (request.WtatParam Server (record { computes = true; challenge = None }))))
    ∷ case_of "01 0001 01  02 0002 0002  03 0001 03  04 0003 323030  06 0008 0102030405060708"
    (apdu 2 (invoke_of (request.WtatParam Server (record { computes = false; challenge = Some challenge }))))
    ∷ case_of "01 0001 01  02 0002 0002  03 0001 03  04 0003 323030  05 0000  06 0008 0102030405060708"
    (apdu 2 (invoke_of (request.WtatParam Server (record { computes = true; challenge = Some challenge }))))
    -- invokes of getWtanParam, without and with canCompute
    ∷ case_of "01 0001 01  02 0002 0103  03 0001 04  04 0003 323030  06 0008 0102030405060708  07 0001 01"
    (apdu 259 (invoke_of (request.WtanParam Home (record { computes = false; challenge = challenge; algorithm = 1 }))))
    ∷ case_of "01 0001 01  02 0002 0103  03 0001 04  04 0003 323030  05 0000  06 0008 0102030405060708  07 0001 FF"
    (apdu 259 (invoke_of (request.WtanParam Home (record { computes = true; challenge = challenge; algorithm = 255 }))))
    -- invokes of wtanParamEnq, without and with canCompute
    ∷ case_of "01 0001 01  02 0002 0103  03 0001 05  04 0003 323030  06 0008 0102030405060708  07 0001 01"
    (apdu 259 (invoke_of (request.WtanParam Server (record { computes = false; challenge = challenge; algorithm = 1 }))))
    ∷ case_of "01 0001 01  02 0002 0103  03 0001 05  04 0003 323030  05 0000  06 0008 0102030405060708  07 0001 FF"
    (apdu 259 (invoke_of (request.WtanParam Server (record { computes = true; challenge = challenge; algorithm = 255 }))))
    -- results of authWtmUser: correct and incorrect
    ∷ case_of "01 0001 02  02 0002 0001  03 0001 01  0B 0001 00"
    (apdu 1 (body.ReturnResult (answer.AuthWtmUser verdict.Correct)))
    ∷ case_of "01 0001 02  02 0002 0001  03 0001 01  0B 0001 01"
    (apdu 1 (body.ReturnResult (answer.AuthWtmUser verdict.Incorrect)))
    -- results of getWtatParam, with a unit and with a session
    ∷ case_of "01 0001 02  02 0002 0001  03 0001 02  07 0001 01  08 000C 0102030405060708A1A2A3A4"
    (apdu 1 (body.ReturnResult (answer.WtatParam Home (record { algorithm = 1; info = wtat.Unit unit }))))
    ∷ case_of "01 0001 02  02 0002 0001  03 0001 02  07 0001 01  09 0018 101112131415161718191A1B1C1D1E1F2122232425262728"
    (apdu 1 (body.ReturnResult (answer.WtatParam Home (record { algorithm = 1; info = wtat.Session session }))))
    -- results of wtatParamEnq, with a unit and with a session
    ∷ case_of "01 0001 02  02 0002 0001  03 0001 03  07 0001 01  08 000C 0102030405060708A1A2A3A4"
    (apdu 1 (body.ReturnResult (answer.WtatParam Server (record { algorithm = 1; info = wtat.Unit unit }))))
    ∷ case_of "01 0001 02  02 0002 0001  03 0001 03  07 0001 01  09 0018 101112131415161718191A1B1C1D1E1F2122232425262728"
    (apdu 1 (body.ReturnResult (answer.WtatParam Server (record { algorithm = 1; info = wtat.Session session }))))
    -- results of getWtanParam, with a session and with a response
    ∷ case_of "01 0001 02  02 0002 0001  03 0001 04  09 0018 101112131415161718191A1B1C1D1E1F2122232425262728"
    (apdu 1 (body.ReturnResult (answer.WtanParam Home (wtan.Session session))))
    ∷ case_of "01 0001 02  02 0002 0001  03 0001 04  0A 0004 A1A2A3A4"
    (apdu 1 (body.ReturnResult (answer.WtanParam Home (wtan.Response response))))
    -- results of wtanParamEnq, with a session and with a response
    ∷ case_of "01 0001 02  02 0002 0001  03 0001 05  09 0018 101112131415161718191A1B1C1D1E1F2122232425262728"
    (apdu 1 (body.ReturnResult (answer.WtanParam Server (wtan.Session session))))
    ∷ case_of "01 0001 02  02 0002 0001  03 0001 05  0A 0004 A1A2A3A4"
    (apdu 1 (body.ReturnResult (answer.WtanParam Server (wtan.Response response))))
    -- the five errors
    ∷ case_of "01 0001 03  02 0002 0001  0C 0001 01"
    (apdu 1 (body.ReturnError error.InvalidServedUserNr))
    ∷ case_of "01 0001 03  02 0002 0001  0C 0001 02"
    (apdu 1 (body.ReturnError error.ParamNotAvailable))
    ∷ case_of "01 0001 03  02 0002 0001  0C 0001 03"
    (apdu 1 (body.ReturnError error.TemporarilyUnavailable))
    ∷ case_of "01 0001 03  02 0002 0001  0C 0001 04"
    (apdu 1 (body.ReturnError error.NotAuthorized))
    ∷ case_of "01 0001 03  02 0002 0001  0C 0001 05"
    (apdu 1 (body.ReturnError error.Unspecified))
    -- rejects, whose problem may be any
    ∷ case_of "01 0001 04  02 0002 FFFF  0D 0001 02"
    (apdu 65535 (body.Reject 2))
    ∷ case_of "01 0001 04  02 0002 FFFF  0D 0001 FF"
    (apdu 65535 (body.Reject 255))
    -- users 0 and 00 differ, and 15 digits are taken
    ∷ case_of "01 0001 01  02 0002 0001  03 0001 01  04 0001 30"
    (apdu 1 (body.Invoke (record { user = 1000000000000000; request = request.AuthWtmUser None })))
    ∷ case_of "01 0001 01  02 0002 0001  03 0001 01  04 0002 3030"
    (apdu 1 (body.Invoke (record { user = 2000000000000000; request = request.AuthWtmUser None })))
    ∷ case_of "01 0001 01  02 0002 0001  03 0001 01  04 000F 303132333435363738393031323334"
    (apdu 1 (body.Invoke (record { user = 15012345678901234; request = request.AuthWtmUser None })))
    -- a 16th digit
    ∷ case_of "01 0001 01  02 0002 0001  03 0001 01  04 0010 30313233343536373839303132333435"
    (Err (RejectDue 1 problem.WrongArgument))
    -- the empty string
    ∷ case_of ""
    (Err Garbled)
    -- a repeated tag: after the operation of an invoke, and in front of it
    ∷ case_of "01 0001 01  02 0002 0001  03 0001 01  04 0003 323030  04 0003 323030"
    (Err (RejectDue 1 problem.WrongArgument))
    ∷ case_of "01 0001 01  01 0001 01  02 0002 0001  03 0001 01  04 0003 323030"
    (Err Garbled)
    -- a falling tag: in an invoke, and in a result
    ∷ case_of "01 0001 01  02 0002 0001  03 0001 02  04 0003 323030  06 0008 0102030405060708  05 0000"
    (Err (RejectDue 1 problem.WrongArgument))
    ∷ case_of "01 0001 02  02 0002 0001  03 0001 02  08 000C 0102030405060708A1A2A3A4  07 0001 01"
    (Err Garbled)
    -- a length past the end: in an invoke, and in its first field
    ∷ case_of "01 0001 01  02 0002 0001  03 0001 01  04 0004 323030"
    (Err (RejectDue 1 problem.WrongArgument))
    ∷ case_of "01 0002 01"
    (Err Garbled)
    -- an id of 0
    ∷ case_of "01 0001 01  02 0002 0000  03 0001 01  04 0003 323030"
    (Err Garbled)
    -- an unknown operation: in an invoke, and in a result
    ∷ case_of "01 0001 01  02 0002 0001  03 0001 06  04 0003 323030"
    (Err (RejectDue 1 problem.UnknownOperation))
    ∷ case_of "01 0001 02  02 0002 0001  03 0001 06  0B 0001 00"
    (Err Garbled)
    -- a verdict of 2
    ∷ case_of "01 0001 02  02 0002 0001  03 0001 01  0B 0001 02"
    (Err Garbled)
    -- an error of 6
    ∷ case_of "01 0001 03  02 0002 0001  0C 0001 06"
    (Err Garbled)
    -- a field too many
    ∷ case_of "01 0001 01  02 0002 0001  03 0001 01  04 0003 323030  08 000C 0102030405060708A1A2A3A4  09 0018 101112131415161718191A1B1C1D1E1F2122232425262728"
    (Err (RejectDue 1 problem.WrongArgument))
    -- unit and session together
    ∷ case_of "01 0001 02  02 0002 0001  03 0001 02  07 0001 01  08 000C 0102030405060708A1A2A3A4  09 0018 101112131415161718191A1B1C1D1E1F2122232425262728"
    (Err Garbled)
    ∷ []

-- what is written for what was read; nothing where it is no APDU
abbrev pub written_back : Result Apdu NoApdu → List ℕ
written_back (Ok a) = encode a
written_back (Err e) = []

-- the bytes of a case that is an APDU; nothing where it is none
abbrev pub apdu_bytes : Result Apdu NoApdu → List ℕ → List ℕ
apdu_bytes (Ok a) bs = bs
apdu_bytes (Err e) bs = []

-- every case is read as it says, and every APDU among them is written as its bytes
abbrev pub CasesStand : Type 0
CasesStand =
    (map (λ (c : Case). received_as c.bytes) cases ≡ map (λ (c : Case). c.is) cases)
    × (map (λ (c : Case). written_back c.is) cases
    ≡ map (λ (c : Case). apdu_bytes c.is c.bytes) cases)
