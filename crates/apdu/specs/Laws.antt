-- What ties reading to writing.
use Rattle.std.specs.Prelude.{◌≡◌, ℕ, ◌<◌, ◌≤◌, true, List, [], ◌∷◌, length, map, Some, Ok, Err, Result}
use Rattle.std.specs.List.Sorted.{IsStrictlyIncreasing}
use Rattle.wire.specs.Fields.{Bytes, Cut, next_field}
use Rattle.wire.specs.FieldValues.{IfAny, OfSize}
use Rattle.values.specs.Challenge.{IsChallenge}
use Rattle.values.specs.Proof.{UnitSized, SessionSized}
use Rattle.values.specs.Sizes.{response_size}
use Rattle.values.specs.User.{is_user}
use Rattle.apdu.specs.declared.apdus.Apdu.{Apdu}
use Rattle.apdu.specs.declared.apdus.Body.{Body}
use Rattle.apdu.specs.declared.apdus.Body.TheVariants as body
use Rattle.apdu.specs.declared.apdus.Invoke.{Invoke}
use Rattle.apdu.specs.declared.apdus.Request.{Request}
use Rattle.apdu.specs.declared.apdus.Request.TheVariants as request
use Rattle.apdu.specs.declared.apdus.ReturnResult.{ReturnResult}
use Rattle.apdu.specs.declared.apdus.ReturnResult.TheVariants as answer
use Rattle.apdu.specs.declared.apdus.WtatParamArg.{WtatParamArg}
use Rattle.apdu.specs.declared.apdus.WtanParamArg.{WtanParamArg}
use Rattle.apdu.specs.declared.apdus.WtatInfo.{WtatInfo}
use Rattle.apdu.specs.declared.apdus.WtatInfo.TheVariants as wtat
use Rattle.apdu.specs.declared.apdus.WtatParamRes.{WtatParamRes}
use Rattle.apdu.specs.declared.apdus.WtanParamRes.{WtanParamRes}
use Rattle.apdu.specs.declared.apdus.WtanParamRes.TheVariants as wtan
use Rattle.apdu.specs.NoApdu.{NoApdu}
use Rattle.apdu.specs.declared.apdus.NoApdu.TheVariants.{RejectDue, Garbled}
use Rattle.apdu.specs.Decode.{received_as}
use Rattle.apdu.specs.Encode.{encode, longest_apdu}

-- What the types say of an APDU, as far as reading it back needs it.

-- what holds of every value
abbrev pub Always : {A : Type 0} → A → Type 0
Always x = Unit {0}

-- the challenge, if any, has its size
abbrev pub IsWtatParamArg : WtatParamArg → Type 0
IsWtatParamArg a = IfAny IsChallenge a.challenge

-- the challenge has its size
abbrev pub IsWtanParamArg : WtanParamArg → Type 0
IsWtanParamArg a = IsChallenge a.challenge

-- its argument is one
abbrev pub IsRequest : Request → Type 0
IsRequest (request.AuthWtmUser unit) = IfAny UnitSized unit
IsRequest (request.WtatParam provider arg) = IsWtatParamArg arg
IsRequest (request.WtanParam provider arg) = IsWtanParamArg arg

-- its user is a user number, and its request is one
abbrev pub IsInvoke : Invoke → Type 0
IsInvoke i = (is_user i.user ≡ true) × IsRequest i.request

-- its unit or session has its size
abbrev pub IsWtatInfo : WtatInfo → Type 0
IsWtatInfo (wtat.Unit u) = UnitSized u
IsWtatInfo (wtat.Session s) = SessionSized s

-- what it gives has its size
abbrev pub IsWtatParamRes : WtatParamRes → Type 0
IsWtatParamRes r = IsWtatInfo r.info

-- its session or response has its size
abbrev pub IsWtanParamRes : WtanParamRes → Type 0
IsWtanParamRes (wtan.Session s) = SessionSized s
IsWtanParamRes (wtan.Response r) = OfSize response_size r

-- what it gives has its size
abbrev pub IsResult : ReturnResult → Type 0
IsResult (answer.AuthWtmUser verdict) = Unit {0}
IsResult (answer.WtatParam provider res) = IsWtatParamRes res
IsResult (answer.WtanParam provider res) = IsWtanParamRes res

-- what it holds, by its kind
abbrev pub IsBody : Body → Type 0
IsBody (body.Invoke i) = IsInvoke i
IsBody (body.ReturnResult r) = IsResult r
IsBody (body.ReturnError e) = Unit {0}
IsBody (body.Reject p) = Unit {0}

-- its id is at least 1, and its body is one
abbrev pub IsApdu : Apdu → Type 0
IsApdu a = (1 ≤ a.id) × IsBody a.body

-- every APDU that is written reads back as the same APDU
abbrev pub WrittenReadsBack : Type 0
WrittenReadsBack = (a : Apdu) → IsApdu a → received_as (encode a) ≡ Ok a

-- what is read is written back as the same bytes, and is an APDU with an id of two bytes
abbrev pub ReadWritesBack : Type 0
ReadWritesBack =
    (bs : List ℕ) (a : Apdu) → Bytes bs → received_as bs ≡ Ok a
    → (encode a ≡ bs) × (IsApdu a × (a.id < 65536))

-- what is read is an APDU, and what is due a reject has an id of at least 1
abbrev pub Lawful : Result Apdu NoApdu → Type 0
Lawful (Ok a) = IsApdu a
Lawful (Err (RejectDue id problem)) = 1 ≤ id
Lawful (Err Garbled) = Unit {0}

-- the fields of some bytes, one after another to their end
abbrev pub AreFields : List ℕ → List Cut → Type 0
AreFields bs [] = bs ≡ []
AreFields bs (f ∷ fs) = (next_field bs ≡ Some f) × AreFields f.rest fs

-- every string that is read as an APDU is whole fields and nothing more, and their tags rise strictly
abbrev pub TagsRise : Type 0
TagsRise =
    (bs : List ℕ) (a : Apdu) → Bytes bs → received_as bs ≡ Ok a
    → (fs : List Cut) × (AreFields bs fs × IsStrictlyIncreasing (map (λ (f : Cut). f.tag) fs))

-- every APDU is within the longest, and one is as long
abbrev pub WithinLongest : Type 0
WithinLongest =
    ((a : Apdu) → IsApdu a → length (encode a) ≤ longest_apdu)
    × ((a : Apdu) × (IsApdu a × (length (encode a) ≡ longest_apdu)))
