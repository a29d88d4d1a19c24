-- Calls for runs by computation, and that they may be given. Assumes nothing.
use Rattle.std.proofs.Common.{◌≡◌, ℕ, ◌<◌, zero, suc, Bool, true, List, [], ◌∷◌, Some, None, ⊎_elim, replicate, get_or, refl, lit<, nat_lt}
use Rattle.std.specs.List.{list_all, AllByRecursion}
use Rattle.std.proofs.lemmas.Bool.{and_parts, ltb-true}
use Rattle.std.proofs.lemmas.Option.{none-some, same_Some}
use Rattle.exchange.specs.declared.dialogue.Dialogue.{Dialogue}
use Rattle.exchange.specs.Table.{Has}
use Rattle.values.specs.declared.proof.AuthUnit.{AuthUnit}
use Rattle.apdu.specs.declared.apdus.WtatInfo.{WtatInfo}
use Rattle.apdu.specs.declared.apdus.WtatInfo.TheVariants as info
use Rattle.apdu.specs.declared.apdus.Body.{Body}
use Rattle.apdu.specs.declared.apdus.Body.TheVariants as body
use Rattle.apdu.specs.declared.apdus.Request.TheVariants as request
use Rattle.apdu.specs.declared.apdus.ReturnResult.TheVariants.{WtatParam}
use Rattle.wire.specs.declared.codes.Provider.TheVariants.{Home, Server}
use Rattle.apdu.specs.Encode.{encode}
use Rattle.wire.specs.Fields.{Bytes}
use Rattle.algorithm.specs.declared.direction.Direction.TheVariants.{User}
use Rattle.algorithm.specs.Meaning.{Meaning, IsSized, answered}
use Rattle.values.specs.declared.user.User as users
use Rattle.exchange.specs.declared.invokes.OwnNumber.{OwnNumber}
use Rattle.exchange.specs.Examples.{home, visitor_peer, asker, links, sums, digits, user, user_key, server_challenge, parameter, own_draw, buffer}
use Rattle.exchange.specs.Runs.{Call, PlainInitiation, VisitorStart, Delivery, Reply, Clock, Given}

pub sums_sized : IsSized sums
sums_sized = record { number = lit< tt; session = λ d key parameter k p. refl; response = λ session challenge k. refl }

bytes_list : (bs : List ℕ) → list_all (λ b. nat_lt b 256) bs ≡ true → (i : ℕ) → get_or bs i 0 < 256
bytes_list [] h i = lit< tt
bytes_list (b ∷ bs) h zero = ltb-true b 256 (and_parts (nat_lt b 256) (list_all (λ x. nat_lt x 256) bs) h).0
bytes_list (b ∷ bs) h (suc i) = bytes_list bs (and_parts (nat_lt b 256) (list_all (λ x. nat_lt x 256) bs) h).1 i

pub are_bytes : (bs : List ℕ) → list_all (λ b. nat_lt b 256) bs ≡ true → Bytes bs
are_bytes bs h = bytes_list bs h

abbrev pub bytes_of : ℕ → Body → List ℕ
bytes_of id b = encode (record { id = id; body = b })

-- calls that are given the algorithm by sums
abbrev pub initiates : ℕ → Meaning × Call
initiates reading = (sums, PlainInitiation reading digits visitor_peer links buffer)

abbrev pub starts_visit : ℕ → Meaning × Call
starts_visit reading = (sums, VisitorStart reading digits buffer)

abbrev pub replies : ℕ → OwnNumber → List ℕ → Meaning × Call
replies reading name response = (sums, Reply reading name response buffer)

abbrev pub clock : ℕ → Meaning × Call
clock reading = (sums, Clock reading buffer)

abbrev pub deliver : ℕ → ℕ → ℕ → Body → Meaning × Call
deliver reading peer id b = (sums, Delivery reading peer own_draw (bytes_of id b) links [] buffer)

-- they may be given
pub plainly : IsSized sums × Unit {0}
plainly = (sums_sized, tt)

pub given : (reading peer id : ℕ) (b : Body) → list_all (λ x. nat_lt x 256) (bytes_of id b) ≡ true → Given (deliver reading peer id b)
given reading peer id b h = (sums_sized, (are_bytes (bytes_of id b) h, tt))

-- the response to a challenge that the user's key gives
abbrev pub right : List ℕ → List ℕ
right challenge = answered sums User user_key parameter challenge

-- the server's unit
abbrev pub unit : AuthUnit
unit = record { challenge = server_challenge; response = right server_challenge }

-- invokes and results: with no unit, with one, and with values
abbrev pub authenticate : Body
authenticate = body.Invoke (record { user = user; request = request.AuthWtmUser None })

abbrev pub authenticate_by : users.User → AuthUnit → Body
authenticate_by u by = body.Invoke (record { user = u; request = request.AuthWtmUser (Some by) })

abbrev pub brings : WtatInfo → Body
brings values = body.ReturnResult (WtatParam Home (record { algorithm = 1; info = values }))

abbrev pub enquired : Body
enquired = body.ReturnResult (WtatParam Server (record { algorithm = 1; info = info.Unit unit }))

abbrev pub asks_values : Bool → Body
asks_values computes = body.Invoke (record { user = user; request = request.WtatParam Home (record { computes = computes; challenge = None }) })

-- a visit for invoke 9 of the asker's: with a unit from Home, and with one in the invoke
abbrev pub visit_by_home : List (Meaning × Call)
visit_by_home = deliver 10 asker 9 authenticate ∷ deliver 20 home 1 (brings (info.Unit unit)) ∷ []

pub visit_by_home_given : AllByRecursion Given visit_by_home
visit_by_home_given = (given 10 asker 9 authenticate refl, (given 20 home 1 (brings (info.Unit unit)) refl, tt))

abbrev pub visit : Meaning × Call
visit = deliver 10 asker 9 (authenticate_by user unit)

pub visit_given : Given visit
visit_given = given 10 asker 9 (authenticate_by user unit) refl

-- what stands in a table of one dialogue
pub none_has : (n : ℕ) (d : Dialogue) → Has d (replicate n None) → ⊥
none_has zero d h = h
none_has (suc n) d h = ⊎_elim (none-some d) (none_has n d) h

pub lone : (a d : Dialogue) (n : ℕ) → Has d (Some a ∷ replicate n None) → a ≡ d
lone a d n h = ⊎_elim (same_Some a d) (λ m. absurd (none_has n d m)) h
