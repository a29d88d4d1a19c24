-- Exchanges, users and an algorithm for examples: runs that are computed.
use Rattle.std.specs.Prelude.{ℕ, ◌+◌, ◌%◌, Bool, true, List, [], ◌∷◌, ◌++◌, map, replicate, slice_index}
use Rattle.std.specs.List.{range_with_len}
use Rattle.algorithm.specs.declared.direction.Direction.{Direction}
use Rattle.algorithm.specs.Direction.{direction_number}
use Rattle.algorithm.specs.Meaning.{Meaning}
use Rattle.values.specs.declared.user.User.{User}
use Rattle.entries.specs.declared.link.Link.{Link}
use Rattle.entries.specs.declared.subscriber.KeyPlace.{KeyPlace}
use Rattle.entries.specs.declared.subscriber.Subscriber.{Subscriber}
use Rattle.exchange.specs.declared.fit_out.FitOut.{FitOut}
use Rattle.exchange.specs.declared.invokes.OwnNumber.{OwnNumber}
use Rattle.exchange.specs.declared.service.Service.{Service}
use Rattle.exchange.specs.EnterService.{fresh}

-- the Home of a user, by its number as a peer
abbrev pub home : ℕ
home = 1

-- the server, which keeps user keys
abbrev pub server : ℕ
server = 2

-- the exchange that a user visits
abbrev pub visitor_peer : ℕ
visitor_peer = 3

-- an exchange that asks another for a user's proof
abbrev pub asker : ℕ
asker = 4

-- links to all four
abbrev pub links : List Link
links =
    record { peer = home } ∷ record { peer = server }
    ∷ record { peer = visitor_peer } ∷ record { peer = asker } ∷ []

-- each timer runs a minute, and responses can be computed from a session key, or cannot
abbrev pub fitted_to : Bool → FitOut
fitted_to computes = record {
  t1 = 60000;
  t2 = 60000;
  t3 = 60000;
  t4 = 60000;
  t5 = 60000;
  tr = 60000;
  home = home;
  server = server;
  can_compute = computes;
}

-- the fit-out of an exchange that can compute
abbrev pub example_fit_out : FitOut
example_fit_out = fitted_to true

-- an exchange that has just entered service, and can compute responses or cannot
abbrev pub set_up : Bool → Service
set_up computes = fresh (fitted_to computes)

-- one that has just entered service, and can compute
abbrev pub in_service : Service
in_service = fresh example_fit_out

-- the last byte of a number
abbrev pub byte : ℕ → ℕ
byte n = n % 256

-- a byte of a session's key: direction, user key and parameter summed
abbrev pub session_byte : Direction → List ℕ → List ℕ → ℕ → ℕ
session_byte d key parameter i =
    byte (direction_number d + slice_index key i + slice_index parameter (i % 8))

-- a byte of a response: four bytes of the session's key and two of the challenge summed
abbrev pub response_byte : List ℕ → List ℕ → ℕ → ℕ
response_byte session challenge i =
    byte (slice_index session i + slice_index session (i + 4) + slice_index session (i + 8)
    + slice_index session (i + 12) + slice_index challenge i + slice_index challenge (i + 4))

-- an algorithm by sums
abbrev pub sums : Meaning
sums = record {
  number = 1;
  session = λ d key parameter. map (session_byte d key parameter) (range_with_len 0 16);
  response = λ session challenge. map (response_byte session challenge) (range_with_len 0 4);
}

-- the digits of user 5
abbrev pub digits : List ℕ
digits = 0x35 ∷ []

-- user 5
abbrev pub user : User
user = 1000000000000005

-- user 6
abbrev pub other_user : User
other_user = 1000000000000006

-- the key of user 5
abbrev pub user_key : List ℕ
user_key = range_with_len 40 16

-- both users, with their keys at a place
abbrev pub subscribers : KeyPlace → List Subscriber
subscribers place =
    record { user = other_user; key_place = place; user_key = replicate 16 99 }
    ∷ record { user = user; key_place = place; user_key = user_key } ∷ []

-- the first half of a draw of the server's
abbrev pub server_challenge : List ℕ
server_challenge = range_with_len 100 8

-- the second half of it
abbrev pub parameter : List ℕ
parameter = range_with_len 200 8

-- the first half of a draw of another exchange's
abbrev pub own_challenge : List ℕ
own_challenge = range_with_len 10 8

-- that draw
abbrev pub own_draw : List ℕ
own_draw = own_challenge ++ range_with_len 30 8

-- the buffer that is lent
abbrev pub buffer : List ℕ
buffer = replicate 64 0

-- the first number that an exchange gives
abbrev pub first : OwnNumber
first = record { 0 = 1 }
