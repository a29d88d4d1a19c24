-- Subscribers.
use Rattle.std.specs.Prelude.{ℕ, List, [], ◌∷◌, replicate, Some, None, Ok, Err, Option, Result}
use Rattle.std.specs.Option.{ok_or}
use Rattle.refusal.specs.declared.Refusal.{Refusal}
use Rattle.refusal.specs.declared.Refusal.TheVariants.{Misdialled}
use Rattle.wire.specs.Codes.{coded}
use Rattle.values.specs.Sizes.{user_key_size}
use Rattle.values.specs.User.{user_number, zero_user}
use Rattle.entries.specs.declared.subscriber.KeyPlace.{KeyPlace}
use Rattle.entries.specs.declared.subscriber.KeyPlace.TheVariants.{NoParameters, Here, Server}
use Rattle.entries.specs.declared.subscriber.Subscriber.{Subscriber}

-- the one list of places, by their numbers
abbrev pub place_number : KeyPlace → ℕ
place_number NoParameters = 0
place_number Here = 1
place_number Server = 2

-- all of them
abbrev pub key_places : List KeyPlace
key_places = NoParameters ∷ Here ∷ Server ∷ []

-- the place with a number
abbrev pub place_of : ℕ → Option KeyPlace
place_of n = coded place_number key_places n

-- the key by which it is found, that of its user
abbrev pub subscriber_key : Subscriber → ℕ
subscriber_key s = s.user

-- what stands in a place that removing frees
abbrev pub no_subscriber : Subscriber
no_subscriber = record {
  user = zero_user;
  key_place = NoParameters;
  user_key = replicate user_key_size 0;
}

-- the subscriber with a user, a place and a key, if there are a user and a place
abbrev pub subscriber_with : Option ℕ → Option KeyPlace → List ℕ → Result Subscriber Refusal
subscriber_with None place user_key = Err Misdialled
subscriber_with (Some user) None user_key = Err Misdialled
subscriber_with (Some user) (Some place) user_key =
    Ok (record { user = user; key_place = place; user_key = user_key })

-- the subscriber with some digits, the number of a place, and a user's key
abbrev pub subscriber_of : List ℕ → ℕ → List ℕ → Result Subscriber Refusal
subscriber_of digits place user_key = subscriber_with (user_number digits) (place_of place) user_key

-- the key of the user that some digits write
abbrev pub dialled_key : List ℕ → Result ℕ Refusal
dialled_key digits = ok_or (user_number digits) Misdialled
