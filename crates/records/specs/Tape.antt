-- The records of a tape: what each asks, as it is read and as it is written.
use Rattle.std.specs.Prelude.{ℕ, ◌^◌, ◌<◌, Bool, true, false, List, [], ◌∷◌, ◌++◌, length, take, drop, Some, None, Option, ◌==◌, slice_index, if◌then◌else◌}
use Rattle.std.specs.List.{AllByRecursion}
use Rattle.std.specs.Option.{option_map}
use Rattle.wire.specs.Fields.{field, two}
use Rattle.wire.specs.FieldValues.{OfSize}
use Rattle.values.specs.Sizes.{challenge_size, response_size, user_key_size, draw_size}
use Rattle.exchange.specs.declared.fit_out.FitOut.{FitOut}
use Rattle.exchange.specs.declared.invokes.OwnNumber.{OwnNumber}
use Rattle.records.specs.declared.tags.TapeTag.{TapeTag}
use Rattle.records.specs.declared.tags.TapeTag.TheVariants as tag
use Rattle.records.specs.declared.tape.Initiation.{Initiation}
use Rattle.records.specs.declared.tape.NetworkProof.{NetworkProof}
use Rattle.records.specs.declared.tape.Reply.{Reply}
use Rattle.records.specs.declared.tape.Delivery.{Delivery}
use Rattle.records.specs.declared.tape.TapeRecord.{TapeRecord}
use Rattle.records.specs.declared.tape.TapeRecord.TheVariants as tape
use Rattle.records.specs.Numbers.{number, in_bytes}
use Rattle.records.specs.Parts.{◌>>=◌, parted, byte_first}
use Rattle.records.specs.Tags.{tape_tag_number, tape_tag_of}

-- the sizes of a reading, of a timer and of a fit-out, in bytes
abbrev pub reading_size : ℕ
reading_size = 8

abbrev pub timer_size : ℕ
timer_size = 4

abbrev pub fit_out_size : ℕ
fit_out_size = 27

-- what both initiations have
pub record InitiationEntry : Type 0 where
  pub reading : ℕ
  pub peer : ℕ
  pub digits : List ℕ

-- what a record asks
pub data TapeEntry : Type 0 where
  fit_out : FitOut → TapeEntry
  link : ℕ → TapeEntry
  -- place, key, digits
  subscriber : ℕ → List ℕ → List ℕ → TapeEntry
  plain_initiation : InitiationEntry → TapeEntry
  initiation_with_values : InitiationEntry → TapeEntry
  -- reading, digits
  visitor_start : ℕ → List ℕ → TapeEntry
  -- reading, challenge, digits
  network_proof : ℕ → List ℕ → List ℕ → TapeEntry
  -- reading, name, response
  reply : ℕ → OwnNumber → List ℕ → TapeEntry
  -- reading, draw, peer, bytes
  delivery : ℕ → List ℕ → ℕ → List ℕ → TapeEntry
  clock : ℕ → TapeEntry

abbrev pub initiation_view : Initiation → InitiationEntry
initiation_view i = record { reading = i.reading; peer = i.peer; digits = i.digits.now }

abbrev pub network_proof_view : NetworkProof → TapeEntry
network_proof_view p = network_proof p.reading p.challenge p.digits.now

abbrev pub reply_view : Reply → TapeEntry
reply_view r = reply r.reading r.name r.response

abbrev pub delivery_view : Delivery → TapeEntry
delivery_view d = delivery d.reading d.draw d.peer d.bytes.now

abbrev pub tape_view : TapeRecord → TapeEntry
tape_view (tape.FitOut f) = fit_out f
tape_view (tape.Link peer) = link peer
tape_view (tape.Subscriber place key digits) = subscriber place key.now digits.now
tape_view (tape.PlainInitiation i) = plain_initiation (initiation_view i)
tape_view (tape.InitiationWithValues i) = initiation_with_values (initiation_view i)
tape_view (tape.VisitorStart reading digits) = visitor_start reading digits.now
tape_view (tape.NetworkProof p) = network_proof_view p
tape_view (tape.Reply r) = reply_view r
tape_view (tape.Delivery d) = delivery_view d
tape_view (tape.Clock reading) = clock reading

-- the number in the four bytes from a place on
abbrev pub four_at : ℕ → List ℕ → ℕ
four_at at v = number (take timer_size (drop at v))

-- a byte that is 0 or 1
abbrev pub bit_of : ℕ → Option Bool
bit_of n = if n == 0 then Some false else if n == 1 then Some true else None

-- T1 to T5, TR, the Home peer, the server peer, and 0 or 1 for computing
abbrev pub fit_out_in : List ℕ → Bool → FitOut
fit_out_in v can = record {
  t1 = four_at 0 v;
  t2 = four_at 4 v;
  t3 = four_at 8 v;
  t4 = four_at 12 v;
  t5 = four_at 16 v;
  tr = four_at 20 v;
  home = slice_index v 24;
  server = slice_index v 25;
  can_compute = can;
}

abbrev pub read_fit_out : List ℕ → Option FitOut
read_fit_out v =
    if length v == fit_out_size then option_map (fit_out_in v) (bit_of (slice_index v 26)) else None

abbrev pub read_link : List ℕ → Option TapeEntry
read_link v = if length v == 1 then Some (link (slice_index v 0)) else None

-- a place, a key of 16 bytes, and digits to the end
abbrev pub read_subscriber : List ℕ → Option TapeEntry
read_subscriber v = do
  place ← byte_first v
  key ← parted user_key_size place.rest
  Some (subscriber place.byte key.first key.rest)

-- a reading of 8 bytes, a peer, and digits to the end
abbrev pub read_initiation : List ℕ → Option InitiationEntry
read_initiation v = do
  reading ← parted reading_size v
  peer ← byte_first reading.rest
  Some (record { reading = number reading.first; peer = peer.byte; digits = peer.rest })

-- a reading, and digits to the end
abbrev pub read_visitor_start : List ℕ → Option TapeEntry
read_visitor_start v = do
  reading ← parted reading_size v
  Some (visitor_start (number reading.first) reading.rest)

-- a reading, a challenge of 8 bytes, and digits to the end
abbrev pub read_network_proof : List ℕ → Option TapeEntry
read_network_proof v = do
  reading ← parted reading_size v
  challenge ← parted challenge_size reading.rest
  Some (network_proof (number reading.first) challenge.first challenge.rest)

-- a reading, a dialogue's name of 2 bytes, and a response of 4
abbrev pub read_reply : List ℕ → Option TapeEntry
read_reply v = do
  reading ← parted reading_size v
  name ← parted 2 reading.rest
  if length name.rest == response_size
      then Some (reply (number reading.first) (record { 0 = number name.first }) name.rest)
      else None

-- a reading, a draw of 16 bytes, a peer, and the bytes that came to the end
abbrev pub read_delivery : List ℕ → Option TapeEntry
read_delivery v = do
  reading ← parted reading_size v
  draw ← parted draw_size reading.rest
  peer ← byte_first draw.rest
  Some (delivery (number reading.first) draw.first peer.byte peer.rest)

abbrev pub read_clock : List ℕ → Option TapeEntry
read_clock v = if length v == reading_size then Some (clock (number v)) else None

-- what the value of a record with this tag asks
abbrev pub tape_read_as : TapeTag → List ℕ → Option TapeEntry
tape_read_as tag.FitOut v = option_map fit_out (read_fit_out v)
tape_read_as tag.Link v = read_link v
tape_read_as tag.Subscriber v = read_subscriber v
tape_read_as tag.PlainInitiation v = option_map plain_initiation (read_initiation v)
tape_read_as tag.InitiationWithValues v = option_map initiation_with_values (read_initiation v)
tape_read_as tag.VisitorStart v = read_visitor_start v
tape_read_as tag.NetworkProof v = read_network_proof v
tape_read_as tag.Reply v = read_reply v
tape_read_as tag.Delivery v = read_delivery v
tape_read_as tag.Clock v = read_clock v

-- what a tag and a value ask
abbrev pub tape_read : ℕ → List ℕ → Option TapeEntry
tape_read n v = do
  t ← tape_tag_of n
  tape_read_as t v

-- the tag of a record
abbrev pub tape_tag : TapeEntry → TapeTag
tape_tag (fit_out f) = tag.FitOut
tape_tag (link peer) = tag.Link
tape_tag (subscriber place key digits) = tag.Subscriber
tape_tag (plain_initiation i) = tag.PlainInitiation
tape_tag (initiation_with_values i) = tag.InitiationWithValues
tape_tag (visitor_start reading digits) = tag.VisitorStart
tape_tag (network_proof reading challenge digits) = tag.NetworkProof
tape_tag (reply reading name response) = tag.Reply
tape_tag (delivery reading draw peer bytes) = tag.Delivery
tape_tag (clock reading) = tag.Clock

-- 0 or 1
abbrev pub bit : Bool → ℕ
bit false = 0
bit true = 1

abbrev pub fit_out_bytes : FitOut → List ℕ
fit_out_bytes f =
    in_bytes timer_size f.t1
    ++ (in_bytes timer_size f.t2
    ++ (in_bytes timer_size f.t3
    ++ (in_bytes timer_size f.t4
    ++ (in_bytes timer_size f.t5 ++ (in_bytes timer_size f.tr ++ (f.home ∷ f.server ∷ bit f.can_compute ∷ []))))))

abbrev pub initiation_bytes : InitiationEntry → List ℕ
initiation_bytes i = in_bytes reading_size i.reading ++ (i.peer ∷ i.digits)

-- the value of a record
abbrev pub tape_value : TapeEntry → List ℕ
tape_value (fit_out f) = fit_out_bytes f
tape_value (link peer) = peer ∷ []
tape_value (subscriber place key digits) = place ∷ (key ++ digits)
tape_value (plain_initiation i) = initiation_bytes i
tape_value (initiation_with_values i) = initiation_bytes i
tape_value (visitor_start reading digits) = in_bytes reading_size reading ++ digits
tape_value (network_proof reading challenge digits) = in_bytes reading_size reading ++ (challenge ++ digits)
tape_value (reply reading name response) = in_bytes reading_size reading ++ (two name.0 ++ response)
tape_value (delivery reading draw peer bytes) = in_bytes reading_size reading ++ (draw ++ (peer ∷ bytes))
tape_value (clock reading) = in_bytes reading_size reading

-- a record as it is written
abbrev pub tape_bytes : TapeEntry → List ℕ
tape_bytes e = field (tape_tag_number (tape_tag e)) (tape_value e)

-- a number is written in k bytes
abbrev pub IsBelow : ℕ → ℕ → Type 0
IsBelow k n = n < 256 ^ k

-- the parts of a record have their sizes
abbrev pub TapeSized : TapeEntry → Type 0
TapeSized (fit_out f) =
    AllByRecursion (IsBelow timer_size) (f.t1 ∷ f.t2 ∷ f.t3 ∷ f.t4 ∷ f.t5 ∷ f.tr ∷ [])
TapeSized (link peer) = Unit {0}
TapeSized (subscriber place key digits) = OfSize user_key_size key
TapeSized (plain_initiation i) = IsBelow reading_size i.reading
TapeSized (initiation_with_values i) = IsBelow reading_size i.reading
TapeSized (visitor_start reading digits) = IsBelow reading_size reading
TapeSized (network_proof reading challenge digits) = IsBelow reading_size reading × OfSize challenge_size challenge
TapeSized (reply reading name response) = IsBelow reading_size reading × OfSize response_size response
TapeSized (delivery reading draw peer bytes) = IsBelow reading_size reading × OfSize draw_size draw
TapeSized (clock reading) = IsBelow reading_size reading
