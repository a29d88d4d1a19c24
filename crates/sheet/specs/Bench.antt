-- What the records of a tape do.
use Rattle.std.specs.Prelude.{ℕ, List, [], Some, None, Ok, Err, Option, Result}
use Rattle.refusal.specs.declared.Refusal.{Refusal}
use Rattle.refusal.specs.declared.Refusal.TheVariants.{Garbled, Misfitted}
use Rattle.directory.specs.Contents.{contents, places}
use Rattle.directory.specs.declared.directory.Directory.{Directory}
use Rattle.algorithm.specs.Xtea.{xtea_meaning}
use Rattle.entries.specs.declared.link.Link.{Link}
use Rattle.entries.specs.declared.subscriber.Subscriber.{Subscriber}
use Rattle.entries.specs.Entries.{adding_answer, adding_left}
use Rattle.entries.specs.Link.{link_key, link_to}
use Rattle.entries.specs.Subscriber.{subscriber_key, subscriber_of}
use Rattle.exchange.specs.Done.{Done}
use Rattle.exchange.specs.declared.outcome.Done.TheVariants.{Quiet}
use Rattle.exchange.specs.declared.service.Service.{Service}
use Rattle.exchange.specs.Service.{by}
use Rattle.exchange.specs.EnterService.{entered}
use Rattle.exchange.specs.Outcome.{After}
use Rattle.exchange.specs.Runs.{PlainInitiation, InitiationWithValues, VisitorStart, NetworkProof, Delivery, Reply, Clock, called}
use Rattle.records.specs.Tape.{TapeEntry, fit_out, link, subscriber, plain_initiation, initiation_with_values, visitor_start, network_proof, reply, delivery, clock}
use Rattle.sheet.specs.declared.bench.Bench.{Bench}

-- what a directory holds, and how many places it has
pub record Held (R : Type 0) : Type 0 where
  pub entries : List R
  pub places : ℕ

abbrev pub held : {R : Type 0} → Directory R → Held R
held directory = record { entries = contents directory; places = places directory }

-- the exchange, the links and the subscribers
pub record BenchView : Type 0 where
  pub service : Service
  pub links : Held Link
  pub subscribers : Held Subscriber

abbrev pub bench_view : Bench → BenchView
bench_view bench = record {
  service = bench.exchange;
  links = held bench.links;
  subscribers = held bench.subscribers;
}

-- so many places for links and for subscribers, all of them free
abbrev pub empty_bench : Service → ℕ → ℕ → BenchView
empty_bench service links subscribers = record {
  service = service;
  links = record { entries = []; places = links };
  subscribers = record { entries = []; places = subscribers };
}

-- the first record, which has to be a lawful fit-out
abbrev pub first_taken : Option TapeEntry → Result Service Refusal
first_taken (Some (fit_out fit)) = entered fit
first_taken other = Err Misfitted

-- the answer, the bench and the buffer at the return
pub record AfterRecord : Type 0 where
  pub result : Result Done Refusal
  pub bench : BenchView
  pub buffer : List ℕ

abbrev pub with_service : BenchView → Service → BenchView
with_service bench service = record bench { service = service }

-- what a call of the exchange gave and left, on the bench
abbrev pub after_call : BenchView → After → AfterRecord
after_call bench after = record { result = after.result; bench = with_service bench after.service; buffer = after.buffer }

-- what an entry leaves in its directory, added or refused
abbrev pub holding : {R : Type 0} → (R → ℕ) → Held R → Result R Refusal → Held R
holding key directory entry = record { entries = adding_left key directory.places directory.entries entry; places = directory.places }

-- the answer to adding an entry
abbrev pub adding_outcome : {R : Type 0} → (R → ℕ) → Held R → Result R Refusal → Result Done Refusal
adding_outcome key directory entry = by (adding_answer key directory.places directory.entries entry) (λ _. Ok Quiet) Err

-- a link is added, or refused
abbrev pub linked : BenchView → ℕ → List ℕ → AfterRecord
linked bench peer out = record {
  result = adding_outcome link_key bench.links (link_to peer);
  bench = record { service = bench.service; links = holding link_key bench.links (link_to peer); subscribers = bench.subscribers };
  buffer = out;
}

-- a subscriber is added, or refused
abbrev pub subscribed : BenchView → Result Subscriber Refusal → List ℕ → AfterRecord
subscribed bench entry out = record {
  result = adding_outcome subscriber_key bench.subscribers entry;
  bench = record { service = bench.service; links = bench.links; subscribers = holding subscriber_key bench.subscribers entry };
  buffer = out;
}

-- a record that asks nothing: it is refused with 5, and the run goes on
abbrev pub passed_over : BenchView → List ℕ → AfterRecord
passed_over bench out = record { result = Err Garbled; bench = bench; buffer = out }

-- a record that follows; the seven calls are made over algorithm 1, and with what stands in the directories at that record
abbrev pub record_taken : BenchView → Option TapeEntry → List ℕ → AfterRecord
record_taken bench (Some (fit_out fit)) out = passed_over bench out
record_taken bench (Some (link peer)) out = linked bench peer out
record_taken bench (Some (subscriber place key digits)) out = subscribed bench (subscriber_of digits place key) out
record_taken bench (Some (plain_initiation i)) out =
    after_call bench (called xtea_meaning bench.service (PlainInitiation i.reading i.digits i.peer bench.links.entries out))
record_taken bench (Some (initiation_with_values i)) out =
    after_call bench (called xtea_meaning bench.service (InitiationWithValues i.reading i.digits i.peer bench.links.entries out))
record_taken bench (Some (visitor_start reading digits)) out =
    after_call bench (called xtea_meaning bench.service (VisitorStart reading digits out))
record_taken bench (Some (network_proof reading challenge digits)) out =
    after_call bench (called xtea_meaning bench.service (NetworkProof reading digits challenge out))
record_taken bench (Some (reply reading name response)) out =
    after_call bench (called xtea_meaning bench.service (Reply reading name response out))
record_taken bench (Some (delivery reading draw peer bytes)) out =
    after_call bench (called xtea_meaning bench.service (Delivery reading peer draw bytes bench.links.entries bench.subscribers.entries out))
record_taken bench (Some (clock reading)) out = after_call bench (called xtea_meaning bench.service (Clock reading out))
record_taken bench None out = passed_over bench out
