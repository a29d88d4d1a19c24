-- The law of genuine replies is false of machines that do wrong, each by a run that is computed. Assumes nothing.
use Rattle.std.proofs.Common.{◌≡◌, ◌≢◌, ℕ, ◌+◌, Bool, true, false, ltb, replicate, reverse, List, [], ◌∷◌, ◌++◌, Some, None, Ok, Err, Option, Result, ◌⊎◌, inl, inr, ⊎_elim, sym, refl, ap, ◌∙◌, subst, arith}
use Rattle.std.specs.List.{list_all, AllByRecursion}
use Rattle.std.proofs.lemmas.Option.{none-some, same_Some}
use Rattle.std.specs.Prelude.{slice_index}
use Rattle.wire.specs.declared.codes.Verdict.TheVariants.{Correct, Incorrect}
use Rattle.values.specs.declared.proof.AuthUnit.{AuthUnit}
use Rattle.values.specs.declared.proof.AuthSession.{AuthSession}
use Rattle.apdu.specs.declared.apdus.WtatInfo.{WtatInfo}
use Rattle.apdu.specs.declared.apdus.WtatInfo.TheVariants as info
use Rattle.apdu.specs.Decode.{received_as}
use Rattle.wire.specs.Fields.{Bytes}
use Rattle.refusal.specs.declared.Refusal.{Refusal}
use Rattle.algorithm.specs.declared.direction.Direction.{Direction}
use Rattle.algorithm.specs.declared.direction.Direction.TheVariants.{User, Network}
use Rattle.algorithm.specs.Meaning.{Meaning, answered}
use Rattle.entries.specs.declared.subscriber.KeyPlace.TheVariants.{Here}
use Rattle.entries.specs.declared.subscriber.Subscriber.{Subscriber}
use Rattle.exchange.specs.declared.dialogue.Dialogue.{Dialogue}
use Rattle.exchange.specs.declared.invokes.Owed.{Owed}
use Rattle.exchange.specs.declared.invokes.OwnNumber.{OwnNumber}
use Rattle.exchange.specs.Done.{Done}
use Rattle.exchange.specs.declared.outcome.Done.TheVariants.{Quiet, Reported}
use Rattle.exchange.specs.declared.outcome.Report.TheVariants as report
use Rattle.exchange.specs.declared.service.Service.{Service}
use Rattle.exchange.specs.declared.state.State.TheVariants.{Executing}
use Rattle.exchange.specs.Outcome.{After}
use Rattle.exchange.specs.Examples.{home, asker, links, example_fit_out, in_service, sums, user, other_user, user_key, subscribers, server_challenge, parameter, own_challenge, buffer, first}
use Rattle.exchange.specs.Genuine.{said, said_to, said_by, IsFirst, user_asked, values_written, values_brought, verdict_by, Wrote, Judges, GenuineBy}
use Rattle.exchange.specs.Runs.{Call, Delivery, Reply, Given, KeySized, Machine, at_end}
use Rattle.exchange.specs.State.{owed_by}
use Rattle.exchange.specs.Table.{Has}
use Rattle.exchange.specs.WrongGenuine.{finds_all_incorrect, finds_all_correct, asks_for_no_response, takes_the_other_direction, uses_no_parameter, uses_the_first_key, finds_the_last_entry, reports_another_challenge, crosses_verdicts, judges_the_first_at_the_terminal, answers_under_the_next_id, tells_no_peer, WrongGenuineIsRefuted}
use Rattle.exchange.specs.Wrong.{tells_the_next_peer, gives_the_first_name_again}
use Rattle.exchange.proofs.Bench.{lone, sums_sized, are_bytes, bytes_of, starts_visit, deliver, plainly, given, right, unit, authenticate_by, brings, asks_values, visit, visit_given}

-- the server is asked for a unit, or a session, of the user
abbrev request : List Subscriber → Bool → Call
request users computes = Delivery 10 asker (server_challenge ++ parameter) (bytes_of 9 (asks_values computes)) links users buffer

abbrev subscriber : Subscriber
subscriber = record { user = user; key_place = Here; user_key = user_key }

-- in its directory this subscriber is the first for the user
record Directory (users : List Subscriber) : Type 0 where
  pub sized : AllByRecursion KeySized users
  pub found : IsFirst user subscriber users

asks_bytes : (computes : Bool) → Bytes (bytes_of 9 (asks_values computes))
asks_bytes true = are_bytes (bytes_of 9 (asks_values true)) refl
asks_bytes false = are_bytes (bytes_of 9 (asks_values false)) refl

asks_user : (computes : Bool) → said user_asked (received_as (bytes_of 9 (asks_values computes))) ≡ Some user
asks_user true = refl
asks_user false = refl

wrote : (does : Machine) (users : List Subscriber) (computes : Bool) (values : WtatInfo) → Directory users → said_by values_written (does sums in_service (request users computes)) ≡ Some values → Wrote does sums user_key parameter values
wrote does users computes values d written = record {
  fit = example_fit_out;
  server = in_service;
  enters = refl;
  earlier = [];
  reading = 10;
  peer = asker;
  challenge = server_challenge;
  bytes = bytes_of 9 (asks_values computes);
  links = links;
  subscribers = users;
  out = buffer;
  given = ((sums_sized, (asks_bytes computes, d.sized)), tt);
  half = refl;
  user = user;
  asked = asks_user computes;
  subscriber = subscriber;
  first = d.found;
  keyed = refl;
  wrote = written;
}

-- another user comes before
other_is_another : other_user ≢ user
other_is_another e = absurd (omega (arith, e))

both : Directory (subscribers Here)
both = record { sized = (refl, (refl, tt)); found = inr (other_is_another, inl (refl, refl)) }

abbrev done_in : Result Done Refusal → Done
done_in (Ok done) = done
done_in (Err n) = Quiet

-- what the law says of a reply at the end of some calls
module _ (does : Machine) (earlier : List (Meaning × Call)) (delivery : Call) (later : List (Meaning × Call)) where
  abbrev at_reply : Service
  at_reply = at_end does in_service (earlier ++ (sums, delivery) ∷ later)

  abbrev answer : OwnNumber → List ℕ → After
  answer name response = does sums at_reply (Reply 30 name response buffer)

  judges : GenuineBy does in_service → (values : WtatInfo) → Wrote does sums user_key parameter values → AllByRecursion Given (earlier ++ (sums, delivery) ∷ later) → said_to values_brought delivery ≡ Some values → (name : OwnNumber) (challenge : List ℕ) →
      (does sums (at_end does in_service earlier) delivery).result ≡ Ok (Reported name (report.Challenge challenge)) → (response : List ℕ) → (answer name response).result ≡ Ok (done_in (answer name response).result) → Judges at_reply name (answer name response) response (right challenge)
  judges law values w g brought name challenge reported response ok = law sums user_key parameter values w earlier delivery later g brought name challenge reported sums 30 response buffer (done_in (answer name response).result) ok

-- a dialogue of reading 10 that has gone on to the terminal at some reading
abbrev executing : ℕ → ℕ → Option Owed → List ℕ → Dialogue
executing name reading owed expected = record { name = record { 0 = name }; opened = 10; ends = reading + 60000; state = Executing owed expected }

-- a reply whose dialogue gets another verdict than the algorithm's is not as the law says
module _ (before : Service) (name : OwnNumber) (d : Dialogue) (reply : After) (response expected : List ℕ) (j : Judges before name reply response expected) (it_is : d ≡ j.dialogue) where
  verdict_is : verdict_by name (owed_by d.state) reply ≡ Some j.verdict
  verdict_is = ap (λ (x : Dialogue). verdict_by name (owed_by x.state) reply) it_is ∙ j.told

  not_incorrect : verdict_by name (owed_by d.state) reply ≡ Some Incorrect → response ≡ expected → ⊥
  not_incorrect v same =
      let a : Incorrect ≡ j.verdict = same_Some Incorrect j.verdict (sym v ∙ verdict_is) in
      let b : j.verdict ≡ Correct = j.right.1 same in cc

  not_correct : verdict_by name (owed_by d.state) reply ≡ Some Correct → (response ≡ expected → ⊥) → ⊥
  not_correct v differ = differ (j.right.0 (sym (same_Some Correct j.verdict (sym v ∙ verdict_is))))

  not_untold : verdict_by name (owed_by d.state) reply ≡ None → ⊥
  not_untold v = none-some j.verdict (sym v ∙ verdict_is)

alone_at : (before : Service) (d : Dialogue) (name : OwnNumber) (reply : After) (response expected : List ℕ) (j : Judges before name reply response expected) → before.dialogues ≡ Some d ∷ replicate 31 None → d ≡ j.dialogue
alone_at before d name reply response expected j table = lone d j.dialogue 31 (subst (Has j.dialogue) table j.stood)

-- A unit that the server wrote comes in the asker's invoke.
abbrev arrives : AuthUnit → Call
arrives u = (deliver 10 asker 9 (authenticate_by user u)).1

abbrev unit_with : List ℕ → List ℕ → AuthUnit
unit_with key drawn = record { challenge = server_challenge; response = answered sums User key drawn server_challenge }

abbrev owed_asker : Option Owed
owed_asker = Some (record { peer = asker; id = record { 0 = 9 } })

module _ (does : Machine) (law : GenuineBy does in_service) (users : List Subscriber) (directory : Directory users) (u : AuthUnit) (challenge response : List ℕ)
    (written : said_by values_written (does sums in_service (request users false)) ≡ Some (info.Unit u))
    (bytes : list_all (λ b. ltb b 256) (bytes_of 9 (authenticate_by user u)) ≡ true)
    (brought : said_to values_brought (arrives u) ≡ Some (info.Unit u))
    (reported : (does sums in_service (arrives u)).result ≡ Ok (Reported first (report.Challenge challenge)))
    (replied : (answer does [] (arrives u) [] first response).result ≡ Ok (done_in (answer does [] (arrives u) [] first response).result))
    (table : (at_reply does [] (arrives u) []).dialogues ≡ Some (executing 1 10 owed_asker u.response) ∷ replicate 31 None) where
  by_unit : Judges (at_reply does [] (arrives u) []) first (answer does [] (arrives u) [] first response) response (right challenge)
  by_unit = judges does [] (arrives u) [] law (info.Unit u) (wrote does users false (info.Unit u) directory written) (given 10 asker 9 (authenticate_by user u) bytes, tt) brought first challenge reported response replied

  unit_is : executing 1 10 owed_asker u.response ≡ by_unit.dialogue
  unit_is = alone_at _ (executing 1 10 owed_asker u.response) first _ response (right challenge) by_unit table

  unit_not_incorrect : verdict_by first owed_asker (answer does [] (arrives u) [] first response) ≡ Some Incorrect → response ≡ right challenge → ⊥
  unit_not_incorrect = not_incorrect _ first (executing 1 10 owed_asker u.response) _ response (right challenge) by_unit unit_is

  unit_not_correct : verdict_by first owed_asker (answer does [] (arrives u) [] first response) ≡ Some Correct → (response ≡ right challenge → ⊥) → ⊥
  unit_not_correct = not_correct _ first (executing 1 10 owed_asker u.response) _ response (right challenge) by_unit unit_is

  unit_not_untold : verdict_by first owed_asker (answer does [] (arrives u) [] first response) ≡ None → ⊥
  unit_not_untold = not_untold _ first (executing 1 10 owed_asker u.response) _ response (right challenge) by_unit unit_is

-- A session that the server wrote comes in Home's result.
abbrev comes_home : AuthSession → Call
comes_home s = (deliver 20 home 1 (brings (info.Session s))).1

abbrev visiting : List (Meaning × Call)
visiting = starts_visit 10 ∷ []

module _ (does : Machine) (law : GenuineBy does in_service) (s : AuthSession) (expected : List ℕ)
    (written : said_by values_written (does sums in_service (request (subscribers Here) true)) ≡ Some (info.Session s))
    (bytes : list_all (λ b. ltb b 256) (bytes_of 1 (brings (info.Session s))) ≡ true)
    (brought : said_to values_brought (comes_home s) ≡ Some (info.Session s))
    (reported : (does sums (at_end does in_service visiting) (comes_home s)).result ≡ Ok (Reported first (report.Challenge own_challenge)))
    (replied : (answer does visiting (comes_home s) [] first (right own_challenge)).result ≡ Ok (done_in (answer does visiting (comes_home s) [] first (right own_challenge)).result))
    (table : (at_reply does visiting (comes_home s) []).dialogues ≡ Some (executing 1 20 None expected) ∷ replicate 31 None) where
  by_session : Judges (at_reply does visiting (comes_home s) []) first (answer does visiting (comes_home s) [] first (right own_challenge)) (right own_challenge) (right own_challenge)
  by_session = judges does visiting (comes_home s) [] law (info.Session s) (wrote does (subscribers Here) true (info.Session s) both written) (plainly, (given 20 home 1 (brings (info.Session s)) bytes, tt)) brought first own_challenge reported (right own_challenge) replied

  session_not_incorrect : verdict_by first None (answer does visiting (comes_home s) [] first (right own_challenge)) ≡ Some Incorrect → ⊥
  session_not_incorrect v = not_incorrect _ first (executing 1 20 None expected) _ (right own_challenge) (right own_challenge) by_session (alone_at _ (executing 1 20 None expected) first _ (right own_challenge) (right own_challenge) by_session table) v refl

-- a response of zeros is not the algorithm's
zeros_differ : replicate 4 0 ≡ right server_challenge → ⊥
zeros_differ h = let e : 0 ≡ slice_index (right server_challenge) 0 = ap (λ (r : List ℕ). slice_index r 0) h in absurd (omega arith)

-- Another user's visit, for invoke 7 of Home's.
abbrev other_unit : AuthUnit
other_unit = record { challenge = own_challenge; response = replicate 4 77 }

abbrev other_visit : Meaning × Call
other_visit = deliver 10 home 7 (authenticate_by other_user other_unit)

other_visit_given : Given other_visit
other_visit_given = given 10 home 7 (authenticate_by other_user other_unit) refl

abbrev second : OwnNumber
second = record { 0 = 2 }

abbrev peer_of : Option Owed → ℕ
peer_of None = 0
peer_of (Some owed) = owed.peer

abbrev owed_home : Option Owed
owed_home = Some (record { peer = home; id = record { 0 = 7 } })

two : (a b d : Dialogue) (n : ℕ) → Has d (Some a ∷ Some b ∷ replicate n None) → (a ≡ d) ⊎ (b ≡ d)
two a b d n h = ⊎_elim (λ e. inl (same_Some a d e)) (λ r. inr (lone b d n r)) h

abbrev for_asker : ℕ → Dialogue
for_asker name = executing name 10 owed_asker unit.response

abbrev for_home : ℕ → Dialogue
for_home name = executing name 10 owed_home other_unit.response

same_name : (a d : Dialogue) (name : OwnNumber) → a ≡ d → d.name ≡ name → a.name.0 ≡ name.0
same_name a d name e named = ap (λ (x : Dialogue). x.name.0) e ∙ ap (λ (x : OwnNumber). x.0) named

-- a directory that has the user twice
abbrev twice : List Subscriber
twice = subscriber ∷ record { user = user; key_place = Here; user_key = replicate 16 99 } ∷ []

twice_directory : Directory twice
twice_directory = record { sized = (refl, (refl, tt)); found = inl (refl, refl) }

-- the session for a direction
abbrev session_for : Direction → List ℕ → AuthSession
session_for d drawn = record { key = sums.session d user_key drawn; parameter = drawn }

pub wrong_genuine : WrongGenuineIsRefuted
wrong_genuine = record {
  a_right_reply_is_correct = λ law. unit_not_incorrect finds_all_incorrect law (subscribers Here) both unit server_challenge (right server_challenge) refl refl refl refl refl refl refl refl;
  a_wrong_reply_is_incorrect = λ law. unit_not_correct finds_all_correct law (subscribers Here) both unit server_challenge (replicate 4 0) refl refl refl refl refl refl refl zeros_differ;
  a_session_is_asked_for_its_response = λ law. session_not_incorrect asks_for_no_response law (session_for User parameter) (replicate 4 0) refl refl refl refl refl refl refl;
  a_session_is_for_the_users_proof = λ law. session_not_incorrect takes_the_other_direction law (session_for Network parameter) (sums.response (sums.session Network user_key parameter) own_challenge) refl refl refl refl refl refl refl;
  a_parameter_is_used = λ law. unit_not_incorrect uses_no_parameter law (subscribers Here) both (unit_with user_key (replicate 8 0)) server_challenge (right server_challenge) refl refl refl refl refl refl refl refl;
  a_key_is_that_of_the_user = λ law. unit_not_incorrect uses_the_first_key law (subscribers Here) both (unit_with (replicate 16 99) parameter) server_challenge (right server_challenge) refl refl refl refl refl refl refl refl;
  a_user_is_found_at_the_first_entry = λ law. unit_not_incorrect finds_the_last_entry law twice twice_directory (unit_with (replicate 16 99) parameter) server_challenge (right server_challenge) refl refl refl refl refl refl refl refl;
  a_reply_is_to_the_challenge_reported = λ law. unit_not_incorrect reports_another_challenge law (subscribers Here) both unit (reverse server_challenge) (right (reverse server_challenge)) refl refl refl refl refl refl refl refl;
  two_verdicts_are_not_crossed = λ law.
      let j = judges crosses_verdicts [] visit.1 (other_visit ∷ []) law (info.Unit unit) (wrote crosses_verdicts (subscribers Here) false (info.Unit unit) both refl) (visit_given, (other_visit_given, tt)) refl first server_challenge refl (right server_challenge) refl in
      ⊎_elim (λ e. not_untold _ first (for_asker 1) _ _ _ j e refl) (λ e. let n : 2 ≡ 1 = same_name (for_home 2) j.dialogue first e j.named in absurd (omega arith)) (two (for_asker 1) (for_home 2) j.dialogue 30 j.stood);
  a_reply_is_to_the_dialogue_it_names = λ law.
      let j = judges judges_the_first_at_the_terminal (other_visit ∷ []) visit.1 [] law (info.Unit unit) (wrote judges_the_first_at_the_terminal (subscribers Here) false (info.Unit unit) both refl) (other_visit_given, (visit_given, tt)) refl second server_challenge refl (right server_challenge) refl in
      ⊎_elim (λ e. let n : 1 ≡ 2 = same_name (for_home 1) j.dialogue second e j.named in absurd (omega arith)) (λ e. not_untold _ second (for_asker 2) _ _ _ j e refl) (two (for_home 1) (for_asker 2) j.dialogue 30 j.stood);
  a_verdict_goes_to_the_peer_it_is_owed = λ law. unit_not_untold tells_the_next_peer law (subscribers Here) both unit server_challenge (right server_challenge) refl refl refl refl refl refl refl;
  a_verdict_goes_under_the_id_it_is_owed = λ law. unit_not_untold answers_under_the_next_id law (subscribers Here) both unit server_challenge (right server_challenge) refl refl refl refl refl refl refl;
  an_owed_verdict_is_sent = λ law. unit_not_untold tells_no_peer law (subscribers Here) both unit server_challenge (right server_challenge) refl refl refl refl refl refl refl;
  a_name_is_not_given_again = λ law.
      let j = judges gives_the_first_name_again (other_visit ∷ []) visit.1 [] law (info.Unit unit) (wrote gives_the_first_name_again (subscribers Here) false (info.Unit unit) both refl) (other_visit_given, (visit_given, tt)) refl first server_challenge refl (right server_challenge) refl in
      let one = j.alone (for_home 1) (inl (refl {a = Some (for_home 1)})) refl in
      let other = j.alone (for_asker 1) (inr (inl (refl {a = Some (for_asker 1)}))) refl in
      let e : owed_home ≡ owed_asker = ap (λ (d : Dialogue). owed_by d.state) (one ∙ sym other) in
      let p : home ≡ asker = ap peer_of e in absurd (omega arith);
}
