-- What an invoke of a peer comes to can be sent, and a dialogue that opens for it owes the answer. Assumes nothing.
use Rattle.std.proofs.Common.{◌≡◌, ℕ, true, false, ◌&&◌, eqb, List, Some, None, Option, sym, refl, ap, ◌∙◌}
use Rattle.std.proofs.lemmas.Bool.{cond_both, false≢true}
use Rattle.std.proofs.lemmas.Option.{none-some}
use Rattle.wire.specs.declared.codes.ErrorCode.{ErrorCode}
use Rattle.wire.specs.declared.codes.ErrorCode.TheVariants.{InvalidServedUserNr, ParamNotAvailable}
use Rattle.wire.specs.declared.codes.Provider.{Provider}
use Rattle.wire.specs.declared.codes.Provider.TheVariants as providers
use Rattle.wire.specs.FieldValues.{IfAny, OfSize}
use Rattle.values.specs.declared.proof.AuthUnit.{AuthUnit}
use Rattle.values.specs.Sizes.{draw_size, user_key_size}
use Rattle.values.specs.User.{is_user}
use Rattle.apdu.specs.declared.apdus.WtanParamArg.{WtanParamArg}
use Rattle.apdu.specs.declared.apdus.Body.{Body}
use Rattle.apdu.specs.declared.apdus.Body.TheVariants as body
use Rattle.apdu.specs.declared.apdus.Invoke.{Invoke}
use Rattle.apdu.specs.declared.apdus.Request.{Request}
use Rattle.apdu.specs.declared.apdus.Request.TheVariants.{AuthWtmUser, WtatParam, WtanParam}
use Rattle.apdu.specs.Laws.{IsBody, IsInvoke, IsRequest}
use Rattle.algorithm.specs.Meaning.{Meaning, IsSized}
use Rattle.entries.specs.declared.subscriber.KeyPlace.{KeyPlace}
use Rattle.entries.specs.declared.subscriber.KeyPlace.TheVariants.{NoParameters, Here, Server}
use Rattle.entries.specs.declared.subscriber.Subscriber.{Subscriber}
use Rattle.exchange.specs.declared.handling.Handling.{Handling}
use Rattle.exchange.specs.declared.handling.Handling.TheVariants.{Answer, Opens}
use Rattle.exchange.specs.declared.invokes.Owed.{Owed}
use Rattle.exchange.specs.declared.outcome.Outcome.{Outcome}
use Rattle.exchange.specs.declared.service.Service.{Service}
use Rattle.exchange.specs.declared.state.State.{State}
use Rattle.exchange.specs.declared.state.State.TheVariants.{FetchingForVisitor, Requesting, FetchingProof}
use Rattle.exchange.specs.Dialogue.{invoked}
use Rattle.exchange.specs.Genuine.{verdict_in}
use Rattle.exchange.specs.Invokes.{asking}
use Rattle.exchange.specs.Runs.{Call, KeySized, is_invoke, invokes, answers}
use Rattle.exchange.specs.Server.{proof_answer, by_place, forwarded, served, visited, requested}
use Rattle.exchange.specs.State.{asked_by, owed_by, is_asked_of}
use Rattle.exchange.proofs.Edge.{Sendable, says, TellsOnly}
use Rattle.exchange.proofs.Invariant.{Inv, UserRight}
use Rattle.exchange.proofs.Sizes.{values_sized, proof_sized}
use Rattle.exchange.proofs.Steps.{numbered_id}

-- the invoke of a peer under an id, whose answer is owed
abbrev pub owing_to : ℕ → ℕ → Owed
owing_to peer id = record { peer = peer; id = record { 0 = id } }

-- a dialogue that opens for an invoke owes its answer, and awaits the answer to what is sent
pub record OpensWell (s : Service) (peer id : ℕ) (state : State) (o : Outcome) : Type 0 where
  pub owed : owed_by state ≡ Some (owing_to peer id)
  pub said : (p i : ℕ) → says (invokes i) p o ≡ is_asked_of p i (asked_by state)
  pub quiet : (p i : ℕ) → says (answers i) p o ≡ false
  pub asked : (p i : ℕ) → is_asked_of p i (asked_by state) ≡ true → i ≡ s.next.0
  pub user : UserRight state
  pub verdicts : (c : Call) → TellsOnly c o
  pub sendable : Sendable o

-- an answer is no invoke and tells no verdict
pub record AnswersWell (b : Body) : Type 0 where
  pub is : is_invoke b ≡ false
  pub no_verdict : verdict_in b ≡ None
  pub holds : IsBody b

abbrev pub Well : Service → ℕ → ℕ → Handling → Type 0
Well s peer id (Answer b) = AnswersWell b
Well s peer id (Opens state o) = OpensWell s peer id state o

pub error_well : (e : ErrorCode) → AnswersWell (body.ReturnError e)
error_well e = record { is = refl; no_verdict = refl; holds = tt }

pub reject_well : (problem : ℕ) → AnswersWell (body.Reject problem)
reject_well problem = record { is = refl; no_verdict = refl; holds = tt }

module _ (s : Service) (inv : Inv s) (peer id : ℕ) where
  place_well : (place : KeyPlace) (here at_server : Handling) → Well s peer id here → Well s peer id at_server → Well s peer id (by_place place here at_server)
  place_well NoParameters here at_server h v = error_well ParamNotAvailable
  place_well Here here at_server h v = h
  place_well Server here at_server h v = v

  served_well : (subscriber : Option Subscriber) (here : List ℕ → Body) (at_server : Handling) → IfAny KeySized subscriber →
      ((key : List ℕ) → OfSize user_key_size key → AnswersWell (here key)) → Well s peer id at_server → Well s peer id (served subscriber here at_server)
  served_well None here at_server k h v = error_well InvalidServedUserNr
  served_well (Some x) here at_server k h v = place_well x.key_place _ at_server (h x.user_key k) v

  -- an invoke of ours under the next number
  opens_well : (to : ℕ) (state : State) (i : Invoke) → owed_by state ≡ Some (owing_to peer id) → asked_by state ≡ Some (asking s.next to) → UserRight state → IsInvoke i →
      OpensWell s peer id state (invoked (asking s.next to) i)
  opens_well to state i owed awaits user is =
      let asked : (p j : ℕ) → is_asked_of p j (asked_by state) ≡ (eqb s.next.0 j && eqb to p) = λ p j. ap (is_asked_of p j) awaits in
      record {
        owed = owed;
        said = λ p j. sym (asked p j);
        quiet = λ p j. refl;
        asked = λ p j e. sym (numbered_id s.next.0 p j to (sym (asked p j) ∙ e)).0;
        user = user;
        verdicts = λ c v e. absurd (none-some v e);
        sendable = (inv.next, is);
      }

  visited_well : (user : ℕ) (unit : Option AuthUnit) → is_user user ≡ true → Well s peer id (visited s.fit s.next (owing_to peer id) user unit)
  visited_well user (Some unit) h = record { owed = refl; said = λ p i. refl; quiet = λ p i. refl; asked = λ p i e. absurd (false≢true e); user = tt; verdicts = λ c. tt; sendable = tt }
  visited_well user None h = opens_well s.fit.home (Requesting (asking s.next s.fit.home) (Some (owing_to peer id)) s.fit.can_compute) _ refl refl tt (h, tt)

  forwarded_well : (provider : Provider) (state : State) (user : ℕ) (request : Request) → owed_by state ≡ Some (owing_to peer id) → asked_by state ≡ Some (asking s.next s.fit.server) → UserRight state → IsInvoke (record { user = user; request = request }) →
      Well s peer id (forwarded s.fit s.next (owing_to peer id) provider state user request)
  forwarded_well providers.Home state user request owed awaits right is = opens_well s.fit.server state (record { user = user; request = request }) owed awaits right is
  forwarded_well providers.Server state user request owed awaits right is = error_well ParamNotAvailable

  module _ (m : Meaning) (sized : IsSized m) (drawn : List ℕ) (whole : OfSize draw_size drawn) where
    proof_well : (provider : Provider) (a : WtanParamArg) (key : List ℕ) → OfSize user_key_size key → AnswersWell (proof_answer m drawn key provider a)
    proof_well provider a key keyed =
        cond_both (eqb a.algorithm m.number) _ _ AnswersWell
        (λ _. record { is = refl; no_verdict = refl; holds = proof_sized drawn whole m sized key keyed a })
        (λ _. error_well ParamNotAvailable)

    pub requested_well : (user : ℕ) (request : Request) (subscriber : Option Subscriber) → IfAny KeySized subscriber → is_user user ≡ true → IsRequest request →
        Well s peer id (requested s.fit s.next (owing_to peer id) m drawn user request subscriber)
    requested_well user (AuthWtmUser unit) subscriber k h is = visited_well user unit h
    requested_well user (WtatParam provider a) subscriber k h is =
        served_well subscriber _ _ k (λ key keyed. record { is = refl; no_verdict = refl; holds = values_sized drawn whole m sized key keyed a is })
        (forwarded_well provider (FetchingForVisitor (asking s.next s.fit.server) (owing_to peer id) a.computes) user (WtatParam providers.Server a) refl refl tt (h, is))
    requested_well user (WtanParam provider a) subscriber k h is =
        served_well subscriber _ _ k (proof_well provider a)
        (forwarded_well provider (FetchingProof (asking s.next s.fit.server) (owing_to peer id) a.computes) user (WtanParam providers.Server a) refl refl tt (h, is))
