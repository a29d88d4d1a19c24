-- The values that a server writes are right for the user's key and the drawn parameter. Assumes nothing.
use Rattle.std.proofs.Common.{◌≡◌, ℕ, ◌≤◌, Bool, true, false, cond, eqb, length, drop, List, [], ◌∷◌, ◌++◌, Some, Ok, Err, Option, Result, sym, refl, ap, ◌∙◌, subst, ⊎_elim}
use Rattle.std.specs.List.{AllByRecursion, list_any}
use Rattle.std.proofs.lemmas.Bool.{cond_both, cond-true, cond-false, eq-eqb, ne_eqb}
use Rattle.std.proofs.lemmas.Option.{none-some, same_Some}
use Rattle.std.proofs.Math.Seq.{drop-append_seam}
use Rattle.refusal.specs.declared.Refusal.TheVariants.{Twice, Misfitted}
use Rattle.wire.specs.declared.codes.ErrorCode.{ErrorCode}
use Rattle.wire.specs.declared.codes.ErrorCode.TheVariants.{ParamNotAvailable, TemporarilyUnavailable}
use Rattle.wire.specs.declared.codes.Provider.{Provider}
use Rattle.wire.specs.declared.codes.Provider.TheVariants as providers
use Rattle.wire.specs.Fields.{Bytes}
use Rattle.wire.specs.FieldValues.{OfSize}
use Rattle.values.specs.Draw.{drawn_parameter}
use Rattle.values.specs.Sizes.{user_key_size, draw_size}
use Rattle.values.specs.User.{is_user}
use Rattle.values.specs.declared.user.User as users
use Rattle.apdu.specs.declared.apdus.WtatInfo.{WtatInfo}
use Rattle.apdu.specs.declared.apdus.WtatInfo.TheVariants as info
use Rattle.apdu.specs.declared.apdus.WtatParamArg.{WtatParamArg}
use Rattle.apdu.specs.declared.apdus.Invoke.{Invoke}
use Rattle.apdu.specs.declared.apdus.Request.{Request}
use Rattle.apdu.specs.declared.apdus.Request.TheVariants.{WtatParam}
use Rattle.apdu.specs.declared.apdus.Apdu.{Apdu}
use Rattle.apdu.specs.declared.apdus.Body.{Body}
use Rattle.apdu.specs.declared.apdus.Body.TheVariants as body
use Rattle.apdu.specs.NoApdu.{NoApdu}
use Rattle.apdu.specs.Decode.{received_as}
use Rattle.apdu.specs.Laws.{IsWtatParamArg, IsRequest, IsInvoke, IsBody, IsApdu}
use Rattle.apdu.proofs.ReadWritesBack.{read_writes_back}
use Rattle.algorithm.specs.declared.direction.Direction.TheVariants.{User}
use Rattle.algorithm.specs.Meaning.{Meaning, IsSized, answered}
use Rattle.entries.specs.declared.link.Link.{Link}
use Rattle.entries.specs.declared.subscriber.KeyPlace.{KeyPlace}
use Rattle.entries.specs.declared.subscriber.KeyPlace.TheVariants as place
use Rattle.entries.specs.declared.subscriber.Subscriber.{Subscriber}
use Rattle.exchange.specs.declared.fit_out.FitOut.{FitOut}
use Rattle.exchange.specs.declared.invokes.Owed.{Owed}
use Rattle.exchange.specs.declared.handling.Handling.{Handling}
use Rattle.exchange.specs.declared.handling.Handling.TheVariants.{Answer}
use Rattle.exchange.specs.declared.outcome.Outcome.{Outcome}
use Rattle.exchange.specs.declared.service.Service.{Service}
use Rattle.exchange.specs.declared.state.State.{State}
use Rattle.exchange.specs.declared.state.State.TheVariants.{FetchingForVisitor}
use Rattle.exchange.specs.Deliver.{carried_out, taken, draw_check, came, received, delivered}
use Rattle.exchange.specs.EnterService.{fresh, entered}
use Rattle.exchange.specs.FitOut.{fitted}
use Rattle.exchange.specs.Genuine.{said, user_of_request, user_asked, values_written, said_by, IsFirst, Wrote}
use Rattle.exchange.specs.Invokes.{asking}
use Rattle.exchange.specs.Outcome.{Decision, at_edge, buffer_check}
use Rattle.exchange.specs.Runs.{Delivery, Given, KeySized, called, at_end}
use Rattle.exchange.specs.Server.{challenge_or, session_made, unit_made, values_answer, by_place, opens, forwarded, requested, subscriber_for}
use Rattle.exchange.specs.Service.{ready, room}
use Rattle.exchange.specs.Table.{owes}
use Rattle.exchange.proofs.Balanced.{start, run}
use Rattle.exchange.proofs.Checks.{checked_ways, by_ways, if_ok, draw_ok, find_has}
use Rattle.exchange.proofs.Edge.{Sendable, says_in, said_edge}
use Rattle.exchange.proofs.Invariant.{Inv}
use Rattle.exchange.proofs.Shown.{Fits}
use Rattle.exchange.proofs.Sizes.{values_sized}

pub all_parts : {A : Type 0} (P : A → Type 0) (xs ys : List A) → AllByRecursion P (xs ++ ys) → AllByRecursion P xs × AllByRecursion P ys
all_parts P [] ys h = (tt, h)
all_parts P (x ∷ xs) ys h = let p = all_parts P xs ys h.1 in ((h.0, p.0), p.1)

-- a challenge and the response expected to it, where they go with the values, are as the user's key and the parameter make them
abbrev pub Right : Meaning → List ℕ → List ℕ → WtatInfo → Type 0
Right m key parameter values = (c e : List ℕ) → Fits m values c e → e ≡ answered m User key parameter c

made_right : (m : Meaning) (draw key : List ℕ) (a : WtatParamArg) (b : Bool) → Right m key (drawn_parameter draw) (cond b (info.Session (session_made m draw key User)) (info.Unit (unit_made m draw key (challenge_or a.challenge draw))))
made_right m draw key a true c e f = sym f
made_right m draw key a false c e f = sym f.1 ∙ ap (m.response (m.session User key (drawn_parameter draw))) f.0

-- who is asked for is the user of the invoke
user_is : (u user : users.User) (r : Request) → user_of_request u r ≡ Some user → u ≡ user
user_is u user (WtatParam provider a) h = same_Some u user h
user_is u user r h = absurd (none-some user h)

module _ (m : Meaning) (sized : IsSized m) (subscriber : Subscriber) (keyed : OfSize user_key_size subscriber.user_key) (values : WtatInfo) where
  -- what is sent reads back, and where it is a result with the values, they are right
  abbrev Writes : List ℕ → Decision → Type 0
  Writes parameter (Ok (o, t)) = Sendable o × (says_in values_written o ≡ Some values → Right m subscriber.user_key parameter values)
  Writes parameter (Err n) = Unit {0}

  edge_writes : (s : Service) (parameter out : List ℕ) (decision : Decision) → Writes parameter decision → said_by values_written (at_edge s out decision) ≡ Some values → Right m subscriber.user_key parameter values
  edge_writes s parameter out (Ok (o, t)) h is = h.1 (sym (said_edge values_written o out h.0) ∙ is)
  edge_writes s parameter out (Err n) h is = absurd (none-some values is)

  module _ (s : Service) (inv : Inv s) (reading peer id : ℕ) (named : 1 ≤ id) (draw : List ℕ) (whole : OfSize draw_size draw) where
    abbrev Carries : Handling → Type 0
    Carries h = Writes (drawn_parameter draw) (Ok (carried_out s reading peer id h))

    error_writes : (e : ErrorCode) → Carries (Answer (body.ReturnError e))
    error_writes e = ((named, tt), λ h. absurd (none-some values h))

    asks_writes : (to : ℕ) (state : State) (i : Invoke) → IsInvoke i → Carries (opens (asking s.next to) state i)
    asks_writes to state i is =
        by_ways (λ (p : Outcome × Service). Writes (drawn_parameter draw) (Ok p)) (room s) _ _
        (λ place w. ((inv.next, is), λ h. absurd (none-some values h))) (λ n. error_writes TemporarilyUnavailable)

    values_writes : (provider : Provider) (a : WtatParamArg) → IsWtatParamArg a → Carries (Answer (values_answer m draw subscriber.user_key provider a))
    values_writes provider a is = (
      (named, values_sized draw whole m sized subscriber.user_key keyed a is),
      λ h. subst (Right m subscriber.user_key (drawn_parameter draw)) (same_Some _ values h) (made_right m draw subscriber.user_key a a.computes),
    )

    forwarded_writes : (owed : Owed) (provider : Provider) (state : State) (i : Invoke) → IsInvoke i → Carries (forwarded s.fit s.next owed provider state i.user i.request)
    forwarded_writes owed providers.Home state i is = asks_writes s.fit.server state i is
    forwarded_writes owed providers.Server state i is = error_writes ParamNotAvailable

    placed_writes : (p : KeyPlace) (here at_server : Handling) → Carries here → Carries at_server → Carries (by_place p here at_server)
    placed_writes place.NoParameters here at_server f g = error_writes ParamNotAvailable
    placed_writes place.Here here at_server f g = f
    placed_writes place.Server here at_server f g = g

    requested_writes : (owed : Owed) (u user : users.User) (r : Request) → is_user u ≡ true → IsRequest r → user_of_request u r ≡ Some user → Carries (requested s.fit s.next owed m draw u r (Some subscriber))
    requested_writes owed u user (WtatParam provider a) lawful is h =
        placed_writes subscriber.key_place _ _ (values_writes provider a is)
        (forwarded_writes owed provider (FetchingForVisitor (asking s.next s.fit.server) owed a.computes) (record { user = u; request = WtatParam providers.Server a }) (lawful, is))
    requested_writes owed u user r lawful is h = absurd (none-some user h)

    came_writes : (subscribers : List Subscriber) (b : Body) (user : users.User) → IsBody b → user_asked b ≡ Some user → subscriber_for subscribers user ≡ Some subscriber →
        Writes (drawn_parameter draw) (came m s reading peer draw subscribers id b)
    came_writes subscribers (body.Invoke i) user is h first =
        let owed : Owed = record { peer = peer; id = record { 0 = id } } in
        let found : subscriber_for subscribers i.user ≡ Some subscriber = ap (subscriber_for subscribers) (user_is i.user user i.request h) ∙ first in
        subst (λ (o : Option Subscriber). Writes (drawn_parameter draw) (taken s reading peer id (requested s.fit s.next owed m draw i.user i.request o))) (sym found)
        (cond_both (list_any (owes peer id) s.dialogues) (Err Twice) (Ok (carried_out s reading peer id (requested s.fit s.next owed m draw i.user i.request (Some subscriber)))) (Writes (drawn_parameter draw))
        (λ t. tt) (λ t. requested_writes owed i.user user i.request is.0 is.1 h))
    came_writes subscribers b user is h first = absurd (none-some user h)

  module _ (s : Service) (inv : Inv s) (reading peer : ℕ) (subscribers : List Subscriber) (user : users.User) (first : subscriber_for subscribers user ≡ Some subscriber) where
    received_writes : (draw : List ℕ) → OfSize draw_size draw → (r : Result Apdu NoApdu) → said user_asked r ≡ Some user → ((a : Apdu) → r ≡ Ok a → IsApdu a) → Writes (drawn_parameter draw) (received m s reading peer draw subscribers r)
    received_writes draw whole (Ok a) h f = let is = f a refl in came_writes s inv reading peer a.id is.0 draw whole subscribers a.body user is.1 h first
    received_writes draw whole (Err e) h f = absurd (none-some user h)

    delivered_writes : (draw bytes : List ℕ) (links : List Link) → Bytes bytes → said user_asked (received_as bytes) ≡ Some user → Writes (drawn_parameter draw) (delivered m s reading peer draw bytes links subscribers)
    delivered_writes draw bytes links b h =
        checked_ways (Writes (drawn_parameter draw)) (ready s reading) _ (λ n. tt)
        (λ _ _. checked_ways (Writes (drawn_parameter draw)) (draw_check links peer draw) (λ drawn. received m s reading peer drawn subscribers (received_as bytes)) (λ n. tt)
        (λ drawn is.
        let p = draw_ok links peer draw drawn is in
        subst (λ (d : List ℕ). Writes (drawn_parameter draw) (received m s reading peer d subscribers (received_as bytes))) (sym p.0)
        (received_writes draw (sym (ap length p.0) ∙ p.1) (received_as bytes) h (λ a e. (read_writes_back bytes a b e).1.0))))

    sent_right : (draw bytes out : List ℕ) (links : List Link) → Bytes bytes → said user_asked (received_as bytes) ≡ Some user → said_by values_written (called m s (Delivery reading peer draw bytes links subscribers out)) ≡ Some values →
        Right m subscriber.user_key (drawn_parameter draw) values
    sent_right draw bytes out links b h is =
        edge_writes s (drawn_parameter draw) out _
        (checked_ways (Writes (drawn_parameter draw)) (buffer_check (length out)) (λ _. delivered m s reading peer draw bytes links subscribers) (λ n. tt) (λ _ _. delivered_writes draw bytes links b h)) is

-- the first subscriber of a user is the one that is found
found_first : (user : users.User) (subscriber : Subscriber) (xs : List Subscriber) → IsFirst user subscriber xs → subscriber_for xs user ≡ Some subscriber
found_first user subscriber [] h = absurd h
found_first user subscriber (one ∷ others) h =
    ⊎_elim
    (λ p. cond-true (eqb one.user user) (Some one) (subscriber_for others user) (eq-eqb one.user user p.0) ∙ ap Some p.1)
    (λ p. cond-false (eqb one.user user) (Some one) (subscriber_for others user) (ne_eqb one.user user p.0) ∙ found_first user subscriber others p.1) h

entered_inv : (f : FitOut) (s : Service) → entered f ≡ Ok s → Inv s
entered_inv f s e = let p = if_ok (fitted f) (fresh f) s Misfitted e in subst Inv p.1 (start f p.0)

-- what a server wrote is right
pub wrote_right : (m : Meaning) (key parameter : List ℕ) (values : WtatInfo) → Wrote called m key parameter values → Right m key parameter values
wrote_right m key parameter values w =
    let at : Service = at_end called w.server w.earlier in
    let draw : List ℕ = w.challenge ++ parameter in
    let t = all_parts Given w.earlier ((m, Delivery w.reading w.peer draw w.bytes w.links w.subscribers w.out) ∷ []) w.given in
    let inv : Inv at = (run w.earlier w.server (entered_inv w.fit w.server w.enters) t.0).inv in
    let first = found_first w.user w.subscriber w.subscribers w.first in
    let long : OfSize user_key_size w.subscriber.user_key = find_has KeySized _ w.subscribers w.subscriber first t.1.0.1.1 in
    let r = sent_right m t.1.0.0 w.subscriber long values at inv w.reading w.peer w.subscribers w.user first draw w.bytes w.out w.links t.1.0.1.0 w.asked w.wrote in
    let seam : drop (length w.challenge) draw ≡ parameter = drop-append_seam w.challenge parameter in
    let half : drawn_parameter draw ≡ parameter = ap (λ (n : ℕ). drop n draw) (sym w.half) ∙ seam in
    subst (λ (p : List ℕ). Right m key p values) half (subst (λ (x : List ℕ). Right m x (drawn_parameter draw) values) w.keyed r)
