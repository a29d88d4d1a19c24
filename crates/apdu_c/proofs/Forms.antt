-- Every form is lawful: what fields give says what they say, is given wherever it is said, and is said by its struct. Assumes
-- nothing.
use Rattle.std.proofs.Common.{◌≡◌, ℕ, ◌+◌, Bool, true, false, cond, List, Some, None, Option, sym, refl, ap, ◌∙◌, subst}
use Rattle.std.proofs.lemmas.Option.{none-some, same_Some}
use Rattle.std.specs.Bool.{then_some}
use Rattle.wire.specs.Codes.{verdict_number, verdict_of, verdicts, error_number, error_of, error_codes}
use Rattle.wire.specs.declared.codes.ErrorCode.{ErrorCode}
use Rattle.wire.specs.declared.codes.ErrorCode.TheVariants.{InvalidServedUserNr, ParamNotAvailable, TemporarilyUnavailable, NotAuthorized, Unspecified}
use Rattle.wire.specs.declared.codes.Verdict.{Verdict}
use Rattle.wire.specs.declared.codes.Verdict.TheVariants.{Correct, Incorrect}
use Rattle.wire.specs.Tags as tag
use Rattle.wire.proofs.ValueLemmas.{coded_back}
use Rattle.values.specs.declared.proof.AuthUnit.{AuthUnit}
use Rattle.apdu.specs.declared.apdus.WtanParamArg.{WtanParamArg}
use Rattle.apdu.specs.declared.apdus.WtanParamRes.{WtanParamRes}
use Rattle.apdu.specs.declared.apdus.WtanParamRes.TheVariants as wtan
use Rattle.apdu.specs.declared.apdus.WtatInfo.{WtatInfo}
use Rattle.apdu.specs.declared.apdus.WtatInfo.TheVariants as wtat
use Rattle.apdu.specs.declared.apdus.WtatParamRes.{WtatParamRes}
use Rattle.apdu_c.specs.declared.fields.Fields.{Fields}
use Rattle.apdu_c.specs.Flat.{filled}
use Rattle.apdu_c.specs.Forms.{Form, has, given_unit, given_session, given_auth_wtm_arg, given_wtat_param_arg, given_wtan_param_arg, given_wtat_info, given_wtat_param_res, given_wtan_param_res, auth_wtm_arg, wtat_param_arg, wtan_param_arg, auth_wtm_res, wtat_param_res, wtan_param_res, return_error, reject}
use Rattle.apdu_c.specs.Laws.{parts_in}
use Rattle.apdu_c.specs.Parts.{Parts, bit, bits_after_user, no_parts}

-- parts with a user, if there is one
abbrev pub with_user : Bool → ℕ → Parts → Parts
with_user there user p = record p { user = then_some there user }

-- the bits of f are those of the parts, and of a user, if there is one
abbrev pub Fits : Bool → Fields → Parts → Type 0
Fits there f p = f.present ≡ bit tag.user there + bits_after_user p

-- the parts, with the user, if there is one, are the values of f whose bits are set
abbrev pub Said : Bool → Fields → Parts → Type 0
Said there f p = with_user there f.user p ≡ parts_in f.present f

pub record Lawful {B : Type 0} (there : Bool) (m : Form B) : Type 0 where
  pub kept : (f : Fields) (x : B) → m.given f ≡ Some x → Fits there f (m.parts x) → Said there f (m.parts x)
  pub made : (f : Fields) (x : B) → Said there f (m.parts x) → m.given f ≡ Some x
  pub back : (id k o user : ℕ) (x : B) → Said there (filled id k o (with_user there user (m.parts x))) (m.parts x)

-- a value that is there if a test holds

pub when_back : {A : Type 0} (b : Bool) (x y : A) → then_some b x ≡ Some y → (b ≡ true) × (x ≡ y)
when_back true x y e = (refl, same_Some x y e)
when_back false x y e = absurd (none-some y e)

unless_back : {A : Type 0} (b : Bool) (x : A) → then_some b x ≡ None → b ≡ false
unless_back true x e = absurd (none-some x (sym e))
unless_back false x e = refl

-- what fields give says what they say

module _ (f : Fields) where
  -- what x says is what f says, if f has the bits of x
  abbrev Same : {B : Type 0} → Bool → Form B → B → Type 0
  Same there m x = Fits there f (m.parts x) → Said there f (m.parts x)

  same : {B : Type 0} (there : Bool) (m : Form B) (x : B) → with_user there f.user (m.parts x) ≡ parts_in (bit tag.user there + bits_after_user (m.parts x)) f → Same there m x
  same there m x r e = r ∙ ap (λ n. parts_in n f) (sym e)

  -- of a form that always gives a value
  given_kept : {B : Type 0} (there : Bool) (m : Form B) (g x : B) → Some g ≡ Some x → Same there m g → Same there m x
  given_kept there m g x e s = subst (Same there m) (same_Some g x e) s

  auth_wtm_arg_same : (unit : Bool) → Same true auth_wtm_arg (then_some unit (given_unit f))
  auth_wtm_arg_same true = same true auth_wtm_arg (Some (given_unit f)) refl
  auth_wtm_arg_same false = same true auth_wtm_arg None refl

  wtat_param_arg_same : (computes challenge : Bool) → Same true wtat_param_arg (record { computes = computes; challenge = then_some challenge f.challenge })
  wtat_param_arg_same true true = same true wtat_param_arg (record { computes = true; challenge = Some f.challenge }) refl
  wtat_param_arg_same true false = same true wtat_param_arg (record { computes = true; challenge = None }) refl
  wtat_param_arg_same false true = same true wtat_param_arg (record { computes = false; challenge = Some f.challenge }) refl
  wtat_param_arg_same false false = same true wtat_param_arg (record { computes = false; challenge = None }) refl

  wtan_param_arg_same : (computes : Bool) → Same true wtan_param_arg (record { computes = computes; challenge = f.challenge; algorithm = f.algorithm })
  wtan_param_arg_same true = same true wtan_param_arg (record { computes = true; challenge = f.challenge; algorithm = f.algorithm }) refl
  wtan_param_arg_same false = same true wtan_param_arg (record { computes = false; challenge = f.challenge; algorithm = f.algorithm }) refl

  auth_wtm_res_same : (v : Verdict) → auth_wtm_res.given f ≡ Some v → Same false auth_wtm_res v
  auth_wtm_res_same v e = same false auth_wtm_res v (ap (λ n. record no_parts { verdict = Some n }) (coded_back verdict_number verdicts f.verdict v e))

  wtat_param_res_same : (unit : Bool) → Same false wtat_param_res (record { algorithm = f.algorithm; info = cond unit (wtat.Unit (given_unit f)) (wtat.Session (given_session f)) })
  wtat_param_res_same true = same false wtat_param_res (record { algorithm = f.algorithm; info = wtat.Unit (given_unit f) }) refl
  wtat_param_res_same false = same false wtat_param_res (record { algorithm = f.algorithm; info = wtat.Session (given_session f) }) refl

  wtan_param_res_same : (session : Bool) → Same false wtan_param_res (cond session (wtan.Session (given_session f)) (wtan.Response f.response))
  wtan_param_res_same true = same false wtan_param_res (wtan.Session (given_session f)) refl
  wtan_param_res_same false = same false wtan_param_res (wtan.Response f.response) refl

  return_error_same : (c : ErrorCode) → return_error.given f ≡ Some c → Same false return_error c
  return_error_same c e = same false return_error c (ap (λ n. record no_parts { error = Some n }) (coded_back error_number error_codes f.error c e))

-- what is said is given

module _ (f : Fields) where
  wtan_param_arg_made : (x : WtanParamArg) → Said true f (wtan_param_arg.parts x) → wtan_param_arg.given f ≡ Some x
  wtan_param_arg_made x e =
      let challenge = when_back (has tag.challenge f) f.challenge x.challenge (ap (λ p. p.challenge) (sym e)) in
      let algorithm = when_back (has tag.algorithm f) f.algorithm x.algorithm (ap (λ p. p.algorithm) (sym e)) in
      λ i. Some (record { computes = (sym e i).computes; challenge = challenge.1 i; algorithm = algorithm.1 i })

  verdict_there : (v : Verdict) → verdict_of (verdict_number v) ≡ Some v
  verdict_there Correct = refl
  verdict_there Incorrect = refl

  auth_wtm_res_made : (v : Verdict) → Said false f (auth_wtm_res.parts v) → auth_wtm_res.given f ≡ Some v
  auth_wtm_res_made v e =
      let number = when_back (has tag.verdict f) f.verdict (verdict_number v) (ap (λ p. p.verdict) (sym e)) in
      ap verdict_of number.1 ∙ verdict_there v

  wtat_info_made : (algorithm : ℕ) (info : WtatInfo) → Said false f (wtat_param_res.parts (record { algorithm = algorithm; info = info })) → given_wtat_info f ≡ info
  wtat_info_made algorithm (wtat.Unit u) e =
      let unit = when_back (has tag.unit f) (given_unit f) u (ap (λ p. p.unit) (sym e)) in
      λ i. cond (unit.0 i) (wtat.Unit (unit.1 i)) (wtat.Session (given_session f))
  wtat_info_made algorithm (wtat.Session s) e =
      let unit = unless_back (has tag.unit f) (given_unit f) (ap (λ p. p.unit) (sym e)) in
      let session = when_back (has tag.session f) (given_session f) s (ap (λ p. p.session) (sym e)) in
      λ i. cond (unit i) (wtat.Unit (given_unit f)) (wtat.Session (session.1 i))

  wtat_param_res_made : (x : WtatParamRes) → Said false f (wtat_param_res.parts x) → wtat_param_res.given f ≡ Some x
  wtat_param_res_made x e =
      let algorithm = when_back (has tag.algorithm f) f.algorithm x.algorithm (ap (λ p. p.algorithm) (sym e)) in
      let info = wtat_info_made x.algorithm x.info e in
      λ i. Some (record { algorithm = algorithm.1 i; info = info i })

  wtan_param_res_made : (x : WtanParamRes) → Said false f (wtan_param_res.parts x) → wtan_param_res.given f ≡ Some x
  wtan_param_res_made (wtan.Session s) e =
      let session = when_back (has tag.session f) (given_session f) s (ap (λ p. p.session) (sym e)) in
      λ i. Some (cond (session.0 i) (wtan.Session (session.1 i)) (wtan.Response f.response))
  wtan_param_res_made (wtan.Response r) e =
      let session = unless_back (has tag.session f) (given_session f) (ap (λ p. p.session) (sym e)) in
      let response = when_back (has tag.response f) f.response r (ap (λ p. p.response) (sym e)) in
      λ i. Some (cond (session i) (wtan.Session (given_session f)) (wtan.Response (response.1 i)))

  error_there : (c : ErrorCode) → error_of (error_number c) ≡ Some c
  error_there InvalidServedUserNr = refl
  error_there ParamNotAvailable = refl
  error_there TemporarilyUnavailable = refl
  error_there NotAuthorized = refl
  error_there Unspecified = refl

  return_error_made : (c : ErrorCode) → Said false f (return_error.parts c) → return_error.given f ≡ Some c
  return_error_made c e =
      let number = when_back (has tag.error f) f.error (error_number c) (ap (λ p. p.error) (sym e)) in
      ap error_of number.1 ∙ error_there c

  reject_made : (n : ℕ) → Said false f (reject.parts n) → reject.given f ≡ Some n
  reject_made n e = ap Some (when_back (has tag.problem f) f.problem n (ap (λ p. p.problem) (sym e))).1

-- a value is said by its struct

module _ (id k o user : ℕ) where
  abbrev Back : {B : Type 0} → Bool → Form B → B → Type 0
  Back there m x = Said there (filled id k o (with_user there user (m.parts x))) (m.parts x)

  auth_wtm_arg_back : (unit : Option AuthUnit) → Back true auth_wtm_arg unit
  auth_wtm_arg_back None = refl
  auth_wtm_arg_back (Some u) = refl

  wtat_param_arg_back : (computes : Bool) (challenge : Option (List ℕ)) → Back true wtat_param_arg (record { computes = computes; challenge = challenge })
  wtat_param_arg_back true None = refl
  wtat_param_arg_back true (Some c) = refl
  wtat_param_arg_back false None = refl
  wtat_param_arg_back false (Some c) = refl

  wtan_param_arg_back : (computes : Bool) (challenge : List ℕ) (algorithm : ℕ) → Back true wtan_param_arg (record { computes = computes; challenge = challenge; algorithm = algorithm })
  wtan_param_arg_back true challenge algorithm = refl
  wtan_param_arg_back false challenge algorithm = refl

  wtat_param_res_back : (algorithm : ℕ) (info : WtatInfo) → Back false wtat_param_res (record { algorithm = algorithm; info = info })
  wtat_param_res_back algorithm (wtat.Unit u) = refl
  wtat_param_res_back algorithm (wtat.Session s) = refl

  wtan_param_res_back : (r : WtanParamRes) → Back false wtan_param_res r
  wtan_param_res_back (wtan.Session s) = refl
  wtan_param_res_back (wtan.Response x) = refl

pub auth_wtm_arg_lawful : Lawful true auth_wtm_arg
auth_wtm_arg_lawful =
    record {
      kept = λ f x e. given_kept f true auth_wtm_arg (given_auth_wtm_arg f) x e (auth_wtm_arg_same f (has tag.unit f));
      made = λ f x e. ap (λ p. Some p.unit) (sym e);
      back = λ id k o user x. auth_wtm_arg_back id k o user x;
    }

pub wtat_param_arg_lawful : Lawful true wtat_param_arg
wtat_param_arg_lawful =
    record {
      kept = λ f x e. given_kept f true wtat_param_arg (given_wtat_param_arg f) x e (wtat_param_arg_same f (has tag.can_compute f) (has tag.challenge f));
      made = λ f x e. λ i. Some (record { computes = (sym e i).computes; challenge = (sym e i).challenge });
      back = λ id k o user x. wtat_param_arg_back id k o user x.computes x.challenge;
    }

pub wtan_param_arg_lawful : Lawful true wtan_param_arg
wtan_param_arg_lawful =
    record {
      kept = λ f x e. given_kept f true wtan_param_arg (given_wtan_param_arg f) x e (wtan_param_arg_same f (has tag.can_compute f));
      made = λ f x e. wtan_param_arg_made f x e;
      back = λ id k o user x. wtan_param_arg_back id k o user x.computes x.challenge x.algorithm;
    }

pub auth_wtm_res_lawful : Lawful false auth_wtm_res
auth_wtm_res_lawful = record { kept = λ f x e. auth_wtm_res_same f x e; made = λ f x e. auth_wtm_res_made f x e; back = λ id k o user x. refl }

pub wtat_param_res_lawful : Lawful false wtat_param_res
wtat_param_res_lawful =
    record {
      kept = λ f x e. given_kept f false wtat_param_res (given_wtat_param_res f) x e (wtat_param_res_same f (has tag.unit f));
      made = λ f x e. wtat_param_res_made f x e;
      back = λ id k o user x. wtat_param_res_back id k o user x.algorithm x.info;
    }

pub wtan_param_res_lawful : Lawful false wtan_param_res
wtan_param_res_lawful =
    record {
      kept = λ f x e. given_kept f false wtan_param_res (given_wtan_param_res f) x e (wtan_param_res_same f (has tag.session f));
      made = λ f x e. wtan_param_res_made f x e;
      back = λ id k o user x. wtan_param_res_back id k o user x;
    }

pub return_error_lawful : Lawful false return_error
return_error_lawful = record { kept = λ f x e. return_error_same f x e; made = λ f x e. return_error_made f x e; back = λ id k o user x. refl }

pub reject_lawful : Lawful false reject
reject_lawful =
    record {
      kept = λ f x e. given_kept f false reject f.problem x e (same f false reject f.problem refl);
      made = λ f x e. reject_made f x e;
      back = λ id k o user x. refl;
    }
