-- Every shape of the grammar makes the round trip. Assumes nothing.
use Rattle.std.proofs.Common.{◌≡◌, ℕ, ◌<◌, Bool, true, false, List, [], ◌∷◌, length, Some, None, Option, sym, refl, ap, ◌∙◌, subst, ⊎_elim, arith}
use Rattle.std.proofs.lemmas.Option.{same_Some}
use Rattle.std.specs.Option.{option_map}
use Rattle.std.proofs.lemmas.List.{length-append}
use Rattle.wire.specs.declared.codes.Verdict.{Verdict}
use Rattle.wire.specs.declared.codes.Verdict.TheVariants.{Correct, Incorrect}
use Rattle.wire.specs.declared.codes.ErrorCode.{ErrorCode}
use Rattle.wire.specs.declared.codes.ErrorCode.TheVariants.{InvalidServedUserNr, ParamNotAvailable, TemporarilyUnavailable, NotAuthorized, Unspecified}
use Rattle.wire.specs.Codes.{verdict_of, verdict_number, verdicts, error_of, error_number, error_codes}
use Rattle.wire.specs.Fields.{value, after, flagged}
use Rattle.wire.specs.Tags as tag
use Rattle.wire.specs.FieldValues.{IfAny, bind, one, exact, must, may, flag}
use Rattle.wire.proofs.Options.{bind_back, mapped_back}
use Rattle.wire.proofs.ValueLemmas.{coded_back, one_back, exact_there, exact_back, must_back, may_there, may_back, flag_there, flag_back, either_back}
use Rattle.values.specs.declared.proof.AuthUnit.{AuthUnit}
use Rattle.values.specs.declared.proof.AuthSession.{AuthSession}
use Rattle.values.specs.Challenge.{IsChallenge, challenge_of}
use Rattle.values.specs.Proof.{unit_value, session_value, unit_of, session_of, UnitSized, SessionSized}
use Rattle.values.specs.Sizes.{challenge_size, response_size}
use Rattle.values.proofs.Formats.{unit_there, unit_back, session_there, session_back}
use Rattle.apdu.specs.declared.apdus.WtatParamArg.{WtatParamArg}
use Rattle.apdu.specs.declared.apdus.WtanParamArg.{WtanParamArg}
use Rattle.apdu.specs.declared.apdus.WtatInfo.{WtatInfo}
use Rattle.apdu.specs.declared.apdus.WtatInfo.TheVariants as wtat
use Rattle.apdu.specs.declared.apdus.WtatParamRes.{WtatParamRes}
use Rattle.apdu.specs.declared.apdus.WtanParamRes.{WtanParamRes}
use Rattle.apdu.specs.declared.apdus.WtanParamRes.TheVariants as wtan
use Rattle.apdu.specs.Grammar.{code_shape, auth_wtm_arg, wtat_param_arg, wtan_param_arg, auth_wtm_res, wtat_info, wtat_info_values, wtat_param_res, wtan_param_values, wtan_param_res, return_error, reject}
use Rattle.apdu.specs.Laws.{Always, IsWtatParamArg, IsWtanParamArg, IsWtatInfo, IsWtatParamRes, IsWtanParamRes}
use Rattle.apdu.proofs.Rows.{Short, Fills}
use Rattle.apdu.proofs.Shapes.{RoundTrip}

-- sizes that two bytes can tell

unit_short : (u : AuthUnit) → UnitSized u → length (unit_value u) < 65536
unit_short u z = simp length-append (omega arith)

session_short : (s : AuthSession) → SessionSized s → length (session_value s) < 65536
session_short s z = simp length-append (omega arith)

unit_if_short : (o : Option AuthUnit) → IfAny UnitSized o → Short (option_map unit_value o)
unit_if_short None z = tt
unit_if_short (Some u) z = unit_short u z

flag_short : (b : Bool) → Short (flagged b)
flag_short true = omega arith
flag_short false = tt

challenge_if_short : (o : Option (List ℕ)) → IfAny IsChallenge o → Short o
challenge_if_short None z = tt
challenge_if_short (Some c) z = omega arith

-- values in their fields

pub byte_in : (o : Option (List ℕ)) (n : ℕ) → must one o ≡ Some n → Some (n ∷ []) ≡ o
byte_in o n e = (must_back one (λ n. n ∷ []) Always (λ v x h. (one_back v x h, tt)) o n e).0

challenge_if_there : (o : Option (List ℕ)) → IfAny IsChallenge o → may challenge_of o ≡ Some o
challenge_if_there None z = refl
challenge_if_there (Some c) z = ap (option_map Some) (exact_there challenge_size c z)

challenge_if_back : (o y : Option (List ℕ)) → may challenge_of o ≡ Some y → (y ≡ o) × IfAny IsChallenge y
challenge_if_back None y e = let q : None ≡ y = same_Some None y e in subst (λ (z : Option (List ℕ)). (z ≡ None) × IfAny IsChallenge z) q (refl, tt)
challenge_if_back (Some v) y e =
    let p = mapped_back Some (exact challenge_size v) y e in
    let r = exact_back challenge_size v p.0 p.1.0 in
    subst (λ (z : Option (List ℕ)). (z ≡ Some v) × IfAny IsChallenge z) p.1.1 (ap Some r.0, r.1)

-- arguments

pub auth_wtm_arg_round : RoundTrip auth_wtm_arg (IfAny UnitSized)
auth_wtm_arg_round =
    record {
      rising = (tt, tt);
      fills = λ x z. (unit_if_short x z, tt);
      there = λ x z. may_there unit_of unit_value UnitSized unit_there x z;
      back = λ bs x e. let c = may_back unit_of unit_value UnitSized unit_back (value tag.unit bs) x e in (ap (λ o. o ∷ []) c.0, c.1);
    }

wtat_arg_back : (a b : Option (List ℕ)) (x : WtatParamArg) → wtat_param_arg.from_values (a ∷ b ∷ []) ≡ Some x → (wtat_param_arg.values_of x ≡ a ∷ b ∷ []) × IsWtatParamArg x
wtat_arg_back a b x e =
    let p = bind_back (flag a) _ x e in
    let q = bind_back (may challenge_of b) _ x p.1.1 in
    let is : record { computes = p.0; challenge = q.0 } ≡ x = same_Some _ x q.1.1 in
    let f = flag_back a p.0 p.1.0 in
    let c = challenge_if_back b q.0 q.1.0 in
    subst (λ (y : WtatParamArg). (wtat_param_arg.values_of y ≡ a ∷ b ∷ []) × IsWtatParamArg y) is ((λ i. f i ∷ c.0 i ∷ []), c.1)

pub wtat_param_arg_round : RoundTrip wtat_param_arg IsWtatParamArg
wtat_param_arg_round =
    record {
      rising = omega arith;
      fills = λ x z. (flag_short x.computes, (challenge_if_short x.challenge z, tt));
      there = λ x z. rw (flag_there x.computes, challenge_if_there x.challenge z);
      back = λ bs x e. wtat_arg_back (value tag.can_compute bs) (value tag.challenge (after tag.can_compute bs)) x e;
    }

wtan_arg_back : (a b c : Option (List ℕ)) (x : WtanParamArg) → wtan_param_arg.from_values (a ∷ b ∷ c ∷ []) ≡ Some x → (wtan_param_arg.values_of x ≡ a ∷ b ∷ c ∷ []) × IsWtanParamArg x
wtan_arg_back a b c x e =
    let p = bind_back (flag a) _ x e in
    let q = bind_back (must challenge_of b) _ x p.1.1 in
    let r = bind_back (must one c) _ x q.1.1 in
    let is : record { computes = p.0; challenge = q.0; algorithm = r.0 } ≡ x = same_Some _ x r.1.1 in
    let f = flag_back a p.0 p.1.0 in
    let g = must_back challenge_of (λ v. v) IsChallenge (exact_back challenge_size) b q.0 q.1.0 in
    let h = byte_in c r.0 r.1.0 in
    subst (λ (y : WtanParamArg). (wtan_param_arg.values_of y ≡ a ∷ b ∷ c ∷ []) × IsWtanParamArg y) is ((λ i. f i ∷ g.0 i ∷ h i ∷ []), g.1)

pub wtan_param_arg_round : RoundTrip wtan_param_arg IsWtanParamArg
wtan_param_arg_round =
    record {
      rising = omega arith;
      fills = λ x z. (flag_short x.computes, (omega arith, (omega arith, tt)));
      there = λ x z. rw (flag_there x.computes, exact_there challenge_size x.challenge z);
      back = λ bs x e. wtan_arg_back (value tag.can_compute bs) (value tag.challenge (after tag.can_compute bs)) (value tag.algorithm (after tag.challenge (after tag.can_compute bs))) x e;
    }

-- codes

verdict_there : (v : Verdict) → verdict_of (verdict_number v) ≡ Some v
verdict_there Correct = refl
verdict_there Incorrect = refl

error_there : (e : ErrorCode) → error_of (error_number e) ≡ Some e
error_there InvalidServedUserNr = refl
error_there ParamNotAvailable = refl
error_there TemporarilyUnavailable = refl
error_there NotAuthorized = refl
error_there Unspecified = refl

code_back : {A : Type 0} (number : A → ℕ) (of : ℕ → Option A) → ((n : ℕ) (x : A) → of n ≡ Some x → number x ≡ n) → (o : Option (List ℕ)) (x : A) → bind (must one o) of ≡ Some x → Some (number x ∷ []) ∷ [] ≡ o ∷ []
code_back number of b o x e =
    let p = bind_back (must one o) of x e in
    let q = byte_in o p.0 p.1.0 in
    (λ i. Some (b p.0 x p.1.1 i ∷ []) ∷ []) ∙ (λ i. q i ∷ [])

code_round : {A : Type 0} (t : ℕ) (number : A → ℕ) (of : ℕ → Option A) → ((x : A) → of (number x) ≡ Some x) → ((n : ℕ) (x : A) → of n ≡ Some x → number x ≡ n) → RoundTrip (code_shape t number of) Always
code_round t number of there back =
    record {
      rising = (tt, tt);
      fills = λ x z. (omega arith, tt);
      there = λ x z. there x;
      back = λ bs x e. (code_back number of back (value t bs) x e, tt);
    }

pub auth_wtm_res_round : RoundTrip auth_wtm_res Always
auth_wtm_res_round = code_round tag.verdict verdict_number verdict_of verdict_there (coded_back verdict_number verdicts)

pub return_error_round : RoundTrip return_error Always
return_error_round = code_round tag.error error_number error_of error_there (coded_back error_number error_codes)

pub reject_round : RoundTrip reject Always
reject_round =
    record {
      rising = (tt, tt);
      fills = λ x z. (omega arith, tt);
      there = λ x z. refl;
      back = λ bs x e. (ap (λ o. o ∷ []) (byte_in (value tag.problem bs) x e), tt);
    }

-- results

info_there : (n : ℕ) (i : WtatInfo) → IsWtatInfo i → wtat_param_res.from_values (Some (n ∷ []) ∷ wtat_info_values i) ≡ Some (record { algorithm = n; info = i })
info_there n (wtat.Unit u) z = rw (unit_there u z)
info_there n (wtat.Session s) z = rw (session_there s z)

info_short : (i : WtatInfo) → IsWtatInfo i → Fills (tag.unit ∷ tag.session ∷ []) (wtat_info_values i)
info_short (wtat.Unit u) z = (unit_short u z, (tt, tt))
info_short (wtat.Session s) z = (tt, (session_short s z, tt))

info_back : (a b : Option (List ℕ)) (i : WtatInfo) → wtat_info a b ≡ Some i → (wtat_info_values i ≡ a ∷ b ∷ []) × IsWtatInfo i
info_back a b i e =
    ⊎_elim
    (λ p.
    let q = mapped_back wtat.Unit (unit_of p.0) i p.1.1.1 in
    let u = unit_back p.0 q.0 q.1.0 in
    subst (λ (y : WtatInfo). (wtat_info_values y ≡ a ∷ b ∷ []) × IsWtatInfo y) q.1.1 ((λ t. Some (u.0 t) ∷ None ∷ []) ∙ (λ t. sym p.1.0 t ∷ sym p.1.1.0 t ∷ []), u.1))
    (λ p.
    let q = mapped_back wtat.Session (session_of p.0) i p.1.1.1 in
    let s = session_back p.0 q.0 q.1.0 in
    subst (λ (y : WtatInfo). (wtat_info_values y ≡ a ∷ b ∷ []) × IsWtatInfo y) q.1.1 ((λ t. None ∷ Some (s.0 t) ∷ []) ∙ (λ t. sym p.1.0 t ∷ sym p.1.1.0 t ∷ []), s.1))
    (either_back _ _ a b i e)

wtat_res_back : (a b c : Option (List ℕ)) (x : WtatParamRes) → wtat_param_res.from_values (a ∷ b ∷ c ∷ []) ≡ Some x → (wtat_param_res.values_of x ≡ a ∷ b ∷ c ∷ []) × IsWtatParamRes x
wtat_res_back a b c x e =
    let p = bind_back (must one a) _ x e in
    let q = bind_back (wtat_info b c) _ x p.1.1 in
    let is : record { algorithm = p.0; info = q.0 } ≡ x = same_Some _ x q.1.1 in
    let n = byte_in a p.0 p.1.0 in
    let i = info_back b c q.0 q.1.0 in
    subst (λ (y : WtatParamRes). (wtat_param_res.values_of y ≡ a ∷ b ∷ c ∷ []) × IsWtatParamRes y) is ((λ t. n t ∷ i.0 t), i.1)

pub wtat_param_res_round : RoundTrip wtat_param_res IsWtatParamRes
wtat_param_res_round =
    record {
      rising = omega arith;
      fills = λ x z. (omega arith, info_short x.info z);
      there = λ x z. info_there x.algorithm x.info z;
      back = λ bs x e. wtat_res_back (value tag.algorithm bs) (value tag.unit (after tag.algorithm bs)) (value tag.session (after tag.unit (after tag.algorithm bs))) x e;
    }

wtan_res_there : (r : WtanParamRes) → IsWtanParamRes r → wtan_param_res.from_values (wtan_param_values r) ≡ Some r
wtan_res_there (wtan.Session s) z = ap (option_map wtan.Session) (session_there s z)
wtan_res_there (wtan.Response r) z = ap (option_map wtan.Response) (exact_there response_size r z)

wtan_res_short : (r : WtanParamRes) → IsWtanParamRes r → Fills (tag.session ∷ tag.response ∷ []) (wtan_param_values r)
wtan_res_short (wtan.Session s) z = (session_short s z, (tt, tt))
wtan_res_short (wtan.Response r) z = (tt, (omega arith, tt))

wtan_res_back : (a b : Option (List ℕ)) (x : WtanParamRes) → wtan_param_res.from_values (a ∷ b ∷ []) ≡ Some x → (wtan_param_values x ≡ a ∷ b ∷ []) × IsWtanParamRes x
wtan_res_back a b x e =
    ⊎_elim
    (λ p.
    let q = mapped_back wtan.Session (session_of p.0) x p.1.1.1 in
    let s = session_back p.0 q.0 q.1.0 in
    subst (λ (y : WtanParamRes). (wtan_param_values y ≡ a ∷ b ∷ []) × IsWtanParamRes y) q.1.1 ((λ t. Some (s.0 t) ∷ None ∷ []) ∙ (λ t. sym p.1.0 t ∷ sym p.1.1.0 t ∷ []), s.1))
    (λ p.
    let q = mapped_back wtan.Response (exact response_size p.0) x p.1.1.1 in
    let r = exact_back response_size p.0 q.0 q.1.0 in
    subst (λ (y : WtanParamRes). (wtan_param_values y ≡ a ∷ b ∷ []) × IsWtanParamRes y) q.1.1 ((λ t. None ∷ Some (r.0 t) ∷ []) ∙ (λ t. sym p.1.0 t ∷ sym p.1.1.0 t ∷ []), r.1))
    (either_back _ _ a b x e)

pub wtan_param_res_round : RoundTrip wtan_param_res IsWtanParamRes
wtan_param_res_round =
    record {
      rising = omega arith;
      fills = λ x z. wtan_res_short x z;
      there = λ x z. wtan_res_there x z;
      back = λ bs x e. wtan_res_back (value tag.session bs) (value tag.response (after tag.session bs)) x e;
    }
