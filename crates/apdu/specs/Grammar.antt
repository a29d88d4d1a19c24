-- The grammar: the shape of each argument and result, of an error and of a reject.
use Rattle.std.specs.Prelude.{ℕ, List, [], ◌∷◌, Some, None, Option}
use Rattle.std.specs.Option.{option_map}
use Rattle.wire.specs.declared.codes.Verdict.{Verdict}
use Rattle.wire.specs.declared.codes.ErrorCode.{ErrorCode}
use Rattle.wire.specs.Codes.{verdict_of, verdict_number, error_of, error_number}
use Rattle.wire.specs.Fields.{flagged}
use Rattle.wire.specs.Tags as tag
use Rattle.wire.specs.FieldValues.{bind as ◌>>=◌, one, exact, must, may, flag, either}
use Rattle.values.specs.declared.proof.AuthUnit.{AuthUnit}
use Rattle.values.specs.Challenge.{challenge_of}
use Rattle.values.specs.Proof.{unit_value, session_value, unit_of, session_of}
use Rattle.values.specs.Sizes.{response_size}
use Rattle.apdu.specs.declared.apdus.WtatParamArg.{WtatParamArg}
use Rattle.apdu.specs.declared.apdus.WtanParamArg.{WtanParamArg}
use Rattle.apdu.specs.declared.apdus.WtatInfo.{WtatInfo}
use Rattle.apdu.specs.declared.apdus.WtatInfo.TheVariants as wtat
use Rattle.apdu.specs.declared.apdus.WtatParamRes.{WtatParamRes}
use Rattle.apdu.specs.declared.apdus.WtanParamRes.{WtanParamRes}
use Rattle.apdu.specs.declared.apdus.WtanParamRes.TheVariants as wtan
use Rattle.apdu.specs.Shapes.{at, Shape}

-- authWtmUser: 08 unit or none
abbrev pub auth_wtm_arg : Shape (Option AuthUnit)
auth_wtm_arg =
    record {
      tags = tag.unit ∷ [];
      from_values = λ vs. may unit_of (at vs 0);
      values_of = λ unit. option_map unit_value unit ∷ [];
    }

-- getWtatParam, wtatParamEnq: 05 canCompute or none, 06 challenge or none
abbrev pub wtat_param_arg : Shape WtatParamArg
wtat_param_arg =
    record {
      tags = tag.can_compute ∷ tag.challenge ∷ [];
      from_values = λ vs. do
        computes ← flag (at vs 0)
        challenge ← may challenge_of (at vs 1)
        Some (record { computes = computes; challenge = challenge });
      values_of = λ a. flagged a.computes ∷ a.challenge ∷ [];
    }

-- getWtanParam, wtanParamEnq: 05 canCompute or none, 06 challenge, 07 algorithm number
abbrev pub wtan_param_arg : Shape WtanParamArg
wtan_param_arg =
    record {
      tags = tag.can_compute ∷ tag.challenge ∷ tag.algorithm ∷ [];
      from_values = λ vs. do
        computes ← flag (at vs 0)
        challenge ← must challenge_of (at vs 1)
        algorithm ← must one (at vs 2)
        Some (record { computes = computes; challenge = challenge; algorithm = algorithm });
      values_of = λ a. flagged a.computes ∷ Some a.challenge ∷ Some (a.algorithm ∷ []) ∷ [];
    }

-- one byte that is a code of a type: its number, and the value with a number
abbrev pub code_shape : {A : Type 0} → ℕ → (A → ℕ) → (ℕ → Option A) → Shape A
code_shape t number of =
    record {
      tags = t ∷ [];
      from_values = λ vs. do
        n ← must one (at vs 0)
        of n;
      values_of = λ x. Some (number x ∷ []) ∷ [];
    }

-- authWtmUser: 0B verdict
abbrev pub auth_wtm_res : Shape Verdict
auth_wtm_res = code_shape tag.verdict verdict_number verdict_of

-- one of unit and session
abbrev pub wtat_info : Option (List ℕ) → Option (List ℕ) → Option WtatInfo
wtat_info unit session =
    either (λ v. option_map wtat.Unit (unit_of v)) (λ v. option_map wtat.Session (session_of v))
    unit session

-- its values, one of unit and session
abbrev pub wtat_info_values : WtatInfo → List (Option (List ℕ))
wtat_info_values (wtat.Unit u) = Some (unit_value u) ∷ None ∷ []
wtat_info_values (wtat.Session s) = None ∷ Some (session_value s) ∷ []

-- getWtatParam, wtatParamEnq: 07 algorithm number, then 08 unit or 09 session
abbrev pub wtat_param_res : Shape WtatParamRes
wtat_param_res =
    record {
      tags = tag.algorithm ∷ tag.unit ∷ tag.session ∷ [];
      from_values = λ vs. do
        algorithm ← must one (at vs 0)
        info ← wtat_info (at vs 1) (at vs 2)
        Some (record { algorithm = algorithm; info = info });
      values_of = λ r. Some (r.algorithm ∷ []) ∷ wtat_info_values r.info;
    }

-- one of session and response
abbrev pub wtan_param : Option (List ℕ) → Option (List ℕ) → Option WtanParamRes
wtan_param session response =
    either
    (λ v. option_map wtan.Session (session_of v))
    (λ v. option_map wtan.Response (exact response_size v))
    session response

-- its values, one of session and response
abbrev pub wtan_param_values : WtanParamRes → List (Option (List ℕ))
wtan_param_values (wtan.Session s) = Some (session_value s) ∷ None ∷ []
wtan_param_values (wtan.Response r) = None ∷ Some r ∷ []

-- getWtanParam, wtanParamEnq: 09 session or 0A response
abbrev pub wtan_param_res : Shape WtanParamRes
wtan_param_res =
    record {
      tags = tag.session ∷ tag.response ∷ [];
      from_values = λ vs. wtan_param (at vs 0) (at vs 1);
      values_of = wtan_param_values;
    }

-- 0C error
abbrev pub return_error : Shape ErrorCode
return_error = code_shape tag.error error_number error_of

-- 0D problem
abbrev pub reject : Shape ℕ
reject =
    record {
      tags = tag.problem ∷ [];
      from_values = λ vs. must one (at vs 0);
      values_of = λ p. Some (p ∷ []) ∷ [];
    }
