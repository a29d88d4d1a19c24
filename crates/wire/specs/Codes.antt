-- The code lists, each told once: the number of each value, and all of the values.
use Rattle.std.specs.Prelude.{if◌then◌else◌, ℕ, List, [], ◌∷◌, Some, None, Option, ◌==◌}
use Rattle.wire.specs.declared.codes.Kind.{Kind}
use Rattle.wire.specs.declared.codes.Kind.TheVariants.{Invoke, ReturnResult, ReturnError, Reject}
use Rattle.wire.specs.declared.codes.Operation.{Operation}
use Rattle.wire.specs.declared.codes.Operation.TheVariants.{AuthWtmUser, WtatParam, WtanParam}
use Rattle.wire.specs.declared.codes.Provider.TheVariants.{Home, Server}
use Rattle.wire.specs.declared.codes.Verdict.{Verdict}
use Rattle.wire.specs.declared.codes.Verdict.TheVariants.{Correct, Incorrect}
use Rattle.wire.specs.declared.codes.ErrorCode.{ErrorCode}
use Rattle.wire.specs.declared.codes.ErrorCode.TheVariants.{InvalidServedUserNr, ParamNotAvailable, TemporarilyUnavailable, NotAuthorized, Unspecified}
use Rattle.wire.specs.declared.codes.Problem.{Problem}
use Rattle.wire.specs.declared.codes.Problem.TheVariants.{UnknownOperation, WrongArgument}

-- the value of a list that has the number n
abbrev pub coded : {A : Type 0} → (A → ℕ) → List A → ℕ → Option A
coded number [] n = None
coded number (x ∷ xs) n = if n == number x then Some x else coded number xs n

-- the number of a kind
abbrev pub kind_number : Kind → ℕ
kind_number Invoke = 1
kind_number ReturnResult = 2
kind_number ReturnError = 3
kind_number Reject = 4

-- all of the kinds
abbrev pub kinds : List Kind
kinds = Invoke ∷ ReturnResult ∷ ReturnError ∷ Reject ∷ []

-- the kind with a number
abbrev pub kind_of : ℕ → Option Kind
kind_of n = coded kind_number kinds n

-- the number of an operation
abbrev pub operation_number : Operation → ℕ
operation_number AuthWtmUser = 1
operation_number (WtatParam Home) = 2
operation_number (WtatParam Server) = 3
operation_number (WtanParam Home) = 4
operation_number (WtanParam Server) = 5

-- all of the operations
abbrev pub operations : List Operation
operations =
    AuthWtmUser ∷ WtatParam Home ∷ WtatParam Server ∷ WtanParam Home ∷ WtanParam Server ∷ []

-- the operation with a number
abbrev pub operation_of : ℕ → Option Operation
operation_of n = coded operation_number operations n

-- the number of a verdict
abbrev pub verdict_number : Verdict → ℕ
verdict_number Correct = 0
verdict_number Incorrect = 1

-- both verdicts
abbrev pub verdicts : List Verdict
verdicts = Correct ∷ Incorrect ∷ []

-- the verdict with a number
abbrev pub verdict_of : ℕ → Option Verdict
verdict_of n = coded verdict_number verdicts n

-- the number of an error
abbrev pub error_number : ErrorCode → ℕ
error_number InvalidServedUserNr = 1
error_number ParamNotAvailable = 2
error_number TemporarilyUnavailable = 3
error_number NotAuthorized = 4
error_number Unspecified = 5

-- all of the errors
abbrev pub error_codes : List ErrorCode
error_codes =
    InvalidServedUserNr ∷ ParamNotAvailable ∷ TemporarilyUnavailable ∷ NotAuthorized
    ∷ Unspecified ∷ []

-- the error with a number
abbrev pub error_of : ℕ → Option ErrorCode
error_of n = coded error_number error_codes n

-- the number of a problem
abbrev pub problem_number : Problem → ℕ
problem_number UnknownOperation = 1
problem_number WrongArgument = 2
