-- What holds of every run: no verdict without a reply.
use Rattle.std.specs.Prelude.{◌≡◌, ◌⊎◌, List, Some, None, Ok, Option, Result}
use Rattle.std.specs.List.{AllByRecursion}
use Rattle.refusal.specs.declared.Refusal.{Refusal}
use Rattle.wire.specs.declared.codes.Verdict.{Verdict}
use Rattle.algorithm.specs.Meaning.{Meaning}
use Rattle.exchange.specs.Done.{Done}
use Rattle.exchange.specs.declared.outcome.Done.TheVariants.{Reported}
use Rattle.exchange.specs.declared.outcome.Report.TheVariants as report
use Rattle.exchange.specs.declared.service.Service.{Service}
use Rattle.exchange.specs.Genuine.{verdict_in, said_to, said_by}
use Rattle.exchange.specs.Runs.{Call, Reply, Given, Machine, CallMade, called, history}

-- a call to reply
abbrev pub IsReply : Call → Type 0
IsReply (Reply reading name response out) = Unit {0}
IsReply call = ⊥

-- the verdict that a call reports
abbrev pub verdict_reported : Result Done Refusal → Option Verdict
verdict_reported (Ok (Reported name (report.Verdict v))) = Some v
verdict_reported r = None

-- a verdict is sent only on a reply, and is reported only on one, or as the result of authWtmUser that was delivered says it
pub record TellsVerdicts (e : CallMade) : Type 0 where
  pub sent : (v : Verdict) → said_by verdict_in e.after ≡ Some v → IsReply e.call
  pub reported : (v : Verdict)
      → verdict_reported e.after.result ≡ Some v
      → IsReply e.call ⊎ (said_to verdict_in e.call ≡ Some v)

-- at every call, done or refused, of every list of calls
abbrev pub VerdictsBy : Machine → Service → Type 0
VerdictsBy does s =
    (calls : List (Meaning × Call)) → AllByRecursion Given calls
    → AllByRecursion TellsVerdicts (history does s calls)

-- of an exchange that is called
abbrev pub AlwaysTellsVerdicts : Service → Type 0
AlwaysTellsVerdicts s = VerdictsBy called s
