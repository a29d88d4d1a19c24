-- What a call may do to the table and when it may tell a verdict, over every run. Assumes nothing.
use Rattle.std.proofs.Common.{◌≡◌, true, List, [], ◌∷◌, refl, ap, ◌∙◌, subst}
use Rattle.std.specs.List.{AllByRecursion}
use Rattle.algorithm.specs.Meaning.{Meaning}
use Rattle.exchange.specs.declared.fit_out.FitOut.{FitOut}
use Rattle.exchange.specs.declared.invokes.OwnNumber.{OwnNumber}
use Rattle.exchange.specs.declared.service.Service.{Service}
use Rattle.exchange.specs.Outcome.{After}
use Rattle.exchange.specs.EnterService.{fresh}
use Rattle.exchange.specs.FitOut.{fitted}
use Rattle.exchange.specs.Moves.{Moves, Named, AlwaysMoves}
use Rattle.exchange.specs.Runs.{Call, Given, CallMade, called, history}
use Rattle.exchange.specs.Verdicts.{TellsVerdicts, AlwaysTellsVerdicts}
use Rattle.exchange.proofs.Balanced.{step, start, has}
use Rattle.exchange.proofs.Invariant.{Fine, Inv, Step}

named_step : (s : Service) (c : Call) (a : After) → Step s c a → Named (record { before = s; call = c; after = a })
named_step s c a p = record {
  next = p.next;
  below = λ d h. (has (Fine a.service.fit a.service.last a.service.next.0) a.service.dialogues p.inv.fine d h).named;
  apart = λ i j d e h k same. p.inv.names.apart i j d e h k (ap (λ (n : OwnNumber). n.0) same);
}

moves_run : (fit : FitOut) (cs : List (Meaning × Call)) (s : Service) → s.fit ≡ fit → Inv s → AllByRecursion Given cs → AllByRecursion (λ e. Moves fit e × Named e) (history called s cs)
moves_run fit [] s same inv given = tt
moves_run fit ((m, c) ∷ cs) s same inv given =
    let a = step m given.0.0 s inv c given.0.1 in
    let e : CallMade = record { before = s; call = c; after = called m s c } in
    ((subst (λ (f : FitOut). Moves f e) same a.moves, named_step s c (called m s c) a), moves_run fit cs (called m s c).service (a.fit ∙ same) a.inv given.1)

pub always_moves : (f : FitOut) → fitted f ≡ true → AlwaysMoves (fresh f)
always_moves f h cs given = moves_run f cs (fresh f) refl (start f h) given

verdicts_run : (cs : List (Meaning × Call)) (s : Service) → Inv s → AllByRecursion Given cs → AllByRecursion TellsVerdicts (history called s cs)
verdicts_run [] s inv given = tt
verdicts_run ((m, c) ∷ cs) s inv given =
    let a = step m given.0.0 s inv c given.0.1 in
    (a.verdicts, verdicts_run cs (called m s c).service a.inv given.1)

pub always_tells_verdicts : (f : FitOut) → fitted f ≡ true → AlwaysTellsVerdicts (fresh f)
always_tells_verdicts f h cs given = verdicts_run cs (fresh f) (start f h) given
