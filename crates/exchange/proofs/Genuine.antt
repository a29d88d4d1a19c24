-- A reply is found genuine exactly when it is the algorithm's response to the challenge reported. Assumes nothing.
use Rattle.std.proofs.Common.{◌≡◌, ℕ, true, List, [], ◌∷◌, ◌++◌, sym, refl, subst}
use Rattle.std.specs.List.{AllByRecursion}
use Rattle.algorithm.specs.Meaning.{Meaning}
use Rattle.exchange.specs.declared.fit_out.FitOut.{FitOut}
use Rattle.exchange.specs.declared.service.Service.{Service}
use Rattle.exchange.specs.EnterService.{fresh}
use Rattle.exchange.specs.FitOut.{fitted}
use Rattle.exchange.specs.Genuine.{Judges, AlwaysGenuine}
use Rattle.exchange.specs.Runs.{Call, Reply, Given, called, at_end}
use Rattle.exchange.proofs.Balanced.{step, start, run}
use Rattle.exchange.proofs.Invariant.{Inv}
use Rattle.exchange.proofs.Names.{Holds, leaves_holds}
use Rattle.exchange.proofs.Shown.{delivery_shows}
use Rattle.exchange.proofs.Judged.{reply_judged}
use Rattle.exchange.proofs.Served.{all_parts, wrote_right}

-- a call in the middle
end_after : (s : Service) (xs : List (Meaning × Call)) (m : Meaning) (c : Call) (ys : List (Meaning × Call)) → at_end called s (xs ++ (m, c) ∷ ys) ≡ at_end called (called m (at_end called s xs) c).service ys
end_after s [] m c ys = refl
end_after s ((n, x) ∷ xs) m c ys = end_after (called n s x).service xs m c ys

-- a dialogue at a terminal stays as it is
run_holds : (cs : List (Meaning × Call)) (s : Service) (n : ℕ) (e : List ℕ) → Inv s → AllByRecursion Given cs → Holds s n e → Holds (at_end called s cs) n e
run_holds [] s n e inv t h = h
run_holds ((m, c) ∷ cs) s n e inv t h =
    let one = step m t.0.0 s inv c t.0.1 in
    run_holds cs (called m s c).service n e one.inv t.1 (leaves_holds s (called m s c).service inv.names one.leaves n e h)

pub always_genuine : (f : FitOut) → fitted f ≡ true → AlwaysGenuine (fresh f)
always_genuine f lawful m key parameter values w earlier delivery later given brings name challenge reports n reading response out done is =
    let t = all_parts Given earlier ((m, delivery) ∷ later) given in
    let before : Service = at_end called (fresh f) earlier in
    let inv : Inv before = (run earlier (fresh f) (start f lawful) t.0).inv in
    let shown = delivery_shows m before inv.names values name challenge delivery brings reports in
    let next : Service = (called m before delivery).service in
    let inv2 : Inv next = (step m t.1.0.0 before inv delivery t.1.0.1).inv in
    let same = end_after (fresh f) earlier m delivery later in
    let now : Service = at_end called (fresh f) (earlier ++ (m, delivery) ∷ later) in
    let inv3 : Inv now = subst Inv (sym same) ((run later next inv2 t.1.1).inv) in
    let h : Holds now name.0 shown.0 = subst (λ (x : Service). Holds x name.0 shown.0) (sym same) (run_holds later next name.0 shown.0 inv2 t.1.1 shown.2) in
    let r = wrote_right m key parameter values w challenge shown.0 shown.1 in
    subst (λ (e : List ℕ). Judges now name (called n now (Reply reading name response out)) response e) r (reply_judged n now inv3 reading name response shown.0 h out done is)
