use Rattle.std.proofs.Common.{◌≡◌, true, arith}
use Rattle.exchange.specs.FitOut.{fitted}
use Rattle.exchange.proofs.Balanced.{always_balanced}
use Rattle.exchange.proofs.Genuine.{always_genuine}
use Rattle.exchange.proofs.Moves.{always_moves, always_tells_verdicts}
use Rattle.exchange.proofs.Conditions.{always_refuses}
use Rattle.exchange.proofs.Refuted.{wrong_machines_are_refuted}
use Rattle.exchange.proofs.Routes.{routes_run}
use Rattle.exchange.proofs.fit_out.FitOut.enter_service.Goals as goal

pub returns-clause-balanced : goal.returns-clause-balanced
returns-clause-balanced c = let lawful : fitted c.args.self ≡ true = grind arith in always_balanced c.args.self lawful

pub returns-clause-genuine : goal.returns-clause-genuine
returns-clause-genuine c = let lawful : fitted c.args.self ≡ true = grind arith in always_genuine c.args.self lawful

pub returns-clause-moves : goal.returns-clause-moves
returns-clause-moves c = let lawful : fitted c.args.self ≡ true = grind arith in always_moves c.args.self lawful

pub returns-clause-verdicts : goal.returns-clause-verdicts
returns-clause-verdicts c = let lawful : fitted c.args.self ≡ true = grind arith in always_tells_verdicts c.args.self lawful

pub returns-clause-refuses : goal.returns-clause-refuses
returns-clause-refuses c = let lawful : fitted c.args.self ≡ true = grind arith in always_refuses c.args.self lawful

pub returns-clause-wrong_machines : goal.returns-clause-wrong_machines
returns-clause-wrong_machines c = wrong_machines_are_refuted

pub returns-clause-routes : goal.returns-clause-routes
returns-clause-routes c = routes_run

pub returns-then-not-is_lawful-clause-wrong_machines : goal.returns-then-not-is_lawful-clause-wrong_machines
returns-then-not-is_lawful-clause-wrong_machines c = wrong_machines_are_refuted

pub returns-then-not-is_lawful-clause-routes : goal.returns-then-not-is_lawful-clause-routes
returns-then-not-is_lawful-clause-routes c = routes_run
