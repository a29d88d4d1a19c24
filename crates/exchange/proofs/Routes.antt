-- Three routes run, each by computation. Assumes nothing.
use Rattle.std.proofs.Common.{true, false, refl}
use Rattle.exchange.specs.Examples.{server_challenge, own_challenge}
use Rattle.exchange.specs.Routes.{unit_of_server, session_of_server, InitiationRuns, VisitRuns, RoutesRun}

initiation_runs : InitiationRuns
initiation_runs = record {
  asker_asks_server = refl;
  server_answers = refl;
  with_a_unit = refl;
  asker_asks_visited = refl;
  with_that_unit = refl;
  terminal_is_challenged = refl;
  visited_answers_asker = refl;
  right_is_correct = refl;
  wrong_is_incorrect = refl;
}

unit_runs : VisitRuns false unit_of_server server_challenge
unit_runs = record {
  visited_asks_home = refl;
  home_asks_server = refl;
  server_answers = refl;
  with_values = refl;
  home_answers = refl;
  with_those_values = refl;
  terminal_is_challenged = refl;
  right_is_correct = refl;
  wrong_is_incorrect = refl;
}

session_runs : VisitRuns true session_of_server own_challenge
session_runs = record {
  visited_asks_home = refl;
  home_asks_server = refl;
  server_answers = refl;
  with_values = refl;
  home_answers = refl;
  with_those_values = refl;
  terminal_is_challenged = refl;
  right_is_correct = refl;
  wrong_is_incorrect = refl;
}

pub routes_run : RoutesRun
routes_run = record { unit_with_the_initiation = initiation_runs; unit_by_home = unit_runs; session_by_home = session_runs }
