-- The laws over whole runs are false of machines that do wrong.
use Rattle.exchange.specs.WrongBalance.{WrongAnswersAreRefuted, WrongSettlementsAreRefuted}
use Rattle.exchange.specs.WrongGenuine.{WrongGenuineIsRefuted}
use Rattle.exchange.specs.WrongMoves.{WrongMovesAreRefuted}
use Rattle.exchange.specs.WrongRefusals.{WrongRefusalsAreRefuted}
use Rattle.exchange.specs.WrongVerdicts.{WrongVerdictsAreRefuted}

-- each law, of its wrong machines
pub record WrongMachinesAreRefuted : Type 0 where
  pub answers : WrongAnswersAreRefuted
  pub settlements : WrongSettlementsAreRefuted
  pub genuine : WrongGenuineIsRefuted
  pub verdicts : WrongVerdictsAreRefuted
  pub moves : WrongMovesAreRefuted
  pub refusals : WrongRefusalsAreRefuted
