-- The laws are false of every machine that is listed as wrong. Assumes nothing.
use Rattle.exchange.specs.Refuted.{WrongMachinesAreRefuted}
use Rattle.exchange.proofs.RefutedBalance.{wrong_answers, wrong_settlements}
use Rattle.exchange.proofs.RefutedGenuine.{wrong_genuine}
use Rattle.exchange.proofs.RefutedMoves.{wrong_moves}
use Rattle.exchange.proofs.RefutedRefusals.{wrong_refusals}
use Rattle.exchange.proofs.RefutedVerdicts.{wrong_verdicts}

pub wrong_machines_are_refuted : WrongMachinesAreRefuted
wrong_machines_are_refuted = record { answers = wrong_answers; settlements = wrong_settlements; genuine = wrong_genuine; verdicts = wrong_verdicts; moves = wrong_moves; refusals = wrong_refusals }
