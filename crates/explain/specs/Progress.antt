-- How far a record of a tape was found right, by its record of the sheet.
use Rattle.std.specs.Prelude.{Bool, false, Some, None, Option}
use Rattle.refusal.specs.declared.Refusal.{Refusal}
use Rattle.refusal.specs.declared.Refusal.TheVariants as refusal
use Rattle.records.specs.Sheet.{SheetEntry, refused}
use Rattle.explain.specs.declared.progress.Progress.{Progress}
use Rattle.explain.specs.declared.progress.Progress.TheVariants.{Done, Addressed, Misdialled, Nowhere}

-- the checks run in the order of the numbers: 4 comes after the reading's, and 6 to 9 after those of numbers that are dialled
abbrev pub refused_with : Refusal → Progress
refused_with refusal.ShortSheet = Nowhere
refused_with refusal.ClockBack = Nowhere
refused_with refusal.TimerDue = Nowhere
refused_with refusal.Misdialled = Misdialled
refused_with refusal.Garbled = Nowhere
refused_with refusal.Stray = Addressed
refused_with refusal.Twice = Addressed
refused_with refusal.Full = Addressed
refused_with refusal.Spent = Addressed
refused_with refusal.Misfitted = Nowhere

-- without a record of the sheet nothing is known to be right
abbrev pub answered_with : Option SheetEntry → Progress
answered_with None = Nowhere
answered_with (Some (refused refusal)) = refused_with refusal
answered_with (Some outcome) = Done

-- a record that is refused with 4 is known to be right in nothing where its digits, or its APDU, are not well formed
abbrev pub given : Progress → Bool → Progress
given Misdialled false = Nowhere
given progress well_formed = progress
