use Rattle.std.proofs.Common.{◌≡◌, List, ◌++◌, length, Ok}
use Rattle.std.specs.declared.alloc.AllocError.{AllocError}
use Rattle.wire.specs.Fields.{unread}
use Rattle.records.specs.Sheet.{SheetEntry}
use Rattle.sheet.specs.Adds.{Adds}
use Rattle.sheet.specs.Bench.{bench_view}
use Rattle.sheet.specs.Run.{pieces_of, run_on}
use Rattle.sheet.proofs.run.run_on.Given as goal

-- some records were added, and with what is still to come they are the whole
abbrev pub invariant-loop-field : goal.invariant-loop-field
invariant-loop-field l =
    (a : List SheetEntry) × Adds {E = AllocError} (Ok tt) l.initial.sheet l.sheet a × (a ++ run_on (bench_view l.bench) (pieces_of (unread l.reader)) ≡ run_on (bench_view l.initial.bench) (pieces_of (unread l.initial.reader)))

abbrev pub decreases-loop-field : goal.decreases-loop-field
decreases-loop-field l = length (unread l.reader)
