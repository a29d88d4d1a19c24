use Rattle.std.proofs.Common.{rules}
use Rattle.records.specs.Sheet.{sheet_view}
use Rattle.sheet.proofs.Growth.{front_taken, adds_slice}
use Rattle.sheet.proofs.outcomes.add_record.Goals as goal

pub returns : goal.returns
returns c =
    let x = c.extend_from_slice.ensures in
    let bytes = front_taken c.new-writer.ensures.front c.write.ensures.wrote in
    adds_slice c.extend_from_slice.result _ _ _ (sheet_view c.args.added.now) (search (rules, bytes)) x.items x.capacity x.full
