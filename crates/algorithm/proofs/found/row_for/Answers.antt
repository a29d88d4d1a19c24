use Rattle.std.proofs.Common.{rules}
use Rattle.algorithm.proofs.Rows.{first_row}
use Rattle.algorithm.proofs.found.row_for.Goals as goal

pub returns : goal.returns
returns c =
    let first = first_row c.args.rows.now c.args.challenge.now c.challenge_key.ensures.whole in
    search (rules, first)
