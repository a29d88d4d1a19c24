use Rattle.std.proofs.Common.{◌≡◌, rules, ap, ◌∙◌}
use Rattle.directory.specs.Contents.{contents}
use Rattle.directory.specs.Changes.{taken_out}
use Rattle.directory.proofs.Removing.{contents_taken_out}
use Rattle.directory.proofs.directory.Directory.remove.Goals as goal

pub returns-in_err-place-clause-list : goal.returns-in_err-place-clause-list
returns-in_err-place-clause-list g c =
    let whole : c.args.self.now ≡ taken_out g.R.Keyed.keyed g.R.Blank.blanked c.args.self.now c.args.key = search rules in
    ap contents whole ∙ contents_taken_out g.R.Keyed.keyed g.R.Blank.blanked c.args.self.now c.args.key

pub returns-clause-list : goal.returns-clause-list
returns-clause-list g c =
    let whole : c.vacate.new.self ≡ taken_out g.R.Keyed.keyed g.R.Blank.blanked c.args.self.now c.args.key = search rules in
    ap contents whole ∙ contents_taken_out g.R.Keyed.keyed g.R.Blank.blanked c.args.self.now c.args.key
