use Rattle.std.proofs.Common.{rules, Some, sym, ap, ◌∙◌, nat_eq}
use Rattle.directory.proofs.First.{first_with_some, first_with_none}
use Rattle.directory.proofs.keyed.fetch.Goals as goal

pub returns-in_err-place : goal.returns-in_err-place
returns-in_err-place g c =
    let e = first_with_none nat_eq g.R.Keyed.keyed c.args.records.now c.args.key (sym c.lookup.ensures.value ∙ c.in_err-place.was) in
    search (rules, e)

pub returns : goal.returns
returns g c =
    let at = sym c.lookup.ensures.value ∙ c.in_ok-place.was in
    ap Some c.index-records-place.is ∙ sym (first_with_some nat_eq g.R.Keyed.keyed c.args.records.now c.args.key c.in_ok-place.place c.index-records-place.result at)
