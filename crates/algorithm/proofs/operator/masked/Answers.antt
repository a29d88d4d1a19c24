use Rattle.std.proofs.Common.{◌∙◌, sym, arith}
use Rattle.std.proofs.lemmas.Grind.{same_number_lists}
use Rattle.algorithm.specs.Operator.{masked}
use Rattle.algorithm.proofs.Masked.{length_masked, get_or_masked}
use Rattle.algorithm.proofs.operator.masked.Goals as goal

pub returns : goal.returns
returns c =
    let challenge = c.args.challenge.now in
    let mask = c.args.mask.now in
    let whole = c.block-changed.ensures.whole.long in
    let size = c.loop-i.invariant.long in
    let long = length_masked challenge mask in
    c.new.ensures
    ∙ same_number_lists c.loop-i.changed (masked challenge mask) (omega (arith, size, whole, long))
    (λ k h. c.loop-i.invariant.done k (omega (arith, size)) ∙ sym (get_or_masked challenge mask k (omega (arith, whole, size)) (omega (arith, c.told-mask, size))))
