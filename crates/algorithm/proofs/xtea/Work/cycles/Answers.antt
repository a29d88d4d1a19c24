use Rattle.std.proofs.Common.{◌≡◌, ℕ, refl, sym, ap, ◌∙◌, arith, add-one}
use Rattle.algorithm.specs.Xtea.{cycle, cycles}
use Rattle.algorithm.proofs.xtea.Work.cycles.Goals as goal

pub loop-init : goal.loop-init
unfolding cycles
loop-init c = refl

pub loop-preserved : goal.loop-preserved
unfolding cycles
loop-preserved c = c.cycle-work.ensures ∙ ap (cycle c.args.key.now) c.loop.invariant ∙ sym (ap (λ (n : ℕ). cycles c.args.key.now n c.args.self) (add-one c.loop.counter))

pub returns : goal.returns
returns c =
    let all : c.loop.counter ≡ 32 = omega arith in
    c.loop.invariant ∙ ap (λ (n : ℕ). cycles c.args.key.now n c.args.self) all
