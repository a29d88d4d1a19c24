use Rattle.std.proofs.Common.{◌≡◌, ℕ, ◌^◌, ◌<◌, length, sym, ◌∙◌, subst, inl, inr, arith, rules}
use Rattle.std.proofs.lemmas.List.{at_drop_all}
use Rattle.values.specs.User.{number}
use Rattle.values.proofs.NumberSteps.{number_more, number_none}
use Rattle.values.proofs.Powers.{below_next, below_most}
use Rattle.values.proofs.user.number_of.Goals as goal

pub overflow_mul-n : goal.overflow_mul-n
overflow_mul-n c = let k : c.loop-c.n < 10 ^ 15 = below_most 10 _ _ 15 (omega arith) c.loop-c.invariant.1 (omega arith) in search rules

pub overflow_add-n : goal.overflow_add-n
overflow_add-n c = let k : c.loop-c.n < 10 ^ 15 = below_most 10 _ _ 15 (omega arith) c.loop-c.invariant.1 (omega arith) in search rules

pub returns-in_default : goal.returns-in_default
returns-in_default c = record { value = sym (number_none _ _ _ c.loop-c-test.true (inl (omega arith))) ∙ c.loop-c.invariant.0; bound = tt }

pub returns-in_default-2 : goal.returns-in_default-2
returns-in_default-2 c = record { value = sym (number_none _ _ _ c.loop-c-test.true (inr (omega arith))) ∙ c.loop-c.invariant.0; bound = tt }

pub loop-c-preserved : goal.loop-c-preserved
loop-c-preserved c = (sym (number_more _ _ _ c.loop-c-test.true (omega arith) (omega arith)) ∙ c.loop-c.invariant.0, below_next 10 _ _ _ c.loop-c.invariant.1 (omega arith))

pub returns : goal.returns
returns c =
    let e : c.loop-c.c-index ≡ length c.args.text.now = omega arith in
    record {
      value = sym (at_drop_all (number c.loop-c.n) _ _ c.loop-c-test.false) ∙ c.loop-c.invariant.0;
      bound = subst (λ (i : ℕ). c.loop-c.n < 10 ^ i) e c.loop-c.invariant.1;
    }
