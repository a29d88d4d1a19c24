use Rattle.std.proofs.Common.{ℕ, ◌/◌, ◌%◌, ap, sym, ◌∙◌}
use Rattle.wire.proofs.DigitLemmas.{length_digits}
use Rattle.values.proofs.user.User.count.Goals as goal

pub returns-clause-count : goal.returns-clause-count
returns-clause-count c =
    ap (λ (key : ℕ). key / 1000000000000000) c.self.view_is
    ∙ sym (length_digits (c.args.self / 1000000000000000) (c.args.self % 1000000000000000))
