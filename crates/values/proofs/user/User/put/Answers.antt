use Rattle.std.proofs.Common.{ℕ, ◌/◌, ◌%◌, length, ap, ◌∙◌}
use Rattle.wire.specs.Digits.{digits}
use Rattle.wire.proofs.DigitLemmas.{length_digits}
use Rattle.values.proofs.user.User.put.Goals as goal

pub returns-clause-all : goal.returns-clause-all
returns-clause-all c =
    λ h.
    let count : ℕ = c.args.self / 1000000000000000 in
    let number : ℕ = c.args.self % 1000000000000000 in
    c.put_digits.ensures
    ∙ ap (λ (key : ℕ). digits (length c.args.places.now) (key % 1000000000000000)) c.self.view_is
    ∙ ap (λ (places : ℕ). digits places number) (h ∙ length_digits count number)
