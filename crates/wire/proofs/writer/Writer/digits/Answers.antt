use Rattle.std.proofs.Common.{◌≡◌, ℕ, ◌+◌, ◌-◌, ◌≤◌, List, ◌∙◌, length, take, drop, refl, sym, ap, arith, length-drop, length-take}
use Rattle.wire.specs.Digits.{digits}
use Rattle.wire.proofs.DigitLemmas.{length_digits}
use Rattle.wire.proofs.Writes.{wrote_part, wrote_value}
use Rattle.wire.proofs.writer.Writer.digits.Goals as goal

pub returns-clause-wrote : goal.returns-clause-wrote
returns-clause-wrote c =
    let count : ℕ = c.args.count in
    let text : List ℕ = digits count c.args.number in
    let head = c.head.ensures.wrote in
    let at : ℕ = c.head.new.self.at in
    let size : length text ≡ count = length_digits count c.args.number in
    let fits : at + length text ≤ length c.head.new.self.out.now = omega (arith, head.end, head.size, c.requires.fits, size) in
    let long : length (take (at + count - at) (drop at c.head.new.self.out.now)) ≡ count = simp (length-take, length-drop) (omega (arith, fits, size)) in
    let is = c.put_digits.ensures ∙ ap (λ (k : ℕ). digits k c.args.number) long in
    wrote_value c.args.tag count text size head (wrote_part text _ is (ap (λ n. at + n) (sym size)) fits refl)
