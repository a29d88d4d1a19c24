-- A record of a tape is written part by part. Assumes nothing.
use Rattle.std.proofs.Common.{◌≡◌, ℕ, ◌+◌, ◌/◌, ◌%◌, List, ◌∷◌, ◌++◌, length, sym, subst, arith}
use Rattle.std.proofs.lemmas.List.{length-append}
use Rattle.exchange.specs.declared.fit_out.FitOut.{FitOut}
use Rattle.wire.specs.declared.writer.Writer.{Writer}
use Rattle.wire.specs.Fields.{field, two}
use Rattle.wire.specs.Fronts.{Wrote}
use Rattle.wire.proofs.Writes.{wrote_then}
use Rattle.records.specs.Numbers.{in_bytes}
use Rattle.records.specs.Tape.{fit_out_bytes}
use Rattle.records.proofs.NumberLemmas.{length_in_bytes}

pub ruleset lengths = (length_in_bytes, length-append)

-- the same bytes by another name
pub wrote_as : {w v : Writer} {a b : List ℕ} → a ≡ b → Wrote w a v → Wrote w b v
wrote_as {w} {v} e h = subst (λ (bs : List ℕ). Wrote w bs v) e h

-- the tag, the length and the reading, and then what follows the reading
pub began : {w v u : Writer} (t n reading : ℕ) (rest : List ℕ) → length rest ≡ n → Wrote w (t ∷ (two (8 + n) ++ in_bytes 8 reading)) v → Wrote v rest u → Wrote w (field t (in_bytes 8 reading ++ rest)) u
began {w} {v} {u} t n reading rest size head value =
    let long : length (in_bytes 8 reading ++ rest) ≡ 8 + n = omega (arith, length-append (in_bytes 8 reading) rest, length_in_bytes 8 reading, size) in
    subst (λ (k : ℕ). Wrote w (t ∷ k / 256 ∷ k % 256 ∷ (in_bytes 8 reading ++ rest)) u) (sym long) (wrote_then head value)

pub length_fit_out : (f : FitOut) → length (fit_out_bytes f) ≡ 27
length_fit_out f = simp lengths
