use Rattle.std.proofs.Common.{ℕ, [], ◌∷◌, subst}
use Rattle.wire.specs.Fields.{field}
use Rattle.wire.specs.Fronts.{Wrote}
use Rattle.wire.proofs.Writes.{wrote_then, wrote_value}
use Rattle.records.specs.Tape.{fit_out_bytes}
use Rattle.records.proofs.WriteLemmas.{wrote_as, length_fit_out}
use Rattle.records.proofs.tape.write_fit_out.Goals as goal

pub returns-clause-wrote : goal.returns-clause-wrote
returns-clause-wrote c =
    let fit = c.args.fit.now in
    let peers = wrote_as (λ i. fit.home ∷ fit.server ∷ c.bit.ensures i ∷ []) c.bytes-7.ensures.wrote in
    let times = wrote_then (wrote_as c.in_four-5.ensures c.bytes-5.ensures.wrote) (wrote_then (wrote_as c.in_four-6.ensures c.bytes-6.ensures.wrote) peers) in
    let all = wrote_then (wrote_as c.in_four.ensures c.bytes.ensures.wrote) (wrote_then (wrote_as c.in_four-2.ensures c.bytes-2.ensures.wrote) (wrote_then (wrote_as c.in_four-3.ensures c.bytes-3.ensures.wrote) (wrote_then (wrote_as c.in_four-4.ensures c.bytes-4.ensures.wrote) times))) in
    subst (λ (t : ℕ). Wrote c.args.writer.now (field t (fit_out_bytes fit)) c.bytes-7.new.self) c.into.ensures
    (wrote_value _ 27 (fit_out_bytes fit) (length_fit_out fit) c.head.ensures.wrote all)
