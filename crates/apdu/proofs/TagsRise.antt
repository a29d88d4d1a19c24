-- What is read as an APDU is whole fields, whose tags rise strictly. Assumes nothing.
use Rattle.std.proofs.Common.{ℕ, zero, suc, List, [], ◌∷◌, map, Some, None, Option, refl, ◌∙◌, subst, add-one, arith}
use Rattle.std.specs.List.Sorted.{IsStrictlyIncreasing}
use Rattle.wire.specs.Fields.{Cut}
use Rattle.wire.proofs.FieldLemmas.{next_there}
use Rattle.apdu.specs.Laws.{AreFields, TagsRise}
use Rattle.apdu.specs.Shapes.{row_bytes}
use Rattle.apdu.proofs.ReadWritesBack.{read_writes_back}
use Rattle.apdu.proofs.Rows.{Fills, Above, Rising}
use Rattle.apdu.proofs.ApduRow.{apdu_row}

-- tags that rise one by one rise strictly
rises : (ts : List ℕ) → Rising ts → IsStrictlyIncreasing ts
rises [] r k h = absurd (omega arith)
rises (t ∷ []) r k h = absurd (omega arith)
rises (t ∷ u ∷ ts) r zero h = r.0.0
rises (t ∷ u ∷ ts) r (suc k) h = simp add-one (simp add-one at (rises (u ∷ ts) r.1 k (omega arith)))

-- the fields of a row, whose tags rise, and are above each tag that those of the row are above
record FieldsOf (ts : List ℕ) (bs : List ℕ) : Type 0 where
  fields : List Cut
  are : AreFields bs fields
  rising : Rising (map (λ (f : Cut). f.tag) fields)
  above : (t : ℕ) → Above t ts → Above t (map (λ (f : Cut). f.tag) fields)

fields_of : (ts : List ℕ) (vs : List (Option (List ℕ))) → Rising ts → Fills ts vs → FieldsOf ts (row_bytes ts vs)
fields_of [] vs r f = record { fields = []; are = refl; rising = tt; above = λ t a. tt }
fields_of (t ∷ ts) [] r f = absurd f
fields_of (t ∷ ts) (None ∷ vs) r f =
    let g = fields_of ts vs r.1 f.1 in
    record { fields = g.fields; are = g.are; rising = g.rising; above = λ u a. g.above u a.1 }
fields_of (t ∷ ts) (Some v ∷ vs) r f =
    let g = fields_of ts vs r.1 f.1 in
    record {
      fields = record { tag = t; value = v; rest = row_bytes ts vs } ∷ g.fields;
      are = (next_there t v (row_bytes ts vs) f.0, g.are);
      rising = (g.above t r.0, g.rising);
      above = λ u a. (a.0, g.above u a.1);
    }

pub tags_rise : TagsRise
tags_rise bs a b e =
    let back = read_writes_back bs a b e in
    let row = apdu_row a back.1.0 in
    let g = fields_of row.tags row.values row.rising row.fills in
    let are : AreFields (row_bytes row.tags row.values) g.fields = g.are in
    (g.fields, (subst (λ (x : List ℕ). AreFields x g.fields) (row.bytes ∙ back.0) are, rises _ g.rising))
