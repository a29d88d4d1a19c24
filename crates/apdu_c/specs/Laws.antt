-- What holds of the two calls together.
use Rattle.std.specs.Prelude.{◌≡◌, ℕ, List, Some, Ok}
use Rattle.std.specs.Bool.{then_some}
use Rattle.wire.specs.Fields.{Bytes}
use Rattle.wire.specs.Tags as tag
use Rattle.apdu.specs.declared.apdus.Apdu.{Apdu}
use Rattle.apdu.specs.Decode.{received_as}
use Rattle.apdu.specs.Laws.{IsApdu}
use Rattle.apdu_c.specs.declared.fields.Fields.{Fields}
use Rattle.apdu_c.specs.Flat.{filled, flat}
use Rattle.apdu_c.specs.Forms.{has_bit, given_unit, given_session}
use Rattle.apdu_c.specs.Given.{apdu_of}
use Rattle.apdu_c.specs.Parts.{Parts}

-- the struct of an APDU is taken by a write as the same APDU: that of every APDU that a program can
-- hold, and so the struct that a read hands out
pub record FlatReadsBack : Type 0 where
  pub of_any : (a : Apdu) → IsApdu a → apdu_of (flat a) ≡ Some a
  pub of_read :
      (bs : List ℕ) (a : Apdu) → Bytes bs → received_as bs ≡ Ok a → apdu_of (flat a) ≡ Some a

-- the values of f whose bits are set in n
abbrev pub parts_in : ℕ → Fields → Parts
parts_in n f =
    record {
      user = then_some (has_bit tag.user n) f.user;
      computes = has_bit tag.can_compute n;
      challenge = then_some (has_bit tag.challenge n) f.challenge;
      algorithm = then_some (has_bit tag.algorithm n) f.algorithm;
      unit = then_some (has_bit tag.unit n) (given_unit f);
      session = then_some (has_bit tag.session n) (given_session f);
      response = then_some (has_bit tag.response n) f.response;
      verdict = then_some (has_bit tag.verdict n) f.verdict;
      error = then_some (has_bit tag.error n) f.error;
      problem = then_some (has_bit tag.problem n) f.problem;
    }

-- the struct of an APDU has the id, kind, operation and bits of the fields that made it, and those of
-- their values whose bits are set: all else that the fields hold has no say in what is written
abbrev pub GivenIsFlat : Type 0
GivenIsFlat =
    (f : Fields) (a : Apdu) → apdu_of f ≡ Some a →
    (flat a ≡ filled f.id f.kind f.operation (parts_in f.present f))
    × ((flat a).present ≡ f.present)

-- f and g agree in id, kind, operation and bits, and in the values whose bits are set
pub record SameWhereSet (f g : Fields) : Type 0 where
  pub id : f.id ≡ g.id
  pub kind : f.kind ≡ g.kind
  pub operation : f.operation ≡ g.operation
  pub present : f.present ≡ g.present
  pub parts : parts_in f.present f ≡ parts_in g.present g

-- structs that agree so make the same APDU, or none does: a value whose bit is not set has no say in
-- what is accepted either
abbrev pub AbsentHasNoSay : Type 0
AbsentHasNoSay = (f g : Fields) → SameWhereSet f g → apdu_of f ≡ apdu_of g
