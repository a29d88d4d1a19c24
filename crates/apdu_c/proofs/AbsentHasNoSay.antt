-- A value whose bit is not set has no say in which APDU is made. Assumes nothing.
use Rattle.std.proofs.Common.{◌≡◌, Some, None, Option, sym, refl, ◌∙◌}
use Rattle.apdu.specs.declared.apdus.Apdu.{Apdu}
use Rattle.apdu_c.specs.declared.fields.Fields.{Fields}
use Rattle.apdu_c.specs.Given.{apdu_of}
use Rattle.apdu_c.specs.Laws.{SameWhereSet, AbsentHasNoSay}
use Rattle.apdu_c.proofs.Says.{Says, says, makes}

-- what one of two gives, the other gives too
both_give : {A : Type 0} (o p : Option A) → ((x : A) → o ≡ Some x → p ≡ Some x) → ((x : A) → p ≡ Some x → o ≡ Some x) → o ≡ p
both_give None None h k = refl
both_give None (Some y) h k = k y refl
both_give (Some x) p h k = sym (h x refl)

mirrored : (f g : Fields) → SameWhereSet f g → SameWhereSet g f
mirrored f g w = record { id = sym w.id; kind = sym w.kind; operation = sym w.operation; present = sym w.present; parts = sym w.parts }

said_too : (f g : Fields) (a : Apdu) → SameWhereSet f g → Says f a → Says g a
said_too f g a w s =
    record {
      id = sym w.id ∙ s.id;
      kind = sym w.kind ∙ s.kind;
      operation = sym w.operation ∙ s.operation;
      present = sym w.present ∙ s.present;
      parts = s.parts ∙ w.parts;
      held_id = s.held_id;
      held = s.held;
    }

made_too : (f g : Fields) (a : Apdu) → SameWhereSet f g → apdu_of f ≡ Some a → apdu_of g ≡ Some a
made_too f g a w e = makes g a (said_too f g a w (says f a e))

pub absent_has_no_say : AbsentHasNoSay
absent_has_no_say f g w = both_give (apdu_of f) (apdu_of g) (λ a. made_too f g a w) (λ a. made_too g f a (mirrored f g w))
