-- What the value of a field says.
use Rattle.std.specs.Prelude.{if◌then◌else◌, ◌≡◌, ℕ, ◌+◌, Bool, true, false, List, length, take, drop, Some, None, Option, ◌==◌, slice_index}
use Rattle.std.specs.Option.{option_map}

-- what f makes of the value that is there
abbrev pub bind : {A B : Type 0} → Option A → (A → Option B) → Option B
bind None f = None
bind (Some x) f = f x

-- one byte
abbrev pub one : List ℕ → Option ℕ
one v = if length v == 1 then Some (slice_index v 0) else None

-- exactly n bytes
abbrev pub exact : ℕ → List ℕ → Option (List ℕ)
exact n v = if length v == n then Some v else None

-- n bytes and then m
abbrev pub pair : ℕ → ℕ → List ℕ → Option (List ℕ × List ℕ)
pair n m v = if length v == n + m then Some (take n v, drop n v) else None

-- a field that has to be there
abbrev pub must : {A : Type 0} → (List ℕ → Option A) → Option (List ℕ) → Option A
must f v = bind v f

-- a field that may be there
abbrev pub may : {A : Type 0} → (List ℕ → Option A) → Option (List ℕ) → Option (Option A)
may f None = Some None
may f (Some v) = option_map Some (f v)

-- a field without a value, whose presence says it all
abbrev pub flag : Option (List ℕ) → Option Bool
flag None = Some false
flag (Some v) = if length v == 0 then Some true else None

-- one of two fields, and not both
abbrev pub either :
    {A : Type 0} → (List ℕ → Option A) → (List ℕ → Option A)
    → Option (List ℕ) → Option (List ℕ) → Option A
either f g None None = None
either f g (Some v) None = f v
either f g None (Some w) = g w
either f g (Some v) (Some w) = None

-- what holds of a value, if it is there
abbrev pub IfAny : {A : Type 0} → (A → Type 0) → Option A → Type 0
IfAny P None = Unit {0}
IfAny P (Some x) = P x

-- a value has n bytes
abbrev pub OfSize : ℕ → List ℕ → Type 0
OfSize n bs = length bs ≡ n
