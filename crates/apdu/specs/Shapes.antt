-- Rows of fields whose tags rise strictly, where each field may be absent.
use Rattle.std.specs.Prelude.{ℕ, List, [], ◌∷◌, ◌++◌, None, Option, slice_index_or, if◌then◌else◌}
use Rattle.wire.specs.Fields.{value, after, is_nothing, optional_field}

-- the values of a row, one for each tag, None where the field is absent
abbrev pub values : List ℕ → List ℕ → List (Option (List ℕ))
values [] bs = []
values (t ∷ ts) bs = value t bs ∷ values ts (after t bs)

-- what follows the row
abbrev pub behind : List ℕ → List ℕ → List ℕ
behind [] bs = bs
behind (t ∷ ts) bs = behind ts (after t bs)

-- a row as it is written
abbrev pub row_bytes : List ℕ → List (Option (List ℕ)) → List ℕ
row_bytes [] vs = []
row_bytes (t ∷ ts) [] = []
row_bytes (t ∷ ts) (v ∷ vs) = optional_field t v ++ row_bytes ts vs

-- the value in a place of the row
abbrev pub at : List (Option (List ℕ)) → ℕ → Option (List ℕ)
at vs place = slice_index_or vs place None

-- How fields make one value of a type, as data: their tags in rising order, what it is by their
-- values, and the values that it has. Reading and writing both go by it.
pub record Shape (B : Type 0) : Type 0 where
  pub tags : List ℕ
  pub from_values : List (Option (List ℕ)) → Option B
  pub values_of : B → List (Option (List ℕ))

-- the most bytes that a value of one of the shapes takes: an algorithm number, and a session with its tag and length
abbrev pub shape_room : ℕ
shape_room = 31

-- what some bytes say, where they are a row of this shape and nothing more
abbrev pub shaped : {B : Type 0} → Shape B → List ℕ → Option B
shaped s bs = if is_nothing (behind s.tags bs) then s.from_values (values s.tags bs) else None

-- x as a row
abbrev pub shape_bytes : {B : Type 0} → Shape B → B → List ℕ
shape_bytes s x = row_bytes s.tags (s.values_of x)
