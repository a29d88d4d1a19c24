-- What a writer has written.
use Rattle.std.specs.Prelude.{◌≡◌, ℕ, ◌+◌, ◌≤◌, List, ◌++◌, length, take, drop}
use Rattle.wire.specs.declared.writer.Writer.{Writer}

-- xs with bs written at its front
abbrev pub front : List ℕ → List ℕ → List ℕ
front bs xs = bs ++ drop (length bs) xs

-- how many bytes are written
abbrev pub count_of : Writer → ℕ
count_of w = w.at

-- the buffer that is lent
abbrev pub buffer_of : Writer → List ℕ
buffer_of w = w.out.now

-- the ghost name of the reference by which it is lent
abbrev pub lender_of : Writer → ℕ
lender_of w = w.out.ghost_name

-- there are places for n more bytes
abbrev pub HasRoom : Writer → ℕ → Type 0
HasRoom w n = count_of w + n ≤ length (buffer_of w)

-- two writers go on in one buffer
abbrev pub InOneBuffer : Writer → Writer → Type 0
InOneBuffer w v = lender_of v ≡ lender_of w

-- what stands before the place of the next field
unfoldable pub written : Writer → List ℕ
written w = take w.at w.out.now

-- what stands from that place on
unfoldable pub unwritten : Writer → List ℕ
unwritten w = drop w.at w.out.now

-- bs was written where the writer w stood, which left the writer v
pub record Wrote (w : Writer) (bs : List ℕ) (v : Writer) : Type 0 where
  pub before : written v ≡ written w ++ bs
  pub behind : unwritten v ≡ drop (length bs) (unwritten w)
  pub end : v.at ≡ w.at + length bs
  pub size : length v.out.now ≡ length w.out.now
