-- A value in parts: what is written is read, and the reverse. Assumes nothing.
use Rattle.std.proofs.Common.{◌≡◌, ℕ, zero, suc, ◌+◌, ◌*◌, ◌/◌, ◌%◌, ◌^◌, ◌<◌, true, leb, List, [], ◌∷◌, ◌++◌, length, take, drop, Some, sym, refl, ap, ◌∙◌, subst, arith}
use Rattle.std.proofs.lemmas.Option.{cond_some, none-some}
use Rattle.std.proofs.lemmas.List.{take_at, drop_at, length-append, take-append-drop, length-take-le}
use Rattle.std.proofs.lemmas.Bool.{le-leb, leb-true}
use Rattle.wire.specs.Fields.{Bytes, two}
use Rattle.wire.specs.FieldValues.{OfSize}
use Rattle.wire.proofs.FieldLemmas.{bytes_behind}
use Rattle.records.specs.Numbers.{number, in_bytes}
use Rattle.records.specs.Parts.{Parted, parted, ByteFirst, byte_first}
use Rattle.records.proofs.NumberLemmas.{length_in_bytes, number_back, number_below}

-- what stands before some bytes is bytes
pub bytes_before : (v rest : List ℕ) → Bytes (v ++ rest) → Bytes v
bytes_before [] rest all i = omega arith
bytes_before (b ∷ v) rest all zero = all 0
bytes_before (b ∷ v) rest all (suc i) = bytes_before v rest (λ k. all (suc k)) i

-- the first n bytes, and what follows them

pub parted_there : (n : ℕ) (v rest : List ℕ) → length v ≡ n → parted n (v ++ rest) ≡ Some (record { first = v; rest = rest })
parted_there n v rest size =
    let many : leb n (length (v ++ rest)) ≡ true = le-leb _ _ (omega (arith, length-append v rest, size)) in
    rw (many, take_at v rest n size, drop_at v rest n size)

pub record IsParted (n : ℕ) (v : List ℕ) (p : Parted) : Type 0 where
  pub whole : p.first ++ p.rest ≡ v
  pub size : OfSize n p.first
  pub first : Bytes p.first
  pub rest : Bytes p.rest

pub parted_back : (n : ℕ) (v : List ℕ) (p : Parted) → Bytes v → parted n v ≡ Some p → IsParted n v p
parted_back n v p all e =
    let c = cond_some (leb n (length v)) _ p e in
    let whole : take n v ++ drop n v ≡ v = take-append-drop n v in
    let split : Bytes (take n v ++ drop n v) = subst Bytes (sym whole) all in
    subst (IsParted n v) c.1 (record {
      whole = whole;
      size = length-take-le n v (leb-true _ _ c.0);
      first = bytes_before (take n v) (drop n v) split;
      rest = bytes_behind (take n v) (drop n v) split;
    })

-- a number at the front, and what follows it

pub number_first : (k n : ℕ) (rest : List ℕ) → parted k (in_bytes k n ++ rest) ≡ Some (record { first = in_bytes k n; rest = rest })
number_first k n rest = parted_there k (in_bytes k n) rest (length_in_bytes k n)

pub number_whole : (k : ℕ) (v : List ℕ) (p : Parted) → IsParted k v p → in_bytes k (number p.first) ++ p.rest ≡ v
number_whole k v p h = ap (λ (bs : List ℕ). bs ++ p.rest) (number_back k p.first h.first h.size) ∙ h.whole

pub number_fits : (k : ℕ) (v : List ℕ) (p : Parted) → IsParted k v p → number p.first < 256 ^ k
number_fits k v p h = number_below k p.first h.first h.size

-- a number of two bytes

pub two_back : (v : List ℕ) → Bytes v → OfSize 2 v → two (number v) ≡ v
two_back [] all size = absurd (omega arith)
two_back (x ∷ []) all size = absurd (omega arith)
two_back (x ∷ y ∷ []) all size =
    let low : y < 256 = all 1 in
    let high_is : ((0 + x) * 256 + y) / 256 ≡ x = omega arith in
    let low_is : ((0 + x) * 256 + y) % 256 ≡ y = omega arith in
    λ i. high_is i ∷ low_is i ∷ []
two_back (x ∷ y ∷ z ∷ v) all size = absurd (omega arith)

-- one byte, and what follows it

pub byte_there : (b : ℕ) (rest : List ℕ) → byte_first (b ∷ rest) ≡ Some (record { byte = b; rest = rest })
byte_there b rest = let one : leb 1 (length (b ∷ rest)) ≡ true = le-leb 1 _ (omega arith) in rw one

pub record IsByteFirst (v : List ℕ) (p : ByteFirst) : Type 0 where
  pub whole : p.byte ∷ p.rest ≡ v
  pub rest : Bytes p.rest

pub byte_back : (v : List ℕ) (p : ByteFirst) → Bytes v → byte_first v ≡ Some p → IsByteFirst v p
byte_back [] p all e = absurd (none-some p e)
byte_back (b ∷ v) p all e = subst (IsByteFirst (b ∷ v)) (cond_some (leb 1 (length (b ∷ v))) (record { byte = b; rest = v }) p e).1 (record { whole = refl; rest = λ i. all (suc i) })
