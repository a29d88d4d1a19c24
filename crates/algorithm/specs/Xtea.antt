-- XTEA (Needham and Wheeler 1997) with 32 cycles, and the algorithm over it.
use Rattle.std.specs.Prelude.{ℕ, zero, suc, ◌+◌, List, ◌++◌, take, bit_and, bit_xor, slice_index, slice_set, refl}
use Rattle.std.proofs.Common.{lit<}
use Rattle.values.specs.Sizes.{response_size}
use Rattle.algorithm.specs.declared.direction.Direction.{Direction}
use Rattle.algorithm.specs.declared.xtea.Work.{Work}
use Rattle.algorithm.specs.Direction.{direction_number}
use Rattle.algorithm.specs.Meaning.{Meaning, IsSized}
use Rattle.algorithm.specs.Words.{wrapping_sum, shifted_left, shifted_right, key_words, start, block_of}

-- the number of the algorithm
abbrev pub xtea_number : ℕ
xtea_number = 1

-- how many cycles a block goes through
abbrev pub cycle_count : ℕ
cycle_count = 32

-- what a cycle adds to the running sum
abbrev pub delta : ℕ
delta = 0x9E3779B9

-- ((v << 4) ^ (v >> 5)) + v
abbrev pub mixed : ℕ → ℕ
mixed v = wrapping_sum (bit_xor (shifted_left v 4) (shifted_right v 5)) v

-- sum + key[choice & 3]
abbrev pub with_key_word : List ℕ → ℕ → ℕ → ℕ
with_key_word key sum choice = wrapping_sum sum (slice_index key (bit_and choice 3))

-- one cycle; as it was published:
--   v0 += (((v1 << 4) ^ (v1 >> 5)) + v1) ^ (sum + key[sum & 3])
--   sum += delta
--   v1 += (((v0 << 4) ^ (v0 >> 5)) + v0) ^ (sum + key[(sum >> 11) & 3])
abbrev pub cycle : List ℕ → Work → Work
cycle key work =
    let v0 : ℕ =
    wrapping_sum work.v0 (bit_xor (mixed work.v1) (with_key_word key work.sum work.sum)) in
    let sum : ℕ = wrapping_sum work.sum delta in
    let v1 : ℕ =
    wrapping_sum work.v1 (bit_xor (mixed v0) (with_key_word key sum (shifted_right sum 11))) in
    record { v0 = v0; v1 = v1; sum = sum }

-- n cycles
unfoldable pub cycles : List ℕ → ℕ → Work → Work
cycles key zero work = work
cycles key (suc n) work = cycle key (cycles key n work)

-- E(key, block)
unfoldable pub enciphered : List ℕ → List ℕ → List ℕ
enciphered key block = block_of (cycles (key_words key) cycle_count (start block))

-- the last of the eight bytes of a parameter changed by exclusive or
abbrev pub last_changed : List ℕ → ℕ → List ℕ
last_changed parameter by = slice_set parameter 7 (bit_xor (slice_index parameter 7) by)

-- two blocks: the parameter enciphered twice, its last byte changed by the direction's number
abbrev pub xtea_session : Direction → List ℕ → List ℕ → List ℕ
xtea_session d key parameter =
    enciphered key (last_changed parameter (direction_number d))
    ++ enciphered key (last_changed parameter (direction_number d + 2))

-- the first bytes of the challenge, enciphered
abbrev pub xtea_response : List ℕ → List ℕ → List ℕ
xtea_response session challenge = take response_size (enciphered session challenge)

-- what the algorithm means
abbrev pub xtea_meaning : Meaning
xtea_meaning = record { number = xtea_number; session = xtea_session; response = xtea_response }

-- what it answers has its size
pub xtea_is_sized : IsSized xtea_meaning
unfolding enciphered
xtea_is_sized = record { number = lit< tt; session = λ d k p _ _. refl; response = λ s c _. refl }
