-- An operator's layer over an algorithm.
use Rattle.std.specs.Prelude.{ℕ, List, [], ◌∷◌, bit_xor}
use Rattle.algorithm.specs.Meaning.{Meaning, IsSized}

-- a challenge changed by a mask, byte by byte by exclusive or, as far as both go: a shorter challenge uses the mask's
-- first bytes, and of a longer one the bytes beyond the mask stay
abbrev pub masked : List ℕ → List ℕ → List ℕ
masked [] mask = []
masked (c ∷ cs) [] = c ∷ cs
masked (c ∷ cs) (o ∷ os) = bit_xor c o ∷ masked cs os

-- number and session of the algorithm below, and its response to the changed challenge
abbrev pub layered : Meaning → List ℕ → Meaning
layered m mask = record {
  number = m.number;
  session = m.session;
  response = λ session challenge. m.response session (masked challenge mask);
}

-- what a layer answers has its size
pub layer_is_sized : {m : Meaning} (mask : List ℕ) → IsSized m → IsSized (layered m mask)
layer_is_sized mask sized = record {
  number = sized.number;
  session = sized.session;
  response = λ session challenge s. sized.response session (masked challenge mask) s;
}
