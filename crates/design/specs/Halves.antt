-- The halves of a word of 128 bits, and a vector whose two words stand in halves.
use Rattle.std.specs.Prelude.{◌≡◌, ℕ, ◌+◌, ◌*◌, ◌/◌, ◌%◌, ◌^◌, ◌<◌, ◌≤◌, length}
use Rattle.std.proofs.Common.{arith, ◌∙◌}
use Rattle.logic4.specs.Vector.{Vector}
use Rattle.logic4.specs.VectorWords.{AreWords, of_words, first_word, second_word, length-of_words, first_word-of_words, second_word-of_words}
use Rattle.design.specs.declared.packed_bits.PackedBits.TheInside.{Inside}

-- the word that has these halves
abbrev pub joined_halves : ℕ → ℕ → ℕ
joined_halves low high = high * 2 ^ 64 + low

-- the word that has a pair of halves, the low one first
abbrev pub word_of : ℕ × ℕ → ℕ
word_of halves = joined_halves halves.0 halves.1

-- the vector in them
abbrev pub vector_in : Inside → Vector
vector_in s = of_words s.width (word_of s.a) (word_of s.b)

-- they hold a vector, and the low ones are halves
pub record HoldsVector (s : Inside) : Type 0 where
  pub words : AreWords s.width (word_of s.a) (word_of s.b)
  pub a_low : s.a.0 < 2 ^ 64
  pub b_low : s.b.0 < 2 ^ 64

-- the halves of a vector
abbrev pub halves_of : Vector → Inside
halves_of v = record {
  width = length v;
  a = (first_word v % 2 ^ 64, first_word v / 2 ^ 64);
  b = (second_word v % 2 ^ 64, second_word v / 2 ^ 64);
}

-- the low half of a joined word
low_of : (low high n : ℕ) → low < 2 ^ 64 → n ≡ joined_halves low high → n % 2 ^ 64 ≡ low
low_of low high n h e = omega arith

-- the high half of a joined word
high_of : (low high n : ℕ) → low < 2 ^ 64 → n ≡ joined_halves low high → n / 2 ^ 64 ≡ high
high_of low high n h e = omega arith

-- a vector in halves has these halves
pub halves_of-vector_in : (s : Inside) → HoldsVector s → halves_of (vector_in s) ≡ s
halves_of-vector_in s h =
    let first = first_word-of_words s.width (word_of s.a) (word_of s.b) h.words.first in
    let second = second_word-of_words s.width (word_of s.a) (word_of s.b) h.words.second in
    λ i. record {
      width = length-of_words s.width (word_of s.a) (word_of s.b) i;
      a = (low_of s.a.0 s.a.1 _ h.a_low first i, high_of s.a.0 s.a.1 _ h.a_low first i);
      b = (low_of s.b.0 s.b.1 _ h.b_low second i, high_of s.b.0 s.b.1 _ h.b_low second i);
    }
