-- Values by their two words.
use Rattle.std.proofs.Common.{◌≡◌, ◌≢◌, ℕ, true, false, length, refl, ap, sym, ◌∙◌, Some, None}
use Rattle.logic4.specs.Vector.{Vector, is_known, number}
use Rattle.logic4.specs.VectorWords.{AreWords, first_word, second_word, of_words-words}
use Rattle.logic4.proofs.Pairs.{is_known_at, is_unknown_at, number_at}
use Rattle.flattext.specs.Phrases.{known_number}

-- where no bit of the second word is set, all digits are known, and the first word is the number
pub known_words : (v : Vector) (words : ℕ × ℕ) → words ≡ (first_word v, second_word v) → AreWords (length v) (first_word v) (second_word v) → words.1 ≡ 0 → Some words.0 ≡ known_number v
unfolding known_number
known_words v words same kept none =
    let clear : second_word v ≡ 0 = sym (ap (λ (w : ℕ × ℕ). w.1) same) ∙ none in
    let known : is_known v ≡ true = is_known_at kept (of_words-words v) clear in
    let value : number v ≡ first_word v = number_at kept (of_words-words v) clear in
    ap (λ (w : ℕ × ℕ). Some w.0) same ∙ rw (known, value) refl

-- where one is set, a digit is unknown
pub unknown_words : (v : Vector) (words : ℕ × ℕ) → words ≡ (first_word v, second_word v) → AreWords (length v) (first_word v) (second_word v) → words.1 ≢ 0 → None ≡ known_number v
unfolding known_number
unknown_words v words same kept some =
    let set : second_word v ≢ 0 = λ none. some (ap (λ (w : ℕ × ℕ). w.1) same ∙ none) in
    let unknown : is_known v ≡ false = is_unknown_at kept (of_words-words v) set in
    rw unknown refl

pub ruleset known_values = (known_words, unknown_words)
