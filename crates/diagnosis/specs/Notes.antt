-- The notes on a text.
use Rattle.std.specs.Prelude.{◌≡◌, ◌⊎◌, ℕ, List, [], ◌∷◌, true, Some, None}
use Rattle.diagnosis.specs.declared.notes.Note.{Note}
use Rattle.diagnosis.specs.Lexemes.{PlainLexeme, AreLexemes}
use Rattle.diagnosis.specs.LackedWords.{advice_of, suits}

-- A note on a lexeme: it has the lexeme's bytes, and the advice of the table where its word stands there, else one that suits it.
pub record IsNoteOf (l : PlainLexeme) (n : Note) : Type 0 where
  pub begin : n.begin ≡ l.begin
  pub end : n.end ≡ l.end
  pub advice : (advice_of l.text ≡ Some n.advice) ⊎ ((advice_of l.text ≡ None) × (suits n.advice l.text ≡ true))

-- The notes on some lexemes, in their order, at most one on each: a lexeme without a note is no word of the table.
pub data AreNotes : List PlainLexeme → List Note → Type 0 where
  ended : AreNotes [] []
  silent : {l : PlainLexeme} {ls : List PlainLexeme} {ns : List Note} → advice_of l.text ≡ None → AreNotes ls ns → AreNotes (l ∷ ls) ns
  told : {l : PlainLexeme} {ls : List PlainLexeme} {n : Note} {ns : List Note} → IsNoteOf l n → AreNotes ls ns → AreNotes (l ∷ ls) (n ∷ ns)

-- These are notes on the lexemes of a text.
pub record HasNotes (source : List ℕ) (notes : List Note) : Type 0 where
  pub lexemes : List PlainLexeme
  pub are_lexemes : AreLexemes source 0 lexemes
  pub are_notes : AreNotes lexemes notes
