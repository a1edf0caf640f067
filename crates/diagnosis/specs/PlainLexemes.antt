-- What the lexemes of the program stand for.
use Rattle.diagnosis.specs.declared.lexemes.Lexeme.{Lexeme}
use Rattle.diagnosis.specs.Lexemes.{PlainLexeme}

-- The bytes of the lexeme, and its ends.
abbrev pub plain_lexeme : Lexeme → PlainLexeme
plain_lexeme l = record { text = l.text.now; begin = l.begin; end = l.end }
