-- Notes on what is left complete those that were found.
use Rattle.std.proofs.Common.{◌≡◌, ◌||◌, ◌==◌, ℕ, ◌-◌, ◌<◌, ◌≤◌, Bool, true, false, refl, List, [], ◌∷◌, ◌++◌, length, map, take, drop, get_or, arith, Option, Some, None, option_to_list, sym, ap, subst, ◌∙◌, append_assoc, append-nil, codes}
use Rattle.std.specs.Prelude.{MatchOption}
use Rattle.std.specs.Str.{bytes_eq}
use Rattle.std.proofs.lemmas.List.{take_all}
use Rattle.tokens.specs.ByteClasses.{is_letter}
use Rattle.diagnosis.specs.declared.lexemes.Lexeme.{Lexeme}
use Rattle.diagnosis.specs.PlainLexemes.{plain_lexeme}
use Rattle.diagnosis.specs.declared.notes.Note.{Note}
use Rattle.diagnosis.specs.Lexemes.{PlainLexeme, AreLexemes}
use Rattle.diagnosis.specs.LackedWords.{advice_of, first_byte, suits}
use Rattle.diagnosis.specs.declared.words.Advice.TheVariants as advice
use Rattle.diagnosis.specs.Notes.{IsNoteOf, AreNotes, HasNotes, ended, silent, told}

pub note_more : (all ls : List PlainLexeme) (l : PlainLexeme) (o : Option Note) (old new : List Note) → MatchOption o (advice_of l.text ≡ None) (IsNoteOf l) → new ≡ old ++ option_to_list o
    → ((ns : List Note) → AreNotes (l ∷ ls) ns → AreNotes all (old ++ ns)) → (ns : List Note) → AreNotes ls ns → AreNotes all (new ++ ns)
note_more all ls l None old new is more whole ns d = subst (λ x. AreNotes all (x ++ ns)) (sym (more ∙ append-nil old)) (whole ns (silent is d))
note_more all ls l (Some n) old new is more whole ns d =
    subst (λ x. AreNotes all x) (sym (append_assoc old (n ∷ []) ns) ∙ ap (λ x. x ++ ns) (sym more)) (whole (n ∷ ns) (told is d))

pub note_front : (all : List PlainLexeme) (xs : List Lexeme) (d : Lexeme) (o : Option Note) (old new : List Note) → 1 ≤ length xs
    → MatchOption o (advice_of (plain_lexeme (get_or xs 0 d)).text ≡ None) (IsNoteOf (plain_lexeme (get_or xs 0 d))) → new ≡ old ++ option_to_list o
    → ((ns : List Note) → AreNotes (map plain_lexeme xs) ns → AreNotes all (old ++ ns)) → (ns : List Note) → AreNotes (map plain_lexeme (take (length xs - 1) (drop 1 xs))) ns → AreNotes all (new ++ ns)
note_front all [] d o old new some is more whole ns h = absurd (omega arith)
note_front all (x ∷ xs) d o old new some is more whole ns h =
    let short : length xs ≤ length (x ∷ xs) - 1 = omega arith in
    note_more all (map plain_lexeme xs) (plain_lexeme x) o old new is more whole ns (subst (λ ys. AreNotes (map plain_lexeme ys) ns) (take_all (length (x ∷ xs) - 1) xs short) h)

pub notes_end : (source : List ℕ) (items slice left : List Lexeme) (notes : List Note) → AreLexemes source 0 (map plain_lexeme items) → slice ≡ items → length left < 1
    → ((ns : List Note) → AreNotes (map plain_lexeme left) ns → AreNotes (map plain_lexeme slice) (notes ++ ns)) → HasNotes source notes
notes_end source items slice [] notes are same none whole = record {
  lexemes = map plain_lexeme slice;
  are_lexemes = subst (λ x. AreLexemes source 0 (map plain_lexeme x)) (sym same) are;
  are_notes = subst (λ x. AreNotes (map plain_lexeme slice) x) (append-nil notes) (whole [] ended);
}
notes_end source items slice (x ∷ xs) notes are same none whole = absurd (omega arith)

or_second : (a b : Bool) → b ≡ true → (a || b) ≡ true
or_second true b h = refl
or_second false b h = h

-- a second module has the advice of one module
pub suits_module : (text : List ℕ) → bytes_eq text (codes "module") ≡ true → suits advice.OneModule text ≡ true
suits_module text is =
    let first = first_byte text in
    let named = bytes_eq text (codes "module") in
    or_second (is_letter first) (first == 46 || (first == 40 || named)) (or_second (first == 46) (first == 40 || named) (or_second (first == 40) named is))
