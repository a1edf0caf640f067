-- Lexemes of what is left complete those that were found.
use Rattle.std.proofs.Common.{◌≡◌, ℕ, ◌+◌, ◌-◌, ◌<◌, ◌≤◌, List, [], ◌∷◌, ◌++◌, length, map, take, drop, sym, ap, subst, ◌∙◌, append_assoc, length-append, take-append-drop, arith}
use Rattle.std.proofs.lemmas.List.{length-take-le}
use Rattle.locations.specs.Spots.{skip_len, Skips, here, behind}
use Rattle.diagnosis.specs.Lexemes.{PlainLexeme, lexeme_len, AreLexemes, ended, taken}
use Rattle.diagnosis.specs.declared.lexemes.Lexeme.{Lexeme}
use Rattle.diagnosis.specs.PlainLexemes.{plain_lexeme}
use Rattle.locations.proofs.Skipped.{skips_within}

skips_trans : {a b c : List ℕ} → Skips a b → Skips b c → Skips a c
skips_trans here k = k
skips_trans (behind n h s) k = behind n h (skips_trans s k)

abbrev lexeme : List ℕ → ℕ → ℕ → PlainLexeme
lexeme text begin end = record { text = text; begin = begin; end = end }

pub lexemes_behind : {text left : List ℕ} (at at' : ℕ) (ls : List PlainLexeme) → Skips text left → at' ≡ at + (length text - length left) → AreLexemes left at' ls → AreLexemes text at ls
lexemes_behind at at' ls skips is (ended k) = ended (skips_trans skips k)
lexemes_behind {text = text} {left = left} at at' ls skips is (taken {rest = rest} {ls = others} second piece k none whole some len d) =
    let w = skips_within skips in
    let v = skips_within k in
    let long : length second ≡ length piece + length rest = ap length whole ∙ length-append piece rest in
    let b : at + (length text - length second) ≡ at' + (length left - length second) = omega arith in
    let e : at + (length text - length rest) ≡ at' + (length left - length rest) = omega arith in
    let one : AreLexemes text at (lexeme piece (at + (length text - length second)) (at + (length text - length rest)) ∷ others) =
    taken second piece (skips_trans skips k) none whole some len (subst (λ n. AreLexemes rest n others) (sym e) d) in
    subst (λ n. AreLexemes text at (lexeme piece (at' + (length left - length second)) n ∷ others)) e (subst (λ n. AreLexemes text at (lexeme piece n (at + (length text - length rest)) ∷ others)) b one)

pub lexeme_more : (source left piece rest next : List ℕ) (n : ℕ) (old new : List PlainLexeme)
    → skip_len left ≡ 0 → n ≡ lexeme_len left → 0 < n → n ≤ length left → piece ≡ take n left → rest ≡ drop n left → length left ≤ length source → Skips rest next
    → new ≡ old ++ lexeme piece (length source - length left) (length source - length rest) ∷ []
    → ((ls : List PlainLexeme) → AreLexemes left (length source - length left) ls → AreLexemes source 0 (old ++ ls))
    → (ls : List PlainLexeme) → AreLexemes next (length source - length next) ls → AreLexemes source 0 (new ++ ls)
lexeme_more source left piece rest next n old new none is some fits front back within skips more whole ls d =
    let at = length source - length left in
    let w = skips_within skips in
    let parts : left ≡ piece ++ rest = rw (front, back) (sym (take-append-drop n left)) in
    let size : length piece ≡ n = ap length front ∙ length-take-le n left fits in
    let long : length left ≡ length piece + length rest = ap length parts ∙ length-append piece rest in
    let behind_rest : AreLexemes rest (length source - length rest) ls =
    lexemes_behind (length source - length rest) (length source - length next) ls skips (omega arith) d in
    let b : at + (length left - length left) ≡ at = omega arith in
    let e : at + (length left - length rest) ≡ length source - length rest = omega arith in
    let one : AreLexemes left at (lexeme piece (at + (length left - length left)) (at + (length left - length rest)) ∷ ls) =
    taken left piece here none parts (omega arith) (sym is ∙ sym size) (subst (λ m. AreLexemes rest m ls) (sym e) behind_rest) in
    let two : AreLexemes left at (lexeme piece at (length source - length rest) ∷ ls) =
    subst (λ m. AreLexemes left at (lexeme piece at m ∷ ls)) e (subst (λ m. AreLexemes left at (lexeme piece m (at + (length left - length rest)) ∷ ls)) b one) in
    let all : AreLexemes source 0 (old ++ (lexeme piece at (length source - length rest) ∷ ls)) = whole (lexeme piece at (length source - length rest) ∷ ls) two in
    let joined : old ++ (lexeme piece at (length source - length rest) ∷ ls) ≡ new ++ ls = sym (append_assoc old (lexeme piece at (length source - length rest) ∷ []) ls) ∙ ap (λ x. x ++ ls) (sym more) in
    subst (λ x. AreLexemes source 0 x) joined all

lexemes_first : (source left : List ℕ) (ls : List PlainLexeme) → Skips source left → AreLexemes left (length source - length left) ls → AreLexemes source 0 ls
lexemes_first source left ls skips d = lexemes_behind 0 (length source - length left) ls skips (omega arith) d

pub no_lexeme : (left : List ℕ) (at : ℕ) → length left ≡ 0 → AreLexemes left at []
no_lexeme [] at e = ended here
no_lexeme (b ∷ bs) at e = absurd (omega arith)

pub lexemes_start : (source left : List ℕ) (items : List Lexeme) (ls : List PlainLexeme) → items ≡ [] → Skips source left → AreLexemes left (length source - length left) ls → AreLexemes source 0 (map plain_lexeme items ++ ls)
lexemes_start source left items ls e skips d = subst (λ x. AreLexemes source 0 (map plain_lexeme x ++ ls)) (sym e) (lexemes_first source left ls skips d)
