-- A cut, piece by piece.
use Rattle.std.proofs.Common.{◌≡◌, ℕ, ◌+◌, ◌-◌, ◌<◌, ◌≤◌, List, [], ◌∷◌, ◌++◌, length, take, drop, Bool, true, false, All, inl, inr, refl, sym, ap, subst, ◌∙◌, append_assoc, append-nil, length-append, take-append-drop, get_or, arith}
use Rattle.std.proofs.Math.Seq.{take-append_seam, drop-append_seam}
use Rattle.lexemes.specs.declared.token.VerilogLexeme.{VerilogLexeme}
use Rattle.std.proofs.lemmas.List.Elements.{All-nil, All-push, All-append}
use Rattle.lexemes.specs.Kinds.{is_blank_piece, lexeme_kind, after_piece}
use Rattle.lexemes.specs.Lexing.{IsLongestPiece, is_half_comment, lexemes_of, IsCutInto, ended, next, LexicalCause, stray, unfinished_string, unfinished_comment, cause_by_first, StopsCut, no_piece, half, later}
use Rattle.lexemes.specs.Lengths.{next_len}
use Rattle.lexemes.specs.Places.{TellsStop, lexical_fault, LiesIn}
use Rattle.lexemes.proofs.Steps.{true_or_false}
use Rattle.lexemes.proofs.Longest.{long_after, next_is, no_next}

pub next_at : (after : Bool) (left piece rest : List ℕ) (n : ℕ) → next_len after left ≡ n → 0 < n → n ≤ length left → piece ≡ take n left → rest ≡ drop n left → IsLongestPiece after piece rest
next_at after left piece rest n e w within p r = rw (p, r) (next_is after left n e w within)

pub parts : (left piece rest : List ℕ) (n : ℕ) → piece ≡ take n left → rest ≡ drop n left → left ≡ piece ++ rest
parts left piece rest n p r = rw (p, r) (sym (take-append-drop n left))

-- with a cut of what is left all is cut
abbrev pub Cuts : ℕ → List ℕ → List ℕ → Bool → List VerilogLexeme → Type 0
Cuts file text left after found = (ts : List VerilogLexeme) → IsCutInto file (length text - length left) after left ts → IsCutInto file 0 false text (found ++ ts)

-- where the cut of what is left stops, that of all does
abbrev pub StopsToo : List ℕ → List ℕ → Bool → Type 0
StopsToo text left after = (cause : LexicalCause) (n : ℕ) → StopsCut after left cause n → StopsCut false text cause ((length text - length left) + n)

pub cut_more : (file : ℕ) (text left piece rest : List ℕ) (after then_after : Bool) (old new : List VerilogLexeme) → length left ≤ length text → left ≡ piece ++ rest → IsLongestPiece after piece rest
    → is_half_comment piece rest ≡ false → then_after ≡ after_piece after piece → new ≡ old ++ lexemes_of file (length text - length left) after piece → Cuts file text left after old
    → Cuts file text rest then_after new
cut_more file text left piece rest after then_after old new within is n whole stays more before ts d =
    let begin : ℕ = length text - length left in
    let long : length left ≡ length piece + length rest = ap length is ∙ length-append piece rest in
    let e : length text - length rest ≡ begin + length piece = omega arith in
    let back : IsCutInto file (begin + length piece) (after_piece after piece) rest ts = subst (λ a. IsCutInto file (begin + length piece) a rest ts) stays (subst (λ m. IsCutInto file m then_after rest ts) e d) in
    let one : IsCutInto file begin after (piece ++ rest) (lexemes_of file begin after piece ++ ts) = next n whole back in
    let all_bytes : IsCutInto file begin after left (lexemes_of file begin after piece ++ ts) = subst (λ l. IsCutInto file begin after l (lexemes_of file begin after piece ++ ts)) (sym is) one in
    let joined : new ++ ts ≡ old ++ (lexemes_of file begin after piece ++ ts) = ap (λ l. l ++ ts) more ∙ append_assoc old (lexemes_of file begin after piece) ts in
    subst (IsCutInto file 0 false text) (sym joined) (before (lexemes_of file begin after piece ++ ts) all_bytes)

pub stops_more : (text left piece rest : List ℕ) (after then_after : Bool) → left ≡ piece ++ rest → length left ≤ length text → IsLongestPiece after piece rest → is_half_comment piece rest ≡ false
    → then_after ≡ after_piece after piece → StopsToo text left after → StopsToo text rest then_after
stops_more text left piece rest after then_after is within nx whole stays before cause n d =
    let long : length left ≡ length piece + length rest = ap length is ∙ length-append piece rest in
    let e : (length text - length left) + (length piece + n) ≡ (length text - length rest) + n = omega arith in
    let back : StopsCut (after_piece after piece) rest cause n = subst (λ a. StopsCut a rest cause n) stays d in
    let one : StopsCut after left cause (length piece + n) = subst (λ l. StopsCut after l cause (length piece + n)) (sym is) (later nx whole back) in
    subst (StopsCut false text cause) e (before cause (length piece + n) one)

stop_at : (text left : List ℕ) (after : Bool) (cause : LexicalCause) (place : ℕ) → place ≡ length text - length left → StopsToo text left after → StopsCut after left cause 0 → StopsCut false text cause place
stop_at text left after cause place is before d = let e : (length text - length left) + 0 ≡ place = omega arith in subst (StopsCut false text cause) e (before cause 0 d)

tells : (text : List ℕ) (cause : LexicalCause) (place : ℕ) → StopsCut false text cause place → TellsStop text (lexical_fault cause place)
tells text stray place d = d
tells text unfinished_string place d = d
tells text unfinished_comment place d = d

pub stop_here : (text left : List ℕ) (after : Bool) → 1 ≤ length left → next_len after left ≡ 0 → StopsToo text left after
    → TellsStop text (lexical_fault (cause_by_first (get_or left 0 0)) (length text - length left))
stop_here text [] after some none before = absurd (omega arith)
stop_here text (b ∷ bs) after some none before =
    let d : StopsCut after (b ∷ bs) (cause_by_first b) 0 = no_piece {after = after} {b = b} {text = bs} (no_next after (b ∷ bs) none) in
    tells text (cause_by_first b) (length text - length (b ∷ bs)) (stop_at text (b ∷ bs) after (cause_by_first b) (length text - length (b ∷ bs)) refl before d)

pub stop_comment : (text left piece rest : List ℕ) (after : Bool) → left ≡ piece ++ rest → IsLongestPiece after piece rest → is_half_comment piece rest ≡ true
    → StopsToo text left after → StopsCut false text unfinished_comment (length text - length left)
stop_comment text left piece rest after is n h before = stop_at text left after unfinished_comment (length text - length left) refl before (rw is (half n h))

pub lies_more : (file begin within : ℕ) (after : Bool) (piece : List ℕ) (old new : List VerilogLexeme) → 0 < length piece → begin + length piece ≤ within → new ≡ old ++ lexemes_of file begin after piece
    → All (LiesIn file within) old → All (LiesIn file within) new
lies_more file begin within after piece old new some ends more before =
    let one : LiesIn file within (record { kind = lexeme_kind after piece; span = record { file = file; begin = begin; length = length piece } }) = record { same_file = refl; some = some; ends = ends } in
    let last : All (LiesIn file within) (lexemes_of file begin after piece) = elim (true_or_false (is_blank_piece piece)) [
      | inl h ↦ rw h (All-nil (LiesIn file within))
      | inr h ↦ rw h (All-push (LiesIn file within) [] _ (All-nil (LiesIn file within)) one)
    ] in
    rw more (All-append (LiesIn file within) old _ before last)

pub cut_all : (file : ℕ) (text left : List ℕ) (after : Bool) (found : List VerilogLexeme) → length left < 1 → Cuts file text left after found → IsCutInto file 0 false text found
cut_all file text [] after found is before = rw append-nil at (before [] ended)
cut_all file text (b ∷ left) after found is before = absurd (omega arith)

-- ---- where a cut stops

pub stops_within : {after : Bool} {text : List ℕ} {cause : LexicalCause} {n : ℕ} → StopsCut after text cause n → n < length text
stops_within (no_piece f) = omega arith
stops_within (half {piece = p} {rest = r} n h) = let a = long_after n.is_piece in omega (arith, length-append p r)
stops_within (later {piece = p} {rest = r} n h d) = let a = stops_within d in omega (arith, length-append p r)

-- ---- one cut alone

next_once : (after : Bool) (p r q s : List ℕ) → IsLongestPiece after p r → IsLongestPiece after q s → p ++ r ≡ q ++ s → (p ≡ q) × (r ≡ s)
next_once after p r q s np nq same =
    let a = nq.longest p r same np.is_piece in
    let b = np.longest q s (sym same) nq.is_piece in
    let e : length p ≡ length q = omega arith in (
      sym (take-append_seam p r) ∙ ap (take (length p)) same ∙ ap (λ n. take n (q ++ s)) e ∙ take-append_seam q s,
      sym (drop-append_seam p r) ∙ ap (drop (length p)) same ∙ ap (λ n. drop n (q ++ s)) e ∙ drop-append_seam q s,
    )

not_empty : (after : Bool) (p r : List ℕ) → IsLongestPiece after p r → [] ≡ p ++ r → ⊥
not_empty after p r n same = let a = long_after n.is_piece in omega (arith, ap length same, length-append p r)

pub cut_once : {file begin : ℕ} {after : Bool} {a b : List ℕ} {ts us : List VerilogLexeme} → IsCutInto file begin after a ts → a ≡ b → IsCutInto file begin after b us → ts ≡ us
cut_once ended same ended = refl
cut_once ended same (next {after = t} {piece = q} {rest = s} n h d) = absurd (not_empty t q s n same)
cut_once (next {after = t} {piece = p} {rest = r} n h d) same ended = absurd (not_empty t p r n (sym same))
cut_once (next {file = f} {begin = m} {after = t} {piece = p} {rest = r} {ts = ts} n h d) same (next {piece = q} {rest = s} {ts = us} k l e) =
    let w = next_once t p r q s n k same in
    let back : IsCutInto f (m + length p) (after_piece t p) s us = subst (λ x. IsCutInto f (m + length x) (after_piece t x) s us) (sym w.0) e in
    let y = cut_once d w.1 back in
    rw (w.0, y)
