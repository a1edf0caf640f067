-- A cut, piece by piece; and no text has two cuts, or a cut and a place where the cut stops.
use Rattle.std.proofs.Common.{◌≡◌, ◌==◌, ℕ, ◌+◌, ◌-◌, ◌<◌, ◌≤◌, List, [], ◌∷◌, ◌++◌, length, take, drop, Bool, true, false, not, Option, Some, None, option_map, refl, sym, ap, subst, ◌∙◌, append_assoc, append-nil, length-append, take-append-drop, arith}
use Rattle.std.specs.Option.{is_some}
use Rattle.std.proofs.Math.Seq.{take-append_seam, drop-append_seam}
use Rattle.std.proofs.lemmas.Bool.Decides.{nat_tests}
use Rattle.tokens.specs.Tokens.{PlainTokens}
use Rattle.tokens.specs.Literals.{LiteralValue, literal_value_of, literal_value_or_none, token_value, token_digits}
use Rattle.tokens.specs.Lexing.{IsNext, is_skipped, kind_of, tokens_of_piece, Cut, ended, next, CutCause, stray, bad_number, Stops, no_piece, no_value, later}
use Rattle.tokens.specs.Lengths.{AddsTokens, piece_len}
use Rattle.tokens.proofs.Longest.{long, next_is, no_next}

some_literal_value : (o : Option LiteralValue) (none : Bool) → is_some o ≡ not none → none ≡ false → o ≡ Some (literal_value_or_none o)
some_literal_value None none test some = absurd (let e : false ≡ true = test ∙ ap not some in cc)
some_literal_value (Some w) none test some = refl

pub reading_one : (piece : List ℕ) (o : Option LiteralValue) (none : Bool) → is_skipped piece ≡ false → o ≡ literal_value_of piece → is_some o ≡ not none → none ≡ false
    → tokens_of_piece piece ≡ Some (record { kind = kind_of piece; text = piece; value = token_value piece; bits = token_digits piece } ∷ [])
unfolding tokens_of_piece token_value token_digits
reading_one piece o none shown is test some =
    let one = λ (w : LiteralValue). record { kind = kind_of piece; text = piece; value = w.0; bits = w.1 } ∷ [] in
    let h : literal_value_of piece ≡ Some (literal_value_or_none (literal_value_of piece)) = some_literal_value (literal_value_of piece) none (ap is_some (sym is) ∙ test) some in
    rw shown (ap (option_map one) h)

no_literal_value : (o : Option LiteralValue) → is_some o ≡ false → o ≡ None
no_literal_value None none = refl
no_literal_value (Some w) none = absurd (cc)

pub reading_none : (piece : List ℕ) (bad : Bool) → is_skipped piece ≡ false → is_some (literal_value_of piece) ≡ not bad → bad ≡ true → tokens_of_piece piece ≡ None
unfolding tokens_of_piece
reading_none piece bad shown test is =
    let one = λ (w : LiteralValue). record { kind = kind_of piece; text = piece; value = w.0; bits = w.1 } ∷ [] in
    rw shown (ap (option_map one) (no_literal_value (literal_value_of piece) (test ∙ ap not is)))

pub added : (piece : List ℕ) (old : PlainTokens) (read : Bool) (new : PlainTokens) → read ≡ true → AddsTokens piece old read new → (us : PlainTokens) × (tokens_of_piece piece ≡ Some us) × (new ≡ old ++ us)
added piece old true new is h = h
added piece old false new is h = absurd (cc)

pub not_added : (piece : List ℕ) (old : PlainTokens) (read : Bool) (new : PlainTokens) → read ≡ false → AddsTokens piece old read new → tokens_of_piece piece ≡ None
not_added piece old true new is h = absurd (cc)
not_added piece old false new is h = h

pub next_at : (left piece rest : List ℕ) (n : ℕ) → piece_len left ≡ n → 0 < n → n ≤ length left → piece ≡ take n left → rest ≡ drop n left → IsNext piece rest
next_at left piece rest n e w within p r = rw (p, r) (next_is left n e w within)

pub parts : (left piece rest : List ℕ) (n : ℕ) → piece ≡ take n left → rest ≡ drop n left → left ≡ piece ++ rest
parts left piece rest n p r = rw (p, r) (sym (take-append-drop n left))

pub cut_more : (text left piece rest : List ℕ) (old new us : PlainTokens) → left ≡ piece ++ rest → IsNext piece rest → tokens_of_piece piece ≡ Some us → new ≡ old ++ us
    → ((ts : PlainTokens) → Cut left ts → Cut text (old ++ ts)) → (ts : PlainTokens) → Cut rest ts → Cut text (new ++ ts)
cut_more text left piece rest old new us is n read more before ts d = rw (more, append_assoc) (before (us ++ ts) (rw is (next n read d)))

pub stops_more : (text left piece rest : List ℕ) (us : PlainTokens) → left ≡ piece ++ rest → length left ≤ length text → IsNext piece rest → tokens_of_piece piece ≡ Some us
    → ((cause : CutCause) (n : ℕ) → Stops left cause n → Stops text cause ((length text - length left) + n)) → (cause : CutCause) (n : ℕ) → Stops rest cause n → Stops text cause ((length text - length rest) + n)
stops_more text left piece rest us is within nx read before cause n d =
    let long : length left ≡ length piece + length rest = ap length is ∙ length-append piece rest in
    let e : (length text - length left) + (length piece + n) ≡ (length text - length rest) + n = omega arith in
    subst (Stops text cause) e (before cause (length piece + n) (rw is (later nx read d)))

pub stop_here : (left : List ℕ) → false ≡ (length left == 0) → piece_len left ≡ 0 → Stops left stray 0
stop_here [] some none = absurd (cc)
stop_here (b ∷ bs) some none = no_piece (no_next (b ∷ bs) none)

pub stop_value : (left piece rest : List ℕ) → left ≡ piece ++ rest → IsNext piece rest → tokens_of_piece piece ≡ None → Stops left bad_number 0
stop_value left piece rest is n read = rw is (no_value n read)

pub stop_at : (text left : List ℕ) (cause : CutCause) (place : ℕ) → place ≡ length text - length left → ((cause : CutCause) (n : ℕ) → Stops left cause n → Stops text cause ((length text - length left) + n)) → Stops left cause 0 → Stops text cause place
stop_at text left cause place is before d = let e : (length text - length left) + 0 ≡ place = omega arith in subst (Stops text cause) e (before cause 0 d)

pub cut_all : (text left : List ℕ) (found : PlainTokens) → true ≡ (length left == 0) → ((ts : PlainTokens) → Cut left ts → Cut text (found ++ ts)) → Cut text found
cut_all text [] found is before = rw append-nil at (before [] ended)
cut_all text (b ∷ left) found is before = absurd (let q : length (b ∷ left) ≡ 0 = grind (arith, nat_tests) in omega arith)

-- ---- one cut alone

next_once : (p r q s : List ℕ) → IsNext p r → IsNext q s → p ++ r ≡ q ++ s → (p ≡ q) × (r ≡ s)
next_once p r q s np nq same =
    let a = nq.longest p r same np.is_piece in
    let b = np.longest q s (sym same) nq.is_piece in
    let e : length p ≡ length q = omega arith in (
      sym (take-append_seam p r) ∙ ap (take (length p)) same ∙ ap (λ n. take n (q ++ s)) e ∙ take-append_seam q s,
      sym (drop-append_seam p r) ∙ ap (drop (length p)) same ∙ ap (λ n. drop n (q ++ s)) e ∙ drop-append_seam q s,
    )

not_empty : (p r : List ℕ) → IsNext p r → [] ≡ p ++ r → ⊥
not_empty p r n same = let a = long n.is_piece in omega (arith, ap length same, length-append p r)

some_same : (us vs : PlainTokens) → Some us ≡ Some vs → us ≡ vs
some_same us vs h = cc

pub cut_once : {a b : List ℕ} {ts us : PlainTokens} → Cut a ts → a ≡ b → Cut b us → ts ≡ us
cut_once ended same ended = refl
cut_once ended same (next {piece = q} {rest = s} n h d) = absurd (not_empty q s n same)
cut_once (next {piece = p} {rest = r} n h d) same ended = absurd (not_empty p r n (sym same))
cut_once (next {piece = p} {rest = r} {us = vs} {ts = ts} n h d) same (next {piece = q} {rest = s} {us = ws} {ts = us} m k e) =
    let w = next_once p r q s n m same in
    let x = some_same vs ws (sym h ∙ ap tokens_of_piece w.0 ∙ k) in
    let y = cut_once d w.1 e in
    rw (x, y)

pub cut_or_stops : {a b : List ℕ} {ts : PlainTokens} {cause : CutCause} {n : ℕ} → Cut a ts → a ≡ b → Stops b cause n → ⊥
cut_or_stops ended same (no_piece f) = cc
cut_or_stops ended same (no_value {piece = q} {rest = s} m k) = not_empty q s m same
cut_or_stops ended same (later {piece = q} {rest = s} m k e) = not_empty q s m same
cut_or_stops (next {piece = p} {rest = r} n h d) same (no_piece f) = f p r same n.is_piece
cut_or_stops (next {piece = p} {rest = r} n h d) same (no_value {piece = q} {rest = s} m k) =
    let w = next_once p r q s n m same in let x = sym h ∙ ap tokens_of_piece w.0 ∙ k in cc
cut_or_stops (next {piece = p} {rest = r} n h d) same (later {piece = q} {rest = s} m k e) =
    let w = next_once p r q s n m same in cut_or_stops d w.1 e

-- one cause and one place
pub stops_once : {a b : List ℕ} {c d : CutCause} {m n : ℕ} → Stops a c m → a ≡ b → Stops b d n → (c ≡ d) × (m ≡ n)
stops_once (no_piece f) same (no_piece g) = (refl, refl)
stops_once (no_piece f) same (no_value {piece = q} {rest = s} m k) = absurd (f q s (sym same) m.is_piece)
stops_once (no_piece f) same (later {piece = q} {rest = s} m k e) = absurd (f q s (sym same) m.is_piece)
stops_once (no_value {piece = p} {rest = r} n h) same (no_piece g) = absurd (g p r same n.is_piece)
stops_once (no_value {piece = p} {rest = r} n h) same (no_value m k) = (refl, refl)
stops_once (no_value {piece = p} {rest = r} n h) same (later {piece = q} {rest = s} m k e) =
    let w = next_once p r q s n m same in let x = sym h ∙ ap tokens_of_piece w.0 ∙ k in absurd (cc)
stops_once (later {piece = p} {rest = r} n h d) same (no_piece g) = absurd (g p r same n.is_piece)
stops_once (later {piece = p} {rest = r} n h d) same (no_value {piece = q} {rest = s} m k) =
    let w = next_once p r q s n m same in let x = sym h ∙ ap tokens_of_piece w.0 ∙ k in absurd (cc)
stops_once (later {piece = p} {rest = r} n h d) same (later {piece = q} {rest = s} m k e) =
    let w = next_once p r q s n m same in let y = stops_once d w.1 e in let z = y.1 in (y.0, rw (w.0, z))
