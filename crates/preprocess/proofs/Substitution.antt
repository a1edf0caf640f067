-- A text with arguments put in, piece by piece from its last on.
use Rattle.std.proofs.Common.{◌≡◌, ℕ, suc, ◌-◌, ◌<◌, ◌≤◌, List, [], ◌∷◌, ◌++◌, length, take, map, reverse, refl, sym, ap, ◌∙◌, append_assoc, append-nil, arith}
use Rattle.std.proofs.Math.ListN.{get_or}
use Rattle.std.proofs.Math.Seq.{take-suc, take-length}
use Rattle.std.proofs.lemmas.List.{reverse-append, map-append}
use Rattle.preprocess.specs.declared.work.Origin.{Origin}
use Rattle.preprocess.specs.declared.work.PendingPiece.{PendingPiece}
use Rattle.preprocess.specs.declared.work.BodyPiece.{BodyPiece}
use Rattle.preprocess.specs.declared.uses.ArgumentSpan.{ArgumentSpan}
use Rattle.preprocess.specs.Macros.{substituted_piece, substituted, from_argument}

substituted-append : (pieces : List PendingPiece) (spans : List ArgumentSpan) (origin : Origin) (text more : List BodyPiece)
    → substituted pieces spans origin (text ++ more) ≡ substituted pieces spans origin text ++ substituted pieces spans origin more
substituted-append pieces spans origin [] more = refl
substituted-append pieces spans origin (piece ∷ text) more =
    ap (λ x. substituted_piece pieces spans origin piece ++ x) (substituted-append pieces spans origin text more) ∙ sym (append_assoc (substituted_piece pieces spans origin piece) _ _)

substituted-one : (pieces : List PendingPiece) (spans : List ArgumentSpan) (origin : Origin) (piece : BodyPiece) → substituted pieces spans origin (piece ∷ []) ≡ substituted_piece pieces spans origin piece
substituted-one pieces spans origin piece = append-nil (substituted_piece pieces spans origin piece)

last_apart : {A : Type 0} (xs : List A) (left : ℕ) (d : A) → 0 < left → left ≤ length xs → take left xs ≡ take (left - 1) xs ++ get_or xs (left - 1) d ∷ []
last_apart xs left d some within =
    let e : suc (left - 1) ≡ left = omega arith in
    ap (λ n. take n xs) (sym e) ∙ take-suc xs (left - 1) d (omega arith)

text_step : (pieces : List PendingPiece) (spans : List ArgumentSpan) (origin : Origin) (text rest : List BodyPiece) (piece : BodyPiece) (old new all : List PendingPiece) → text ≡ rest ++ piece ∷ []
    → new ≡ old ++ reverse (substituted_piece pieces spans origin piece) → old ++ reverse (substituted pieces spans origin text) ≡ all → new ++ reverse (substituted pieces spans origin rest) ≡ all
text_step pieces spans origin text rest piece old new all is more before =
    let p : List PendingPiece = substituted_piece pieces spans origin piece in
    let e : reverse (substituted pieces spans origin text) ≡ reverse p ++ reverse (substituted pieces spans origin rest) =
    ap (λ t. reverse (substituted pieces spans origin t)) is ∙ ap reverse (substituted-append pieces spans origin rest (piece ∷ []) ∙ ap (λ x. substituted pieces spans origin rest ++ x) (substituted-one pieces spans origin piece))
    ∙ reverse-append (substituted pieces spans origin rest) p in
    ap (λ x. x ++ reverse (substituted pieces spans origin rest)) more ∙ append_assoc old (reverse p) (reverse (substituted pieces spans origin rest)) ∙ ap (λ x. old ++ x) (sym e) ∙ before

-- the last piece of what is left is put
pub text_turn : (pieces : List PendingPiece) (spans : List ArgumentSpan) (origin : Origin) (text : List BodyPiece) (left : ℕ) (d : BodyPiece) (old new all : List PendingPiece) → 0 < left → left ≤ length text
    → new ≡ old ++ reverse (substituted_piece pieces spans origin (get_or text (left - 1) d)) → old ++ reverse (substituted pieces spans origin (take left text)) ≡ all
    → new ++ reverse (substituted pieces spans origin (take (left - 1) text)) ≡ all
text_turn pieces spans origin text left d old new all some within = text_step pieces spans origin (take left text) _ _ old new all (last_apart text left d some within)

pub text_start : (pieces : List PendingPiece) (spans : List ArgumentSpan) (origin : Origin) (text : List BodyPiece) (old : List PendingPiece)
    → old ++ reverse (substituted pieces spans origin (take (length text) text)) ≡ old ++ reverse (substituted pieces spans origin text)
text_start pieces spans origin text old = ap (λ (t : List BodyPiece). old ++ reverse (substituted pieces spans origin t)) (take-length text)

pub text_end : (pieces : List PendingPiece) (spans : List ArgumentSpan) (origin : Origin) (text : List BodyPiece) (left : ℕ) (found all : List PendingPiece) → left ≤ 0
    → found ++ reverse (substituted pieces spans origin (take left text)) ≡ all → found ≡ all
text_end pieces spans origin text left found all none before =
    let e : left ≡ 0 = omega arith in
    sym (append-nil found) ∙ ap (λ n. found ++ reverse (substituted pieces spans origin (take n text))) (sym e) ∙ before

argument_step : (origin : Origin) (text rest : List PendingPiece) (piece : PendingPiece) (old new all : List PendingPiece) → text ≡ rest ++ piece ∷ [] → new ≡ old ++ from_argument origin piece ∷ []
    → old ++ reverse (map (from_argument origin) text) ≡ all → new ++ reverse (map (from_argument origin) rest) ≡ all
argument_step origin text rest piece old new all is more before =
    let e : reverse (map (from_argument origin) text) ≡ from_argument origin piece ∷ reverse (map (from_argument origin) rest) =
    ap (λ t. reverse (map (from_argument origin) t)) is ∙ ap reverse (map-append (from_argument origin) rest (piece ∷ [])) ∙ reverse-append (map (from_argument origin) rest) (from_argument origin piece ∷ []) in
    ap (λ x. x ++ reverse (map (from_argument origin) rest)) more ∙ append_assoc old (from_argument origin piece ∷ []) (reverse (map (from_argument origin) rest)) ∙ ap (λ x. old ++ x) (sym e) ∙ before

pub argument_turn : (origin : Origin) (argument : List PendingPiece) (left : ℕ) (d : PendingPiece) (old new all : List PendingPiece) → 0 < left → left ≤ length argument
    → new ≡ old ++ from_argument origin (get_or argument (left - 1) d) ∷ [] → old ++ reverse (map (from_argument origin) (take left argument)) ≡ all
    → new ++ reverse (map (from_argument origin) (take (left - 1) argument)) ≡ all
argument_turn origin argument left d old new all some within = argument_step origin (take left argument) _ _ old new all (last_apart argument left d some within)

pub argument_start : (origin : Origin) (argument old : List PendingPiece) → old ++ reverse (map (from_argument origin) (take (length argument) argument)) ≡ old ++ reverse (map (from_argument origin) argument)
argument_start origin argument old = ap (λ (t : List PendingPiece). old ++ reverse (map (from_argument origin) t)) (take-length argument)

pub argument_end : (origin : Origin) (argument : List PendingPiece) (left : ℕ) (found all : List PendingPiece) → left ≤ 0 → found ++ reverse (map (from_argument origin) (take left argument)) ≡ all → found ≡ all
argument_end origin argument left found all none before =
    let e : left ≡ 0 = omega arith in
    sym (append-nil found) ∙ ap (λ n. found ++ reverse (map (from_argument origin) (take n argument))) (sym e) ∙ before
