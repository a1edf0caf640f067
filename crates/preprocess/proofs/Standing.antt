-- What stands still stands once a file is added, and lists of what stands.
use Rattle.std.proofs.Common.{◌≡◌, ℕ, zero, suc, ◌+◌, ◌<◌, ◌≤◌, List, [], ◌∷◌, ◌++◌, length, take, drop, get_or, Bool, true, false, ◌&&◌, nat_lt, nat_le, Option, Some, None, IfSome, if◌then◌else◌, All, refl, ap, subst, ◌∙◌, arith}
use Rattle.std.specs.List.{list_all}
use Rattle.std.specs.Option.{option_to_list}
use Rattle.std.proofs.lemmas.Bool.Decides.{nat_tests}
use Rattle.lexemes.specs.declared.token.FileSpan.{FileSpan}
use Rattle.lexemes.specs.declared.token.TokenKind.{TokenKind}
use Rattle.lexemes.specs.declared.token.VerilogLexeme.{VerilogLexeme}
use Rattle.lexemes.specs.declared.token.SourceFile.{SourceFile}
use Rattle.lexemes.specs.declared.token.VerilogToken.{VerilogToken}
use Rattle.lexemes.specs.declared.cut.LexicalFault.{LexicalFault}
use Rattle.lexemes.specs.declared.cut.LexicalFault.TheVariants as cuts
use Rattle.lexemes.specs.Places.{SpanIn, LiesIn, TellsStop}
use Rattle.lexemes.proofs.Chain.{stops_within}
use Rattle.std.proofs.lemmas.List.Elements.{All-get_or, All-drop}
use Rattle.preprocess.specs.declared.fault.Fault.{Fault}
use Rattle.preprocess.specs.declared.work.Origin.{Origin}
use Rattle.preprocess.specs.declared.work.PendingPiece.{PendingPiece}
use Rattle.preprocess.specs.declared.work.BodyPiece.{BodyPiece}
use Rattle.preprocess.specs.declared.work.Condition.{Condition}
use Rattle.preprocess.specs.Places.{lengths_of, stands, stands_if_some, origin_stands, piece_stands, body_stands, condition_stands, token_stands, lexeme_stands, fault_stands, use_place, outermost_of, outermost_place, span_at_byte, cut_fault}
use Rattle.preprocess.specs.declared.uses.ArgumentSpan.{ArgumentSpan}
use Rattle.preprocess.specs.Macros.{from_argument, argument, span_at}
use Rattle.preprocess.specs.Plain.{token_of}

and-true : (a b : Bool) → (a && b) ≡ true → (a ≡ true) × (b ≡ true)
and-true true b h = (refl, h)
and-true false b h = absurd (cc)

both : (a b : Bool) → a ≡ true → b ≡ true → (a && b) ≡ true
both a b h k = rw (h, k)

-- ---- lists

pub all_push : {X : Type 0} (p : X → Bool) (xs : List X) (x : X) → list_all p xs ≡ true → p x ≡ true → list_all p (xs ++ x ∷ []) ≡ true
all_push p [] x h k = rw k
all_push p (y ∷ xs) x h k = let w = and-true (p y) (list_all p xs) h in both (p y) _ w.0 (all_push p xs x w.1 k)

pub all_front : {X : Type 0} (p : X → Bool) (xs ys : List X) → list_all p (xs ++ ys) ≡ true → list_all p xs ≡ true
all_front p [] ys h = refl
all_front p (x ∷ xs) ys h = let w = and-true (p x) (list_all p (xs ++ ys)) h in both (p x) _ w.0 (all_front p xs ys w.1)

pub all_behind : {X : Type 0} (p : X → Bool) (xs ys : List X) → list_all p (xs ++ ys) ≡ true → list_all p ys ≡ true
all_behind p [] ys h = h
all_behind p (x ∷ xs) ys h = let w = and-true (p x) (list_all p (xs ++ ys)) h in all_behind p xs ys w.1

pub all_last : {X : Type 0} (p : X → Bool) (xs : List X) (x : X) → list_all p (xs ++ x ∷ []) ≡ true → p x ≡ true
all_last p xs x h = (and-true (p x) true (all_behind p xs (x ∷ []) h)).0

pub all_at : {X : Type 0} (p : X → Bool) (xs : List X) (i : ℕ) (d : X) → i < length xs → list_all p xs ≡ true → p (get_or xs i d) ≡ true
all_at p [] i d w h = absurd (omega arith)
all_at p (x ∷ xs) zero d w h = (and-true (p x) (list_all p xs) h).0
all_at p (x ∷ xs) (suc i) d w h = all_at p xs i d (omega arith) (and-true (p x) (list_all p xs) h).1

pub all_take : {X : Type 0} (p : X → Bool) (n : ℕ) (xs : List X) → list_all p xs ≡ true → list_all p (take n xs) ≡ true
all_take p zero xs h = refl
all_take p (suc n) [] h = refl
all_take p (suc n) (x ∷ xs) h = let w = and-true (p x) (list_all p xs) h in both (p x) _ w.0 (all_take p n xs w.1)

all_mono : {X : Type 0} (p q : X → Bool) → ((x : X) → p x ≡ true → q x ≡ true) → (xs : List X) → list_all p xs ≡ true → list_all q xs ≡ true
all_mono p q f [] h = refl
all_mono p q f (x ∷ xs) h = let w = and-true (p x) (list_all p xs) h in both (q x) _ (f x w.0) (all_mono p q f xs w.1)

-- ---- one file more

at_front : (files : List SourceFile) (file : SourceFile) (i : ℕ) → get_or (lengths_of files) i 0 ≤ get_or (lengths_of (files ++ file ∷ [])) i 0
at_front [] file zero = omega arith
at_front [] file (suc i) = omega arith
at_front (f ∷ files) file zero = omega arith
at_front (f ∷ files) file (suc i) = at_front files file i

pub at_end : (files : List SourceFile) (file : SourceFile) → get_or (lengths_of (files ++ file ∷ [])) (length files) 0 ≡ length file.text.items
at_end [] file = refl
at_end (f ∷ files) file = at_end files file

tests_hold : (n b l m : ℕ) → (nat_lt 0 n && nat_le b l) ≡ true → l ≤ m → (nat_lt 0 n && nat_le b m) ≡ true
tests_hold n b l m h w =
    let t = and-true (nat_lt 0 n) (nat_le b l) h in
    let e : b ≤ l = let s = t.1 in grind (arith, nat_tests) in
    let u : nat_le b m ≡ true = grind (arith, nat_tests) in
    both _ _ t.0 u

pub stands_more : (files : List SourceFile) (file : SourceFile) (place : FileSpan) → stands files place ≡ true → stands (files ++ file ∷ []) place ≡ true
unfolding stands
stands_more files file place h = tests_hold place.length (place.begin + place.length) _ _ h (at_front files file place.file)

origin_more : (files : List SourceFile) (file : SourceFile) (origin : Option Origin) → origin_stands files origin ≡ true → origin_stands (files ++ file ∷ []) origin ≡ true
origin_more files file None h = refl
origin_more files file (Some origin) h = stands_more files file origin.place h

if_some_more : (files : List SourceFile) (file : SourceFile) (place : Option FileSpan) → stands_if_some files place ≡ true → stands_if_some (files ++ file ∷ []) place ≡ true
if_some_more files file None h = refl
if_some_more files file (Some place) h = stands_more files file place h

piece_more : (files : List SourceFile) (file : SourceFile) (piece : PendingPiece) → piece_stands files piece ≡ true → piece_stands (files ++ file ∷ []) piece ≡ true
unfolding piece_stands
piece_more files file piece h =
    let w = and-true (stands files piece.lexeme.span) _ h in
    both _ _ (stands_more files file piece.lexeme.span w.0) (origin_more files file piece.origin w.1)

token_more : (files : List SourceFile) (file : SourceFile) (token : VerilogToken) → token_stands files token ≡ true → token_stands (files ++ file ∷ []) token ≡ true
unfolding token_stands
token_more files file token h =
    let w = and-true (stands files token.span) _ h in
    both _ _ (stands_more files file token.span w.0) (if_some_more files file token.use_place w.1)

pub pieces_more : (files : List SourceFile) (file : SourceFile) (xs : List PendingPiece) → list_all (piece_stands files) xs ≡ true → list_all (piece_stands (files ++ file ∷ [])) xs ≡ true
pieces_more files file = all_mono (piece_stands files) (piece_stands (files ++ file ∷ [])) (piece_more files file)

pub bodies_more : (files : List SourceFile) (file : SourceFile) (xs : List BodyPiece) → list_all (body_stands files) xs ≡ true → list_all (body_stands (files ++ file ∷ [])) xs ≡ true
bodies_more files file = all_mono (body_stands files) (body_stands (files ++ file ∷ [])) (λ b. stands_more files file b.lexeme.span)

pub conditions_more : (files : List SourceFile) (file : SourceFile) (xs : List Condition) → list_all (condition_stands files) xs ≡ true → list_all (condition_stands (files ++ file ∷ [])) xs ≡ true
conditions_more files file = all_mono (condition_stands files) (condition_stands (files ++ file ∷ [])) (λ b. stands_more files file b.place)

pub tokens_more : (files : List SourceFile) (file : SourceFile) (xs : List VerilogToken) → list_all (token_stands files) xs ≡ true → list_all (token_stands (files ++ file ∷ [])) xs ≡ true
tokens_more files file = all_mono (token_stands files) (token_stands (files ++ file ∷ [])) (token_more files file)

-- ---- what a piece has

pub piece_span : (files : List SourceFile) (piece : PendingPiece) → piece_stands files piece ≡ true → stands files piece.lexeme.span ≡ true
unfolding piece_stands
piece_span files piece h = (and-true (stands files piece.lexeme.span) _ h).0

pub popped_span : (files : List SourceFile) (old new : List PendingPiece) (found : Option PendingPiece) → old ≡ new ++ option_to_list found → list_all (piece_stands files) old ≡ true
    → IfSome found (λ piece. stands files piece.lexeme.span ≡ true)
popped_span files old new None is h = tt
popped_span files old new (Some piece) is h =
    let all : list_all (piece_stands files) (new ++ piece ∷ []) ≡ true = rw is at h in
    piece_span files piece (all_last (piece_stands files) new piece all)

-- ---- where a file may have been added

pub pieces_if : (old new : List SourceFile) (file : SourceFile) (b : Bool) (xs : List PendingPiece) → new ≡ (if b then old ++ file ∷ [] else old) → list_all (piece_stands old) xs ≡ true → list_all (piece_stands new) xs ≡ true
pieces_if old new file true xs is h = rw is (pieces_more old file xs h)
pieces_if old new file false xs is h = rw is h

pub bodies_if : (old new : List SourceFile) (file : SourceFile) (b : Bool) (xs : List BodyPiece) → new ≡ (if b then old ++ file ∷ [] else old) → list_all (body_stands old) xs ≡ true → list_all (body_stands new) xs ≡ true
bodies_if old new file true xs is h = rw is (bodies_more old file xs h)
bodies_if old new file false xs is h = rw is h

pub conditions_if : (old new : List SourceFile) (file : SourceFile) (b : Bool) (xs : List Condition) → new ≡ (if b then old ++ file ∷ [] else old) → list_all (condition_stands old) xs ≡ true → list_all (condition_stands new) xs ≡ true
conditions_if old new file true xs is h = rw is (conditions_more old file xs h)
conditions_if old new file false xs is h = rw is h

pub tokens_if : (old new : List SourceFile) (file : SourceFile) (b : Bool) (xs : List VerilogToken) → new ≡ (if b then old ++ file ∷ [] else old) → list_all (token_stands old) xs ≡ true → list_all (token_stands new) xs ≡ true
tokens_if old new file true xs is h = rw is (tokens_more old file xs h)
tokens_if old new file false xs is h = rw is h

-- ---- what is cut from a file

lies_stands : (files : List SourceFile) (file : SourceFile) (n : ℕ) (place : FileSpan) → n ≡ length files → SpanIn n (length file.text.items) place → stands (files ++ file ∷ []) place ≡ true
unfolding stands
lies_stands files file n place is h =
    let e : get_or (lengths_of (files ++ file ∷ [])) place.file 0 ≡ length file.text.items = ap (λ i. get_or (lengths_of (files ++ file ∷ [])) i 0) (h.same_file ∙ is) ∙ at_end files file in
    let s = h.some in
    let t = h.ends in
    let a : nat_lt 0 place.length ≡ true = grind (arith, nat_tests) in
    let b : nat_le (place.begin + place.length) (length file.text.items) ≡ true = grind (arith, nat_tests) in
    rw e (both _ _ a b)

pub lexemes_stand : (files : List SourceFile) (file : SourceFile) (n : ℕ) (ls : List VerilogLexeme) → n ≡ length files → All (LiesIn n (length file.text.items)) ls → list_all (lexeme_stands (files ++ file ∷ [])) ls ≡ true
lexemes_stand files file n [] is h = refl
lexemes_stand files file n (l ∷ ls) is h =
    let P : VerilogLexeme → Type 0 = LiesIn n (length file.text.items) in
    let first : P l = All-get_or P (l ∷ ls) 0 l (omega arith) h in
    let others : All P ls = All-drop P 1 (l ∷ ls) h in
    both _ _ (lies_stands files file n l.span is first) (lexemes_stand files file n ls is others)

byte_stands : (files : List SourceFile) (file : SourceFile) (n begin : ℕ) → n ≡ length files → begin < length file.text.items → stands (files ++ file ∷ []) (span_at_byte n begin) ≡ true
byte_stands files file n begin is h = lies_stands files file n (span_at_byte n begin) is (record { same_file = refl; some = omega arith; ends = omega arith })

pub fault_lies : (files : List SourceFile) (file : SourceFile) (n : ℕ) (fault : LexicalFault) → n ≡ length files → TellsStop file.text.items fault → fault_stands (files ++ file ∷ []) (cut_fault n fault) ≡ true
fault_lies files file n cuts.Memory is t = refl
fault_lies files file n (cuts.Stray begin) is t = byte_stands files file n begin is (stops_within t)
fault_lies files file n (cuts.UnfinishedString begin) is t = byte_stands files file n begin is (stops_within t)
fault_lies files file n (cuts.UnfinishedComment begin) is t = byte_stands files file n begin is (stops_within t)

-- ---- pieces and tokens that are made

pub token_span : (files : List SourceFile) (token : VerilogToken) → token_stands files token ≡ true → stands files token.span ≡ true
unfolding token_stands
token_span files token h = (and-true (stands files token.span) _ h).0

pub file_piece : (files : List SourceFile) (lexeme : VerilogLexeme) (begins_line : Bool) → stands files lexeme.span ≡ true
    → piece_stands files (record { lexeme = lexeme; begins_line = begins_line; origin = None }) ≡ true
unfolding piece_stands
file_piece files lexeme begins_line h = both _ _ h refl

pub body_piece : (files : List SourceFile) (lexeme : VerilogLexeme) (begins_line : Bool) (origin : Origin) → stands files lexeme.span ≡ true → stands files origin.place ≡ true
    → piece_stands files (record { lexeme = lexeme; begins_line = begins_line; origin = Some origin }) ≡ true
unfolding piece_stands
body_piece files lexeme begins_line origin h k = both _ _ h k

pub argument_stands : (files : List SourceFile) (origin : Origin) (piece : PendingPiece) → piece_stands files piece ≡ true → stands files origin.place ≡ true → piece_stands files (from_argument origin piece) ≡ true
unfolding piece_stands
argument_stands files origin piece h k = both _ _ (and-true (stands files piece.lexeme.span) _ h).0 k

pub all_drop : {X : Type 0} (p : X → Bool) (n : ℕ) (xs : List X) → list_all p xs ≡ true → list_all p (drop n xs) ≡ true
all_drop p zero xs h = h
all_drop p (suc n) [] h = refl
all_drop p (suc n) (x ∷ xs) h = all_drop p n xs (and-true (p x) (list_all p xs) h).1

pub argument_all : (files : List SourceFile) (pieces : List PendingPiece) (spans : List ArgumentSpan) (number : ℕ) → list_all (piece_stands files) pieces ≡ true
    → list_all (piece_stands files) (argument pieces spans number) ≡ true
argument_all files pieces spans number h = all_drop (piece_stands files) (span_at spans number).begin _ (all_take (piece_stands files) (span_at spans number).end pieces h)

pub text_all : (files : List SourceFile) (bodies : List BodyPiece) (begin end : ℕ) → list_all (body_stands files) bodies ≡ true → list_all (body_stands files) (drop begin (take end bodies)) ≡ true
text_all files bodies begin end h = all_drop (body_stands files) begin _ (all_take (body_stands files) end bodies h)

outermost_at : (files : List SourceFile) (place : FileSpan) (origin : Option Origin) → stands files place ≡ true → origin_stands files origin ≡ true → stands files (outermost_of place origin) ≡ true
outermost_at files place None h k = h
outermost_at files place (Some o) h k = k

pub outermost_stands : (files : List SourceFile) (piece : PendingPiece) → piece_stands files piece ≡ true → stands files (outermost_place piece) ≡ true
unfolding piece_stands
outermost_stands files piece h = let w = and-true (stands files piece.lexeme.span) _ h in outermost_at files piece.lexeme.span piece.origin w.0 w.1

pub lexeme_token : (files : List SourceFile) (lexeme : VerilogLexeme) (token : VerilogToken) → token ≡ token_of lexeme → stands files lexeme.span ≡ true → token_stands files token ≡ true
unfolding token_stands
lexeme_token files lexeme token is h = rw is (both _ _ h refl)

use_at : (files : List SourceFile) (origin : Option Origin) → origin_stands files origin ≡ true → stands_if_some files (use_place origin) ≡ true
use_at files None h = refl
use_at files (Some o) h = h

pub piece_token : (files : List SourceFile) (piece : PendingPiece) (kind : TokenKind) (place : Option FileSpan) → piece_stands files piece ≡ true → place ≡ use_place piece.origin
    → token_stands files (record { kind = kind; span = piece.lexeme.span; use_place = place }) ≡ true
unfolding piece_stands token_stands
piece_token files piece kind place h is =
    let w = and-true (stands files piece.lexeme.span) _ h in
    both _ _ w.0 (ap (stands_if_some files) is ∙ use_at files piece.origin w.1)

pub found_stand : (files new : List SourceFile) (file : SourceFile) (n : ℕ) (text : List ℕ) (ls : List VerilogLexeme) → new ≡ files ++ file ∷ [] → n ≡ length files → text ≡ file.text.items
    → All (LiesIn n (length text)) ls → list_all (lexeme_stands new) ls ≡ true
found_stand files new file n text ls is e t h =
    ap (λ fs. list_all (lexeme_stands fs) ls) is ∙ lexemes_stand files file n ls e (subst (λ x. All (LiesIn n (length x)) ls) t h)

pub fault_found : (files new : List SourceFile) (file : SourceFile) (n : ℕ) (text : List ℕ) (fault : LexicalFault) (made : Fault) → new ≡ files ++ file ∷ [] → n ≡ length files → text ≡ file.text.items
    → TellsStop text fault → made ≡ cut_fault n fault → fault_stands new made ≡ true
fault_found files new file n text fault made is e t h m =
    ap (λ fs. fault_stands fs made) is ∙ ap (fault_stands (files ++ file ∷ [])) m ∙ fault_lies files file n fault e (subst (λ x. TellsStop x fault) t h)
