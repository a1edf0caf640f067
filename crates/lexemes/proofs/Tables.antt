-- Tables of texts, one behind another.
use Rattle.std.proofs.Common.{◌≡◌, ℕ, ◌-◌, ◌≤◌, List, [], ◌∷◌, ◌++◌, length, take, drop, map, Bool, true, false, Option, Some, if◌then◌else◌, refl, sym, ap, ◌∙◌, arith}
use Rattle.std.proofs.Math.ListN.{get_or}
use Rattle.std.proofs.Math.Seq.{take-length}
use Rattle.std.specs.Borrow.{Bor}
use Rattle.std.specs.Option.{is_some}
use Rattle.std.specs.Str.{bytes_eq}
use Rattle.lexemes.specs.declared.token.TokenKind.{TokenKind}
use Rattle.lexemes.specs.declared.token.Keyword.{Keyword}
use Rattle.lexemes.specs.declared.token.Sign.{Sign}
use Rattle.lexemes.specs.Kinds.{KindsOfTexts, kind_of_text, is_keyword, keyword_spelling, is_sign, sign_spelling}

row_has : (b : Bool) (kind : TokenKind) (left all : Option TokenKind) → is_some (if b then Some kind else left) ≡ true → (is_some left ≡ true → all ≡ left)
    → (if b then Some kind else all) ≡ (if b then Some kind else left)
row_has true kind left all h more = refl
row_has false kind left all h more = more h

row_has_not : (b : Bool) (kind : TokenKind) (left all other : Option TokenKind) → is_some (if b then Some kind else left) ≡ false → (is_some left ≡ false → all ≡ other) → (if b then Some kind else all) ≡ other
row_has_not true kind left all other h more = absurd (cc)
row_has_not false kind left all other h more = more h

-- what the first table has for a text is what both have
kind_here : (xs ys : KindsOfTexts) (text : List ℕ) → is_some (kind_of_text xs text) ≡ true → kind_of_text (xs ++ ys) text ≡ kind_of_text xs text
kind_here [] ys text h = absurd (cc)
kind_here (x ∷ xs) ys text h = row_has (bytes_eq text x.0) x.1 (kind_of_text xs text) (kind_of_text (xs ++ ys) text) h (kind_here xs ys text)

-- where the first table has nothing, it is what the second has
kind_behind : (xs ys : KindsOfTexts) (text : List ℕ) → is_some (kind_of_text xs text) ≡ false → kind_of_text (xs ++ ys) text ≡ kind_of_text ys text
kind_behind [] ys text h = refl
kind_behind (x ∷ xs) ys text h = row_has_not (bytes_eq text x.0) x.1 (kind_of_text xs text) (kind_of_text (xs ++ ys) text) (kind_of_text ys text) h (kind_behind xs ys text)

-- the same of what was found by a function
pub first_of : (rows xs ys : KindsOfTexts) (text : List ℕ) (found : Option TokenKind) (some : Bool) → rows ≡ xs → found ≡ kind_of_text rows text → some ≡ is_some found → some ≡ true
    → found ≡ kind_of_text (xs ++ ys) text
first_of rows xs ys text found some is e s h =
    let f : found ≡ kind_of_text xs text = e ∙ ap (λ (r : KindsOfTexts). kind_of_text r text) is in
    f ∙ sym (kind_here xs ys text (ap is_some (sym f) ∙ sym s ∙ h))

pub not_first : (rows xs ys : KindsOfTexts) (text : List ℕ) (found : Option TokenKind) (some : Bool) → rows ≡ xs → found ≡ kind_of_text rows text → some ≡ is_some found → some ≡ false
    → kind_of_text (xs ++ ys) text ≡ kind_of_text ys text
not_first rows xs ys text found some is e s h =
    let f : found ≡ kind_of_text xs text = e ∙ ap (λ (r : KindsOfTexts). kind_of_text r text) is in
    kind_behind xs ys text (ap is_some (sym f) ∙ sym s ∙ h)

-- the text that two tables have for a word
spelling_append : (xs ys : KindsOfTexts) (other : List ℕ) (keyword : Keyword) → keyword_spelling (xs ++ ys) other keyword ≡ keyword_spelling xs (keyword_spelling ys other keyword) keyword
spelling_append [] ys other keyword = refl
spelling_append (x ∷ xs) ys other keyword =
    elim (is_keyword x.1 keyword) as (λ (b : Bool). (if b then x.0 else keyword_spelling (xs ++ ys) other keyword) ≡ (if b then x.0 else keyword_spelling xs (keyword_spelling ys other keyword) keyword))
    [ true ↦ refl | false ↦ spelling_append xs ys other keyword ]

pub spelled_by : (rows xs ys : KindsOfTexts) (keyword : Keyword) (other text : List ℕ) → rows ≡ xs → text ≡ keyword_spelling rows other keyword → other ≡ keyword_spelling ys [] keyword
    → text ≡ keyword_spelling (xs ++ ys) [] keyword
spelled_by rows xs ys keyword other text is e h =
    e ∙ ap (λ (r : KindsOfTexts). keyword_spelling r other keyword) is ∙ ap (λ (o : List ℕ). keyword_spelling xs o keyword) h ∙ sym (spelling_append xs ys [] keyword)

-- ---- the rows of the program's tables, one after another

abbrev pub row_of : Bor (List ℕ) × TokenKind → List ℕ × TokenKind
row_of row = (row.0.now, row.1)

rest_of : {A : Type 0} (x : A) (xs : List A) → take (length (x ∷ xs) - 1) xs ≡ xs
rest_of x xs = let e : length (x ∷ xs) - 1 ≡ length xs = omega arith in ap (λ n. take n xs) e ∙ take-length xs

pub kind_turn : (left : List (Bor (List ℕ) × TokenKind)) (d : Bor (List ℕ) × TokenKind) (text word : List ℕ) (all : Option TokenKind) → 1 ≤ length left → word ≡ (get_or left 0 d).0.now
    → bytes_eq text word ≡ false → kind_of_text (map row_of left) text ≡ all → kind_of_text (map row_of (take (length left - 1) (drop 1 left))) text ≡ all
kind_turn [] d text word all some is differs before = absurd (omega arith)
kind_turn (row ∷ left) d text word all some is differs before =
    let q : bytes_eq text row.0.now ≡ false = ap (λ (w : List ℕ). bytes_eq text w) (sym is) ∙ differs in
    let x : kind_of_text (map row_of left) text ≡ all = rw q at before in
    ap (λ (rows : List (Bor (List ℕ) × TokenKind)). kind_of_text (map row_of rows) text) (rest_of row left) ∙ x

pub keyword_turn : (left : List (Bor (List ℕ) × TokenKind)) (d : Bor (List ℕ) × TokenKind) (keyword : Keyword) (other all : List ℕ) (test : Bool) → 1 ≤ length left
    → test ≡ is_keyword (get_or left 0 d).1 keyword → test ≡ false → keyword_spelling (map row_of left) other keyword ≡ all
    → keyword_spelling (map row_of (take (length left - 1) (drop 1 left))) other keyword ≡ all
keyword_turn [] d keyword other all test some is differs before = absurd (omega arith)
keyword_turn (row ∷ left) d keyword other all test some is differs before =
    let q : is_keyword row.1 keyword ≡ false = sym is ∙ differs in
    let x : keyword_spelling (map row_of left) other keyword ≡ all = rw q at before in
    ap (λ (rows : List (Bor (List ℕ) × TokenKind)). keyword_spelling (map row_of rows) other keyword) (rest_of row left) ∙ x

pub sign_turn : (left : List (Bor (List ℕ) × TokenKind)) (d : Bor (List ℕ) × TokenKind) (sign : Sign) (all : List ℕ) (test : Bool) → 1 ≤ length left
    → test ≡ is_sign (get_or left 0 d).1 sign → test ≡ false → sign_spelling (map row_of left) sign ≡ all → sign_spelling (map row_of (take (length left - 1) (drop 1 left))) sign ≡ all
sign_turn [] d sign all test some is differs before = absurd (omega arith)
sign_turn (row ∷ left) d sign all test some is differs before =
    let q : is_sign row.1 sign ≡ false = sym is ∙ differs in
    let x : sign_spelling (map row_of left) sign ≡ all = rw q at before in
    ap (λ (rows : List (Bor (List ℕ) × TokenKind)). sign_spelling (map row_of rows) sign) (rest_of row left) ∙ x
