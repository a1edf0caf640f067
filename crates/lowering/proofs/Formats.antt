-- Formats that are read, and prints that are gone through, so far.
use Rattle.std.proofs.Common.{◌≡◌, ◌≢◌, ℕ, ◌+◌, ◌-◌, ◌<◌, ◌≤◌, Bool, true, false, List, [], ◌∷◌, ◌++◌, map, length, get_or, take, drop, Option, Some, refl, sym, ap, ◌∙◌, subst, append_assoc, append-nil, arith}
use Rattle.std.specs.Prelude.{IsNone}
use Rattle.std.proofs.lemmas.Bool.Decides.{nat_tests}
use Rattle.std.proofs.lemmas.List.{length-map, map-append, take_more, take_all}
use Rattle.logic4.specs.declared.conversion.Conversion.{Conversion}
use Rattle.model.specs.Syntax as core
use Rattle.model.specs.Syntax.{Piece, Byte}
use Rattle.model.specs.SourceTrees.{piece_of, source_expression_of}
use Rattle.model.specs.declared.tree.Piece as program_piece
use Rattle.model.specs.declared.tree.Piece.TheVariants as program_pieces
use Rattle.model.specs.declared.tree.SourceExpression as program_tree
use Rattle.syntax_tree.specs.Expressions as source
use Rattle.syntax_tree.specs.declared.expressions.VerilogExpression as program
use Rattle.syntax_tree.specs.Expressions.{Expression, plain_expression_of}
use Rattle.sizing.specs.Names.{Names}
use Rattle.sizing.specs.Meanings.{meaning}
use Rattle.statement_parts.specs.Statements.{SourceText, plain_argument}
use Rattle.lowering.specs.Prints.{Arguments, Shown, shown_behind, bytes_shown, nothing_shown, small_letter, value_shown, letter_conversion, IsArgument, IsShownBy, Adds, IsFormatted, no_more, plain_byte, percent, full_name, converted, converted_shortly, IsValue, IsString, IsPrint, nothing_more, by_format, by_value, IsLetter, letter_text, IsLetterShown, IsArgumentShown, ShowsPart, IsPercent, IsNameLetter}
use Rattle.lowering.proofs.Fronts.{front_of}

-- What is shown so far of a format, with what the rest shows, is what the format shows.
pub record FormatSoFar (n : Names) (path format text : SourceText) (arguments left : Arguments) (old now : Shown) : Type 0 where
  pub so_far : Shown
  pub shows : now ≡ shown_behind old so_far
  pub rest : (last : Arguments) (more : Shown) → IsFormatted n path text left last more → IsFormatted n path format arguments last (shown_behind so_far more)
  pub fewer : length left ≤ length arguments

-- What is shown so far of a print, with what the arguments that are left show, is what the print shows.
pub record PrintSoFar (n : Names) (path : SourceText) (arguments left : Arguments) (now : Shown) : Type 0 where
  pub rest : (more : Shown) → IsPrint n path left more → IsPrint n path arguments (shown_behind now more)

-- ---- what is shown, one behind another

both : (pieces others : List Piece) (arguments more : List (core.Expression SourceText)) → pieces ≡ others → arguments ≡ more → ◌≡◌ {A = Shown} (pieces, arguments) (others, more)
both pieces others arguments more e f =
    ap (λ (ps : List Piece). (ps, arguments)) e ∙ ap (λ (es : List (core.Expression SourceText)). (others, es)) f

-- nothing behind something
pub nothing_behind : (s : Shown) → shown_behind s nothing_shown ≡ s
nothing_behind s = both (s.0 ++ []) s.0 (s.1 ++ []) s.1 (append-nil s.0) (append-nil s.1)

behind_assoc : (a b c : Shown) → shown_behind (shown_behind a b) c ≡ shown_behind a (shown_behind b c)
behind_assoc a b c =
    both ((a.0 ++ b.0) ++ c.0) (a.0 ++ (b.0 ++ c.0)) ((a.1 ++ b.1) ++ c.1) (a.1 ++ (b.1 ++ c.1)) (append_assoc a.0 b.0 c.0) (append_assoc a.1 b.1 c.1)

-- ---- formats

-- one format behind another
formatted_append : (n : Names) (path first second : SourceText) (arguments left last : Arguments) (front back : Shown) → IsFormatted n path first arguments left front → IsFormatted n path second left last back
    → IsFormatted n path (first ++ second) arguments last (shown_behind front back)
formatted_append n path _ second _ _ last _ back (no_more arguments) h = h
formatted_append n path _ second _ _ last _ back (plain_byte b bs arguments left shown ne low rest) h =
    plain_byte b (bs ++ second) arguments last (shown_behind shown back) ne low (formatted_append n path bs second arguments left last shown back rest h)
formatted_append n path _ second _ _ last _ back (percent bs arguments left shown rest) h =
    percent (bs ++ second) arguments last (shown_behind shown back) (formatted_append n path bs second arguments left last shown back rest h)
formatted_append n path _ second _ _ last _ back (full_name letter bs arguments left shown is rest) h =
    subst (λ (s : Shown). IsFormatted n path (37 ∷ letter ∷ (bs ++ second)) arguments last s) (sym (behind_assoc (bytes_shown path) shown back))
    (full_name letter (bs ++ second) arguments last (shown_behind shown back) is (formatted_append n path bs second arguments left last shown back rest h))
formatted_append n path _ second _ _ last _ back (converted letter bs e arguments left front shown is rest) h =
    subst (λ (s : Shown). IsFormatted n path (37 ∷ letter ∷ (bs ++ second)) (Some e ∷ arguments) last s) (sym (behind_assoc front shown back))
    (converted letter (bs ++ second) e arguments last front (shown_behind shown back) is (formatted_append n path bs second arguments left last shown back rest h))
formatted_append n path _ second _ _ last _ back (converted_shortly letter bs e arguments left front shown is rest) h =
    subst (λ (s : Shown). IsFormatted n path (37 ∷ 48 ∷ letter ∷ (bs ++ second)) (Some e ∷ arguments) last s) (sym (behind_assoc front shown back))
    (converted_shortly letter (bs ++ second) e arguments last front (shown_behind shown back) is (formatted_append n path bs second arguments left last shown back rest h))

-- something that shows one thing alone
alone : (n : Names) (path text : SourceText) (arguments left : Arguments) (front : Shown) → IsFormatted n path text arguments left (shown_behind front nothing_shown) → IsFormatted n path text arguments left front
alone n path text arguments left front h = subst (λ (s : Shown). IsFormatted n path text arguments left s) (nothing_behind front) h

-- `%%`
pub percent_shown : (n : Names) (path : SourceText) (arguments : Arguments) (old new : Shown) → new ≡ shown_behind old (bytes_shown (37 ∷ [])) → Adds (IsLetterShown n path false 37 arguments arguments) old new
percent_shown n path arguments old new e = (bytes_shown (37 ∷ []), e, percent [] arguments arguments nothing_shown (no_more arguments))

-- `%m`
pub name_shown : (n : Names) (path : SourceText) (letter : ℕ) (arguments : Arguments) (old new : Shown) → small_letter letter ≡ 109 → new ≡ shown_behind old (bytes_shown path)
    → Adds (IsLetterShown n path false letter arguments arguments) old new
name_shown n path letter arguments old new is e =
    (bytes_shown path, e, alone n path (letter_text false letter) arguments arguments (bytes_shown path) (full_name letter [] arguments arguments nothing_shown is (no_more arguments)))

-- a conversion
pub converted_shown : (n : Names) (path : SourceText) (short : Bool) (letter : ℕ) (e : Expression) (others : Arguments) (old new : Shown) → Adds (IsShownBy n short letter e) old new
    → Adds (IsLetterShown n path short letter (Some e ∷ others) others) old new
converted_shown n path false letter e others old new h =
    (h.0, h.1, alone n path (letter_text false letter) (Some e ∷ others) others h.0 (converted letter [] e others others h.0 nothing_shown h.2 (no_more others)))
converted_shown n path true letter e others old new h =
    (h.0, h.1, alone n path (letter_text true letter) (Some e ∷ others) others h.0 (converted_shortly letter [] e others others h.0 nothing_shown h.2 (no_more others)))

-- nothing of a format is read yet
pub format_start : (n : Names) (path format : SourceText) (arguments : Arguments) (old : Shown) → FormatSoFar n path format format arguments arguments old old
format_start n path format arguments old = record {
  so_far = nothing_shown;
  shows = sym (nothing_behind old);
  rest = λ last more h. h;
  fewer = omega arith;
}

-- a part of a format is read
format_more : (n : Names) (path format part text : SourceText) (arguments left fewer : Arguments) (old now new : Shown) → FormatSoFar n path format (part ++ text) arguments left old now
    → Adds (IsFormatted n path part left fewer) now new → length fewer ≤ length left → FormatSoFar n path format text arguments fewer old new
format_more n path format part text arguments left fewer old now new so h less = record {
  so_far = shown_behind so.so_far h.0;
  shows = h.1 ∙ ap (λ (s : Shown). shown_behind s h.0) so.shows ∙ behind_assoc old so.so_far h.0;
  rest = λ last more rest. subst (λ (s : Shown). IsFormatted n path format arguments last s) (sym (behind_assoc so.so_far h.0 more))
      (so.rest last (shown_behind h.0 more) (formatted_append n path part text left fewer last h.0 more h.2 rest));
  fewer = omega (arith, so.fewer, less);
}

-- a byte is a part
pub byte_part : (n : Names) (path : SourceText) (b : ℕ) (text : SourceText) (arguments : Arguments) (old new : Shown) → b ≢ 37 → b < 128 → new ≡ shown_behind old (bytes_shown (b ∷ [])) → ShowsPart n path (b ∷ text) text arguments arguments old new
byte_part n path b text arguments old new ne low e = (b ∷ [], refl, (bytes_shown (b ∷ []), e, plain_byte b [] arguments arguments nothing_shown ne low (no_more arguments)))

-- and so is a conversion
pub letter_part : (n : Names) (path : SourceText) (b : ℕ) (text : SourceText) (short : Bool) (letter : ℕ) (behind : SourceText) (arguments left : Arguments) (old new : Shown) → b ≡ 37 → IsLetter text short letter behind
    → Adds (IsLetterShown n path short letter arguments left) old new → ShowsPart n path (b ∷ text) behind arguments left old new
letter_part n path b text false letter behind arguments left old new is text_is h = (letter_text false letter, ap (λ (c : ℕ). c ∷ text) is ∙ ap (λ (t : SourceText). 37 ∷ t) text_is, h)
letter_part n path b text true letter behind arguments left old new is text_is h = (letter_text true letter, ap (λ (c : ℕ). c ∷ text) is ∙ ap (λ (t : SourceText). 37 ∷ t) text_is, h)

-- a part more is read
pub format_part : (n : Names) (path format text rest : SourceText) (b : ℕ) (behind : SourceText) (arguments left fewer : Arguments) (old now new : Shown) → FormatSoFar n path format text arguments left old now → text ≡ b ∷ rest
    → ShowsPart n path (b ∷ rest) behind left fewer now new → length fewer ≤ length left → FormatSoFar n path format behind arguments fewer old new
format_part n path format text rest b behind arguments left fewer old now new so is h less =
    format_more n path format h.0 behind arguments left fewer old now new (subst (λ (t : SourceText). FormatSoFar n path format t arguments left old now) (is ∙ h.1) so) h.2 less

-- all of a format is read
pub format_end : (n : Names) (path format : SourceText) (arguments left : Arguments) (old now : Shown) → FormatSoFar n path format [] arguments left old now → Adds (IsFormatted n path format arguments left) old now
format_end n path format arguments left old now so =
    (so.so_far, so.shows, subst (λ (s : Shown). IsFormatted n path format arguments left s) (nothing_behind so.so_far) (so.rest left nothing_shown (no_more left)))

-- ---- prints

-- an argument that is no string is shown as a decimal
pub value_argument : (n : Names) (path : SourceText) (e : Expression) (arguments : Arguments) (old new : Shown) → IsValue e → Adds (IsShownBy n false 100 e) old new → Adds (IsArgumentShown n path e arguments arguments) old new
value_argument n path e arguments old new is h = (h.0, h.1, shown e is (refl, h.2))
  where
    shown : (e : Expression) → IsValue e → (arguments ≡ arguments) × IsShownBy n false 100 e h.0 → IsArgumentShown n path e arguments arguments h.0
    shown (source.Number at sized signed cut v) is k = k
    shown (source.Real at text) is k = k
    shown (source.Text at bytes) is k = absurd is
    shown (source.Name at name) is k = k
    shown (source.Member at base name) is k = k
    shown (source.Index at base i) is k = k
    shown (source.Part at form base first second) is k = k
    shown (source.Call at function parts) is k = k
    shown (source.SystemCall at name parts) is k = k
    shown (source.Concatenation at parts) is k = k
    shown (source.Replication at count parts) is k = k
    shown (source.Unary at op e) is k = k
    shown (source.Binary at op e f) is k = k
    shown (source.Conditional at c e f) is k = k
    shown (source.Refused at) is k = k

-- a string is a format
pub text_argument : (n : Names) (path : SourceText) (e : Expression) (bytes : SourceText) (arguments left : Arguments) (old new : Shown) → IsString e bytes → Adds (IsFormatted n path bytes arguments left) old new → Adds (IsArgumentShown n path e arguments left) old new
text_argument n path e bytes arguments left old new is h =
    (h.0, h.1, subst (λ (x : Expression). IsArgumentShown n path x arguments left h.0) (sym is.1) h.2)

-- a value before other arguments
value_first : (n : Names) (path : SourceText) (e : Expression) (arguments left : Arguments) (front back : Shown) → IsValue e → (left ≡ arguments) × IsShownBy n false 100 e front → IsPrint n path left back
    → IsPrint n path (Some e ∷ arguments) (shown_behind front back)
value_first n path e arguments left front back is h rest = by_value e arguments front back is h.1 (subst (λ (xs : Arguments). IsPrint n path xs back) h.0 rest)

-- an argument before others
argument_first : (n : Names) (path : SourceText) (e : Expression) (arguments left : Arguments) (front back : Shown) → IsArgumentShown n path e arguments left front → IsPrint n path left back
    → IsPrint n path (Some e ∷ arguments) (shown_behind front back)
argument_first n path (source.Text at bytes) arguments left front back h rest = by_format at bytes arguments left front back h rest
argument_first n path (source.Number at sized signed cut v) arguments left front back h rest = value_first n path (source.Number at sized signed cut v) arguments left front back tt h rest
argument_first n path (source.Real at text) arguments left front back h rest = value_first n path (source.Real at text) arguments left front back tt h rest
argument_first n path (source.Name at name) arguments left front back h rest = value_first n path (source.Name at name) arguments left front back tt h rest
argument_first n path (source.Member at base name) arguments left front back h rest = value_first n path (source.Member at base name) arguments left front back tt h rest
argument_first n path (source.Index at base i) arguments left front back h rest = value_first n path (source.Index at base i) arguments left front back tt h rest
argument_first n path (source.Part at form base first second) arguments left front back h rest = value_first n path (source.Part at form base first second) arguments left front back tt h rest
argument_first n path (source.Call at function parts) arguments left front back h rest = value_first n path (source.Call at function parts) arguments left front back tt h rest
argument_first n path (source.SystemCall at name parts) arguments left front back h rest = value_first n path (source.SystemCall at name parts) arguments left front back tt h rest
argument_first n path (source.Concatenation at parts) arguments left front back h rest = value_first n path (source.Concatenation at parts) arguments left front back tt h rest
argument_first n path (source.Replication at count parts) arguments left front back h rest = value_first n path (source.Replication at count parts) arguments left front back tt h rest
argument_first n path (source.Unary at op e) arguments left front back h rest = value_first n path (source.Unary at op e) arguments left front back tt h rest
argument_first n path (source.Binary at op e f) arguments left front back h rest = value_first n path (source.Binary at op e f) arguments left front back tt h rest
argument_first n path (source.Conditional at c e f) arguments left front back h rest = value_first n path (source.Conditional at c e f) arguments left front back tt h rest
argument_first n path (source.Refused at) arguments left front back h rest = value_first n path (source.Refused at) arguments left front back tt h rest

-- nothing of a print is gone through yet
pub print_start : (n : Names) (path : SourceText) (arguments : Arguments) (now : Shown) → now ≡ nothing_shown → PrintSoFar n path arguments arguments now
print_start n path arguments now e = record { rest = λ more h. subst (λ (s : Shown). IsPrint n path arguments (shown_behind s more)) (sym e) h }

-- an argument more
pub print_more : (n : Names) (path : SourceText) (e : Expression) (arguments others left : Arguments) (now new : Shown) → PrintSoFar n path arguments (Some e ∷ others) now → Adds (IsArgumentShown n path e others left) now new
    → PrintSoFar n path arguments left new
print_more n path e arguments others left now new so h = record {
  rest = λ more rest. subst (λ (s : Shown). IsPrint n path arguments (shown_behind s more)) (sym h.1)
      (subst (λ (s : Shown). IsPrint n path arguments s) (sym (behind_assoc now h.0 more)) (so.rest (shown_behind h.0 more) (argument_first n path e others left h.0 more h.2 rest)));
}

-- all of a print is gone through
pub print_end : (n : Names) (path : SourceText) (arguments : Arguments) (now : Shown) → PrintSoFar n path arguments [] now → IsPrint n path arguments now
print_end n path arguments now so = subst (λ (s : Shown). IsPrint n path arguments s) (nothing_behind now) (so.rest nothing_shown nothing_more)

-- ---- what is pushed

-- a byte of ASCII
pub byte_pushed : (old new : List program_piece.Piece) (b : ℕ) (arguments : List (core.Expression SourceText)) → new ≡ old ++ program_pieces.Byte b ∷ [] → ◌≡◌ {A = Shown} (map piece_of new, arguments) (shown_behind (map piece_of old, arguments) (bytes_shown (b ∷ [])))
byte_pushed old new b arguments e =
    both (map piece_of new) (map piece_of old ++ Byte b ∷ []) arguments (arguments ++ []) (ap (map piece_of) e ∙ map-append piece_of old (program_pieces.Byte b ∷ [])) (sym (append-nil arguments))

-- bytes so far, and one more
pub bytes_more : (old now new : Shown) (bytes : SourceText) (i b : ℕ) → i < length bytes → b ≡ get_or bytes i 0 → now ≡ shown_behind old (bytes_shown (take i bytes)) → new ≡ shown_behind now (bytes_shown (b ∷ [])) → new ≡ shown_behind old (bytes_shown (take (i + 1) bytes))
bytes_more old now new bytes i b h is so e =
    e ∙ ap (λ (s : Shown). shown_behind s (bytes_shown (b ∷ []))) so ∙ behind_assoc old (bytes_shown (take i bytes)) (bytes_shown (b ∷ []))
    ∙ ap (shown_behind old) (both (map Byte (take i bytes) ++ Byte b ∷ []) (map Byte (take (i + 1) bytes)) [] [] (sym (ap (map Byte) (take_more bytes i 0 h ∙ ap (λ (c : ℕ). take i bytes ++ c ∷ []) (sym is)) ∙ map-append Byte (take i bytes) (b ∷ []))) refl)

-- an argument by a conversion
pub value_added : (n : Names) (short : Bool) (letter : ℕ) (e : Expression) (by : Conversion) (made : program_tree.SourceExpression) (old new : List program_piece.Piece) (arguments more : List program_tree.SourceExpression)
    → new ≡ old ++ program_pieces.Argument by ∷ [] → more ≡ arguments ++ made ∷ [] → letter_conversion short letter (meaning n e).signed ≡ Some by → IsArgument n e (source_expression_of made)
    → Adds (IsShownBy n short letter e) (map piece_of old, map source_expression_of arguments) (map piece_of new, map source_expression_of more)
value_added n short letter e by made old new arguments more pushed also chosen is = (
  value_shown by (source_expression_of made),
  both (map piece_of new) (map piece_of old ++ core.Argument by ∷ []) (map source_expression_of more) (map source_expression_of arguments ++ source_expression_of made ∷ []) (ap (map piece_of) pushed ∙ map-append piece_of old (program_pieces.Argument by ∷ []))
      (ap (map source_expression_of) also ∙ map-append source_expression_of arguments (made ∷ [])),
  record { by = by; made = source_expression_of made; chosen = chosen; argument = is; shows = refl },
)

-- ---- arguments by their front

pub arguments_front : (xs : List (Option program.VerilogExpression)) (first : Option program.VerilogExpression) (e : program.VerilogExpression) → 1 ≤ length xs → first ≡ get_or xs 0 first → first ≡ Some e
    → map plain_argument xs ≡ Some (plain_expression_of e) ∷ map plain_argument (take (length xs - 1) (drop 1 xs))
arguments_front xs first e some is same =
    ap (map plain_argument) (front_of xs first some) ∙ ap (λ (x : Option program.VerilogExpression). plain_argument x ∷ map plain_argument (take (length xs - 1) (drop 1 xs))) (sym is ∙ same)

-- as many arguments of the program
pub fewer_arguments : (left arguments : List (Option program.VerilogExpression)) → length left ≤ length arguments → length (map plain_argument left) ≤ length (map plain_argument arguments)
fewer_arguments left arguments h = omega (arith, length-map left plain_argument, length-map arguments plain_argument, h)

pub fewer_of : (left arguments : List (Option program.VerilogExpression)) → length (map plain_argument left) ≤ length (map plain_argument arguments) → length left ≤ length arguments
fewer_of left arguments h = omega (arith, length-map left plain_argument, length-map arguments plain_argument, h)

-- ---- bytes

pub is_low : (a b : ℕ) → (128 ≤ b → IsNone (Some a)) → b < 128
is_low a b h = grind (arith, nat_tests)

pub bytes_start : (old : Shown) → old ≡ shown_behind old (bytes_shown [])
bytes_start old = sym (nothing_behind old)

pub bytes_end : (old now : Shown) (bytes : SourceText) (i : ℕ) → length bytes ≤ i → now ≡ shown_behind old (bytes_shown (take i bytes)) → now ≡ shown_behind old (bytes_shown bytes)
bytes_end old now bytes i h so = so ∙ ap (λ (bs : SourceText). shown_behind old (bytes_shown bs)) (take_all i bytes h)

-- ---- letters

pub percent_letter : (n : Names) (path : SourceText) (short : Bool) (letter : ℕ) (arguments : Arguments) (old new : Shown) → IsPercent short letter → new ≡ shown_behind old (bytes_shown (37 ∷ [])) → Adds (IsLetterShown n path short letter arguments arguments) old new
percent_letter n path short letter arguments old new is e =
    subst (λ (s : Bool). Adds (IsLetterShown n path s letter arguments arguments) old new) (sym is.1)
    (subst (λ (l : ℕ). Adds (IsLetterShown n path false l arguments arguments) old new) (sym is.0) (percent_shown n path arguments old new e))

pub name_letter : (n : Names) (path bytes : SourceText) (short : Bool) (letter : ℕ) (arguments : Arguments) (old new : Shown) → IsNameLetter short letter → bytes ≡ path → new ≡ shown_behind old (bytes_shown bytes)
    → Adds (IsLetterShown n path short letter arguments arguments) old new
name_letter n path bytes short letter arguments old new is same e =
    subst (λ (s : Bool). Adds (IsLetterShown n path s letter arguments arguments) old new) (sym is.1) (name_shown n path letter arguments old new is.0 (e ∙ ap (λ (bs : SourceText). shown_behind old (bytes_shown bs)) same))

pub converted_letter : (n : Names) (path : SourceText) (short : Bool) (letter : ℕ) (e : Expression) (arguments others : Arguments) (old new : Shown) → arguments ≡ Some e ∷ others → Adds (IsShownBy n short letter e) old new
    → Adds (IsLetterShown n path short letter arguments others) old new
converted_letter n path short letter e arguments others old new same h =
    subst (λ (xs : Arguments). Adds (IsLetterShown n path short letter xs others) old new) (sym same) (converted_shown n path short letter e others old new h)
