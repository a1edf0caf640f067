-- A design whose formats are ASCII prints ASCII.
use Rattle.std.proofs.Common.{◌≡◌, ◌≢◌, ℕ, zero, suc, ◌+◌, ◌-◌, ◌/◌, ◌%◌, ◌^◌, ◌<◌, ◌≤◌, ◌==◌, Bool, true, false, if◌then◌else◌, nat_lt, List, [], ◌∷◌, ◌++◌, length, replicate, decimal, ℤ, pos, negsuc, Option, Some, None, option_map, refl, subst, arith}
use lib.Pow.{pow_mono}
use Rattle.std.specs.Fmt.{digits, digits_onto, digit_glyph, signed_decimal}
use Rattle.std.specs.List.{All, list_all, list_any}
use Rattle.std.proofs.Math.Nat.{pow-suc}
use Rattle.std.proofs.lemmas.Bool.Decides.{nat_tests}
use Rattle.std.proofs.lemmas.List.Elements.{All-nil, All-cons, All-head, All-tail, All-append}
use Rattle.logic4.specs.declared.digit.Digit.{Digit}
use Rattle.logic4.specs.declared.digit.Digit.TheVariants.{Zero, One, X, Z}
use Rattle.logic4.specs.Vector.{Vector, is_known, number, digit_number, resize}
use Rattle.logic4.proofs.Lengths.{length-resize}
use Rattle.logic4.specs.declared.conversion.Conversion.{Conversion}
use Rattle.logic4.specs.declared.conversion.Conversion.TheVariants.{Binary, ShortBinary, Octal, ShortOctal, Hex, ShortHex, Decimal, PaddedDecimal, SignedDecimal, PaddedSignedDecimal, Character, Characters, ShortCharacters, Time}
use Rattle.logic4.specs.Display.{is_x, is_z, digit_text, binary_text, unknown_text, octal_text, hex_digit_text, hex_group_text, hex_text, decimal_text, signed_text, behind_byte, without_zeros, right_justified, decimal_field, signed_field, bytes_of, octal_digit, character_text, characters_text, filled_text, shown}
use Rattle.logic4.specs.Signed.{signed_number}
use Rattle.model.specs.declared.tree.Task.TheVariants.{Display, Strobe, Write}
use Rattle.model.specs.declared.entry.Entry.{Entry}
use Rattle.model.specs.declared.entry.Entry.TheVariants.{Update, ActivateInactive, ActivateNba, ActivateMonitor, Advance}
use Rattle.model.specs.Design.{Design, Statement, Empty, Assign, AssignAfter, AssignLater, Now, Delay, Await, If, While, Print, Finish, statement_at, process_at}
use Rattle.model.specs.Syntax.{Piece, Byte, Argument}
use Rattle.model.specs.Expressions.{Store}
use Rattle.model.specs.Turns.{Remainder, At, Set, Ended, Turn, Going, Next, Goes, Over, begun, counted, goes_on, stops, whole, line_text, written_text, format_text, own_values, after_statement, next, and_then, turn_within}
use Rattle.model.specs.States.{State, Action, Evaluate}
use Rattle.model.specs.Runs.{Effect, refusal, action_in, remainder_of, turn_of, turn_effect, action_effect, effect, strobe_line, strobe_lines_at}
use Rattle.model.proofs.RunLaws.{unless_some}
use Rattle.model.proofs.TurnLaws.{short_turn_is}
use Rattle.looseruns.specs.RegisterObserver.{sight_mark}
use Rattle.looseruns.specs.RegisterSights.{IsAsciiPiece, HasAsciiFormat, HasAsciiFormats, AsciiDesignsPrintNoMark}

-- bytes of ASCII
abbrev AreAscii : List ℕ → Type 0
AreAscii [] = Unit {0}
AreAscii (x ∷ xs) = (x < sight_mark) × AreAscii xs

ascii-append : (xs ys : List ℕ) → AreAscii xs → AreAscii ys → AreAscii (xs ++ ys)
ascii-append [] ys h k = k
ascii-append (x ∷ xs) ys h k = (h.0, ascii-append xs ys h.1 k)

ascii_if : (b : Bool) (xs ys : List ℕ) → AreAscii xs → AreAscii ys → AreAscii (if b then xs else ys)
ascii_if true xs ys h k = h
ascii_if false xs ys h k = k

-- one byte of ASCII
one : (x : ℕ) → x < sight_mark → AreAscii (x ∷ [])
one x low = (low, tt)

-- the digits of numbers

glyph_low : (d : ℕ) (b : Bool) → d < 10 → (if b then 48 + d else (if false then 55 + d else 87 + d)) < sight_mark
glyph_low d true low = omega (arith, low)
glyph_low d false low = omega (arith, low)

digit_low : (n : ℕ) → n % 10 < 10
digit_low n = omega arith

onto_ascii : (k n : ℕ) (acc : List ℕ) → AreAscii acc → AreAscii (digits_onto k 10 false n acc)
onto_ascii zero n acc h = h
onto_ascii (suc k) n acc h =
    let more : AreAscii (digit_glyph false (n % 10) ∷ acc) = (glyph_low (n % 10) (nat_lt (n % 10) 10) (digit_low n), h) in
    ascii_if (n / 10 == 0) (digit_glyph false (n % 10) ∷ acc) (digits_onto k 10 false (n / 10) (digit_glyph false (n % 10) ∷ acc)) more (onto_ascii k (n / 10) (digit_glyph false (n % 10) ∷ acc) more)

decimal_ascii : (n : ℕ) → AreAscii (decimal n)
unfolding digits
decimal_ascii n = onto_ascii 64 n [] tt

-- the texts of vectors

digit_ascii : (d : Digit) → AreAscii (digit_text d)
digit_ascii Zero = one 48 (omega arith)
digit_ascii One = one 49 (omega arith)
digit_ascii X = one 120 (omega arith)
digit_ascii Z = one 122 (omega arith)

binary_ascii : (v : Vector) → AreAscii (binary_text v)
binary_ascii [] = tt
binary_ascii (d ∷ v) = ascii-append (binary_text v) (digit_text d) (binary_ascii v) (digit_ascii d)

unknown_ascii : (v : Vector) → AreAscii (unknown_text v)
unknown_ascii v =
    let small : AreAscii (if list_all is_z v then 122 ∷ [] else 90 ∷ []) = ascii_if (list_all is_z v) (122 ∷ []) (90 ∷ []) (one 122 (omega arith)) (one 90 (omega arith)) in
    let some : AreAscii (if list_any is_x v then 88 ∷ [] else (if list_all is_z v then 122 ∷ [] else 90 ∷ [])) = ascii_if (list_any is_x v) (88 ∷ []) (if list_all is_z v then 122 ∷ [] else 90 ∷ []) (one 88 (omega arith)) small in
    ascii_if (list_all is_x v) (120 ∷ []) (if list_any is_x v then 88 ∷ [] else (if list_all is_z v then 122 ∷ [] else 90 ∷ [])) (one 120 (omega arith)) some

bit_low : (d : Digit) → digit_number d < 2
bit_low Zero = omega arith
bit_low One = omega arith
bit_low X = omega arith
bit_low Z = omega arith

hex_low : (n : ℕ) (b : Bool) → n < 16 → (if b then 48 + n else 87 + n) < sight_mark
hex_low n true low = omega (arith, low)
hex_low n false low = omega (arith, low)

group_ascii : (v : Vector) → number v < 16 → AreAscii (hex_group_text v)
group_ascii v low =
    ascii_if (is_known v) (hex_digit_text (number v)) (unknown_text v) (one (if nat_lt (number v) 10 then 48 + number v else 87 + number v) (hex_low (number v) (nat_lt (number v) 10) low)) (unknown_ascii v)

hex_ascii : (v : Vector) → AreAscii (hex_text v)
hex_ascii [] = tt
hex_ascii (a ∷ []) = group_ascii (a ∷ []) (omega (arith, bit_low a))
hex_ascii (a ∷ b ∷ []) = group_ascii (a ∷ b ∷ []) (omega (arith, bit_low a, bit_low b))
hex_ascii (a ∷ b ∷ c ∷ []) = group_ascii (a ∷ b ∷ c ∷ []) (omega (arith, bit_low a, bit_low b, bit_low c))
hex_ascii (a ∷ b ∷ c ∷ d ∷ v) =
    ascii-append (hex_text v) (hex_group_text (a ∷ b ∷ c ∷ d ∷ [])) (hex_ascii v) (group_ascii (a ∷ b ∷ c ∷ d ∷ []) (omega (arith, bit_low a, bit_low b, bit_low c, bit_low d)))

octal_ascii : (v : Vector) → AreAscii (octal_text v)
octal_ascii [] = tt
octal_ascii (a ∷ []) = group_ascii (a ∷ []) (omega (arith, bit_low a))
octal_ascii (a ∷ b ∷ []) = group_ascii (a ∷ b ∷ []) (omega (arith, bit_low a, bit_low b))
octal_ascii (a ∷ b ∷ c ∷ v) =
    ascii-append (octal_text v) (hex_group_text (a ∷ b ∷ c ∷ [])) (octal_ascii v) (group_ascii (a ∷ b ∷ c ∷ []) (omega (arith, bit_low a, bit_low b, bit_low c)))

-- a text without its zeros at the front
behind_ascii : (b : ℕ) (bs dropped : List ℕ) → b < sight_mark → AreAscii bs → AreAscii dropped → AreAscii (behind_byte b bs dropped)
behind_ascii b [] dropped low h k = one b low
behind_ascii b (c ∷ bs) dropped low h k = ascii_if (b == 48) dropped (b ∷ c ∷ bs) k (low, h)

short_ascii : (text : List ℕ) → AreAscii text → AreAscii (without_zeros text)
short_ascii [] h = tt
short_ascii (b ∷ bs) h = behind_ascii b bs (without_zeros bs) h.0 h.1 (short_ascii bs h.1)

-- blanks before a text
blanks_ascii : (n : ℕ) (text : List ℕ) → AreAscii text → AreAscii (replicate n 32 ++ text)
blanks_ascii zero text h = h
blanks_ascii (suc n) text h = (omega arith, blanks_ascii n text h)

justified_ascii : (field : ℕ) (text : List ℕ) → AreAscii text → AreAscii (right_justified field text)
justified_ascii field text h = blanks_ascii (field - length text) text h

decimal_of_ascii : (v : Vector) → AreAscii (decimal_text v)
decimal_of_ascii v = ascii_if (is_known v) (decimal (number v)) (unknown_text v) (decimal_ascii (number v)) (unknown_ascii v)

whole_ascii : (n : ℤ) → AreAscii (signed_decimal n)
whole_ascii (pos n) = decimal_ascii n
whole_ascii (negsuc n) = (omega arith, decimal_ascii (suc n))

signed_ascii : (v : Vector) → AreAscii (signed_text v)
signed_ascii v = ascii_if (is_known v) (signed_decimal (signed_number v)) (unknown_text v) (whole_ascii (signed_number v)) (unknown_ascii v)

-- characters of bytes

abbrev AreBytes : List ℕ → Type 0
AreBytes bs = All (λ b. b < 256) bs

below_ascii : (n : ℕ) → nat_lt n 128 ≡ true → n < 128
below_ascii n e = grind (arith, nat_tests)

character_by : (b : ℕ) (t : Bool) → b < 256 → nat_lt b 128 ≡ t → AreAscii (if t then b ∷ [] else 92 ∷ octal_digit (b / 64) ∷ octal_digit (b / 8 % 8) ∷ octal_digit (b % 8) ∷ [])
character_by b true low e = one b (below_ascii b e)
character_by b false low e = (omega arith, (omega (arith, low), (omega arith, (omega arith, tt))))

character_ascii : (b : ℕ) → b < 256 → AreAscii (character_text b)
character_ascii b low = character_by b (nat_lt b 128) low refl

characters_ascii : (bs : List ℕ) → AreBytes bs → AreAscii (characters_text bs)
characters_ascii [] h = tt
characters_ascii (b ∷ bs) h =
    ascii-append (character_text b) (characters_text bs) (character_ascii b (All-head (λ b. b < 256) b bs h)) (characters_ascii bs (All-tail (λ b. b < 256) b bs h))

filled_ascii : (blank bs : List ℕ) → AreAscii blank → AreBytes bs → AreAscii (filled_text blank bs)
filled_ascii blank [] k h = tt
filled_ascii blank (b ∷ bs) k h =
    ascii_if (b == 0) (blank ++ filled_text blank bs) (character_text b ++ characters_text bs)
    (ascii-append blank (filled_text blank bs) k (filled_ascii blank bs k (All-tail (λ b. b < 256) b bs h)))
    (characters_ascii (b ∷ bs) h)

one_byte : (b : ℕ) → b < 256 → AreBytes (b ∷ [])
one_byte b low = All-cons (λ b. b < 256) b [] low (All-nil (λ b. b < 256))

bytes_low : (v : Vector) → AreBytes (bytes_of v)
bytes_low [] = All-nil (λ b. b < 256)
bytes_low (a ∷ []) = one_byte _ (omega (arith, bit_low a))
bytes_low (a ∷ b ∷ []) = one_byte _ (omega (arith, bit_low a, bit_low b))
bytes_low (a ∷ b ∷ c ∷ []) = one_byte _ (omega (arith, bit_low a, bit_low b, bit_low c))
bytes_low (a ∷ b ∷ c ∷ d ∷ []) = one_byte _ (omega (arith, bit_low a, bit_low b, bit_low c, bit_low d))
bytes_low (a ∷ b ∷ c ∷ d ∷ e ∷ []) = one_byte _ (omega (arith, bit_low a, bit_low b, bit_low c, bit_low d, bit_low e))
bytes_low (a ∷ b ∷ c ∷ d ∷ e ∷ f ∷ []) = one_byte _ (omega (arith, bit_low a, bit_low b, bit_low c, bit_low d, bit_low e, bit_low f))
bytes_low (a ∷ b ∷ c ∷ d ∷ e ∷ f ∷ g ∷ []) =
    one_byte _ (omega (arith, bit_low a, bit_low b, bit_low c, bit_low d, bit_low e, bit_low f, bit_low g))
bytes_low (a ∷ b ∷ c ∷ d ∷ e ∷ f ∷ g ∷ i ∷ v) =
    All-append (λ b. b < 256) (bytes_of v) _ (bytes_low v)
    (one_byte _ (omega (arith, bit_low a, bit_low b, bit_low c, bit_low d, bit_low e, bit_low f, bit_low g, bit_low i)))

number_low : (v : Vector) → number v < 2 ^ length v
number_low [] = omega arith
number_low (d ∷ v) = omega (arith, pow-suc 2 (length v), number_low v, bit_low d)

eight_low : (v : Vector) → length v ≤ 8 → number v < 256
eight_low v h = omega (arith, number_low v, pow_mono h)

shown_ascii : (conversion : Conversion) (v : Vector) → AreAscii (shown conversion v)
shown_ascii Binary v = binary_ascii v
shown_ascii ShortBinary v = short_ascii (binary_text v) (binary_ascii v)
shown_ascii Octal v = octal_ascii v
shown_ascii ShortOctal v = short_ascii (octal_text v) (octal_ascii v)
shown_ascii Hex v = hex_ascii v
shown_ascii ShortHex v = short_ascii (hex_text v) (hex_ascii v)
shown_ascii Decimal v = decimal_of_ascii v
shown_ascii PaddedDecimal v = justified_ascii (decimal_field (length v)) (decimal_text v) (decimal_of_ascii v)
shown_ascii SignedDecimal v = signed_ascii v
shown_ascii PaddedSignedDecimal v = justified_ascii (signed_field (length v)) (signed_text v) (signed_ascii v)
shown_ascii Character v = character_ascii (number (resize 8 v)) (eight_low (resize 8 v) (omega (arith, length-resize 8 v)))
shown_ascii Characters v = filled_ascii (32 ∷ []) (bytes_of v) (one 32 (omega arith)) (bytes_low v)
shown_ascii ShortCharacters v = filled_ascii [] (bytes_of v) tt (bytes_low v)
shown_ascii Time v = justified_ascii 20 (decimal_text v) (decimal_of_ascii v)

text_ascii : (behind : List ℕ) (format : List Piece) (vs : List Vector) → AreAscii behind → All IsAsciiPiece format → AreAscii (format_text behind format vs)
text_ascii behind [] vs end h = end
text_ascii behind (Byte b ∷ pieces) vs end h = (All-head IsAsciiPiece (Byte b) pieces h, text_ascii behind pieces vs end (All-tail IsAsciiPiece (Byte b) pieces h))
text_ascii behind (Argument conversion ∷ pieces) [] end h = text_ascii behind pieces [] end (All-tail IsAsciiPiece (Argument conversion) pieces h)
text_ascii behind (Argument conversion ∷ pieces) (v ∷ vs) end h =
    ascii-append (shown conversion v) (format_text behind pieces vs) (shown_ascii conversion v) (text_ascii behind pieces vs end (All-tail IsAsciiPiece (Argument conversion) pieces h))

line_ascii : (format : List Piece) (vs : List Vector) → All IsAsciiPiece format → AreAscii (line_text format vs)
line_ascii format vs h = text_ascii (10 ∷ []) format vs (one 10 (omega arith)) h

-- the lines of turns

abbrev IsAsciiNext : Next → Type 0
IsAsciiNext (Goes g) = AreAscii g.lines
IsAsciiNext (Over turn) = AreAscii turn.lines

statement_ascii : (design : Design) (now : ℕ) (g : Going) (place : ℕ) (s : Statement) (rest : Remainder) → HasAsciiFormat s → AreAscii g.lines → IsAsciiNext (after_statement design now g place s rest)
statement_ascii design now g place Empty rest format h = h
statement_ascii design now g place (Assign r e) rest format h = h
statement_ascii design now g place (AssignAfter r delay e) rest format h = h
statement_ascii design now g place (AssignLater r delay e) rest format h = h
statement_ascii design now g place (Now r) rest format h = h
statement_ascii design now g place (Delay delay body) rest format h = h
statement_ascii design now g place (Await triggers body) rest format h = h
statement_ascii design now g place (If c body otherwise) rest format h = h
statement_ascii design now g place (While c body) rest format h = h
statement_ascii design now g place (Print Display pieces arguments) rest format h =
    let values = own_values design.widths g.values arguments in
    ascii-append g.lines (line_text pieces values) h (line_ascii pieces values format)
statement_ascii design now g place (Print Write pieces arguments) rest format h =
    let values = own_values design.widths g.values arguments in
    ascii-append g.lines (written_text pieces values) h (text_ascii [] pieces values tt format)
statement_ascii design now g place (Print Strobe pieces arguments) rest format h = h
statement_ascii design now g place Finish rest format h = h

end_ascii : (design : Design) (p : ℕ) (g : Going) (b : Bool) → AreAscii g.lines → IsAsciiNext (if b then goes_on (counted [] g) (whole design p) else stops g Ended false [])
end_ascii design p g true h = h
end_ascii design p g false h = h

next_ascii : (design : Design) (p now : ℕ) (g : Going) (left : Remainder) → HasAsciiFormats design → AreAscii g.lines → IsAsciiNext (next design p now g left)
next_ascii design p now g (At place ∷ rest) formats h = statement_ascii design now g place (statement_at design place) rest (formats place) h
next_ascii design p now g (Set r v ∷ rest) formats h = h
next_ascii design p now g [] formats h = end_ascii design p g (process_at design p).repeats h

from_next : (n : Next) (others : Going → Option Turn) (turn : Turn) → ((g : Going) → AreAscii g.lines → others g ≡ Some turn → AreAscii turn.lines) → IsAsciiNext n → and_then n others ≡ Some turn → AreAscii turn.lines
from_next (Goes g) others turn later ascii h = later g ascii h
from_next (Over t) others turn later ascii h = let same : t ≡ turn = cc in subst (λ (x : Turn). AreAscii x.lines) same ascii

turn_ascii : (k : ℕ) (design : Design) (p now : ℕ) (g : Going) (turn : Turn) → HasAsciiFormats design → AreAscii g.lines → turn_within k design p now g ≡ Some turn → AreAscii turn.lines
unfolding turn_within
turn_ascii zero design p now g turn formats ascii h = cc
turn_ascii (suc k) design p now g turn formats ascii h =
    from_next (next design p now g g.left) (turn_within k design p now) turn (λ g' ascii' h'. turn_ascii k design p now g' turn formats ascii' h') (next_ascii design p now g g.left formats ascii) h

turn_of_ascii : (design : Design) (s : State) (p : ℕ) (turn : Turn) → HasAsciiFormats design → turn_of design s p ≡ Some turn → AreAscii turn.lines
turn_of_ascii design s p turn formats h =
    let (k, found) = (short_turn_is design p (remainder_of s p) s.store s.time turn h).0 in
    turn_ascii k design p s.time (begun (remainder_of s p) s.store) turn formats tt found

-- the lines of steps

strobe_ascii : (design : Design) (store : Store) (s : Statement) → HasAsciiFormat s → AreAscii (strobe_line design store s)
strobe_ascii design store Empty format = tt
strobe_ascii design store (Assign r e) format = tt
strobe_ascii design store (AssignAfter r delay e) format = tt
strobe_ascii design store (AssignLater r delay e) format = tt
strobe_ascii design store (Now r) format = tt
strobe_ascii design store (Delay delay body) format = tt
strobe_ascii design store (Await triggers body) format = tt
strobe_ascii design store (If c body otherwise) format = tt
strobe_ascii design store (While c body) format = tt
strobe_ascii design store (Print Display pieces arguments) format = tt
strobe_ascii design store (Print Write pieces arguments) format = tt
strobe_ascii design store (Print Strobe pieces arguments) format = line_ascii pieces (own_values design.widths store arguments) format
strobe_ascii design store Finish format = tt

strobes_ascii : (design : Design) (store : Store) (places : List ℕ) → HasAsciiFormats design → AreAscii (strobe_lines_at design store places)
strobes_ascii design store [] formats = tt
strobes_ascii design store (place ∷ places) formats =
    ascii-append (strobe_line design store (statement_at design place)) (strobe_lines_at design store places) (strobe_ascii design store (statement_at design place) (formats place)) (strobes_ascii design store places formats)

of_turn : (s : State) (m p : ℕ) (f : Effect) (o : Option Turn) → ((turn : Turn) → o ≡ Some turn → AreAscii turn.lines) → option_map (turn_effect s m p) o ≡ Some f → AreAscii f.lines
of_turn s m p f None ascii h = cc
of_turn s m p f (Some turn) ascii h =
    let same : turn_effect s m p turn ≡ f = cc in
    subst (λ (x : Effect). AreAscii x.lines) same (ascii turn refl)

of_effect : (e f : Effect) → Some e ≡ Some f → AreAscii e.lines → AreAscii f.lines
of_effect e f is ascii =
    let same : e ≡ f = cc in
    subst (λ (x : Effect). AreAscii x.lines) same ascii

of_action : (design : Design) (s : State) (m : ℕ) (f : Effect) (o : Option Action) → HasAsciiFormats design → action_effect design s m o ≡ Some f → AreAscii f.lines
of_action design s m f None formats h = cc
of_action design s m f (Some (Evaluate p)) formats h = of_turn s m p f (turn_of design s p) (λ turn is. turn_of_ascii design s p turn formats is) h
of_action design s m f (Some (Action.Update r v)) formats h = of_effect _ f h tt

effect_ascii : (design : Design) (s : State) (entry : Entry) (f : Effect) → HasAsciiFormats design → effect design s entry ≡ Some f → AreAscii f.lines
effect_ascii design s (Entry.Turn m) f formats h = of_action design s m f (action_in s.active m) formats h
effect_ascii design s (Update m) f formats h = of_action design s m f (action_in s.active m) formats h
effect_ascii design s ActivateInactive f formats h = of_effect _ f h tt
effect_ascii design s ActivateNba f formats h = of_effect _ f h tt
effect_ascii design s ActivateMonitor f formats h = of_effect _ f h (strobes_ascii design s.store s.monitor formats)
effect_ascii design s (Advance time) f formats h = of_effect _ f h tt

no_mark : (lines : List ℕ) → AreAscii lines → All (λ byte. byte ≢ sight_mark) lines
no_mark [] h = All-nil (λ byte. byte ≢ sight_mark)
no_mark (x ∷ xs) (low, others) = All-cons (λ byte. byte ≢ sight_mark) x xs (λ e. omega (arith, low, e)) (no_mark xs others)

pub ascii_designs_print_no_mark : AsciiDesignsPrintNoMark
ascii_designs_print_no_mark design formats s entry f h =
    no_mark f.lines (effect_ascii design s entry f formats (unless_some (refusal s entry) (effect design s entry) f h).1)
