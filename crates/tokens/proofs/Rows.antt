-- Worked examples: the tokens of pieces, the digits of literals, the text of strings.
use Rattle.std.specs.Prelude.{◌≡◌, ℕ, ◌-◌, ◌^◌, List, [], ◌∷◌, ◌++◌, false, true, codes, refl, Option, Some, None, replicate}
use Rattle.logic4.specs.declared.digit.Digit.TheVariants.{Z}
use Rattle.logic4.specs.Vector.{vector, unknown}
use Rattle.tokens.specs.declared.token.Kind.{Kind}
use Rattle.tokens.specs.declared.token.Kind.TheVariants as k
use Rattle.tokens.specs.Tokens.{PlainTokens}
use Rattle.tokens.specs.Literals.{decimal_of, binary_digits, hex_digits, fitted, decimal_vector, based, literal_of, numeral_value_of, token_value, token_digits}
use Rattle.tokens.specs.Lexing.{words, system_names, signs, kind_by_first, tokens_of_piece, string_text, is_string_rest, is_comment_rest}

abbrev one : Kind → List ℕ → ℕ → Option PlainTokens
one kind text value = Some (record { kind = kind; text = text; value = value; bits = None } ∷ [])

a_name : tokens_of_piece (codes "a_1$") ≡ one k.Name (codes "a_1$") 0
unfolding tokens_of_piece words system_names signs kind_by_first
a_name = refl

reserved_word : tokens_of_piece (codes "begin") ≡ one k.Begin (codes "begin") 0
unfolding tokens_of_piece words
reserved_word = refl

-- names differ by case
name_in_capitals : tokens_of_piece (codes "Begin") ≡ one k.Name (codes "Begin") 0
unfolding tokens_of_piece words system_names signs kind_by_first
name_in_capitals = refl

system_name : tokens_of_piece (codes "$display") ≡ one k.Display (codes "$display") 0
unfolding tokens_of_piece words system_names
system_name = refl

another_system_name : tokens_of_piece (codes "$strobe") ≡ one k.Strobe (codes "$strobe") 0
unfolding tokens_of_piece words system_names
another_system_name = refl

-- the whole name counts
longer_system_name : tokens_of_piece (codes "$strobes") ≡ one k.System (codes "$strobes") 0
unfolding tokens_of_piece words system_names signs kind_by_first
longer_system_name = refl

-- a system name that the grammar doesn't have is a token all the same
other_system_name : tokens_of_piece (codes "$time") ≡ one k.System (codes "$time") 0
unfolding tokens_of_piece words system_names signs kind_by_first
other_system_name = refl

nonblocking_sign : tokens_of_piece (codes "<=") ≡ one k.AtMost (codes "<=") 0
unfolding tokens_of_piece words system_names signs
nonblocking_sign = refl

plain_decimal : tokens_of_piece (codes "18") ≡ one k.Decimal (codes "18") 18
unfolding tokens_of_piece words system_names signs kind_by_first numeral_value_of decimal_of
plain_decimal = refl

eighteen_digits : numeral_value_of (codes "999999999999999999") ≡ Some (999999999999999999, None)
unfolding numeral_value_of decimal_of
eighteen_digits = refl

nineteen_digits : tokens_of_piece (codes "1234567890123456789") ≡ None
unfolding tokens_of_piece numeral_value_of decimal_of
nineteen_digits = refl

-- a sized literal carries its digits
sized_literal : tokens_of_piece (codes "4'b00001") ≡ Some (record { kind = k.Sized; text = codes "4'b00001"; value = 0; bits = Some (vector 4 1) } ∷ [])
unfolding tokens_of_piece words system_names signs kind_by_first numeral_value_of literal_of decimal_of based binary_digits fitted
sized_literal = refl

-- a plain decimal has a value, and a sized literal digits alone
value_of_a_decimal : token_value (codes "18") ≡ 18
unfolding token_value numeral_value_of decimal_of
value_of_a_decimal = refl

value_of_a_literal : token_value (codes "4'b00001") ≡ 0
unfolding token_value numeral_value_of literal_of decimal_of based binary_digits fitted
value_of_a_literal = refl

digits_of_a_literal : token_digits (codes "4'b00001") ≡ Some (vector 4 1)
unfolding token_digits numeral_value_of literal_of decimal_of based binary_digits fitted
digits_of_a_literal = refl

digits_of_a_decimal : token_digits (codes "18") ≡ None
unfolding token_digits numeral_value_of decimal_of
digits_of_a_decimal = refl

a_space : tokens_of_piece (codes " ") ≡ Some []
unfolding tokens_of_piece
a_space = refl

-- ---- literals

-- 3'h7 and 4'b00001 are literals, 3'h8, 3'hx and 8'd256 are too wide
seven : literal_of (codes "3'h7") ≡ Some (vector 3 7)
unfolding literal_of decimal_of based hex_digits fitted
seven = refl

one_of_five : literal_of (codes "4'b00001") ≡ Some (vector 4 1)
unfolding literal_of decimal_of based binary_digits fitted
one_of_five = refl

eight_in_three : literal_of (codes "3'h8") ≡ None
unfolding literal_of decimal_of based hex_digits fitted
eight_in_three = refl

x_in_three : literal_of (codes "3'hx") ≡ None
unfolding literal_of decimal_of based hex_digits fitted
x_in_three = refl

too_great : literal_of (codes "8'd256") ≡ None
unfolding literal_of decimal_of based decimal_vector
too_great = refl

greatest_byte : literal_of (codes "8'd255") ≡ Some (vector 8 255)
unfolding literal_of decimal_of based decimal_vector
greatest_byte = refl

-- 8'bx is eight x digits, and 8'hz1 has four z digits above 0001
all_x : literal_of (codes "8'bx") ≡ Some (unknown 8)
unfolding literal_of decimal_of based binary_digits fitted
all_x = refl

z_and_one : literal_of (codes "8'hz1") ≡ Some (vector 4 1 ++ replicate 4 Z)
unfolding literal_of decimal_of based hex_digits fitted
z_and_one = refl

-- leading zeros of a size don't count, a size is 1 to 128, and there is a digit
zeros_in_size : literal_of (codes "0008'd1") ≡ Some (vector 8 1)
unfolding literal_of decimal_of based decimal_vector
zeros_in_size = refl

no_size : literal_of (codes "129'h0") ≡ None
unfolding literal_of decimal_of
no_size = refl

-- the number of base d may have as many bits as the size
greatest_number : literal_of (codes "128'd340282366920938463463374607431768211455") ≡ Some (vector 128 (2 ^ 128 - 1))
unfolding literal_of decimal_of based decimal_vector
greatest_number = refl

too_great_a_number : literal_of (codes "128'd340282366920938463463374607431768211456") ≡ None
unfolding literal_of decimal_of based decimal_vector
too_great_a_number = refl

no_digit : literal_of (codes "8'b") ≡ None
unfolding literal_of decimal_of based
no_digit = refl

-- only lower case is used
capital_base : literal_of (codes "8'B1") ≡ None
unfolding literal_of decimal_of based
capital_base = refl

-- ---- strings and comments

-- a string with an escaped quote and a newline: "a\"\n"
quoted : string_text (34 ∷ 97 ∷ 92 ∷ 34 ∷ 92 ∷ 110 ∷ 34 ∷ []) ≡ 97 ∷ 34 ∷ 10 ∷ []
quoted = refl

-- the rest of "a" with no second quote, and with something behind it
unfinished : is_string_rest false (97 ∷ []) ≡ false
unfinished = refl

past_the_quote : is_string_rest false (97 ∷ 34 ∷ 97 ∷ []) ≡ false
past_the_quote = refl

-- in /*/ the star isn't used twice
star_once : is_comment_rest false (codes "/") ≡ false
star_once = refl

stars : is_comment_rest false (codes " ***/") ≡ true
stars = refl
