-- What directives say of the modules behind them, by the words behind them (IEEE 1364-2005, 19.2, 19.7, 19.8, 19.9).
use Rattle.std.specs.Prelude.{ℕ, ◌+◌, ◌*◌, ◌-◌, ◌^◌, List, [], ◌∷◌, Bool, ◌||◌, ◌==◌, nat_lt, if◌then◌else◌, Option, Some, None, codes}
use Rattle.std.specs.Str.{bytes_eq}
use Rattle.lexemes.specs.declared.token.Keyword.{Keyword}
use Rattle.lexemes.specs.declared.token.Keyword.TheVariants as w
use Rattle.lexemes.specs.declared.token.TokenKind.{TokenKind}
use Rattle.lexemes.specs.declared.token.TokenKind.TheVariants as k
use Rattle.lexemes.specs.declared.token.LexemeKind.{LexemeKind}
use Rattle.lexemes.specs.declared.token.LexemeKind.TheVariants as l
use Rattle.lexemes.specs.contracts.token.Keyword.{the_type as keyword_type}
use denote.Enum.Bare.{sameb}
use Rattle.source_texts.specs.declared.settings.TimeUnit.{TimeUnit}
use Rattle.source_texts.specs.declared.settings.ModuleSetting.{ModuleSetting}
use Rattle.source_texts.specs.declared.settings.ModuleSetting.TheVariants as s

-- Words, each with a power of ten.
abbrev pub PowersOfWords : Type 0
PowersOfWords = List (List ℕ × ℕ)

-- The power that a table has for a word.
abbrev pub power_of_word : PowersOfWords → List ℕ → Option ℕ
power_of_word [] word = None
power_of_word (row ∷ rows) word = if bytes_eq word row.0 then Some row.1 else power_of_word rows word

-- The numbers that may stand before a unit of time (19.8).
unfoldable pub number_powers : PowersOfWords
number_powers = (codes "1", 0) ∷ (codes "10", 1) ∷ (codes "100", 2) ∷ []

-- The units of time, each with the femtoseconds in one of it (19.8).
unfoldable pub unit_powers : PowersOfWords
unit_powers = (codes "fs", 0) ∷ (codes "ps", 3) ∷ (codes "ns", 6) ∷ (codes "us", 9) ∷ (codes "ms", 12) ∷ (codes "s", 15) ∷ []

-- The time of a number and a unit, by their powers, where a byte holds their sum.
abbrev pub time_by_powers : Option ℕ → Option ℕ → Option TimeUnit
time_by_powers None unit = None
time_by_powers (Some number) None = None
time_by_powers (Some number) (Some unit) = if nat_lt (unit + number) 256 then Some (record { power = unit + number }) else None

-- The time that a number and a unit stand for, where they are ones of 19.8.
abbrev pub time_in_words : List ℕ → List ℕ → Option TimeUnit
time_in_words number unit = time_by_powers (power_of_word number_powers number) (power_of_word unit_powers unit)

-- A word is the type of a net (19.2).
abbrev pub is_net_type : Keyword → Bool
is_net_type word =
    sameb keyword_type word w.Wire || sameb keyword_type word w.Tri || sameb keyword_type word w.Tri0 || sameb keyword_type word w.Tri1 || sameb keyword_type word w.WAnd
    || sameb keyword_type word w.TriAnd || sameb keyword_type word w.WOr || sameb keyword_type word w.TriOr || sameb keyword_type word w.TriReg || sameb keyword_type word w.UWire

-- What a `default_nettype says, by the word behind it: the type of a net, or none (19.2).
abbrev pub nettype_of_word : Keyword → Option ModuleSetting
nettype_of_word word = if is_net_type word then Some (s.DefaultNettype (Some word)) else None

abbrev pub nettype_of_name : List ℕ → Option ModuleSetting
nettype_of_name text = if bytes_eq text (codes "none") then Some (s.DefaultNettype None) else None

abbrev pub nettype_of_token : TokenKind → List ℕ → Option ModuleSetting
nettype_of_token (k.Keyword word) text = nettype_of_word word
nettype_of_token k.Name text = nettype_of_name text
nettype_of_token _ text = None

abbrev pub nettype_setting : LexemeKind → List ℕ → Option ModuleSetting
nettype_setting (l.Token kind) text = nettype_of_token kind text
nettype_setting l.Directive text = None
nettype_setting l.Joint text = None

-- What an `unconnected_drive says, by the word behind it: pull0 or pull1 (19.9).
abbrev pub drive_of_word : Keyword → Option ModuleSetting
drive_of_word word = if sameb keyword_type word w.Pull0 || sameb keyword_type word w.Pull1 then Some (s.UnconnectedDrive (Some word)) else None

abbrev pub drive_of_token : TokenKind → Option ModuleSetting
drive_of_token (k.Keyword word) = drive_of_word word
drive_of_token _ = None

abbrev pub drive_setting : LexemeKind → Option ModuleSetting
drive_setting (l.Token kind) = drive_of_token kind
drive_setting l.Directive = None
drive_setting l.Joint = None

-- The number that digits stand for after those that gave n, where 64 bits hold it; a _ between them counts for nothing (19.7).
abbrev pub line_number_from : ℕ → List ℕ → Option ℕ
line_number_from n [] = Some n
line_number_from n (b ∷ bs) = if b == 95 then line_number_from n bs else (if nat_lt (n * 10 + (b - 48)) (2 ^ 64) then line_number_from (n * 10 + (b - 48)) bs else None)
