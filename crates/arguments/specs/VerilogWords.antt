-- The words that ask for a whole design, and the command line that they leave.
use Rattle.std.specs.Prelude.{◌≡◌, ◌≢◌, ℕ, ◌-◌, ◌&&◌, ◌==◌, Bool, true, false, not, if◌then◌else◌, List, [], ◌∷◌, ◌++◌, length, map, take, drop, Option, Some, None, is_some, Result, Ok, Err, codes, option_map, string_bytes}
use Rattle.std.specs.Str.{bytes_eq}
use Rattle.std.specs.Borrow.{Bor}
use Rattle.clap.specs.Words.{Text}
use Rattle.arguments.specs.declared.request.NoRequest.{NoRequest}
use Rattle.arguments.specs.declared.request.NoRequest.TheVariants as no_request
use Rattle.arguments.specs.declared.said_words.Awaited.{Awaited}
use Rattle.arguments.specs.declared.said_words.Awaited.TheVariants as awaits
use Rattle.arguments.specs.declared.said_words.DesignOption.{DesignOption}
use Rattle.arguments.specs.declared.said_words.DesignOption.TheVariants as option
use Rattle.arguments.specs.declared.said_words.SaidWords.{SaidWords}
use Rattle.arguments.specs.declared.said_words.SplitFault.{SplitFault}
use Rattle.arguments.specs.declared.said_words.SplitFault.TheVariants as fault
use Rattle.arguments.specs.declared.verilog_words.NamedWord.{NamedWord}
use Rattle.arguments.specs.declared.verilog_words.DesignWords.{DesignWords}
use Rattle.arguments.specs.declared.verilog_words.SplitWords.{SplitWords}
use Rattle.arguments.specs.declared.verilog_words.SplitWords.TheVariants as split

-- a name, and what is given to it behind a =, if something is
abbrev pub NamedText : Type 0
NamedText = Text × Option Text

-- what words say of a whole design, and the options and the other words that they leave
pub record PlainWords : Type 0 where
  pub top : Option Text
  pub folders : List Text
  pub definitions : List NamedText
  pub parameters : List NamedText
  pub options : List Text
  pub places : List Text

abbrev pub no_words : PlainWords
no_words = record { top = None; folders = []; definitions = []; parameters = []; options = []; places = [] }

-- a word is one of these
abbrev pub is_one_of : List Text → Text → Bool
is_one_of [] word = false
is_one_of (one ∷ all) word = if bytes_eq word one then true else is_one_of all word

-- what stands behind a beginning of a word, if the word begins so
unfoldable pub behind_prefix : Text → Text → Option Text
behind_prefix [] word = Some word
behind_prefix (a ∷ front) [] = None
behind_prefix (a ∷ front) (b ∷ bs) = if b == a then behind_prefix front bs else None

-- what stands before and behind the first = of a word
abbrev pub before_more : ℕ → NamedText → NamedText
before_more b found = (b ∷ found.0, found.1)

unfoldable pub named_text : Text → NamedText
named_text [] = ([], None)
named_text (b ∷ bs) = if b == 61 then ([], Some bs) else before_more b (named_text bs)

-- the first of two that is there
abbrev pub or_said : Option (DesignOption × Text) → Option (DesignOption × Text) → Option (DesignOption × Text)
or_said None other = other
or_said (Some found) other = Some found

-- an option, with what stands behind it in its word
abbrev pub said_with : DesignOption → Option Text → Option (DesignOption × Text)
said_with which rest = option_map (λ text. (which, text)) rest

-- `--top`, if a word is that alone
abbrev pub top_alone : Text → Option (DesignOption × Text)
top_alone word = if bytes_eq word (codes "--top") then Some (option.Top, []) else None

-- what an option says of a whole design, with the rest of its word, if it is one that does
abbrev pub said_by : Text → Option (DesignOption × Text)
said_by word =
    or_said (top_alone word)
    (or_said (said_with option.Top (behind_prefix (codes "--top=") word))
    (or_said (said_with option.Folder (behind_prefix (codes "-I") word))
    (or_said (said_with option.Definition (behind_prefix (codes "-D") word))
    (said_with option.Parameter (behind_prefix (codes "-P") word)))))

-- an option as the program has it
abbrev pub plain_option : Option (DesignOption × Bor Text) → Option (DesignOption × Text)
plain_option found = option_map (λ said. (said.0, said.1.now)) found

-- the words with what an option says; none where a top module is given twice, or a parameter without a value
abbrev pub with_top : PlainWords → Text → Option Text → Result PlainWords SplitFault
with_top w value None = Ok (record w { top = Some value })
with_top w value (Some other) = Err fault.SecondTop

abbrev pub with_parameter : PlainWords → NamedText → Result PlainWords SplitFault
with_parameter w named = if is_some named.1 then Ok (record w { parameters = w.parameters ++ named ∷ [] }) else Err fault.NoEquals

abbrev pub with_said : PlainWords → DesignOption → Text → Result PlainWords SplitFault
with_said w option.Top value = with_top w value w.top
with_said w option.Folder value = Ok (record w { folders = w.folders ++ value ∷ [] })
with_said w option.Definition value = Ok (record w { definitions = w.definitions ++ named_text value ∷ [] })
with_said w option.Parameter value = with_parameter w (named_text value)

-- a word is an option: it begins with a -, and isn't that alone
abbrev pub is_option : Text → Bool
is_option [] = false
is_option (b ∷ []) = false
is_option (b ∷ c ∷ bs) = b == 45

-- a long one begins with two
abbrev pub is_long_option : Text → Bool
is_long_option [] = false
is_long_option (b ∷ []) = false
is_long_option (b ∷ c ∷ bs) = (b == 45) && (c == 45)

-- the options that take no value
abbrev pub is_flag : Text → Bool
is_flag = is_one_of (codes "--versions" ∷ codes "--all" ∷ codes "--help" ∷ codes "--version" ∷ [])

-- the word behind an option is its value: behind a long one that takes one and doesn't have it
abbrev pub takes_next : Text → Bool
takes_next word = is_long_option word && (not (is_some (named_text word).1) && not (is_flag word))

-- what is awaited behind an option that says nothing of a whole design
abbrev pub awaited_behind : Text → Awaited
awaited_behind word = if takes_next word then awaits.Value else awaits.Nothing

-- the words with one that is no option of a whole design, and what is awaited behind it
abbrev pub with_other : PlainWords → Text → PlainWords × Awaited
with_other w word =
    if bytes_eq word (codes "--verilog") then (w, awaits.Nothing)
    else (if is_option word then (record w { options = w.options ++ word ∷ [] }, awaited_behind word)
    else (record w { places = w.places ++ word ∷ [] }, awaits.Nothing))

-- and where nothing is awaited behind it
abbrev pub settled : Result PlainWords SplitFault → Result (PlainWords × Awaited) SplitFault
settled (Ok w) = Ok (w, awaits.Nothing)
settled (Err found) = Err found

-- the words with an option, whose value is awaited where its word has none
abbrev pub with_own : PlainWords → DesignOption → Text → Result (PlainWords × Awaited) SplitFault
with_own w which [] = Ok (w, awaits.Said which)
with_own w which (b ∷ bs) = settled (with_said w which (b ∷ bs))

abbrev pub with_word : PlainWords → Text → Option (DesignOption × Text) → Result (PlainWords × Awaited) SplitFault
with_word w word (Some said) = with_own w said.0 said.1
with_word w word None = Ok (with_other w word)

-- the words with one more, by what is awaited: the value of an option, or nothing
abbrev pub word_taken : PlainWords → Awaited → Text → Result (PlainWords × Awaited) SplitFault
word_taken w (awaits.Said which) word = settled (with_said w which word)
word_taken w awaits.Value word = Ok (record w { options = w.options ++ word ∷ [] }, awaits.Nothing)
word_taken w awaits.Nothing word = with_word w word (said_by word)

-- a `--` behind which there are no options, unless it is the value of one
abbrev pub ends_options : Awaited → Text → Bool
ends_options awaits.Nothing word = bytes_eq word (codes "--")
ends_options _ word = false

-- at the end no value of an option of a whole design may be awaited
abbrev pub at_end : PlainWords → Awaited → Result PlainWords SplitFault
at_end w (awaits.Said which) = Err (fault.NoValue which)
at_end w _ = Ok w

abbrev pub then_taken : (PlainWords × Awaited → Result PlainWords SplitFault) → Result (PlainWords × Awaited) SplitFault → Result PlainWords SplitFault
then_taken more (Ok now) = more now
then_taken more (Err found) = Err found

-- the words with these more, which are no options
abbrev pub with_places : PlainWords → List Text → PlainWords
with_places w words = record w { places = w.places ++ words }

-- the words with all of these more; those behind a `--` are no options
unfoldable pub words_taken : PlainWords → Awaited → List Text → Result PlainWords SplitFault
words_taken w awaited [] = at_end w awaited
words_taken w awaited (word ∷ rest) =
    if ends_options awaited word then Ok (with_places w rest)
    else then_taken (λ now. words_taken now.0 now.1 rest) (word_taken w awaited word)

-- what the words behind a command say, or what is wrong with them
abbrev pub words_in : List Text → Result PlainWords SplitFault
words_in own = words_taken no_words awaits.Nothing own

-- how many words behind FILE are journals
abbrev pub journals_behind : Text → ℕ
journals_behind command = if is_one_of (codes "replay" ∷ codes "explain" ∷ codes "waves" ∷ []) command then 1 else (if bytes_eq command (codes "diff") then 2 else 0)

-- `--verilog` stands among words, before any `--`
unfoldable pub has_verilog : List Text → Bool
has_verilog [] = false
has_verilog (word ∷ rest) = if bytes_eq word (codes "--") then false else (if bytes_eq word (codes "--verilog") then true else has_verilog rest)

-- a command takes a FILE
abbrev pub takes_files : Text → Bool
takes_files = is_one_of (codes "run" ∷ codes "replay" ∷ codes "races" ∷ codes "check" ∷ codes "explain" ∷ codes "waves" ∷ codes "diff" ∷ codes "flatten" ∷ [])

-- the words behind a command ask for a whole design: `flatten`, or `--verilog`
abbrev pub asks_whole : Text → List Text → Bool
asks_whole command own = takes_files command && (if bytes_eq command (codes "flatten") then true else has_verilog own)

abbrev pub AskWhole : List Text → Bool
AskWhole [] = false
AskWhole (program ∷ []) = false
AskWhole (program ∷ command ∷ own) = asks_whole command own

-- how many of some places are files: all but the last, which are journals
abbrev pub files_among : Text → List Text → ℕ
files_among command places = length places - journals_behind command

-- the files of a design among places
abbrev pub files_of : Text → List Text → List Text
files_of command places = take (files_among command places) places

-- the command line that is left: the options, and then the first file and the journals
abbrev pub line_left : Text → Text → PlainWords → List Text
line_left program command w =
    program ∷ command ∷ (w.options ++ (codes "--" ∷ (take 1 (files_of command w.places) ++ drop (files_among command w.places) w.places)))

-- what is said of a design
abbrev pub plain_named : NamedWord → NamedText
plain_named n = (n.name.now, option_map (λ v. v.now) n.value)

abbrev pub plain_said : SaidWords → PlainWords
plain_said s = record {
  top = option_map (λ t. t.now) s.top;
  folders = map string_bytes s.folders.items;
  definitions = map plain_named s.definitions.items;
  parameters = map plain_named s.parameters.items;
  options = map (λ o. o.now) s.options.items;
  places = map (λ p. p.now) s.places.items;
}

pub record SaysOf (command : Text) (w : PlainWords) (d : DesignWords) : Type 0 where
  pub files : map (λ f. f.now) d.files.items ≡ files_of command w.places
  pub top : option_map (λ t. t.now) d.top ≡ w.top
  pub folders : map string_bytes d.folders.items ≡ w.folders
  pub definitions : map plain_named d.definitions.items ≡ w.definitions
  pub parameters : map plain_named d.parameters.items ≡ w.parameters

-- Words of a command line are split so.
pub record IsWholeSplit (program command : Text) (own : List Text) (d : DesignWords) (rest : List Text) : Type 0 where
  pub words : PlainWords
  pub asks : asks_whole command own ≡ true
  pub are_words : words_in own ≡ Ok words
  pub says : SaysOf command words d
  pub rest_is : rest ≡ line_left program command words

-- What words say of a whole design and the command line that they leave are these.
pub record IsSplitOf (program command : Text) (w : PlainWords) (d : DesignWords) (rest : List Text) : Type 0 where
  pub says : SaysOf command w d
  pub rest_is : rest ≡ line_left program command w

abbrev pub IsSplitBy : Text → Text → PlainWords → SplitWords → Type 0
IsSplitBy program command w split.Profile = ⊥
IsSplitBy program command w (split.Whole d rest) = IsSplitOf program command w d (map string_bytes rest.items)

abbrev pub IsSplitIn : Text → Text → Result PlainWords SplitFault → SplitWords → Type 0
IsSplitIn program command (Ok w) made = IsSplitBy program command w made
IsSplitIn program command (Err found) made = ⊥

abbrev pub IsSplit : List Text → DesignWords → List Text → Type 0
IsSplit [] d rest = ⊥
IsSplit (program ∷ []) d rest = ⊥
IsSplit (program ∷ command ∷ own) d rest = IsWholeSplit program command own d rest

abbrev pub SplitsWords : List Text → SplitWords → Type 0
SplitsWords words split.Profile = AskWhole words ≡ false
SplitsWords words (split.Whole d rest) = IsSplit words d (map string_bytes rest.items)

-- how an option is written
abbrev pub written_option : DesignOption → Text
written_option option.Top = codes "--top <NAME>"
written_option option.Folder = codes "-I <DIR>"
written_option option.Definition = codes "-D <NAME[=TEXT]>"
written_option option.Parameter = codes "-P <NAME=VALUE>"

-- what is said of words that ask for no whole design
abbrev pub refusal_words : SplitFault → Text
refusal_words fault.Memory = []
refusal_words (fault.NoValue which) = codes "error: a value is required for '" ++ (written_option which ++ codes "' but none was supplied\n")
refusal_words fault.SecondTop = codes "error: the argument '--top <NAME>' cannot be used multiple times\n"
refusal_words fault.NoEquals = codes "error: the argument '-P' takes NAME=VALUE\n"

-- So it is said; or memory is refused.
abbrev pub IsSaidBy : SplitFault → NoRequest → Type 0
IsSaidBy found (no_request.Help text) = ⊥
IsSaidBy found (no_request.Usage text) = (found ≢ fault.Memory) × (string_bytes text ≡ refusal_words found)
IsSaidBy found no_request.Memory = Unit {0}

-- The words ask for a whole design, and one of them lacks its value, or can't be: the first one that is wrong.
abbrev pub LacksBy : List Text → SplitFault → Type 0
LacksBy [] found = ⊥
LacksBy (program ∷ []) found = ⊥
LacksBy (program ∷ command ∷ own) found = (asks_whole command own ≡ true) × (words_in own ≡ Err found)

abbrev pub LacksWord : List Text → Type 0
LacksWord words = (found : SplitFault) × LacksBy words found

-- So they are refused, which is said by the first word that is wrong; or memory is.
abbrev pub IsRefusalText : List Text → Text → Type 0
IsRefusalText words text = (found : SplitFault) × LacksBy words found × (text ≡ refusal_words found)

abbrev pub IsNoDesign : List Text → NoRequest → Type 0
IsNoDesign words (no_request.Help text) = ⊥
IsNoDesign words (no_request.Usage text) = IsRefusalText words (string_bytes text)
IsNoDesign words no_request.Memory = Unit {0}

-- Nothing is wrong with words but what this says; or memory is refused.
abbrev pub IsFaultIn : {A : Type 0} → Result A SplitFault → SplitFault → Type 0
IsFaultIn r fault.Memory = Unit {0}
IsFaultIn r found = r ≡ Err found
