-- What a token is, by how it is spelled (IEEE 1364-2005, 3, annex B).
use Rattle.std.specs.Prelude.{ℕ, List, [], ◌∷◌, ◌++◌, length, Bool, false, not, ◌&&◌, ◌||◌, ◌==◌, if◌then◌else◌, Option, Some, None, codes}
use Rattle.std.specs.Str.{bytes_eq}
use Rattle.lexemes.specs.declared.token.Keyword.{Keyword}
use Rattle.lexemes.specs.declared.token.Keyword.TheVariants as w
use Rattle.lexemes.specs.declared.token.Sign.{Sign}
use Rattle.lexemes.specs.declared.token.Sign.TheVariants as s
use Rattle.lexemes.specs.declared.token.TokenKind.{TokenKind}
use Rattle.lexemes.specs.declared.token.TokenKind.TheVariants as k
use Rattle.lexemes.specs.declared.token.LexemeKind.{LexemeKind}
use Rattle.lexemes.specs.declared.token.LexemeKind.TheVariants as l
use Rattle.lexemes.specs.contracts.token.Keyword.{the_type as keyword_type}
use Rattle.lexemes.specs.contracts.token.Sign.{the_type as sign_type}
use denote.Enum.Bare.{sameb}
use Rattle.lexemes.specs.ByteClasses.{begins_name, is_decimal_digit, in_digits, in_based, is_white_space, all_bytes}

-- Texts, each with the kind of its token.
abbrev pub KindsOfTexts : Type 0
KindsOfTexts = List (List ℕ × TokenKind)

-- The kind that a table has for a text.
abbrev pub kind_of_text : KindsOfTexts → List ℕ → Option TokenKind
kind_of_text [] t = None
kind_of_text (row ∷ rows) t = if bytes_eq t row.0 then Some row.1 else kind_of_text rows t

-- The first of two kinds that is there.
abbrev pub kind_or_else : Option TokenKind → TokenKind → TokenKind
kind_or_else None kind = kind
kind_or_else (Some kind) other = kind

-- The reserved words (annex B) from a to e.
unfoldable pub keywords_a_to_e : KindsOfTexts
keywords_a_to_e =
    (codes "always", k.Keyword w.Always) ∷ (codes "and", k.Keyword w.And) ∷ (codes "assign", k.Keyword w.Assign) ∷ (codes "automatic", k.Keyword w.Automatic)
    ∷ (codes "begin", k.Keyword w.Begin) ∷ (codes "buf", k.Keyword w.Buf) ∷ (codes "bufif0", k.Keyword w.BufIf0) ∷ (codes "bufif1", k.Keyword w.BufIf1)
    ∷ (codes "case", k.Keyword w.Case) ∷ (codes "casex", k.Keyword w.CaseX) ∷ (codes "casez", k.Keyword w.CaseZ) ∷ (codes "cell", k.Keyword w.Cell)
    ∷ (codes "cmos", k.Keyword w.Cmos) ∷ (codes "config", k.Keyword w.Config) ∷ (codes "deassign", k.Keyword w.Deassign) ∷ (codes "default", k.Keyword w.Default)
    ∷ (codes "defparam", k.Keyword w.DefParam) ∷ (codes "design", k.Keyword w.Design) ∷ (codes "disable", k.Keyword w.Disable) ∷ (codes "edge", k.Keyword w.Edge)
    ∷ (codes "else", k.Keyword w.Else) ∷ (codes "end", k.Keyword w.End) ∷ (codes "endcase", k.Keyword w.EndCase) ∷ (codes "endconfig", k.Keyword w.EndConfig)
    ∷ (codes "endfunction", k.Keyword w.EndFunction) ∷ (codes "endgenerate", k.Keyword w.EndGenerate) ∷ (codes "endmodule", k.Keyword w.EndModule)
    ∷ (codes "endprimitive", k.Keyword w.EndPrimitive) ∷ (codes "endspecify", k.Keyword w.EndSpecify) ∷ (codes "endtable", k.Keyword w.EndTable)
    ∷ (codes "endtask", k.Keyword w.EndTask) ∷ (codes "event", k.Keyword w.Event) ∷ []

-- The reserved words (annex B) from f to n.
unfoldable pub keywords_f_to_n : KindsOfTexts
keywords_f_to_n =
    (codes "for", k.Keyword w.For) ∷ (codes "force", k.Keyword w.Force) ∷ (codes "forever", k.Keyword w.Forever) ∷ (codes "fork", k.Keyword w.Fork)
    ∷ (codes "function", k.Keyword w.Function) ∷ (codes "generate", k.Keyword w.Generate) ∷ (codes "genvar", k.Keyword w.GenVar)
    ∷ (codes "highz0", k.Keyword w.HighZ0) ∷ (codes "highz1", k.Keyword w.HighZ1) ∷ (codes "if", k.Keyword w.If) ∷ (codes "ifnone", k.Keyword w.IfNone)
    ∷ (codes "incdir", k.Keyword w.IncDir) ∷ (codes "include", k.Keyword w.Include) ∷ (codes "initial", k.Keyword w.Initial) ∷ (codes "inout", k.Keyword w.InOut)
    ∷ (codes "input", k.Keyword w.Input) ∷ (codes "instance", k.Keyword w.Instance) ∷ (codes "integer", k.Keyword w.Integer) ∷ (codes "join", k.Keyword w.Join)
    ∷ (codes "large", k.Keyword w.Large) ∷ (codes "liblist", k.Keyword w.LibList) ∷ (codes "library", k.Keyword w.Library)
    ∷ (codes "localparam", k.Keyword w.LocalParam) ∷ (codes "macromodule", k.Keyword w.MacroModule) ∷ (codes "medium", k.Keyword w.Medium)
    ∷ (codes "module", k.Keyword w.Module) ∷ (codes "nand", k.Keyword w.Nand) ∷ (codes "negedge", k.Keyword w.Negedge) ∷ (codes "nmos", k.Keyword w.Nmos)
    ∷ (codes "nor", k.Keyword w.Nor) ∷ (codes "noshowcancelled", k.Keyword w.NoShowCancelled) ∷ (codes "not", k.Keyword w.Not)
    ∷ (codes "notif0", k.Keyword w.NotIf0) ∷ (codes "notif1", k.Keyword w.NotIf1) ∷ []

-- The reserved words (annex B) from o to s.
unfoldable pub keywords_o_to_s : KindsOfTexts
keywords_o_to_s =
    (codes "or", k.Keyword w.Or) ∷ (codes "output", k.Keyword w.Output) ∷ (codes "parameter", k.Keyword w.Parameter) ∷ (codes "pmos", k.Keyword w.Pmos)
    ∷ (codes "posedge", k.Keyword w.Posedge) ∷ (codes "primitive", k.Keyword w.Primitive) ∷ (codes "pull0", k.Keyword w.Pull0) ∷ (codes "pull1", k.Keyword w.Pull1)
    ∷ (codes "pulldown", k.Keyword w.PullDown) ∷ (codes "pullup", k.Keyword w.PullUp) ∷ (codes "pulsestyle_ondetect", k.Keyword w.PulseStyleOnDetect)
    ∷ (codes "pulsestyle_onevent", k.Keyword w.PulseStyleOnEvent) ∷ (codes "rcmos", k.Keyword w.RCmos) ∷ (codes "real", k.Keyword w.Real)
    ∷ (codes "realtime", k.Keyword w.RealTime) ∷ (codes "reg", k.Keyword w.Reg) ∷ (codes "release", k.Keyword w.Release) ∷ (codes "repeat", k.Keyword w.Repeat)
    ∷ (codes "rnmos", k.Keyword w.RNmos) ∷ (codes "rpmos", k.Keyword w.RPmos) ∷ (codes "rtran", k.Keyword w.RTran) ∷ (codes "rtranif0", k.Keyword w.RTranIf0)
    ∷ (codes "rtranif1", k.Keyword w.RTranIf1) ∷ (codes "scalared", k.Keyword w.Scalared) ∷ (codes "showcancelled", k.Keyword w.ShowCancelled)
    ∷ (codes "signed", k.Keyword w.Signed) ∷ (codes "small", k.Keyword w.Small) ∷ (codes "specify", k.Keyword w.Specify)
    ∷ (codes "specparam", k.Keyword w.SpecParam) ∷ (codes "strong0", k.Keyword w.Strong0) ∷ (codes "strong1", k.Keyword w.Strong1)
    ∷ (codes "supply0", k.Keyword w.Supply0) ∷ (codes "supply1", k.Keyword w.Supply1) ∷ []

-- The reserved words (annex B) from t to x.
unfoldable pub keywords_t_to_x : KindsOfTexts
keywords_t_to_x =
    (codes "table", k.Keyword w.Table) ∷ (codes "task", k.Keyword w.Task) ∷ (codes "time", k.Keyword w.Time) ∷ (codes "tran", k.Keyword w.Tran)
    ∷ (codes "tranif0", k.Keyword w.TranIf0) ∷ (codes "tranif1", k.Keyword w.TranIf1) ∷ (codes "tri", k.Keyword w.Tri) ∷ (codes "tri0", k.Keyword w.Tri0)
    ∷ (codes "tri1", k.Keyword w.Tri1) ∷ (codes "triand", k.Keyword w.TriAnd) ∷ (codes "trior", k.Keyword w.TriOr) ∷ (codes "trireg", k.Keyword w.TriReg)
    ∷ (codes "unsigned", k.Keyword w.Unsigned) ∷ (codes "use", k.Keyword w.Use) ∷ (codes "uwire", k.Keyword w.UWire) ∷ (codes "vectored", k.Keyword w.Vectored)
    ∷ (codes "wait", k.Keyword w.Wait) ∷ (codes "wand", k.Keyword w.WAnd) ∷ (codes "weak0", k.Keyword w.Weak0) ∷ (codes "weak1", k.Keyword w.Weak1)
    ∷ (codes "while", k.Keyword w.While) ∷ (codes "wire", k.Keyword w.Wire) ∷ (codes "wor", k.Keyword w.WOr) ∷ (codes "xnor", k.Keyword w.Xnor)
    ∷ (codes "xor", k.Keyword w.Xor) ∷ []

-- The reserved words.
abbrev pub keywords : KindsOfTexts
keywords = keywords_a_to_e ++ (keywords_f_to_n ++ (keywords_o_to_s ++ keywords_t_to_x))

-- The operators and punctuation.
unfoldable pub sign_kinds : KindsOfTexts
sign_kinds =
    (codes "(", k.Sign s.Open) ∷ (codes ")", k.Sign s.Close) ∷ (codes "[", k.Sign s.OpenSquare) ∷ (codes "]", k.Sign s.CloseSquare) ∷ (codes "{", k.Sign s.OpenCurly)
    ∷ (codes "}", k.Sign s.CloseCurly) ∷ (codes "(*", k.Sign s.OpenAttribute) ∷ (codes "*)", k.Sign s.CloseAttribute) ∷ (codes ",", k.Sign s.Comma)
    ∷ (codes ";", k.Sign s.Semicolon) ∷ (codes ".", k.Sign s.Dot) ∷ (codes ":", k.Sign s.Colon) ∷ (codes "=", k.Sign s.Assign) ∷ (codes "#", k.Sign s.Hash)
    ∷ (codes "@", k.Sign s.At) ∷ (codes "->", k.Sign s.Trigger) ∷ (codes "+:", k.Sign s.PlusColon) ∷ (codes "-:", k.Sign s.MinusColon)
    ∷ (codes "=>", k.Sign s.ParallelPath) ∷ (codes "*>", k.Sign s.FullPath) ∷ (codes "&&&", k.Sign s.AndAndAnd) ∷ (codes "!", k.Sign s.Bang) ∷ (codes "~", k.Sign s.Tilde)
    ∷ (codes "**", k.Sign s.StarStar) ∷ (codes "*", k.Sign s.Star) ∷ (codes "/", k.Sign s.Slash) ∷ (codes "%", k.Sign s.Percent) ∷ (codes "+", k.Sign s.Plus)
    ∷ (codes "-", k.Sign s.Minus) ∷ (codes "<<", k.Sign s.ShiftLeft) ∷ (codes ">>", k.Sign s.ShiftRight) ∷ (codes "<<<", k.Sign s.ShiftLeftArithmetic)
    ∷ (codes ">>>", k.Sign s.ShiftRightArithmetic) ∷ (codes "<", k.Sign s.Less) ∷ (codes "<=", k.Sign s.AtMost) ∷ (codes ">", k.Sign s.Greater)
    ∷ (codes ">=", k.Sign s.AtLeast) ∷ (codes "==", k.Sign s.Equal) ∷ (codes "!=", k.Sign s.NotEqual) ∷ (codes "===", k.Sign s.Same) ∷ (codes "!==", k.Sign s.NotSame)
    ∷ (codes "&", k.Sign s.Ampersand) ∷ (codes "^", k.Sign s.Caret) ∷ (codes "^~", k.Sign s.CaretTilde) ∷ (codes "~^", k.Sign s.TildeCaret) ∷ (codes "|", k.Sign s.Bar)
    ∷ (codes "~&", k.Sign s.TildeAmpersand) ∷ (codes "~|", k.Sign s.TildeBar) ∷ (codes "&&", k.Sign s.AndAnd) ∷ (codes "||", k.Sign s.OrOr)
    ∷ (codes "?", k.Sign s.Question) ∷ []

-- The kind of what begins with a digit: with a fraction or an exponent it is a real number.
abbrev pub number_kind : List ℕ → TokenKind
number_kind t = if all_bytes in_digits t then k.UnsignedNumber else k.RealNumber

-- The kind of a token by its first byte, and by the tables.
unfoldable pub token_kind : List ℕ → TokenKind
token_kind [] = k.Name
token_kind (b ∷ bs) =
    if begins_name b then kind_or_else (kind_of_text keywords (b ∷ bs)) k.Name
    else (if is_decimal_digit b then number_kind (b ∷ bs)
    else (if b == 34 then k.Text
    else (if b == 36 then k.SystemName
    else (if b == 39 then k.Base
    else (if b == 92 then k.EscapedName
    else kind_or_else (kind_of_text sign_kinds (b ∷ bs)) k.Name)))))

-- Two lines are joined by a `\` before the newline that is between them (19.3.1).
abbrev pub is_joint : List ℕ → Bool
is_joint [] = false
is_joint (a ∷ []) = false
is_joint (a ∷ b ∷ bs) = (a == 92) && is_white_space b

-- The kind of a piece that isn't white space or a comment, behind a base or not.
unfoldable pub lexeme_kind : Bool → List ℕ → LexemeKind
lexeme_kind after [] = l.Joint
lexeme_kind after (b ∷ bs) =
    if after && in_based b then l.Token k.BasedDigits
    else (if b == 96 then l.Directive
    else (if is_joint (b ∷ bs) then l.Joint
    else l.Token (token_kind (b ∷ bs))))

-- A piece that is white space or a comment.
abbrev pub is_blank_piece : List ℕ → Bool
is_blank_piece [] = false
is_blank_piece (b ∷ bs) = is_white_space b || (b == 47 && not (length bs == 0))

-- Whether the token behind a piece stands behind a base: the piece is one, or it is skipped and stands there itself.
abbrev pub after_piece : Bool → List ℕ → Bool
after_piece after [] = after
after_piece after (b ∷ bs) = if is_blank_piece (b ∷ bs) then after else b == 39

-- Whether a kind is this keyword.
abbrev pub is_keyword : TokenKind → Keyword → Bool
is_keyword (k.Keyword found) keyword = sameb keyword_type found keyword
is_keyword _ keyword = false

-- Whether a kind is this operator or mark.
abbrev pub is_sign : TokenKind → Sign → Bool
is_sign (k.Sign found) sign = sameb sign_type found sign
is_sign _ sign = false

-- The text that a table has for a reserved word, that of its first row for it, or else another one.
abbrev pub keyword_spelling : KindsOfTexts → List ℕ → Keyword → List ℕ
keyword_spelling [] other keyword = other
keyword_spelling (row ∷ rows) other keyword = if is_keyword row.1 keyword then row.0 else keyword_spelling rows other keyword

-- The text that a table has for an operator or a mark.
abbrev pub sign_spelling : KindsOfTexts → Sign → List ℕ
sign_spelling [] sign = []
sign_spelling (row ∷ rows) sign = if is_sign row.1 sign then row.0 else sign_spelling rows sign
