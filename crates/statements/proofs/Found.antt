-- The token at the front of what is left, where some are looked for.
use Rattle.std.proofs.Common.{◌≡◌, ◌∙◌, ap, sym, subst, ℕ, ◌+◌, ◌-◌, ◌≤◌, Bool, true, false, cond, List, [], ◌∷◌, Option, Some, length, take, drop, get_or, map, refl, arith}
use Rattle.std.specs.List.{filter}
use Rattle.std.proofs.lemmas.List.{take_all}
use Rattle.statements.specs.declared.lines.LineRange.{LineRange}
use Rattle.statements.specs.declared.statement_token.StatementToken.{StatementToken}
use Rattle.statements.specs.PlainStatementTokens.{plain_statement_token}
use Rattle.statements.specs.StatementTokens.{PlainStatementToken}
use Rattle.statements.specs.StatementLines.{last_byte, line_of_byte, lines_of_tokens}

-- the last one behind the front, or the front itself, is the last one
pub last_more : (is : PlainStatementToken → Bool) (xs : List StatementToken) (d : StatementToken) (byte next : ℕ) → 1 ≤ length xs
    → next ≡ cond (is (plain_statement_token (get_or xs 0 d))) (get_or xs 0 d).byte byte
    → last_byte next (filter is (map plain_statement_token (take (length xs - 1) (drop 1 xs)))) ≡ last_byte byte (filter is (map plain_statement_token xs))
last_more is [] d byte next some more = absurd (omega arith)
last_more is (x ∷ xs) d byte next some more =
    let short : length xs ≤ length (x ∷ xs) - 1 = omega arith in
    let rest : take (length (x ∷ xs) - 1) xs ≡ xs = take_all (length (x ∷ xs) - 1) xs short in
    let behind = filter is (map plain_statement_token xs) in
    ap (λ (ys : List StatementToken). last_byte next (filter is (map plain_statement_token ys))) rest
    ∙ (ap (λ n. last_byte n behind) more ∙ chosen (is (plain_statement_token x)) (plain_statement_token x) byte behind)
  where
    chosen : (b : Bool) (t : PlainStatementToken) (byte : ℕ) (ts : List PlainStatementToken) → last_byte (cond b t.byte byte) ts ≡ last_byte byte (cond b (t ∷ ts) ts)
    chosen true t byte ts = refl
    chosen false t byte ts = refl

-- where the front isn't looked for, those behind it are all
pub others_more : (is : PlainStatementToken → Bool) (xs : List StatementToken) (d : StatementToken) (all : List PlainStatementToken) → 1 ≤ length xs → is (plain_statement_token (get_or xs 0 d)) ≡ false
    → filter is (map plain_statement_token xs) ≡ all → filter is (map plain_statement_token (take (length xs - 1) (drop 1 xs))) ≡ all
others_more is [] d all some other whole = absurd (omega arith)
others_more is (x ∷ xs) d all some other whole =
    let short : length xs ≤ length (x ∷ xs) - 1 = omega arith in
    let behind = filter is (map plain_statement_token xs) in
    let same : filter is (map plain_statement_token (x ∷ xs)) ≡ behind = ap (λ b. cond b (plain_statement_token x ∷ behind) behind) other in
    ap (λ (ys : List StatementToken). filter is (map plain_statement_token ys)) (take_all (length (x ∷ xs) - 1) xs short) ∙ (sym same ∙ whole)

-- where the front is looked for, it is the first one
pub first_found : (source : List ℕ) (is : PlainStatementToken → Bool) (xs : List StatementToken) (d : StatementToken) (all : List PlainStatementToken) → 1 ≤ length xs → is (plain_statement_token (get_or xs 0 d)) ≡ true
    → filter is (map plain_statement_token xs) ≡ all
    → lines_of_tokens source (plain_statement_token (get_or xs 0 d) ∷ filter is (map plain_statement_token (take (length xs - 1) (drop 1 xs)))) ≡ lines_of_tokens source all
first_found source is [] d all some found whole = absurd (omega arith)
first_found source is (x ∷ xs) d all some found whole =
    let short : length xs ≤ length (x ∷ xs) - 1 = omega arith in
    let behind = filter is (map plain_statement_token xs) in
    let same : filter is (map plain_statement_token (x ∷ xs)) ≡ plain_statement_token x ∷ behind = ap (λ b. cond b (plain_statement_token x ∷ behind) behind) found in
    ap (λ (ys : List StatementToken). lines_of_tokens source (plain_statement_token x ∷ filter is (map plain_statement_token ys))) (take_all (length (x ∷ xs) - 1) xs short)
    ∙ ap (lines_of_tokens source) (sym same ∙ whole)

-- so its line and that of the last one are answered
pub range_found : (source : List ℕ) (is : PlainStatementToken → Bool) (xs : List StatementToken) (d : StatementToken) (all : List PlainStatementToken) (first last byte : ℕ) → 1 ≤ length xs
    → is (plain_statement_token (get_or xs 0 d)) ≡ true → filter is (map plain_statement_token xs) ≡ all → first ≡ line_of_byte source (get_or xs 0 d).byte
    → byte ≡ last_byte (get_or xs 0 d).byte (filter is (map plain_statement_token (take (length xs - 1) (drop 1 xs)))) → last ≡ line_of_byte source byte
    → Some (record { first = first; last = last }) ≡ lines_of_tokens source all
range_found source is xs d all first last byte some found whole first_is byte_is last_is =
    let range : ℕ → ℕ → Option LineRange = λ a b. Some (record { first = a; last = b }) in
    ap (λ n. range n last) first_is ∙ (ap (λ n. range (line_of_byte source (get_or xs 0 d).byte) n) (last_is ∙ ap (line_of_byte source) byte_is) ∙ first_found source is xs d all some found whole)
