-- One token more.
use Rattle.std.proofs.Common.{◌≡◌, ◌∙◌, ap, sym, subst, ℕ, ◌+◌, ◌-◌, ◌<◌, ◌≤◌, List, [], ◌∷◌, ◌++◌, ◌||◌, length, take, drop, get_or, map, append_assoc, append-nil, arith}
use Rattle.std.proofs.lemmas.List.{take_all}
use Rattle.tokens.specs.declared.token.Kind.{Kind}
use Rattle.locations.specs.Spots.{PlainSpot, AreSpots}
use Rattle.locations.specs.PlainSpots.{plain_spot}
use Rattle.locations.specs.declared.spot.Spot.{Spot}
use Rattle.statements.specs.declared.context.TokenContext.{TokenContext}
use Rattle.statements.specs.TokenContexts.{begins_statement, in_declaration, in_event_list, in_strobe, processes_before}
use Rattle.statements.specs.Contexts.{IsContext}
use Rattle.statements.specs.Parts.{part_at}
use Rattle.statements.specs.StatementTokens.{AreStatementTokens, PlainStatementToken, next_kind, part_between, token_with, tokens_behind}

-- what is kept of the tokens before one says what it does
pub part_is : (before : List Kind) (context : TokenContext) (kind follower : Kind) → IsContext before context
    → part_at kind follower context.begins context.event_list (context.declaration || context.strobe) ≡ part_between before kind follower
part_is before context kind follower is =
    ap (λ b. part_at kind follower b context.event_list (context.declaration || context.strobe)) is.begins_is
    ∙ (ap (λ b. part_at kind follower (begins_statement before) b (context.declaration || context.strobe)) is.event_list_is
    ∙ (ap (λ b. part_at kind follower (begins_statement before) (in_event_list before) (b || context.strobe)) is.declaration_is
    ∙ ap (λ b. part_at kind follower (begins_statement before) (in_event_list before) (in_declaration before || b)) is.strobe_is))

-- with what is left all are found, and so they are behind one token more
pub tokens_more : (before : List Kind) (context : TokenContext) (s : PlainSpot) (behind : List PlainSpot) (follower : Kind) (old new all : List PlainStatementToken) → IsContext before context → follower ≡ next_kind behind
    → new ≡ old ++ token_with context.processes s (part_at s.token.kind follower context.begins context.event_list (context.declaration || context.strobe))
    → old ++ tokens_behind before (s ∷ behind) ≡ all → new ++ tokens_behind (s.token.kind ∷ before) behind ≡ all
tokens_more before context s behind follower old new all is next_is more whole =
    let one = token_with (processes_before before) s (part_between before s.token.kind (next_kind behind)) in
    let rest = tokens_behind (s.token.kind ∷ before) behind in
    let kept : new ≡ old ++ one =
    more ∙ (ap (λ o. old ++ token_with context.processes s o) (part_is before context s.token.kind follower is)
    ∙ (ap (λ n. old ++ token_with n s (part_between before s.token.kind follower)) is.processes_is
    ∙ ap (λ n. old ++ token_with (processes_before before) s (part_between before s.token.kind n)) next_is)) in
    ap (λ l. l ++ rest) kept ∙ (append_assoc old one rest ∙ whole)

-- so it is of the token at the front of what is left
pub front_more : (xs : List Spot) (d : Spot) (before : List Kind) (context : TokenContext) (follower : Kind) (old new all : List PlainStatementToken) → 1 ≤ length xs → IsContext before context
    → follower ≡ next_kind (map plain_spot (take (length xs - 1) (drop 1 xs)))
    → new ≡ old ++ token_with context.processes (plain_spot (get_or xs 0 d)) (part_at (get_or xs 0 d).token.kind follower context.begins context.event_list (context.declaration || context.strobe))
    → old ++ tokens_behind before (map plain_spot xs) ≡ all → new ++ tokens_behind ((get_or xs 0 d).token.kind ∷ before) (map plain_spot (take (length xs - 1) (drop 1 xs))) ≡ all
front_more [] d before context follower old new all some is next_is more whole = absurd (omega arith)
front_more (x ∷ xs) d before context follower old new all some is next_is more whole =
    let short : length xs ≤ length (x ∷ xs) - 1 = omega arith in
    let rest : take (length (x ∷ xs) - 1) xs ≡ xs = take_all (length (x ∷ xs) - 1) xs short in
    subst (λ (ys : List Spot). new ++ tokens_behind (x.token.kind ∷ before) (map plain_spot ys) ≡ all) (sym rest)
    (tokens_more before context (plain_spot x) (map plain_spot xs) follower old new all is (next_is ∙ ap (λ (ys : List Spot). next_kind (map plain_spot ys)) rest) more whole)

-- where none is left, those that were found are all
pub tokens_end : (source : List ℕ) (items slice left : List Spot) (before : List Kind) (found : List PlainStatementToken) → AreSpots source 0 (map plain_spot items) → slice ≡ items → length left < 1
    → found ++ tokens_behind before (map plain_spot left) ≡ tokens_behind [] (map plain_spot slice) → AreStatementTokens source found
tokens_end source items slice [] before found are same none whole =
    record { spots = map plain_spot slice; are_spots = subst (λ (x : List Spot). AreSpots source 0 (map plain_spot x)) (sym same) are; stand = sym (append-nil found) ∙ whole }
tokens_end source items slice (x ∷ xs) before found are same none whole = absurd (omega arith)
