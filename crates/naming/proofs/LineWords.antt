-- Words that are put one behind another.
use Rattle.std.proofs.Common.{◌≡◌, ◌∙◌, ap, ℕ, List, ◌++◌}

-- two numbers, each behind a piece
pub joined_four : (word zeroth first second third fourth a b b' m d d' : List ℕ) → zeroth ≡ word → first ≡ zeroth ++ a → second ≡ first ++ b → b ≡ b' → third ≡ second ++ m → fourth ≡ third ++ d → d ≡ d'
    → fourth ≡ word ++ a ++ b' ++ m ++ d'
joined_four word zeroth first second third fourth a b b' m d d' e0 e1 e2 b_is e3 e4 d_is =
    (e4 ∙ ap (λ l. l ++ d) (e3 ∙ ap (λ l. l ++ m) (e2 ∙ ap (λ l. l ++ b) (e1 ∙ ap (λ l. l ++ a) e0))))
    ∙ (ap (λ l. word ++ a ++ l ++ m ++ d) b_is ∙ ap (λ l. word ++ a ++ b' ++ m ++ l) d_is)

-- and a third one behind them
pub joined_six : (word four fifth sixth n f f' : List ℕ) → four ≡ word → fifth ≡ four ++ n → sixth ≡ fifth ++ f → f ≡ f' → sixth ≡ word ++ n ++ f'
joined_six word four fifth sixth n f f' e4 e5 e6 f_is = e6 ∙ (ap (λ l. l ++ f) (e5 ∙ ap (λ l. l ++ n) e4) ∙ ap (λ l. word ++ n ++ l) f_is)
