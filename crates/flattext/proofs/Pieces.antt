-- Texts behind which pieces were put.
use Rattle.std.proofs.Common.{◌≡◌, ◌∙◌, ap, sym, ℕ, suc, ◌+◌, List, ◌++◌, append_assoc, add-one, Result, Ok, Err, OnOk, codes}
use Rattle.flattext.specs.Phrases.{indent}

-- two pieces
pub joined : (new old a mid b : List ℕ) → new ≡ mid ++ b → mid ≡ old ++ a → new ≡ old ++ (a ++ b)
joined new old a mid b h k = h ∙ (ap (λ w. w ++ b) k ∙ append_assoc old a b)

-- two pieces of a text that is known, the last of which may have failed
pub two_put : {X E : Type 0} (r : Result X E) (t0 t1 t2 a b whole : List ℕ) → whole ≡ a ++ b → t1 ≡ t0 ++ a → OnOk r (t2 ≡ t1 ++ b) → OnOk r (t2 ≡ t0 ++ whole)
two_put (Err x) t0 t1 t2 a b whole is p h = tt
two_put (Ok x) t0 t1 t2 a b whole is p h = joined t2 t0 a t1 b h p ∙ ap (λ w. t0 ++ w) (sym is)

-- three
pub three_put : {X E : Type 0} (r : Result X E) (t0 t1 t2 t3 a b c whole : List ℕ) → whole ≡ a ++ (b ++ c) → t1 ≡ t0 ++ a → t2 ≡ t1 ++ b → OnOk r (t3 ≡ t2 ++ c) → OnOk r (t3 ≡ t0 ++ whole)
three_put (Err x) t0 t1 t2 t3 a b c whole is p q h = tt
three_put (Ok x) t0 t1 t2 t3 a b c whole is p q h = joined t3 t0 a t1 (b ++ c) (joined t3 t1 b t2 c h q) p ∙ ap (λ w. t0 ++ w) (sym is)

-- four
pub four_put : {X E : Type 0} (r : Result X E) (t0 t1 t2 t3 t4 a b c d whole : List ℕ) → whole ≡ a ++ (b ++ (c ++ d)) → t1 ≡ t0 ++ a → t2 ≡ t1 ++ b → t3 ≡ t2 ++ c → OnOk r (t4 ≡ t3 ++ d) → OnOk r (t4 ≡ t0 ++ whole)
four_put (Err x) t0 t1 t2 t3 t4 a b c d whole is p q s h = tt
four_put (Ok x) t0 t1 t2 t3 t4 a b c d whole is p q s h = joined t4 t0 a t1 (b ++ (c ++ d)) (joined t4 t1 b t2 (c ++ d) (joined t4 t2 c t3 d h s) q) p ∙ ap (λ w. t0 ++ w) (sym is)

-- five
pub five_put : {X E : Type 0} (r : Result X E) (t0 t1 t2 t3 t4 t5 a b c d e whole : List ℕ) → whole ≡ a ++ (b ++ (c ++ (d ++ e))) → t1 ≡ t0 ++ a → t2 ≡ t1 ++ b → t3 ≡ t2 ++ c → t4 ≡ t3 ++ d → OnOk r (t5 ≡ t4 ++ e) → OnOk r (t5 ≡ t0 ++ whole)
five_put (Err x) t0 t1 t2 t3 t4 t5 a b c d e whole is p q s t h = tt
five_put (Ok x) t0 t1 t2 t3 t4 t5 a b c d e whole is p q s t h =
    let more = joined t5 t2 c t3 (d ++ e) (joined t5 t3 d t4 e h t) s in
    joined t5 t0 a t1 (b ++ (c ++ (d ++ e))) (joined t5 t1 b t2 (c ++ (d ++ e)) more q) p ∙ ap (λ w. t0 ++ w) (sym is)

-- the text of what a box holds
pub put_inside : {A : Type 0} (f : A → List ℕ) (new text : List ℕ) (x y : A) → new ≡ text ++ f x → x ≡ y → new ≡ text ++ f y
put_inside f new text x y put same = put ∙ ap (λ z. text ++ f z) same

pub last_inside : {A X E : Type 0} (r : Result X E) (f : A → List ℕ) (new text : List ℕ) (x y : A) → OnOk r (new ≡ text ++ f x) → x ≡ y → OnOk r (new ≡ text ++ f y)
last_inside (Ok u) f new text x y put same = put_inside f new text x y put same
last_inside (Err u) f new text x y put same = tt

-- seven
pub seven_put : {X E : Type 0} (r : Result X E) (t0 t1 t2 t3 t4 t5 t6 t7 a b c d e f g whole : List ℕ) → whole ≡ a ++ (b ++ (c ++ (d ++ (e ++ (f ++ g))))) → t1 ≡ t0 ++ a → t2 ≡ t1 ++ b → t3 ≡ t2 ++ c → t4 ≡ t3 ++ d
    → t5 ≡ t4 ++ e → t6 ≡ t5 ++ f → OnOk r (t7 ≡ t6 ++ g) → OnOk r (t7 ≡ t0 ++ whole)
seven_put (Err x) t0 t1 t2 t3 t4 t5 t6 t7 a b c d e f g whole is p q r s t u h = tt
seven_put (Ok x) t0 t1 t2 t3 t4 t5 t6 t7 a b c d e f g whole is p q r s t u h =
    let last = joined t7 t5 f t6 g h u in
    let more = joined t7 t3 d t4 (e ++ (f ++ g)) (joined t7 t4 e t5 (f ++ g) last t) s in
    joined t7 t0 a t1 (b ++ (c ++ (d ++ (e ++ (f ++ g))))) (joined t7 t1 b t2 (c ++ (d ++ (e ++ (f ++ g)))) (joined t7 t2 c t3 (d ++ (e ++ (f ++ g))) more r) q) p ∙ ap (λ w. t0 ++ w) (sym is)

-- the spaces of one level more
pub one_deeper : (old text new : List ℕ) (depth : ℕ) → new ≡ text ++ codes "  " → text ≡ old ++ indent depth → new ≡ old ++ indent (depth + 1)
one_deeper old text new depth put before =
    let next : suc depth ≡ depth + 1 = sym (add-one depth) in
    joined new old (indent depth) text (codes "  ") put before ∙ ap (λ n. old ++ indent n) next
