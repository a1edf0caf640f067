-- Processes behind their places.
use Rattle.std.proofs.Common.{◌≡◌, ℕ, zero, suc, ◌+◌, ◌<◌, ◌≤◌, Bor, List, [], ◌∷◌, ◌++◌, map, length, get_or, drop, refl, sym, ap, ◌∙◌, append_assoc, append-nil, add-one, arith}
use Rattle.std.proofs.lemmas.List.{at_drop_more, at_drop_all}
use Rattle.model.specs.Syntax.{Text, SourceProcess}
use Rattle.model.specs.SourceTrees.{source_process_of}
use Rattle.model.specs.declared.tree.SourceProcess as program
use Rattle.flattext.specs.Modules.{place_at, place_text, source_process_text, placed_processes_text}

-- the place of a number stands before the first of the processes that are left
placed_at : (places : List Text) (i : ℕ) (p : SourceProcess) (ps : List SourceProcess) → placed_processes_text (drop i places) (p ∷ ps) ≡ place_at places i ++ (source_process_text p ++ placed_processes_text (drop (suc i) places) ps)
placed_at [] zero p ps = refl
placed_at [] (suc i) p ps = refl
placed_at (place ∷ places) zero p ps = refl
placed_at (place ∷ places) (suc i) p ps = placed_at places i p ps

-- it is that of the item there; behind the last one is none
pub placed_there : (xs : List (Bor Text)) (i : ℕ) (x : Bor Text) → i < length xs → place_text (get_or xs i x).now ≡ place_at (map (λ (words : Bor Text). words.now) xs) i
placed_there [] i x h = absurd (omega arith)
placed_there (y ∷ ys) zero x h = refl
placed_there (y ∷ ys) (suc i) x h = placed_there ys i x (omega arith)

pub none_there : (xs : List (Bor Text)) (i : ℕ) → length xs ≤ i → place_at (map (λ (words : Bor Text). words.now) xs) i ≡ []
none_there [] i h = refl
none_there (y ∷ ys) zero h = absurd (omega arith)
none_there (y ∷ ys) (suc i) h = none_there ys i (omega arith)

-- two pieces are put, and what is left stands behind them
both_put : (new mid text a b rest : List ℕ) → mid ≡ text ++ a → new ≡ mid ++ b → new ++ rest ≡ text ++ (a ++ (b ++ rest))
both_put new mid text a b rest first second = ap (λ w. w ++ rest) second ∙ append_assoc mid b rest ∙ ap (λ w. w ++ (b ++ rest)) first ∙ append_assoc text a (b ++ rest)

-- one process more is put
pub placed_more : (new mid text whole : List ℕ) (places : List Text) (ps : List program.SourceProcess) (i : ℕ) (p : program.SourceProcess) → i < length ps → p ≡ get_or ps i p
    → text ++ placed_processes_text (drop i places) (map source_process_of (drop i ps)) ≡ whole → mid ≡ text ++ place_at places i → new ≡ mid ++ source_process_text (source_process_of p)
    → new ++ placed_processes_text (drop (i + 1) places) (map source_process_of (drop (i + 1) ps)) ≡ whole
placed_more new mid text whole places ps i p h is before first second =
    let left = map source_process_of (drop (i + 1) ps) in
    let next : suc i ≡ i + 1 = sym (add-one i) in
    both_put new mid text (place_at places i) (source_process_text (source_process_of p)) (placed_processes_text (drop (i + 1) places) left) first second
    ∙ ap (λ n. text ++ (place_at places i ++ (source_process_text (source_process_of p) ++ placed_processes_text (drop n places) left))) (sym next)
    ∙ ap (λ w. text ++ w) (sym (placed_at places i (source_process_of p) left))
    ∙ ap (λ (q : program.SourceProcess). text ++ placed_processes_text (drop i places) (source_process_of q ∷ left)) is
    ∙ sym (at_drop_more (λ ys. text ++ placed_processes_text (drop i places) (map source_process_of ys)) ps i p h)
    ∙ before

-- all are put
pub placed_all : (text whole : List ℕ) (left : List Text) (ps : List program.SourceProcess) (i : ℕ) → length ps ≤ i → text ++ placed_processes_text left (map source_process_of (drop i ps)) ≡ whole → text ≡ whole
placed_all text whole left ps i h so = sym (append-nil text) ∙ sym (at_drop_all (λ ys. text ++ placed_processes_text left (map source_process_of ys)) ps i h) ∙ so
