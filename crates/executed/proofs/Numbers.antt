-- Numbers of nodes, one node after another.
use Rattle.std.proofs.Common.{◌≡◌, ◌∙◌, ap, sym, subst, ℕ, ◌+◌, ◌-◌, ◌^◌, ◌<◌, ◌≤◌, min, List, length, get_or, take, drop, Some, arith, inl, inr}
use Rattle.std.specs.Prelude.{slice_get}
use Rattle.std.specs.List.{All, sum_by}
use Rattle.std.proofs.lemmas.List.{length-drop, get_or-drop}
use Rattle.std.proofs.lemmas.List.Sums.{sum_by_more}
use Rattle.std.proofs.lemmas.List.Elements.{All-push, All-weaker}
use Rattle.std.proofs.lemmas.Option.{get_or_from_slice_get}
use Rattle.design.specs.Compiled.{Compiled}
use Rattle.design.specs.declared.code.Node.{Node}
use Rattle.executed.specs.declared.deed.Deed.{Deed}
use Rattle.executed.specs.Deeds.{at_most_word, times_done}
use Rattle.executed.specs.RunNumbers.{IsNumberBetween, MayKeep, times_between}

-- a sum that is cut may be cut before
pub cut_before : (a b most : ℕ) → min (a + b) most ≡ min (min a most + b) most
cut_before a b most = omega arith

-- a sum over one element more
pub sum_of_more : {X : Type 0} (f : X → ℕ) (xs : List X) (first place : ℕ) (x : X) → first ≤ place → place < length xs → slice_get xs place ≡ Some x
    → sum_by f (take (place + 1 - first) (drop first xs)) ≡ sum_by f (take (place - first) (drop first xs)) + f x
sum_of_more {X} f xs first place x from within is_at =
    let rest : List X = drop first xs in
    let i : ℕ = place - first in
    let long : i < length rest = omega (arith, length-drop first xs) in
    let at_place : first + i ≡ place = omega arith in
    let same : get_or rest i x ≡ x = get_or-drop first xs i x ∙ (ap (λ (k : ℕ). get_or xs k x) at_place ∙ get_or_from_slice_get xs place x x is_at) in
    let next : place + 1 - first ≡ i + 1 = omega arith in
    ap (λ (k : ℕ). sum_by f (take k rest)) next ∙ (sum_by_more f rest i x long ∙ ap (λ (y : X). sum_by f (take i rest) + f y) same)

-- so often one node more does what is looked for
pub one_more : (code : Compiled) (deed : Deed) (first place : ℕ) (node : Node) → first ≤ place → place < length code.nodes → slice_get code.nodes place ≡ Some node
    → times_between code deed first (place + 1) ≡ min (times_between code deed first place + times_done code deed node) (2 ^ 64 - 1)
one_more code deed first place node from within is_at =
    ap at_most_word (sum_of_more (times_done code deed) code.nodes first place node from within is_at)
    ∙ cut_before (sum_by (times_done code deed) (take (place - first) (drop first code.nodes))) (times_done code deed node) (2 ^ 64 - 1)

-- numbers of nodes are so up to one place more
pub still_numbers : (code : Compiled) (deed : Deed) (first place : ℕ) (ns : List ℕ) → All (IsNumberBetween code deed first place) ns → All (IsNumberBetween code deed first (place + 1)) ns
still_numbers code deed first place ns are =
    All-weaker (IsNumberBetween code deed first place) (IsNumberBetween code deed first (place + 1))
    (λ n w. record { place = w.place; node = w.node; from = w.from; before = omega (arith, w.before); is_at = w.is_at; has_done = w.has_done; number_is = w.number_is }) ns are

-- and one that was kept is one too
pub kept_numbers : (code : Compiled) (deed : Deed) (first place : ℕ) (node : Node) (times number : ℕ) (old new : List ℕ) → first ≤ place → slice_get code.nodes place ≡ Some node → times ≡ times_done code deed node
    → number ≡ times_between code deed first place → MayKeep times number old new → All (IsNumberBetween code deed first place) old → All (IsNumberBetween code deed first (place + 1)) new
kept_numbers code deed first place node times number old new from is_at times_is number_is (inl same) are =
    subst (All (IsNumberBetween code deed first (place + 1))) (sym same) (still_numbers code deed first place old are)
kept_numbers code deed first place node times number old new from is_at times_is number_is (inr (some, grown)) are =
    subst (All (IsNumberBetween code deed first (place + 1))) (sym grown)
    (All-push (IsNumberBetween code deed first (place + 1)) old number (still_numbers code deed first place old are)
    (record { place = place; node = node; from = from; before = omega arith; is_at = is_at; has_done = subst (λ (n : ℕ). 0 < n) times_is some; number_is = number_is }))
