-- Laws of parts, over any system of moves.
use Rattle.std.specs.Prelude.{◌≡◌, ◌↔◌, ℕ, List, [], ◌∷◌, ◌++◌}
use Rattle.traces.specs.Traces.{Moves, AreMoves, IsRunOfMoves, printed_by_steps, NoneEnds, of_part, in_order, IsNoneOf, IsOneOf, AreOnceIn, ArePartsApart, HaveWays, all_ways}

-- What one part does in a run that hasn't ended is a run by itself from the same state, after which the same actors of the part wait.
abbrev pub Projected : {S L F : Type 0} → Moves S L F → Type 0
Projected {S} {L} {F} moves =
    (part : L → ℕ) (s t : S) (w : List (L × F)) (k : ℕ) → AreMoves moves → ArePartsApart moves part s → IsRunOfMoves moves s w t → NoneEnds moves.Ends w
    → (u : S) × IsRunOfMoves moves s (of_part part k w) u × ((a : L) → part a ≡ k → moves.Waits u a ↔ moves.Waits t a)

-- where nobody waits after a run, no actor of a part waits after what the part does in it
abbrev pub WholeWays : {S L F : Type 0} → Moves S L F → Type 0
WholeWays {S} {L} {F} moves =
    (part : L → ℕ) (s t : S) (w : List (L × F)) (k : ℕ) → AreMoves moves → ArePartsApart moves part s → IsRunOfMoves moves s w t → NoneEnds moves.Ends w
    → ((a : L) → moves.Waits t a → ⊥)
    → (u : S) × IsRunOfMoves moves s (of_part part k w) u × ((a : L) → part a ≡ k → moves.Waits u a → ⊥)

-- What the parts do in a run that hasn't ended is a run, one part after another in any order. It prints the same, and leads to a state that
-- is alike.
abbrev pub InAnyOrder : {S L F : Type 0} → Moves S L F → Type 0
InAnyOrder {S} {L} {F} moves =
    (part : L → ℕ) (s t : S) (w : List (L × F)) (ks : List ℕ) → AreMoves moves → ArePartsApart moves part s → IsRunOfMoves moves s w t
    → NoneEnds moves.Ends w → AreOnceIn part ks w
    → (u : S) × IsRunOfMoves moves s (in_order part ks w) u × moves.Alike u t × (printed_by_steps moves.prints (in_order part ks w) ≡ printed_by_steps moves.prints w)

-- Where a run ends with a step, what the part of its actor does in it is a run that ends with it, and prints the same.
abbrev pub EndingWays : {S L F : Type 0} → Moves S L F → Type 0
EndingWays {S} {L} {F} moves =
    (part : L → ℕ) (s t : S) (w : List (L × F)) (a : L) (f : F) → AreMoves moves → ArePartsApart moves part s
    → IsRunOfMoves moves s (w ++ ((a, f) ∷ [])) t → moves.Ends f
    → (u : S) × IsRunOfMoves moves s (of_part part (part a) w ++ ((a, f) ∷ [])) u
    × (printed_by_steps moves.prints (of_part part (part a) w ++ ((a, f) ∷ [])) ≡ printed_by_steps moves.prints (w ++ ((a, f) ∷ [])))

-- Ways of different parts, one after another, are a run. After it the actors of each of these parts wait that wait after its way, and of
-- other parts those that have waited before.
abbrev pub WaysTogether : {S L F : Type 0} → Moves S L F → Type 0
WaysTogether {S} {L} {F} moves =
    (part : L → ℕ) (s : S) (ways : ℕ → List (L × F)) (ks : List ℕ) → AreMoves moves → ArePartsApart moves part s → HaveWays moves part s ways ks
    → (t : S) × IsRunOfMoves moves s (all_ways ways ks) t
    × ((a : L) (u : S) → IsOneOf (part a) ks → IsRunOfMoves moves s (ways (part a)) u → moves.Waits u a ↔ moves.Waits t a)
    × ((a : L) → IsNoneOf (part a) ks → moves.Waits s a ↔ moves.Waits t a)

-- Where two ways of each part lead to states that are alike, so do those of all parts, one after another.
abbrev pub WaysStandFor : {S L F : Type 0} → Moves S L F → Type 0
WaysStandFor {S} {L} {F} moves =
    (part : L → ℕ) (s t u : S) (ways others : ℕ → List (L × F)) (ks : List ℕ) → AreMoves moves → ArePartsApart moves part s
    → HaveWays moves part s ways ks → HaveWays moves part s others ks
    → ((k : ℕ) (v w : S) → IsOneOf k ks → IsRunOfMoves moves s (ways k) v → IsRunOfMoves moves s (others k) w → moves.Alike v w)
    → IsRunOfMoves moves s (all_ways ways ks) t → IsRunOfMoves moves s (all_ways others ks) u → moves.Alike t u
