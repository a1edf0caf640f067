-- Lists that grow from one another.
use Rattle.std.specs.Prelude.{◌≡◌, ℕ, List, [], ◌∷◌, ◌++◌, get_or}

-- the first list is the last part of the second
abbrev pub IsLastPart : {X : Type 0} → List X → List X → Type 0
IsLastPart {X} part whole = (gone : List X) × (whole ≡ gone ++ part)

-- these lists, and one more, which goes on from the one with a number by a piece
abbrev pub grown : {X : Type 0} → List (List X) → ℕ → List X → List (List X)
grown lists from piece = lists ++ (get_or lists from [] ++ piece) ∷ []

-- these lists, and one more for each of some numbers and pieces
abbrev pub grown_all : {X : Type 0} → List (List X) → List (ℕ × List X) → List (List X)
grown_all lists [] = lists
grown_all lists (step ∷ steps) = grown_all (grown lists step.0 step.1) steps
