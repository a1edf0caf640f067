-- How far the statements inside a statement reach, in a table by places.
use Rattle.std.specs.Prelude.{◌≡◌, ℕ, ◌+◌, List, [], ◌∷◌, ◌++◌, length, Some, slice_get}
use Rattle.model.specs.Design.{Process, Statement, Delay, Await, If, While, Statements, End, Then, inside, size}
use Rattle.design.specs.declared.extents.Extent.{Extent}

-- the extent of a statement at a place, which has these statements inside it
abbrev pub body_extent : ℕ → Statements → Extent
body_extent place body = record { body = place + 1 + size body; whole = place + 1 + size body }

-- the places behind the first body and behind the whole of a statement at a place
abbrev pub extent_of : ℕ → Statement → Extent
extent_of place (If c body otherwise) =
    record { body = place + 1 + size body; whole = place + 1 + length (inside (If c body otherwise)) }
extent_of place (Delay delay body) = body_extent place body
extent_of place (Await triggers body) = body_extent place body
extent_of place (While c body) = body_extent place body
extent_of place s = body_extent place End

abbrev mutual
  -- the extents of these statements and of those inside them, in the order of the text
  pub extents : ℕ → Statements → List Extent
  extents place End = []
  extents place (Then s ss) = extent_of place s ∷ (extents_inside place s ++ extents (place + 1 + length (inside s)) ss)

  pub extents_inside : ℕ → Statement → List Extent
  extents_inside place (Delay delay body) = extents (place + 1) body
  extents_inside place (Await triggers body) = extents (place + 1) body
  extents_inside place (If c body otherwise) = extents (place + 1) body ++ extents (place + 1 + size body) otherwise
  extents_inside place (While c body) = extents (place + 1) body
  extents_inside place s = []

-- the same for the statements of processes, the first of them at this place
abbrev pub all_extents : ℕ → List Process → List Extent
all_extents place [] = []
all_extents place (p ∷ ps) = extents place p.body ++ all_extents (place + size p.body) ps

abbrev mutual
  -- the table has the extent of each of these statements, and of those inside them, at its place
  pub AreMeasured : List Extent → ℕ → Statements → Type 0
  AreMeasured table place End = Unit {0}
  AreMeasured table place (Then s ss) =
      (slice_get table place ≡ Some (extent_of place s))
      × AreMeasuredInside table place s
      × AreMeasured table (place + 1 + length (inside s)) ss

  pub AreMeasuredInside : List Extent → ℕ → Statement → Type 0
  AreMeasuredInside table place (Delay delay body) = AreMeasured table (place + 1) body
  AreMeasuredInside table place (Await triggers body) = AreMeasured table (place + 1) body
  AreMeasuredInside table place (If c body otherwise) =
      AreMeasured table (place + 1) body × AreMeasured table (place + 1 + size body) otherwise
  AreMeasuredInside table place (While c body) = AreMeasured table (place + 1) body
  AreMeasuredInside table place s = Unit {0}

-- the same for the statements of processes, the first of them at this place
abbrev pub IsMeasured : List Extent → ℕ → List Process → Type 0
IsMeasured table place [] = Unit {0}
IsMeasured table place (p ∷ ps) = AreMeasured table place p.body × IsMeasured table (place + size p.body) ps
