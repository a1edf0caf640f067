-- The table of extents: what filling it leaves, and that it then has each statement's extent at its place.
use Rattle.std.proofs.Common.{◌≡◌, ℕ, ◌+◌, List, [], ◌∷◌, ◌++◌, length, refl, ap, ◌∙◌, arith, length-append, append_assoc}
use Rattle.std.proofs.Math.Seq.{set-append_seam}
use Rattle.std.specs.Prelude.{slice_set}
use Rattle.model.specs.Syntax.{Expression}
use Rattle.model.specs.Design.{Process, Statement, Empty, Assign, AssignAfter, AssignLater, Now, Delay, Await, If, While, Print, Finish, Statements, End, Then, inside, all_of, size}
use Rattle.design.specs.declared.extents.Extent.{Extent}
use Rattle.design.specs.Extents.{body_extent, extent_of, extents, extents_inside, all_extents, AreMeasured, AreMeasuredInside, IsMeasured}
use Rattle.design.proofs.Places.{Sits, sits_there, sits_left, sits_right, sits_behind}

mutual
  pub length_extents : (place : ℕ) (ss : Statements) → length (extents place ss) ≡ size ss
  length_extents place End = refl
  length_extents place (Then s ss) =
      omega (arith, length-append (extents_inside place s) (extents (place + 1 + length (inside s)) ss), length-append (inside s) (all_of ss), length_extents_inside place s, length_extents (place + 1 + length (inside s)) ss)

  pub length_extents_inside : (place : ℕ) (s : Statement) → length (extents_inside place s) ≡ length (inside s)
  length_extents_inside place Empty = refl
  length_extents_inside place (Assign r e) = refl
  length_extents_inside place (AssignAfter r d e) = refl
  length_extents_inside place (AssignLater r d e) = refl
  length_extents_inside place (Now r) = refl
  length_extents_inside place (Delay d body) = length_extents (place + 1) body
  length_extents_inside place (Await triggers body) = length_extents (place + 1) body
  length_extents_inside place (If c body otherwise) =
      omega (arith, length-append (extents (place + 1) body) (extents (place + 1 + size body) otherwise), length-append (all_of body) (all_of otherwise), length_extents (place + 1) body, length_extents (place + 1 + size body) otherwise)
  length_extents_inside place (While c body) = length_extents (place + 1) body
  length_extents_inside place (Print task format arguments) = refl
  length_extents_inside place Finish = refl

-- one statement more
pub measured_more : (table table' whole : List Extent) (s : Statement) (ss : Statements) → table' ≡ table ++ extent_of (length table) s ∷ extents_inside (length table) s → table ++ extents (length table) (Then s ss) ≡ whole → table' ++ extents (length table') ss ≡ whole
measured_more table table' whole s ss e h =
    let n = length table in
    let long : length table' ≡ n + 1 + length (inside s) =
    ap length e ∙ length-append table (extent_of n s ∷ extents_inside n s) ∙ omega (arith, length_extents_inside n s) in
    ap (λ k. table' ++ extents k ss) long
    ∙ ap (λ t. t ++ extents (n + 1 + length (inside s)) ss) e
    ∙ append_assoc table (extent_of n s ∷ extents_inside n s) (extents (n + 1 + length (inside s)) ss)
    ∙ h

set_seam : (xs ys : List Extent) (y x : Extent) → slice_set (xs ++ y ∷ ys) (length xs) x ≡ xs ++ x ∷ ys
set_seam xs ys y x = set-append_seam xs y ys x

-- the entry of a statement is filled in, once those inside it are there
pub finished : (table begun all : List Extent) (blank : Extent) (more : List Extent) (behind whole : ℕ) → begun ≡ table ++ blank ∷ [] → all ≡ begun ++ more → slice_set all (length table) (record { body = behind; whole = whole }) ≡ table ++ record { body = behind; whole = whole } ∷ more
finished table begun all blank more behind whole e f =
    ap (λ t. slice_set t (length table) (record { body = behind; whole = whole })) (f ∙ ap (λ t. t ++ more) e ∙ append_assoc table (blank ∷ []) more)
    ∙ set_seam table more blank (record { body = behind; whole = whole })

-- a statement with one body
pub finished_body : (table begun all : List Extent) (blank : Extent) (body : Statements) → begun ≡ table ++ blank ∷ [] → all ≡ begun ++ extents (length begun) body → slice_set all (length table) (record { body = length all; whole = length all }) ≡ table ++ body_extent (length table) body ∷ extents (length table + 1) body
finished_body table begun all blank body e f =
    let n = length table in
    let one : length begun ≡ n + 1 = ap length e ∙ length-append table (blank ∷ []) in
    let long : length all ≡ n + 1 + size body = ap length f ∙ length-append begun (extents (length begun) body) ∙ omega (arith, one, length_extents (length begun) body) in
    finished table begun all blank (extents (length begun) body) (length all) (length all) e f
    ∙ ap (λ m. table ++ record { body = m; whole = m } ∷ extents (length begun) body) long
    ∙ ap (λ m. table ++ body_extent n body ∷ extents m body) one

-- a statement with two
pub finished_bodies : (table begun first all : List Extent) (blank : Extent) (c : Expression ℕ) (body otherwise : Statements) → begun ≡ table ++ blank ∷ [] → first ≡ begun ++ extents (length begun) body → all ≡ first ++ extents (length first) otherwise
    → slice_set all (length table) (record { body = length first; whole = length all }) ≡ table ++ extent_of (length table) (If c body otherwise) ∷ extents_inside (length table) (If c body otherwise)
finished_bodies table begun first all blank c body otherwise e f g =
    let n = length table in
    let one : length begun ≡ n + 1 = ap length e ∙ length-append table (blank ∷ []) in
    let middle : length first ≡ n + 1 + size body = ap length f ∙ length-append begun (extents (length begun) body) ∙ omega (arith, one, length_extents (length begun) body) in
    let long : length all ≡ n + 1 + length (inside (If c body otherwise)) =
    ap length g ∙ length-append first (extents (length first) otherwise) ∙ omega (arith, middle, length_extents (length first) otherwise, length-append (all_of body) (all_of otherwise)) in
    let more = extents (length begun) body ++ extents (length first) otherwise in
    finished table begun all blank more (length first) (length all) e (g ∙ ap (λ t. t ++ extents (length first) otherwise) f ∙ append_assoc begun (extents (length begun) body) (extents (length first) otherwise))
    ∙ ap (λ m. table ++ record { body = m; whole = length all } ∷ (extents (length begun) body ++ extents m otherwise)) middle
    ∙ ap (λ m. table ++ record { body = n + 1 + size body; whole = m } ∷ (extents (length begun) body ++ extents (n + 1 + size body) otherwise)) long
    ∙ ap (λ m. table ++ extent_of n (If c body otherwise) ∷ (extents m body ++ extents (n + 1 + size body) otherwise)) one

-- one process more
pub measured_process : (table table' whole : List Extent) (p : Process) (ps : List Process) → table' ≡ table ++ extents (length table) p.body → table ++ all_extents (length table) (p ∷ ps) ≡ whole → table' ++ all_extents (length table') ps ≡ whole
measured_process table table' whole p ps e h =
    let n = length table in
    let long : length table' ≡ n + size p.body = ap length e ∙ length-append table (extents n p.body) ∙ omega (arith, length_extents n p.body) in
    ap (λ k. table' ++ all_extents k ps) long
    ∙ ap (λ t. t ++ all_extents (n + size p.body) ps) e
    ∙ append_assoc table (extents n p.body) (all_extents (n + size p.body) ps)
    ∙ h

-- what stands at its places in the table is measured
mutual
  pub measured_all : (table : List Extent) (place : ℕ) (ss : Statements) → Sits table place (extents place ss) → AreMeasured table place ss
  measured_all table place End h = tt
  measured_all table place (Then s ss) h =
      let behind = sits_behind table place (extent_of place s) (extents_inside place s ++ extents (place + 1 + length (inside s)) ss) h in (
        sits_there table place (extent_of place s) (extents_inside place s ++ extents (place + 1 + length (inside s)) ss) h,
        measured_inside table place s (sits_left table (place + 1) (extents_inside place s) (extents (place + 1 + length (inside s)) ss) behind),
        measured_all table (place + 1 + length (inside s)) ss
            (sits_right table (place + 1) (place + 1 + length (inside s)) (extents_inside place s) (extents (place + 1 + length (inside s)) ss) (ap (λ k. place + 1 + k) (length_extents_inside place s)) behind),
      )

  measured_inside : (table : List Extent) (place : ℕ) (s : Statement) → Sits table (place + 1) (extents_inside place s) → AreMeasuredInside table place s
  measured_inside table place Empty h = tt
  measured_inside table place (Assign r e) h = tt
  measured_inside table place (AssignAfter r d e) h = tt
  measured_inside table place (AssignLater r d e) h = tt
  measured_inside table place (Now r) h = tt
  measured_inside table place (Delay d body) h = measured_all table (place + 1) body h
  measured_inside table place (Await triggers body) h = measured_all table (place + 1) body h
  measured_inside table place (If c body otherwise) h = (
    measured_all table (place + 1) body (sits_left table (place + 1) (extents (place + 1) body) (extents (place + 1 + size body) otherwise) h),
    measured_all table (place + 1 + size body) otherwise
        (sits_right table (place + 1) (place + 1 + size body) (extents (place + 1) body) (extents (place + 1 + size body) otherwise) (ap (λ k. place + 1 + k) (length_extents (place + 1) body)) h),
  )
  measured_inside table place (While c body) h = measured_all table (place + 1) body h
  measured_inside table place (Print task format arguments) h = tt
  measured_inside table place Finish h = tt

pub measured_processes : (table : List Extent) (place : ℕ) (ps : List Process) → Sits table place (all_extents place ps) → IsMeasured table place ps
measured_processes table place [] h = tt
measured_processes table place (p ∷ ps) h = (
  measured_all table place p.body (sits_left table place (extents place p.body) (all_extents (place + size p.body) ps) h),
  measured_processes table (place + size p.body) ps
      (sits_right table place (place + size p.body) (extents place p.body) (all_extents (place + size p.body) ps) (ap (λ k. place + k) (length_extents place p.body)) h),
)
