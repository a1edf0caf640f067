-- What is tested of the outputs of each member, together.
use Rattle.std.proofs.Common.{◌≡◌, ℕ, Bool, true, false, not, List, [], ◌∷◌, Option, Some, None, inr, map, ◌<◌, refl, sym, ap, subst, ◌∙◌, ◌==◌, ◌||◌, eq-eqb, eqb-true, true≢false, arith}
use Rattle.std.specs.Prelude.{slice_get}
use Rattle.std.specs.List.{list_any}
use Rattle.logic4.specs.Vector.{Vector}
use Rattle.model.specs.Expressions.{Store, value_of}
use Rattle.model.specs.Turns.{contains}
use Rattle.orders.specs.Apart.{given, all_given}
use Rattle.design.specs.Compiled.{Compiled, design_of}
use Rattle.design.specs.declared.code.ProcState.{ProcState}
use Rattle.phases.specs.Phase.{Block, IsBlock, ComputesOutputs}
use Rattle.footprints.specs.Footprints.{change_made, changes_made}
use Rattle.combinational.specs.declared.block.Logic.{Logic}
use Rattle.combinational.specs.declared.network.Network.{Network}
use Rattle.settling.specs.Settling.{block_or, block_at, IsPlaceBehind}
use Rattle.heldways.specs.Passing.{Passing, IsPassing, AllPass, IsInCone, OutputsPass}
use Rattle.passing.specs.declared.moves.TrackedMoves.{TrackedMoves}
use Rattle.passing.specs.Moves.{passes_by}
use Rattle.passing.specs.Combinations.{PassFrom, MemberPasses}
use Rattle.passing.proofs.Found.{passes_untracked}
use Rattle.passing.proofs.Written.{pass_both, change_passes}
use Rattle.passing.proofs.Chosen.{computes}

-- where nothing was chosen, and all inputs are left, that is the member's
pub member_passes : (code : Compiled) (network : Network) (cone : List ℕ) (values : Store) (now : ℕ) (passes : Passing) (p : ℕ) (place : ProcState) (inputs : List ℕ) → inputs ≡ (block_at code network p).inputs → IsPlaceBehind code network p place
    → PassFrom code place values now passes [] inputs → MemberPasses code network cone values now passes p
member_passes code network cone values now passes p place inputs same behind from store other turn next is inside len len' passed passed' at at' =
    let from' : PassFrom code place values now passes [] (block_at code network p).inputs = subst (λ (rs : List ℕ). PassFrom code place values now passes [] rs) same from in
    from' p (block_at code network p) store other turn next behind.own is behind.rest (λ r input. inr input) len len' (λ k d within. absurd (nothing k within)) passed passed' at at'
  where
    nothing : (k : ℕ) → k < 0 → ⊥
    nothing k within = omega (arith, within)

-- changes of registers that aren't tracked pass

untracked_pass : (moves : TrackedMoves) (a : Store) (ws : List (ℕ × Vector)) → ((r : ℕ) → contains (map (λ (w : ℕ × Vector). w.0) ws) r ≡ true → contains moves.tracked.items r ≡ false) → AllPass (passes_by moves) (changes_made a ws)
untracked_pass moves a [] none = λ k d within. absurd (nothing k within)
  where
    nothing : (k : ℕ) → k < 0 → ⊥
    nothing k within = omega (arith, within)
untracked_pass moves a (w ∷ ws) none =
    pass_both (passes_by moves) (change_made (value_of a w.0) w) (changes_made (given a w) ws) (change_passes (passes_by moves) (value_of a w.0) w.0 w.1 (passes_untracked moves w.0 (value_of a w.0) w.1 (none w.0 (here (w.0 == w.0) (contains (map (λ (v : ℕ × Vector). v.0) ws) w.0) (eq-eqb w.0 w.0 refl)))))
    (untracked_pass moves (given a w) ws (λ r there. none r (later (w.0 == r) (contains (map (λ (v : ℕ × Vector). v.0) ws) r) there)))
  where
    here : (a b : Bool) → a ≡ true → (a || b) ≡ true
    here true b h = refl
    here false b h = cc

    later : (a b : Bool) → b ≡ true → (a || b) ≡ true
    later true b h = refl
    later false b h = h

pub untracked_member : (code : Compiled) (network : Network) (cone : List ℕ) (values : Store) (now : ℕ) (moves : TrackedMoves) (p : ℕ) → ((r : ℕ) → contains (block_at code network p).outputs r ≡ true → contains moves.tracked.items r ≡ false)
    → MemberPasses code network cone values now (passes_by moves) p
untracked_member code network cone values now moves p none store other turn next is inside len len' passed passed' at at' =
    let c : ComputesOutputs (block_at code network p) turn = computes (design_of code) p (block_at code network p) store now turn is at in
    let c' : ComputesOutputs (block_at code network p) next = computes (design_of code) p (block_at code network p) other now next is at' in
    (untracked_pass moves values turn.writes (λ r wrote. none r (c.writes r wrote)), untracked_pass moves (all_given store turn.writes) next.writes (λ r wrote. none r (c'.writes r wrote)))

-- a process without logic has no outputs
pub member_if : (code : Compiled) (network : Network) (cone : List ℕ) (values : Store) (now : ℕ) (moves : TrackedMoves) (p : ℕ) (o : Option (Option Logic)) → slice_get network.logics.items p ≡ o
    → ((logic : Logic) → slice_get network.logics.items p ≡ Some (Some logic) → MemberPasses code network cone values now (passes_by moves) p) → MemberPasses code network cone values now (passes_by moves) p
member_if code network cone values now moves p (Some (Some logic)) is h = h logic is
member_if code network cone values now moves p (Some None) is h =
    untracked_member code network cone values now moves p (λ r there. absurd (never r (sym (ap (λ (b : Block). contains b.outputs r) (ap (block_or code) is)) ∙ there)))
  where
    never : (r : ℕ) → contains [] r ≡ true → ⊥
    never r there = cc
member_if code network cone values now moves p None is h =
    untracked_member code network cone values now moves p (λ r there. absurd (never r (sym (ap (λ (b : Block). contains b.outputs r) (ap (block_or code) is)) ∙ there)))
  where
    never : (r : ℕ) → contains [] r ≡ true → ⊥
    never r there = cc

-- one of these registers is outside others, or each is inside

pub some_outside : (cone rs : List ℕ) → list_any (λ q. not (contains cone q)) rs ≡ true → ((r : ℕ) → contains rs r ≡ true → contains cone r ≡ true) → ⊥
some_outside cone [] any inside = cc
some_outside cone (q ∷ rs) any inside = step (contains cone q) refl any (λ h. some_outside cone rs h (λ r there. inside r (later (q == r) (contains rs r) there)))
  where
    here : (a b : Bool) → a ≡ true → (a || b) ≡ true
    here true b h = refl
    here false b h = cc

    later : (a b : Bool) → b ≡ true → (a || b) ≡ true
    later true b h = refl
    later false b h = h

    step : (b : Bool) → contains cone q ≡ b → (not b || list_any (λ x. not (contains cone x)) rs) ≡ true → (list_any (λ x. not (contains cone x)) rs ≡ true → ⊥) → ⊥
    step true is h rest = rest h
    step false is h rest = true≢false (sym (inside q (here (q == q) (contains rs q) (eq-eqb q q refl))) ∙ is)

pub each_inside : (others rs : List ℕ) → list_any (λ q. not (contains others q)) rs ≡ false → (r : ℕ) → contains rs r ≡ true → contains others r ≡ true
each_inside others [] none r there = absurd (true≢false (sym there))
each_inside others (q ∷ rs) none r there = step (contains others q) (q == r) refl refl none there (λ h. each_inside others rs h r)
  where
    step : (b here : Bool) → contains others q ≡ b → (q == r) ≡ here → (not b || list_any (λ x. not (contains others x)) rs) ≡ false → (here || contains rs r) ≡ true
        → (list_any (λ x. not (contains others x)) rs ≡ false → contains rs r ≡ true → contains others r ≡ true) → contains others r ≡ true
    step false here is at h g rest = absurd (true≢false h)
    step true true is at h g rest = subst (λ n. contains others n ≡ true) (eqb-true q r at) is
    step true false is at h g rest = rest h g

-- a member with an output outside the cone
pub outside_member : (code : Compiled) (network : Network) (cone : List ℕ) (values : Store) (now : ℕ) (passes : Passing) (p : ℕ) → (IsInCone cone (block_at code network p) → ⊥) → MemberPasses code network cone values now passes p
outside_member code network cone values now passes p out store other turn next is inside len len' passed passed' at at' = absurd (out inside)

-- what holds of each member holds of the outputs
pub outputs_pass_so : (code : Compiled) (network : Network) (members cone : List ℕ) (values : Store) (now : ℕ) (passes : Passing) → IsPassing passes → ((p : ℕ) → contains members p ≡ true → MemberPasses code network cone values now passes p)
    → ((p : ℕ) → contains members p ≡ true → IsBlock (design_of code) p (block_at code network p)) → OutputsPass (design_of code) values now members (block_at code network) cone passes
outputs_pass_so code network members cone values now passes passing each blocks =
    record {
      first = λ p store turn member inside len passed at. (each p member store store turn turn (blocks p member) inside len len passed (λ r input. passing.stays r (value_of store r)) at at).0;
      again = λ p store other turn next member inside len len' passed passed' at at'. (each p member store other turn next (blocks p member) inside len len' passed passed' at at').1;
    }
