-- The last values of the holder's lists are a store, and what the holder gives a register is given to that store.
use Rattle.std.proofs.Common.{◌≡◌, ℕ, ◌+◌, ◌<◌, ◌≤◌, ◌==◌, Bool, true, false, if◌then◌else◌, List, [], map, length, set, sym, ap, ◌∙◌, arith, refl, get_or-set_same, get_or-set_other, eqb-true}
use Rattle.std.proofs.Math.Seq.{map-set_same}
use Rattle.std.proofs.lemmas.List.{map-set, length-map}
use Rattle.logic4.specs.Vector.{Vector}
use Rattle.model.specs.Expressions.{value_of}
use Rattle.turn.specs.TurnChanges.{altered}
use Rattle.turn.proofs.Known.{ne_of}
use Rattle.regions.specs.Past.{last_of}
use Rattle.regcells.specs.Values.{last_value, values_after}
use Rattle.regcells.specs.CellSeats.{RegisterIdentity, Fresh, seen_of, with_seen, last_values, changes_left, IsOfRegisters}
use Rattle.regcells.proofs.Lasts.{last_given, length-given}

-- what the holder has seen once it has given a register these values
abbrev pub with_given : Fresh → ℕ → List Vector → Fresh
with_given f r given = with_seen f r (values_after (seen_of f r) given)

pub values_given : (f : Fresh) (r : ℕ) (given : List Vector) (x : Vector) → last_of (last_value (seen_of f r)) given ≡ x → last_values (with_given f r given) ≡ set (last_values f) r x
values_given f r given x is =
    map-set last_value f.seen r (values_after (seen_of f r) given) ∙ ap (λ (v : Vector). set (last_values f) r v) (last_given (seen_of f r) given ∙ is)

-- a value of the register's width leaves the widths
pub ready_given : (registers : List RegisterIdentity) (f : Fresh) (r : ℕ) (given : List Vector) (x : Vector) → IsOfRegisters registers f → last_of (last_value (seen_of f r)) given ≡ x → length x ≡ length (value_of (last_values f) r) → IsOfRegisters registers (with_given f r given)
ready_given registers f r given x h is wide =
    record {
      cells = h.cells;
      widths = ap (map length) (values_given f r given x is) ∙ map-set_same length (last_values f) r x [] wide ∙ h.widths;
    }

-- the lists after values of one register were given
seen_given : (b : Bool) (f : Fresh) (register r : ℕ) (values : List Vector) → register < length f.seen → (r == register) ≡ b → seen_of (with_seen f register values) r ≡ (if b then values else seen_of f r)
seen_given true f register r values h is =
    ap (seen_of (with_seen f register values)) (eqb-true r register is) ∙ get_or-set_same f.seen register values [] h
seen_given false f register r values h is = get_or-set_other f.seen register r values [] (λ e. ne_of r register is (sym e))

-- a register takes so many fewer changes, and the others as many
pub left_given : (f : Fresh) (register : ℕ) (given : List Vector) (most : ℕ) → register < length (last_values f) → length (altered (last_value (seen_of f register)) given) ≤ most
    → (r : ℕ) → changes_left f r ≤ changes_left (with_given f register given) r + (if r == register then most else 0)
left_given f register given most declared few r = by_test (r == register) refl
  where
    h : register < length f.seen
    h = omega (arith, length-map f.seen last_value)

    by_test : (b : Bool) → (r == register) ≡ b → changes_left f r ≤ changes_left (with_given f register given) r + (if r == register then most else 0)
    by_test true is =
        let here : length (seen_of (with_given f register given) r) ≡ length (seen_of f register) + length (altered (last_value (seen_of f register)) given) = ap length (seen_given true f register r (values_after (seen_of f register) given) h is) ∙ length-given (seen_of f register) given in
        let before : length (seen_of f r) ≡ length (seen_of f register) = ap (λ q. length (seen_of f q)) (eqb-true r register is) in
        let takes : (if r == register then most else 0) ≡ most = ap (λ t. if t then most else 0) is in
        omega (arith, here, before, takes, few)
    by_test false is =
        let here : length (seen_of (with_given f register given) r) ≡ length (seen_of f r) = ap length (seen_given false f register r (values_after (seen_of f register) given) h is) in
        let takes : (if r == register then most else 0) ≡ 0 = ap (λ t. if t then most else 0) is in
        omega (arith, here, takes)
