-- A process that is combinational by its text has a turn, whatever the values of the registers, which computes its block.
use Rattle.std.proofs.Common.{◌≡◌, ℕ, zero, suc, ◌+◌, ◌≤◌, Bool, true, false, eq-eqb, List, [], ◌∷◌, ◌++◌, ◌⊎◌, inl, inr, map, length, drop, refl, sym, ap, subst, ◌∙◌, ◌==◌, arith, append_assoc}
use Rattle.std.specs.Prelude.{slice_set, slice_index_or, not, cond, take, ◌&&◌, ◌||◌}
use Rattle.std.proofs.lemmas.Bool.{eqb-true}
use Rattle.logic4.specs.Vector.{Vector}
use Rattle.logic4.specs.declared.digit.Truth.{Truth}
use Rattle.logic4.specs.declared.digit.Truth.TheVariants.{False, True, Unknown}
use Rattle.logic4.specs.Operators.{truth}
use Rattle.model.specs.declared.tree.Change.TheVariants.{Any}
use Rattle.model.specs.Syntax.{Expression, registers_of}
use Rattle.model.specs.Design.{Design, Process, Statement, Empty, Assign, AssignAfter, AssignLater, Now, Delay, Await, If, While, Print, Finish, Statements, End, Then, Trigger, inside, all_of, size, all_statements, statement_at, process_at, first_place}
use Rattle.model.specs.Elaboration.{followed_by}
use Rattle.model.specs.Expressions.{Store, own_value, assigned_value}
use Rattle.model.specs.Turns.{At, Remainder, Wait, OnChange, contains, parts, whole, most_steps}
use Rattle.model.specs.Turns as turns
use Rattle.model.specs.TurnCases.{all_but, first_uses, over_at_once, with_step, with_write, HasTurn, nothing, assigned, event, chosen, other, restarted}
use Rattle.model.proofs.PlaceLaws.{Stands, statement_there, stands_others, stands_awaited, stands_chosen}
use Rattle.model.proofs.TurnCaseLaws.{short_turn_by_cases_is_exact}
use Rattle.orders.specs.Apart.{written_by}
use Rattle.phases.specs.Combinational.{common, is_plain_one, is_plain, reads_one, reads, written_one, written, settled_one, settled, IsCombinational, CombinationalIsBlock}

-- lists of registers

pub append_tells : (xs ys : List ℕ) (r : ℕ) → contains (xs ++ ys) r ≡ (contains xs r || contains ys r)
append_tells [] ys r = refl
append_tells (x ∷ xs) ys r = ap (λ b. x == r || b) (append_tells xs ys r) ∙ regroup (x == r) (contains xs r) (contains ys r)
  where
    regroup : (a b c : Bool) → (a || (b || c)) ≡ ((a || b) || c)
    regroup true b c = refl
    regroup false b c = refl

in_left : (xs ys : List ℕ) (r : ℕ) → contains xs r ≡ true → contains (xs ++ ys) r ≡ true
in_left xs ys r h = append_tells xs ys r ∙ ap (λ b. b || contains ys r) h

in_right : (xs ys : List ℕ) (r : ℕ) → contains ys r ≡ true → contains (xs ++ ys) r ≡ true
in_right xs ys r h = append_tells xs ys r ∙ ap (λ b. contains xs r || b) h ∙ or_true (contains xs r)
  where
    or_true : (a : Bool) → (a || true) ≡ true
    or_true true = refl
    or_true false = refl

in_either : (xs ys : List ℕ) (r : ℕ) → contains (xs ++ ys) r ≡ true → contains xs r ≡ true ⊎ contains ys r ≡ true
in_either xs ys r h = which (contains xs r) (contains ys r) (sym (append_tells xs ys r) ∙ h)
  where
    which : (a b : Bool) → (a || b) ≡ true → a ≡ true ⊎ b ≡ true
    which true b h = inl refl
    which false b h = inr h

or_right : (a b : Bool) → b ≡ true → (a || b) ≡ true
or_right true b h = refl
or_right false b h = h

-- a register in all but one
kept_second : (r q x : ℕ) (xs : List ℕ) (here there : Bool) → (x == q) ≡ here → contains (all_but r xs) q ≡ there → (r == x) ≡ false → (here || there) ≡ true
    → (contains (all_but r xs) q ≡ true → contains xs q ≡ true × (r == q) ≡ false) → (x == q || contains xs q) ≡ true × (r == q) ≡ false
kept_second r q x xs true there is is' differ h later = (rw is refl, rw (← eqb-true x q is) differ)
kept_second r q x xs false there is is' differ h later = (or_right (x == q) (contains xs q) (later (is' ∙ h)).0, (later (is' ∙ h)).1)

kept_first : (r q x : ℕ) (xs : List ℕ) (is : Bool) → (r == x) ≡ is → contains (cond (not is) (x ∷ all_but r xs) (all_but r xs)) q ≡ true → (contains (all_but r xs) q ≡ true → contains xs q ≡ true × (r == q) ≡ false)
    → (x == q || contains xs q) ≡ true × (r == q) ≡ false
kept_first r q x xs true is h later = (or_right (x == q) (contains xs q) (later h).0, (later h).1)
kept_first r q x xs false is h later = kept_second r q x xs (x == q) (contains (all_but r xs) q) refl refl is h later

all_but_tells : (r q : ℕ) (xs : List ℕ) → contains (all_but r xs) q ≡ true → contains xs q ≡ true × (r == q) ≡ false
all_but_tells r q [] h = cc
all_but_tells r q (x ∷ xs) h = kept_first r q x xs (r == x) refl h (all_but_tells r q xs)

or_true : (a : Bool) → (a || true) ≡ true
or_true true = refl
or_true false = refl

from_first : (r q x : ℕ) (xs : List ℕ) (is here : Bool) → (r == x) ≡ is → (x == q) ≡ here → (r == q) ≡ false → (here || contains xs q) ≡ true
    → (contains xs q ≡ true → contains (all_but r xs) q ≡ true) → contains (cond (not is) (x ∷ all_but r xs) (all_but r xs)) q ≡ true
from_first r q x xs true true is here differ h later =
    let bad : (r == q) ≡ true = eq-eqb r q (eqb-true r x is ∙ eqb-true x q here) in
    cc
from_first r q x xs false true is here differ h later = rw here refl
from_first r q x xs true false is here differ h later = later h
from_first r q x xs false false is here differ h later = or_right (x == q) (contains (all_but r xs) q) (later h)

all_but_from : (r q : ℕ) (xs : List ℕ) → contains xs q ≡ true → (r == q) ≡ false → contains (all_but r xs) q ≡ true
all_but_from r q [] h differ = h
all_but_from r q (x ∷ xs) h differ = from_first r q x xs (r == x) (x == q) refl refl differ h (λ there. all_but_from r q xs there differ)

uses_first : (r q : ℕ) (rs later : List ℕ) (here : Bool) → (r == q) ≡ here → (here || contains (all_but r (first_uses rs later)) q) ≡ true
    → (contains (first_uses rs later) q ≡ true → contains rs q ≡ true ⊎ contains later q ≡ true) → (r == q || contains rs q) ≡ true ⊎ contains later q ≡ true
uses_first r q rs later true here h others = inl (rw here refl)
uses_first r q rs later false here h others = which (others (all_but_tells r q (first_uses rs later) h).0)
  where
    which : contains rs q ≡ true ⊎ contains later q ≡ true → (r == q || contains rs q) ≡ true ⊎ contains later q ≡ true
    which (inl there) = inl (or_right (r == q) (contains rs q) there)
    which (inr there) = inr there

uses_tell : (rs later : List ℕ) (q : ℕ) → contains (first_uses rs later) q ≡ true → contains rs q ≡ true ⊎ contains later q ≡ true
uses_tell [] later q h = inr h
uses_tell (r ∷ rs) later q h = uses_first r q rs later (r == q) refl h (uses_tell rs later q)

common_first : (x q : ℕ) (xs ys : List ℕ) (is here : Bool) → contains ys x ≡ is → (x == q) ≡ here → contains (cond is (x ∷ common xs ys) (common xs ys)) q ≡ true
    → (contains (common xs ys) q ≡ true → contains xs q ≡ true × contains ys q ≡ true) → (x == q || contains xs q) ≡ true × contains ys q ≡ true
common_first x q xs ys true true is here h later = (rw here refl, rw (← eqb-true x q here) is)
common_first x q xs ys true false is here h later =
    let there : contains (common xs ys) q ≡ true = rw here at h in
    (or_right (x == q) (contains xs q) (later there).0, (later there).1)
common_first x q xs ys false here is at_q h later = (or_right (x == q) (contains xs q) (later h).0, (later h).1)

common_tells : (xs ys : List ℕ) (q : ℕ) → contains (common xs ys) q ≡ true → contains xs q ≡ true × contains ys q ≡ true
common_tells [] ys q h = cc
common_tells (x ∷ xs) ys q h = common_first x q xs ys (contains ys x) (x == q) refl refl h (common_tells xs ys q)

-- what is known of a turn: what it may have read before it wrote it, what it may have written, what it wrote for certain, and its count
abbrev Has : Remainder → Wait → List ℕ → List ℕ → List ℕ → ℕ → turns.Turn → Type 0
Has rest wait rs ws sure most turn =
    record {
      reads : (r : ℕ) → contains turn.uses r ≡ true → contains rs r ≡ true;
      writes : (r : ℕ) → contains (written_by turn) r ≡ true → contains ws r ≡ true;
      all : (r : ℕ) → contains sure r ≡ true → contains (written_by turn) r ≡ true;
      nbas : turn.nbas ≡ [];
      lines : turn.lines ≡ [];
      strobes : turn.strobes ≡ [];
      finish : turn.finish ≡ false;
      rest : turn.rest ≡ rest;
      wait : turn.wait ≡ wait;
      count : turn.count ≤ most;
    }

-- whatever the values, a remainder has such a turn
abbrev Goes : Design → ℕ → ℕ → Remainder → Wait → Remainder → List ℕ → List ℕ → List ℕ → ℕ → Type 0
Goes design p now rest wait left rs ws sure most = (store : Store) → (turn : turns.Turn) × HasTurn design p now left store turn × Has rest wait rs ws sure most turn

-- an assignment
assign_has : (rest : Remainder) (wait : Wait) (rs ws sure uses : List ℕ) (most r : ℕ) (v : Vector) (turn : turns.Turn) → Has rest wait rs ws sure most turn
    → Has rest wait (uses ++ all_but r rs) (r ∷ ws) (r ∷ sure) (1 + most) (with_step uses (with_write r v turn))
assign_has rest wait rs ws sure uses most r v turn h =
    record {
      reads = λ q used. read q (uses_tell uses (all_but r turn.uses) q used);
      writes = λ q wrote. same_or (r == q) (contains (written_by turn) q) (contains ws q) wrote (h.writes q);
      all = λ q there. same_or (r == q) (contains sure q) (contains (written_by turn) q) there (h.all q);
      nbas = h.nbas;
      lines = h.lines;
      strobes = h.strobes;
      finish = h.finish;
      rest = h.rest;
      wait = h.wait;
      count = omega (arith, h.count);
    }
  where
    same_or : (a b c : Bool) → (a || b) ≡ true → (b ≡ true → c ≡ true) → (a || c) ≡ true
    same_or true b c h later = refl
    same_or false b c h later = later h

    read : (q : ℕ) → contains uses q ≡ true ⊎ contains (all_but r turn.uses) q ≡ true → contains (uses ++ all_but r rs) q ≡ true
    read q (inl there) = in_left uses (all_but r rs) q there
    read q (inr there) =
        let (used, differ) = all_but_tells r q turn.uses there in
        in_right uses (all_but r rs) q (all_but_from r q rs (h.reads q used) differ)

-- a choice
choose_has : (rest : Remainder) (wait : Wait) (rs ws sure uses : List ℕ) (most : ℕ) (turn : turns.Turn) → Has rest wait rs ws sure most turn
    → Has rest wait (uses ++ rs) ws sure (1 + most) (with_step uses turn)
choose_has rest wait rs ws sure uses most turn h =
    record {
      reads = λ q used. read q (uses_tell uses turn.uses q used);
      writes = h.writes;
      all = h.all;
      nbas = h.nbas;
      lines = h.lines;
      strobes = h.strobes;
      finish = h.finish;
      rest = h.rest;
      wait = h.wait;
      count = omega (arith, h.count);
    }
  where
    read : (q : ℕ) → contains uses q ≡ true ⊎ contains turn.uses q ≡ true → contains (uses ++ rs) q ≡ true
    read q (inl there) = in_left uses rs q there
    read q (inr there) = in_right uses rs q (h.reads q there)

-- what is known may be known less well
less_has : (rest : Remainder) (wait : Wait) (rs qs ws vs sure less : List ℕ) (most more : ℕ) (turn : turns.Turn) → Has rest wait rs ws sure most turn
    → ((r : ℕ) → contains rs r ≡ true → contains qs r ≡ true) → ((r : ℕ) → contains ws r ≡ true → contains vs r ≡ true) → ((r : ℕ) → contains less r ≡ true → contains sure r ≡ true) → most ≤ more
    → Has rest wait qs vs less more turn
less_has rest wait rs qs ws vs sure less most more turn h reads writes all count =
    record {
      reads = λ r used. reads r (h.reads r used);
      writes = λ r wrote. writes r (h.writes r wrote);
      all = λ r there. h.all r (all r there);
      nbas = h.nbas;
      lines = h.lines;
      strobes = h.strobes;
      finish = h.finish;
      rest = h.rest;
      wait = h.wait;
      count = omega (arith, h.count, count);
    }

length-append : {A : Type 0} → (xs ys : List A) → length (xs ++ ys) ≡ length xs + length ys
length-append [] ys = omega arith
length-append (x ∷ xs) ys = omega (arith, length-append xs ys)

and_parts : (a b : Bool) → (a && b) ≡ true → (a ≡ true) × (b ≡ true)
and_parts true b h = (refl, h)
and_parts false b h = cc

false_not_true : ◌≡◌ {A = Truth} False True → ⊥
false_not_true h = cc

unknown_not_true : ◌≡◌ {A = Truth} Unknown True → ⊥
unknown_not_true h = cc

wider : (xs ys zs : List ℕ) (r : ℕ) → (contains ys r ≡ true → contains zs r ≡ true) → contains (xs ++ ys) r ≡ true → contains (xs ++ zs) r ≡ true
wider xs ys zs r more there = which (in_either xs ys r there)
  where
    which : contains xs r ≡ true ⊎ contains ys r ≡ true → contains (xs ++ zs) r ≡ true
    which (inl one) = in_left xs zs r one
    which (inr two) = in_right xs zs r (more two)

other_first : (xs ys zs : List ℕ) (r : ℕ) → (contains xs r ≡ true → contains ys r ≡ true) → contains (xs ++ zs) r ≡ true → contains (ys ++ zs) r ≡ true
other_first xs ys zs r more there = which (in_either xs zs r there)
  where
    which : contains xs r ≡ true ⊎ contains zs r ≡ true → contains (ys ++ zs) r ≡ true
    which (inl one) = in_left ys zs r (more one)
    which (inr two) = in_right ys zs r two

-- a choice between two ways

pub IsChosen : Remainder → Wait → Expression ℕ → Statements → Statements → List ℕ → List ℕ → List ℕ → ℕ → turns.Turn → Type 0
IsChosen rest wait c body otherwise rs ws sure most turn =
    Has rest wait (registers_of c ++ (reads body rs ++ reads otherwise rs)) ((written body ++ written otherwise) ++ ws) (common (settled body) (settled otherwise) ++ sure) (1 + (size body + size otherwise) + most) turn

first_has : (rest : Remainder) (wait : Wait) (c : Expression ℕ) (body otherwise : Statements) (rs ws sure : List ℕ) (most : ℕ) (turn : turns.Turn)
    → Has rest wait (reads body rs) (written body ++ ws) (settled body ++ sure) (size body + most) turn → IsChosen rest wait c body otherwise rs ws sure most (with_step (registers_of c) turn)
unfolding IsChosen
first_has rest wait c body otherwise rs ws sure most turn has =
    less_has rest wait (registers_of c ++ reads body rs) (registers_of c ++ (reads body rs ++ reads otherwise rs)) (written body ++ ws) ((written body ++ written otherwise) ++ ws) (settled body ++ sure)
    (common (settled body) (settled otherwise) ++ sure) (1 + (size body + most)) (1 + (size body + size otherwise) + most) (with_step (registers_of c) turn)
    (choose_has rest wait (reads body rs) (written body ++ ws) (settled body ++ sure) (registers_of c) (size body + most) turn has)
    (λ r. wider (registers_of c) (reads body rs) (reads body rs ++ reads otherwise rs) r (in_left (reads body rs) (reads otherwise rs) r))
    (λ r. other_first (written body) (written body ++ written otherwise) ws r (in_left (written body) (written otherwise) r))
    (λ r. other_first (common (settled body) (settled otherwise)) (settled body) sure r (λ both. (common_tells (settled body) (settled otherwise) r both).0)) (omega arith)

second_has : (rest : Remainder) (wait : Wait) (c : Expression ℕ) (body otherwise : Statements) (rs ws sure : List ℕ) (most : ℕ) (turn : turns.Turn)
    → Has rest wait (reads otherwise rs) (written otherwise ++ ws) (settled otherwise ++ sure) (size otherwise + most) turn → IsChosen rest wait c body otherwise rs ws sure most (with_step (registers_of c) turn)
unfolding IsChosen
second_has rest wait c body otherwise rs ws sure most turn has =
    less_has rest wait (registers_of c ++ reads otherwise rs) (registers_of c ++ (reads body rs ++ reads otherwise rs)) (written otherwise ++ ws) ((written body ++ written otherwise) ++ ws) (settled otherwise ++ sure)
    (common (settled body) (settled otherwise) ++ sure) (1 + (size otherwise + most)) (1 + (size body + size otherwise) + most) (with_step (registers_of c) turn)
    (choose_has rest wait (reads otherwise rs) (written otherwise ++ ws) (settled otherwise ++ sure) (registers_of c) (size otherwise + most) turn has)
    (λ r. wider (registers_of c) (reads otherwise rs) (reads body rs ++ reads otherwise rs) r (in_right (reads body rs) (reads otherwise rs) r))
    (λ r. other_first (written otherwise) (written body ++ written otherwise) ws r (in_right (written body) (written otherwise) r))
    (λ r. other_first (common (settled body) (settled otherwise)) (settled otherwise) sure r (λ both. (common_tells (settled body) (settled otherwise) r both).1)) (omega arith)

chosen_goes : (design : Design) (p now place : ℕ) (rest left : Remainder) (wait : Wait) (c : Expression ℕ) (body otherwise : Statements) (rs ws sure : List ℕ) (most : ℕ) (store : Store) (b : Truth)
    → truth (own_value design.widths store c) ≡ b → statement_at design place ≡ If c body otherwise
    → Goes design p now rest wait (parts (place + 1) body ++ left) (reads body rs) (written body ++ ws) (settled body ++ sure) (size body + most)
    → Goes design p now rest wait (parts (place + 1 + size body) otherwise ++ left) (reads otherwise rs) (written otherwise ++ ws) (settled otherwise ++ sure) (size otherwise + most)
    → (turn : turns.Turn) × HasTurn design p now (At place ∷ left) store turn × IsChosen rest wait c body otherwise rs ws sure most turn
chosen_goes design p now place rest left wait c body otherwise rs ws sure most store True is at first second =
    let (t, goes, has) = first store in
    (with_step (registers_of c) t, chosen place c body otherwise left store t at is goes, first_has rest wait c body otherwise rs ws sure most t has)
chosen_goes design p now place rest left wait c body otherwise rs ws sure most store False is at first second =
    let (t, goes, has) = second store in
    (with_step (registers_of c) t, other place c body otherwise left store t at (rw is false_not_true) goes, second_has rest wait c body otherwise rs ws sure most t has)
chosen_goes design p now place rest left wait c body otherwise rs ws sure most store Unknown is at first second =
    let (t, goes, has) = second store in
    (with_step (registers_of c) t, other place c body otherwise left store t at (rw is unknown_not_true) goes, second_has rest wait c body otherwise rs ws sure most t has)

is_chosen : (rest : Remainder) (wait : Wait) (c : Expression ℕ) (body otherwise : Statements) (rs ws sure : List ℕ) (most sum : ℕ) (turn : turns.Turn) → sum ≡ size body + size otherwise
    → IsChosen rest wait c body otherwise rs ws sure most turn
    → Has rest wait (registers_of c ++ (reads body rs ++ reads otherwise rs)) ((written body ++ written otherwise) ++ ws) (common (settled body) (settled otherwise) ++ sure) (1 + sum + most) turn
unfolding IsChosen
is_chosen rest wait c body otherwise rs ws sure most sum turn is has = rw is has

-- statements, one after another

mutual
  one_goes : (design : Design) (p now place : ℕ) (rest left : Remainder) (wait : Wait) (s : Statement) (ss : Statements) (rs ws sure : List ℕ) (most : ℕ) → Stands design place (Then s ss) → is_plain_one s ≡ true
      → Goes design p now rest wait left rs ws sure most
      → Goes design p now rest wait (At place ∷ left) (reads_one s rs) (written_one s ++ ws) (settled_one s ++ sure) (1 + length (inside s) + most)
  one_goes design p now place rest left wait Empty ss rs ws sure most stands plain later store =
      let (t, goes, has) = later store in
      (with_step [] t, nothing place left store t (statement_there design place Empty ss stands) goes, choose_has rest wait rs ws sure [] most t has)
  one_goes design p now place rest left wait (Assign r e) ss rs ws sure most stands plain later store =
      let v : Vector = assigned_value design.widths store r e in
      let (t, goes, has) = later (slice_set store r v) in (
        with_step (registers_of e) (with_write r v t),
        assigned place r e left store t (statement_there design place (Assign r e) ss stands) goes,
        assign_has rest wait rs ws sure (registers_of e) most r v t has,
      )
  one_goes design p now place rest left wait (If c body otherwise) ss rs ws sure most stands plain later store =
      let (plain_body, plain_otherwise) = and_parts (is_plain body) (is_plain otherwise) plain in
      let (stands_body, stands_otherwise) = stands_chosen design place c body otherwise ss stands in
      let sum : length (all_of body ++ all_of otherwise) ≡ size body + size otherwise = length-append (all_of body) (all_of otherwise) in
      let (t, goes, has) =
      chosen_goes design p now place rest left wait c body otherwise rs ws sure most store (truth (own_value design.widths store c)) refl
      (statement_there design place (If c body otherwise) ss stands)
      (all_go design p now (place + 1) rest left wait body rs ws sure most stands_body plain_body later)
      (all_go design p now (place + 1 + size body) rest left wait otherwise rs ws sure most stands_otherwise plain_otherwise later) in
      (t, goes, is_chosen rest wait c body otherwise rs ws sure most (length (all_of body ++ all_of otherwise)) t sum has)
  one_goes design p now place rest left wait (AssignAfter r d e) ss rs ws sure most stands plain later store = cc
  one_goes design p now place rest left wait (AssignLater r d e) ss rs ws sure most stands plain later store = cc
  one_goes design p now place rest left wait (Now r) ss rs ws sure most stands plain later store = cc
  one_goes design p now place rest left wait (Delay d body) ss rs ws sure most stands plain later store = cc
  one_goes design p now place rest left wait (Await ts body) ss rs ws sure most stands plain later store = cc
  one_goes design p now place rest left wait (While c body) ss rs ws sure most stands plain later store = cc
  one_goes design p now place rest left wait (Print task format arguments) ss rs ws sure most stands plain later store = cc
  one_goes design p now place rest left wait Finish ss rs ws sure most stands plain later store = cc

  all_go : (design : Design) (p now place : ℕ) (rest left : Remainder) (wait : Wait) (ss : Statements) (rs ws sure : List ℕ) (most : ℕ) → Stands design place ss → is_plain ss ≡ true
      → Goes design p now rest wait left rs ws sure most → Goes design p now rest wait (parts place ss ++ left) (reads ss rs) (written ss ++ ws) (settled ss ++ sure) (size ss + most)
  all_go design p now place rest left wait End rs ws sure most stands plain later store =
      let (t, goes, has) = later store in
      (t, goes, less_has rest wait rs rs ws ws sure sure most (0 + most) t has (λ r h. h) (λ r h. h) (λ r h. h) (omega arith))
  all_go design p now place rest left wait (Then s ss) rs ws sure most stands plain later store =
      let (plain_s, plain_ss) = and_parts (is_plain_one s) (is_plain ss) plain in
      let others : Goes design p now rest wait (parts (place + 1 + length (inside s)) ss ++ left) (reads ss rs) (written ss ++ ws) (settled ss ++ sure) (size ss + most) =
      all_go design p now (place + 1 + length (inside s)) rest left wait ss rs ws sure most (stands_others design place s ss stands) plain_ss later in
      let (t, goes, has) = one_goes design p now place rest (parts (place + 1 + length (inside s)) ss ++ left) wait s ss (reads ss rs) (written ss ++ ws) (settled ss ++ sure) (size ss + most) stands plain_s others store in
      let count : length (inside s ++ all_of ss) ≡ length (inside s) + size ss = length-append (inside s) (all_of ss) in (
        t,
        goes,
        less_has rest wait (reads_one s (reads ss rs)) (reads_one s (reads ss rs)) (written_one s ++ (written ss ++ ws)) ((written_one s ++ written ss) ++ ws) (settled_one s ++ (settled ss ++ sure))
            ((settled_one s ++ settled ss) ++ sure) (1 + length (inside s) + (size ss + most)) (suc (length (inside s ++ all_of ss)) + most) t has (λ r h. h)
            (λ r h. ap (λ xs. contains xs r) (append_assoc (written_one s) (written ss) ws) ∙ h) (λ r h. ap (λ xs. contains xs r) (sym (append_assoc (settled_one s) (settled ss) sure)) ∙ h) (omega (arith, count)),
      )

-- the body of a process stands at its first place

drop_past : (xs ys : List Statement) (k : ℕ) → drop (length xs + k) (xs ++ ys) ≡ drop k ys
drop_past [] ys k = ap (λ n. drop n ys) (omega arith)
drop_past (x ∷ xs) ys k =
    let sum : suc (length xs) + k ≡ suc (length xs + k) = omega arith in
    rw sum (drop_past xs ys k)

repeats_not : (x : Process) → record { repeats = false; body = End } ≡ x → x.repeats ≡ true → ⊥
repeats_not x same is =
    let bad : false ≡ true = ap (λ (y : Process). y.repeats) same ∙ is in
    cc

pub body_at : (ps : List Process) (p : ℕ) (x : Process) → slice_index_or ps p (record { repeats = false; body = End }) ≡ x → x.repeats ≡ true
    → (others : List Statement) × (drop (length (all_statements (take p ps))) (all_statements ps) ≡ all_of x.body ++ others)
body_at [] p x is repeats = absurd (repeats_not x is repeats)
body_at (y ∷ ps) zero x is repeats = (all_statements ps, ap (λ (z : Process). all_of z.body ++ all_statements ps) is)
body_at (y ∷ ps) (suc p) x is repeats =
    let (others, at) = body_at ps p x is repeats in
    let sum : length (all_of y.body ++ all_statements (take p ps)) ≡ length (all_of y.body) + length (all_statements (take p ps)) = length-append (all_of y.body) (all_statements (take p ps)) in
    (others, ap (λ n. drop n (all_of y.body ++ all_statements ps)) sum ∙ drop_past (all_of y.body) (all_statements ps) (length (all_statements (take p ps))) ∙ at)

pub no_more : {A : Type 0} → (xs : List A) → xs ++ [] ≡ xs
no_more [] = refl
no_more (x ∷ xs) = ap (λ ys. x ∷ ys) (no_more xs)

-- statements, and then others

statements_both : (ss others : Statements) → all_of (followed_by ss others) ≡ all_of ss ++ all_of others
statements_both End others = refl
statements_both (Then s ss) others = ap (λ xs. s ∷ (inside s ++ xs)) (statements_both ss others) ∙ ap (λ xs. s ∷ xs) (sym (append_assoc (inside s) (all_of ss) (all_of others)))

parts_both : (place : ℕ) (ss others : Statements) → parts place (followed_by ss others) ≡ parts place ss ++ parts (place + size ss) others
parts_both place End others =
    let same : place ≡ place + 0 = omega arith in
    ap (λ n. parts n others) same
parts_both place (Then s ss) others =
    let next : ℕ = place + 1 + length (inside s) in
    let sum : next + size ss ≡ place + size (Then s ss) = omega (arith, length-append (inside s) (all_of ss)) in
    ap (λ xs. At place ∷ xs) (parts_both next ss others ∙ ap (λ n. parts next ss ++ parts n others) sum)

stands_before : (design : Design) (n : ℕ) (ss others : Statements) → Stands design n (followed_by ss others) → Stands design n ss
stands_before design n ss others (more, at) = (all_of others ++ more, at ∙ ap (λ xs. xs ++ more) (statements_both ss others) ∙ append_assoc (all_of ss) (all_of others) more)

stands_behind : (design : Design) (n : ℕ) (ss others : Statements) → Stands design n (followed_by ss others) → Stands design (n + size ss) others
stands_behind design n End others stands =
    let same : n ≡ n + 0 = omega arith in
    subst (λ k. Stands design k others) same stands
stands_behind design n (Then s ss) others stands =
    let sum : n + 1 + length (inside s) + size ss ≡ n + size (Then s ss) = omega (arith, length-append (inside s) (all_of ss)) in
    subst (λ k. Stands design k others) sum (stands_behind design (n + 1 + length (inside s)) ss others (stands_others design n s (followed_by ss others) stands))

-- at its event control the process waits
waits_there : (design : Design) (p now at : ℕ) (ts : List Trigger) (behind : Statements) → statement_at design at ≡ Await ts behind → Goes design p now (parts (at + 1) behind) (OnChange ts) (At at ∷ []) [] [] [] 1
waits_there design p now at ts behind there store = (
  with_step [] (over_at_once (parts (at + 1) behind ++ []) (OnChange ts) false),
  event at ts behind [] store there,
  record { reads = λ r used. used; writes = λ r wrote. wrote; all = λ r here. here; nbas = refl; lines = refl; strobes = refl; finish = refl; rest = no_more (parts (at + 1) behind); wait = refl; count = omega arith },
)

-- where nothing is left of it, it begins again
begins_again : (design : Design) (p now : ℕ) (rest left : Remainder) (wait : Wait) (rs ws sure : List ℕ) (most : ℕ) → (process_at design p).repeats ≡ true → whole design p ≡ left
    → Goes design p now rest wait left rs ws sure most → Goes design p now rest wait [] rs ws sure (1 + most)
begins_again design p now rest left wait rs ws sure most repeats is later store =
    let (t, goes, has) = later store in
    (with_step [] t, restarted store t repeats (subst (λ l. HasTurn design p now l store t) (sym is) goes), choose_has rest wait rs ws sure [] most t has)

-- the turn behind the wait
turn_goes : (design : Design) (p now : ℕ) (inputs : List ℕ) (before behind : Statements) → IsCombinational design p inputs before behind
    → Goes design p now (parts (first_place design p + size before + 1) behind) (OnChange (map (λ r. (Any, r)) inputs)) (parts (first_place design p + size before + 1) behind ++ []) (reads behind (reads before []))
    (written behind ++ (written before ++ [])) (settled behind ++ (settled before ++ [])) (size behind + (1 + (size before + 1)))
turn_goes design p now inputs before behind h =
    let first : ℕ = first_place design p in
    let at : ℕ = first + size before in
    let ts : List Trigger = map (λ r. (Any, r)) inputs in
    let last : Statements = Then (Await ts behind) End in
    let rest : Remainder = parts (at + 1) behind in
    let wait : Wait = OnChange ts in
    let stands : Stands design first (followed_by before last) =
    body_at design.processes p (record { repeats = true; body = followed_by before last }) h.process refl in
    let stands_last : Stands design at last = stands_behind design first before last stands in
    let repeats : (process_at design p).repeats ≡ true = ap (λ (x : Process). x.repeats) h.process in
    let whole_is : whole design p ≡ parts first before ++ At at ∷ [] = ap (λ (x : Process). parts first x.body) h.process ∙ parts_both first before last in
    let waits : Goes design p now rest wait (At at ∷ []) [] [] [] 1 = waits_there design p now at ts behind (statement_there design at (Await ts behind) End stands_last) in
    let body : Goes design p now rest wait (parts first before ++ At at ∷ []) (reads before []) (written before ++ []) (settled before ++ []) (size before + 1) =
    all_go design p now first rest (At at ∷ []) wait before [] [] [] 1 (stands_before design first before last stands) h.plain_before waits in
    let again : Goes design p now rest wait [] (reads before []) (written before ++ []) (settled before ++ []) (1 + (size before + 1)) =
    begins_again design p now rest (parts first before ++ At at ∷ []) wait (reads before []) (written before ++ []) (settled before ++ []) (size before + 1) repeats whole_is body in
    all_go design p now (at + 1) rest [] wait behind (reads before []) (written before ++ []) (settled before ++ []) (1 + (size before + 1)) (stands_awaited design at ts behind End stands_last) h.plain_behind again

pub combinational_is_block : CombinationalIsBlock
combinational_is_block design p inputs before behind h =
    let rest : Remainder = parts (first_place design p + size before + 1) behind in
    record {
      turns = λ store now.
          let (t, has_turn, has) = turn_goes design p now inputs before behind h store in
          let here : HasTurn design p now rest store t = subst (λ left. HasTurn design p now left store t) (no_more rest) has_turn in
          let short : t.count ≤ most_steps = omega (arith, has.count, h.short) in (
            t,
            (short_turn_by_cases_is_exact design p rest store now t).1 (here, short),
            record {
              reads = λ r used. h.within r (has.reads r used);
              writes = λ r wrote. ap (λ xs. contains (written behind ++ xs) r) (sym (no_more (written before))) ∙ has.writes r wrote;
              all = λ r out. has.all r (ap (λ xs. contains (settled behind ++ xs) r) (no_more (settled before)) ∙ h.all r out);
              nbas = has.nbas;
              lines = has.lines;
              strobes = has.strobes;
              finish = has.finish;
              rest = has.rest;
              wait = has.wait;
            },
          );
      apart = h.apart;
    }
