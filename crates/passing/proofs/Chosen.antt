-- Turns on values that were chosen stand for those on all stores with these values.
use Rattle.std.proofs.Common.{◌≡◌, ◌<◌, ◌+◌, ℕ, Bool, true, false, List, [], ◌∷◌, ◌++◌, ◌⊎◌, inl, inr, map, length, take, drop, Some, Result, Ok, Err, refl, sym, ap, subst, ◌∙◌, ◌==◌, ◌||◌, eq-eqb, eqb-true, get_or, arith}
use Rattle.std.specs.Prelude.{IfOk}
use Rattle.std.specs.List.{All, Contains}
use Rattle.std.proofs.lemmas.List.{map-append, take_more}
use Rattle.std.proofs.lemmas.List.Elements.{All-nil, All-cons, All-head, All-tail, All-contains}
use Rattle.logic4.specs.Vector.{Vector}
use Rattle.model.specs.Design.{Design}
use Rattle.model.specs.Expressions.{Store, value_of}
use Rattle.model.specs.Turns.{Remainder, contains, short_turn}
use Rattle.model.specs.Turns as turns
use Rattle.orders.specs.Apart.{AgreeOn, all_given, written_by}
use Rattle.orders.proofs.Stores.{length_all}
use Rattle.orders.proofs.TurnFrame.{turn_has_frame}
use Rattle.design.specs.Compiled.{Compiled, design_of}
use Rattle.design.specs.declared.code.ProcState.{ProcState}
use Rattle.design.specs.DesignInvariant.{remainder_of_state, IsStateOf}
use Rattle.phases.specs.Phase.{Block, IsBlock, ComputesOutputs}
use Rattle.phases.proofs.Values.{written_same}
use Rattle.footprints.specs.Footprints.{RegisterChange, changes_made}
use Rattle.footprints.proofs.ValueChanges.{same_changes}
use Rattle.certificates.specs.declared.changes.NotedChange.{NotedChange}
use Rattle.settling.proofs.Listed.{all_more}
use Rattle.heldways.specs.Passing.{Passing, AllPass}
use Rattle.passing.specs.Moves.{move_of}
use Rattle.passing.specs.declared.writes.Tested.{Tested}
use Rattle.passing.specs.declared.writes.Tested.TheVariants.{Pass}
use Rattle.passing.specs.Combinations.{chosen_value, AgreesWithChosen, HaveChosenValues, AreCovered, PassFrom}

pub computes : (design : Design) (p : ℕ) (b : Block) (store : Store) (now : ℕ) (turn : turns.Turn) → IsBlock design p b → short_turn design p b.rest store now ≡ Some turn → ComputesOutputs b turn
computes design p b store now turn block found =
    let (t, at, c) = block.turns store now in
    let both : Some t ≡ Some turn = sym at ∙ found in
    let same : t ≡ turn = cc in
    subst (λ (x : turns.Turn). ComputesOutputs b x) same c

abbrev registers_chosen : List NotedChange → List ℕ
registers_chosen chosen = map (λ c. c.register) chosen

-- one value more that is given

all_front : (P : NotedChange → Type 0) (cs : List NotedChange) (c : NotedChange) → All P (cs ++ c ∷ []) → All P cs
all_front P [] c all = All-nil P
all_front P (d ∷ cs) c all = All-cons P d cs (All-head P d (cs ++ c ∷ []) all) (all_front P cs c (All-tail P d (cs ++ c ∷ []) all))

all_last : (P : NotedChange → Type 0) (cs : List NotedChange) (c : NotedChange) → All P (cs ++ c ∷ []) → P c
all_last P [] c all = All-head P c [] all
all_last P (d ∷ cs) c all = all_last P cs c (All-tail P d (cs ++ c ∷ []) all)

abbrev HasChosen : Bool → Store → NotedChange → Type 0
HasChosen is_after a c = value_of a c.register ≡ chosen_value is_after c

agrees_one : (is_after : Bool) (cs : List NotedChange) (c : NotedChange) (store new : Store) → AgreesWithChosen is_after cs store → value_of new c.register ≡ chosen_value is_after c → ((r : ℕ) → (r == c.register) ≡ false → value_of new r ≡ value_of store r)
    → AgreesWithChosen is_after (cs ++ c ∷ []) new
agrees_one is_after cs c store new before own others a all r there =
    all_more (λ (q : ℕ). value_of new q ≡ value_of a q) (registers_chosen cs) c.register (λ q among. earlier q (q == c.register) refl (before a (all_front (HasChosen is_after a) cs c all) q among)) last r
    (subst (λ (rs : List ℕ). contains rs r ≡ true) (map-append (λ (d : NotedChange). d.register) cs (c ∷ [])) there)
  where
    last : value_of new c.register ≡ value_of a c.register
    last = own ∙ sym (all_last (HasChosen is_after a) cs c all)

    earlier : (q : ℕ) (is : Bool) → (q == c.register) ≡ is → value_of store q ≡ value_of a q → value_of new q ≡ value_of a q
    earlier q true is was = subst (λ (z : ℕ). value_of new z ≡ value_of a z) (sym (eqb-true q c.register is)) last
    earlier q false is was = others q is ∙ was

pub agrees_none : (is_after : Bool) (store : Store) → AgreesWithChosen is_after [] store
agrees_none is_after store a all r there = absurd (cc)

pub agrees_more : (is_after : Bool) (chosen : List NotedChange) (i : ℕ) (c : NotedChange) (store new : Store) → i < length chosen → c ≡ get_or chosen i c → AgreesWithChosen is_after (take i chosen) store → value_of new c.register ≡ chosen_value is_after c
    → ((r : ℕ) → (r == c.register) ≡ false → value_of new r ≡ value_of store r) → AgreesWithChosen is_after (take (i + 1) chosen) new
agrees_more is_after chosen i c store new lt is before own others =
    subst (λ (cs : List NotedChange). AgreesWithChosen is_after cs new) (sym (take_more chosen i c lt ∙ ap (λ (d : NotedChange). take i chosen ++ d ∷ []) (sym is)))
    (agrees_one is_after (take i chosen) c store new before own others)

-- what was chosen is had

all_before : (chosen : List NotedChange) (store other : Store) → HaveChosenValues chosen store other → All (λ c. value_of store c.register ≡ c.before) chosen
all_before chosen store other all k d within = (all k d within).0

all_after : (chosen : List NotedChange) (store other : Store) → HaveChosenValues chosen store other → All (λ c. value_of other c.register ≡ c.after) chosen
all_after chosen store other all k d within = (all k d within).1

covered_all : (inputs : List ℕ) (chosen : List NotedChange) (r : ℕ) → (contains (registers_chosen chosen) r ≡ true) ⊎ (contains [] r ≡ true) → contains (registers_chosen chosen) r ≡ true
covered_all inputs chosen r (inl there) = there
covered_all inputs chosen r (inr never) = cc

-- what is known of the turn on values that were filled in, in either place
abbrev pub PassesOn : Compiled → ProcState → ℕ → Passing → Store → Store → Type 0
PassesOn code place now passes filled start =
    (p : ℕ) (turn : turns.Turn) → IsStateOf code p place → short_turn (design_of code) p (remainder_of_state code place) filled now ≡ Some turn → AllPass passes (changes_made start turn.writes)

abbrev pub MakesOn : Compiled → ProcState → ℕ → Store → Store → Store → Type 0
MakesOn code place now filled start made =
    (p : ℕ) (turn : turns.Turn) → IsStateOf code p place → short_turn (design_of code) p (remainder_of_state code place) filled now ≡ Some turn → made ≡ all_given start turn.writes

-- the turn on a store is that on values that agree with it on the inputs
turn_on : (code : Compiled) (place : ProcState) (p : ℕ) (block : Block) (now : ℕ) (store filled : Store) (turn : turns.Turn) → IsBlock (design_of code) p block → remainder_of_state code place ≡ block.rest → length store ≡ length filled
    → ((r : ℕ) → contains block.inputs r ≡ true → value_of filled r ≡ value_of store r) → short_turn (design_of code) p block.rest store now ≡ Some turn → short_turn (design_of code) p (remainder_of_state code place) filled now ≡ Some turn
turn_on code place p block now store filled turn is rest len agree at =
    let c : ComputesOutputs block turn = computes (design_of code) p block store now turn is at in
    let on : AgreeOn turn.uses store filled = λ r used. sym (agree r (c.reads r used)) in
    ap (λ (x : Remainder). short_turn (design_of code) p x filled now) rest ∙ turn_has_frame (design_of code) p block.rest store filled now turn len at on

pub chosen_pass : (code : Compiled) (place : ProcState) (values : Store) (now : ℕ) (passes : Passing) (chosen : List NotedChange) (before after made : Store) → length before ≡ length values → length after ≡ length values → AgreesWithChosen false chosen before
    → AgreesWithChosen true chosen after → PassesOn code place now passes before values → MakesOn code place now before values made → PassesOn code place now passes after made → PassFrom code place values now passes chosen []
chosen_pass code place values now passes chosen before after made len_before len_after agree_before agree_after first makes second p block store other turn next own is rest covered len len' have passed passed' at at' =
    let before_at : short_turn (design_of code) p (remainder_of_state code place) before now ≡ Some turn =
    turn_on code place p block now store before turn is rest (len ∙ sym len_before)
    (λ r input. agree_before store (all_before chosen store other have) r (covered_all block.inputs chosen r (covered r input))) at in
    let after_at : short_turn (design_of code) p (remainder_of_state code place) after now ≡ Some next =
    turn_on code place p block now other after next is rest (len' ∙ sym len_after)
    (λ r input. agree_after other (all_after chosen store other have) r (covered_all block.inputs chosen r (covered r input))) at' in
    let c : ComputesOutputs block turn = computes (design_of code) p block store now turn is at in
    let c' : ComputesOutputs block next = computes (design_of code) p block other now next is at' in
    let made_is : made ≡ all_given values turn.writes = makes p turn own before_at in
    let agree : AgreeOn (written_by next) made (all_given store turn.writes) =
    λ r wrote. ap (λ (a : Store). value_of a r) made_is ∙ written_same values store turn.writes r (sym len) (c.all r (c'.writes r wrote)) in
    let count : length made ≡ length (all_given store turn.writes) = ap length made_is ∙ length_all values turn.writes ∙ sym len ∙ sym (length_all store turn.writes) in
    let same : changes_made made next.writes ≡ changes_made (all_given store turn.writes) next.writes = same_changes made (all_given store turn.writes) next.writes count agree in
    (first p turn own before_at, subst (λ (cs : List RegisterChange). AllPass passes cs) same (second p next own after_at))

-- a test that passes says what follows from what it says
pub then_pass : {E : Type 0} (r : Result Tested E) (P Q : Type 0) → (P → Q) → IfOk r (λ t. t ≡ Pass → P) → IfOk r (λ t. t ≡ Pass → Q)
then_pass (Ok t) P Q f h = λ on. f (h on)
then_pass (Err e) P Q f h = tt

-- the rest of the inputs

or_right : (a b : Bool) → b ≡ true → (a || b) ≡ true
or_right true b h = refl
or_right false b h = h

pub none_left : (rest : List ℕ) → (length rest == 0) ≡ true → rest ≡ []
none_left [] h = refl
none_left (r ∷ rest) h = absurd (omega (arith, eqb-true (length (r ∷ rest)) 0 h))

pub first_left : (rest : List ℕ) → (length rest == 0) ≡ false → rest ≡ get_or rest 0 0 ∷ drop 1 rest
first_left [] h = absurd (cc)
first_left (r ∷ rest) h = refl

pub rest_there : (rest : List ℕ) (q : ℕ) → contains (drop 1 rest) q ≡ true → contains rest q ≡ true
rest_there [] q there = there
rest_there (r ∷ rest) q there = or_right (r == q) (contains rest q) there

pub shorter : (rest back : List ℕ) → back ≡ drop 1 rest → (length rest == 0) ≡ false → length back < length rest
shorter [] back is left = absurd (cc)
shorter (r ∷ rest) back is left =
    let same : length back ≡ length rest = ap length is in
    omega (arith, same)

-- one choice more

abbrev HasValues : Store → Store → NotedChange → Type 0
HasValues store other c = (value_of store c.register ≡ c.before) × (value_of other c.register ≡ c.after)

chosen_more : (chosen : List NotedChange) (c : NotedChange) (store other : Store) → HaveChosenValues chosen store other → HasValues store other c → HaveChosenValues (chosen ++ c ∷ []) store other
chosen_more [] c store other all has = All-cons (HasValues store other) c [] has (All-nil (HasValues store other))
chosen_more (d ∷ chosen) c store other all has =
    All-cons (HasValues store other) d (chosen ++ c ∷ []) (All-head (HasValues store other) d chosen all) (chosen_more chosen c store other (All-tail (HasValues store other) d chosen all) has)

pub first_here : (r : ℕ) (rest : List ℕ) → contains (r ∷ rest) r ≡ true
first_here r rest = ap (λ b. b || contains rest r) (eq-eqb r r refl)

chosen_there : (chosen : List NotedChange) (c : NotedChange) (q : ℕ) → contains (registers_chosen chosen) q ≡ true → contains (registers_chosen (chosen ++ c ∷ [])) q ≡ true
chosen_there [] c q there = cc
chosen_there (d ∷ chosen) c q there = step (d.register == q) there (chosen_there chosen c q)
  where
    step : (here : Bool) → (here || contains (registers_chosen chosen) q) ≡ true → (contains (registers_chosen chosen) q ≡ true → contains (registers_chosen (chosen ++ c ∷ [])) q ≡ true) → (here || contains (registers_chosen (chosen ++ c ∷ [])) q) ≡ true
    step true h later = refl
    step false h later = later h

choice_there : (chosen : List NotedChange) (c : NotedChange) (q : ℕ) → (c.register == q) ≡ true → contains (registers_chosen (chosen ++ c ∷ [])) q ≡ true
choice_there [] c q is = ap (λ b. b || false) is
choice_there (d ∷ chosen) c q is = or_right (d.register == q) (contains (registers_chosen (chosen ++ c ∷ [])) q) (choice_there chosen c q is)

covered_more : (inputs : List ℕ) (chosen : List NotedChange) (c : NotedChange) (rest : List ℕ) → AreCovered inputs chosen (c.register ∷ rest) → AreCovered inputs (chosen ++ c ∷ []) rest
covered_more inputs chosen c rest covered q input = either (covered q input)
  where
    later : (here : Bool) → (c.register == q) ≡ here → (here || contains rest q) ≡ true → (contains (registers_chosen (chosen ++ c ∷ [])) q ≡ true) ⊎ (contains rest q ≡ true)
    later true is there = inl (choice_there chosen c q is)
    later false is there = inr there

    either : (contains (registers_chosen chosen) q ≡ true) ⊎ (contains (c.register ∷ rest) q ≡ true) → (contains (registers_chosen (chosen ++ c ∷ [])) q ≡ true) ⊎ (contains rest q ≡ true)
    either (inl there) = inl (chosen_there chosen c q there)
    either (inr there) = later (c.register == q) refl there

-- where each choice of a register's values passes, with the rest, so does whatever it may pass to
pub rest_pass : (code : Compiled) (place : ProcState) (values : Store) (now : ℕ) (passes : Passing) (chosen choices : List NotedChange) (r : ℕ) (rest : List ℕ)
    → ((u v : Vector) → passes r (value_of values r) u ≡ true → passes r u v ≡ true → Contains choices (move_of r u v))
    → ((k : ℕ) (d : NotedChange) → k < length choices → PassFrom code place values now passes (chosen ++ get_or choices k d ∷ []) rest) → PassFrom code place values now passes chosen (r ∷ rest)
rest_pass code place values now passes chosen choices r rest there each p block store other turn next own is rest_is covered len len' have passed passed' at at' =
    let c : NotedChange = move_of r (value_of store r) (value_of other r) in
    let on : PassFrom code place values now passes (chosen ++ c ∷ []) rest =
    All-contains (λ (d : NotedChange). PassFrom code place values now passes (chosen ++ d ∷ []) rest) choices c each (there (value_of store r) (value_of other r) (passed r (first_here r rest)) (passed' r (first_here r rest))) in
    on p block store other turn next own is rest_is (covered_more block.inputs chosen c rest covered) len len' (chosen_more chosen c store other have (refl, refl))
    (λ q among. passed q (or_right (r == q) (contains rest q) among)) (λ q among. passed' q (or_right (r == q) (contains rest q) among)) at at'
