-- Two active updates and the processes that wait for their registers: what their footprints are, and when they are apart.
use Rattle.std.proofs.Common.{◌≡◌, ℕ, Bool, true, false, ◌&&◌, ◌||◌, List, [], ◌∷◌, Some, None, refl, ap, ◌==◌, arith, eqb-true}
use Rattle.logic4.specs.declared.digit.Digit.TheVariants.{Zero, One, X}
use Rattle.logic4.specs.Vector.{Vector}
use Rattle.model.specs.declared.tree.Change.TheVariants.{Any, Posedge, Negedge}
use Rattle.model.specs.declared.entry.Entry.TheVariants.{Update, ActivateNba}
use Rattle.model.specs.Design.{Design, Trigger}
use Rattle.model.specs.Expressions.{Store}
use Rattle.model.specs.Turns.{Ended}
use Rattle.model.specs.Turns as turns
use Rattle.model.specs.States.{Action, Continuation, State, start, updated}
use Rattle.loose.specs.declared.transition.LooseTransition.{LooseTransition}
use Rattle.loose.specs.declared.transition.LooseTransition.TheVariants.{Process, FirstOf, Change}
use Rattle.footprints.specs.Footprints.{RegisterChange, Footprint, turn_footprint, update_footprint, footprint, AreApart}

abbrev low : Vector
low = Zero ∷ []

abbrev high : Vector
high = One ∷ []

abbrev unknown : Vector
unknown = X ∷ []

-- each register is a class of its own, and all registers are one class
abbrev own : ℕ → ℕ
own r = r

abbrev together : ℕ → ℕ
together r = 0

abbrev two : Design
two = record { widths = 1 ∷ 1 ∷ []; processes = [] }

abbrev waits : List Trigger → Continuation
waits triggers = record { remainder = []; triggers = triggers }

-- register 0 is set and then register 1, over a store and with processes that wait
abbrev setting : Store → List Continuation → State
setting store processes =
    record (start two) { store = store; processes = processes; active = (0, Action.Update 0 high) ∷ (1, Action.Update 1 high) ∷ []; next_event = 2 }

abbrev change_of : ℕ → Vector → RegisterChange
change_of r before = record { register = r; before = before; after = high }

abbrev print_of : ℕ → List RegisterChange → List ℕ → List Trigger → Footprint
print_of r changes woken ended =
    record { owner = FirstOf r; uses = []; writes = (r, high) ∷ []; changes = changes; awaits = []; woken = woken; ended = ended; assigns = []; lines = []; strobes = false; finishes = false }

-- those are woken whose edge it is: 0 to 1 is a rise, and so is x to 1
abbrev waiting : List Continuation
waiting = waits ((Posedge, 0) ∷ []) ∷ waits ((Negedge, 0) ∷ []) ∷ waits ((Any, 1) ∷ []) ∷ waits ((Negedge, 1) ∷ (Any, 0) ∷ []) ∷ []

pub rises_from_low : footprint own two (setting (low ∷ low ∷ []) waiting) (Update 0) ≡ Some (print_of 0 (change_of 0 low ∷ []) (0 ∷ 3 ∷ []) ((Posedge, 0) ∷ (Negedge, 1) ∷ (Any, 0) ∷ []))
rises_from_low = refl

pub rises_from_unknown : footprint own two (setting (unknown ∷ low ∷ []) waiting) (Update 1) ≡ Some (print_of 1 (change_of 1 low ∷ []) (2 ∷ []) ((Any, 1) ∷ []))
rises_from_unknown = refl

-- a write of the value that stands there changes nothing, and wakes nobody
pub no_change : footprint own two (setting (high ∷ low ∷ []) waiting) (Update 0) ≡ Some (print_of 0 [] [] [])
no_change = refl

-- a change of the regions has no footprint
pub no_footprint : footprint own two (setting (low ∷ low ∷ []) waiting) ActivateNba ≡ None
no_footprint = refl

-- the two updates are apart where they wake different processes

abbrev first : List Continuation → Footprint
first processes = update_footprint own (setting (low ∷ low ∷ []) processes) 0 high

abbrev second : List Continuation → Footprint
second processes = update_footprint own (setting (low ∷ low ∷ []) processes) 1 high

abbrev number_of : LooseTransition → ℕ
number_of (Process p) = p
number_of (FirstOf c) = c
number_of (Change entry) = 0

not_both : (n : ℕ) (a b : Bool) → (0 == n) ≡ a → (1 == n) ≡ b → ((a || false) && (b || false)) ≡ false
not_both n true true is other = absurd (omega (arith, eqb-true 0 n is, eqb-true 1 n other))
not_both n true false is other = refl
not_both n false b is other = refl

abbrev each_its_own : List Continuation
each_its_own = waits ((Posedge, 0) ∷ []) ∷ waits ((Any, 1) ∷ []) ∷ []

pub are_apart : AreApart (first each_its_own) (second each_its_own)
are_apart =
    record {
      owners = λ same. omega (arith, ap number_of same);
      processes = λ n. not_both n (0 == n) (1 == n) refl refl;
      writes = λ n. not_both n (0 == n) (1 == n) refl refl;
      uses = λ n. refl;
      other_uses = λ n. refl;
      awaits = refl;
      other_awaits = refl;
      ended = refl;
      other_ended = refl;
      assigns = λ c due. refl;
      lines = refl;
      strobes = refl;
      finishes = refl;
      other_finishes = refl;
    }

-- and the second is so too where the first was taken

abbrev between : List Continuation → State
between processes = updated (setting (low ∷ low ∷ []) processes) 0 0 high

pub same_between : update_footprint own (between each_its_own) 1 high ≡ second each_its_own
same_between = refl

-- and not where one process waits for both

abbrev for_both : List Continuation
for_both = waits ((Any, 0) ∷ (Any, 1) ∷ []) ∷ []

pub woken_by_both : AreApart (first for_both) (second for_both) → ⊥
woken_by_both h =
    let bad : true ≡ false = h.processes 0 in
    cc

-- nor where it has been woken by the first, so that the second wakes nobody

pub wakes_nobody_more : footprint own two (between for_both) (Update 1) ≡ Some (print_of 1 (change_of 1 low ∷ []) [] [])
wakes_nobody_more = refl

pub woken_by_first : AreApart (first for_both) (update_footprint own (between for_both) 1 high) → ⊥
woken_by_first h =
    let bad : true ≡ false = h.ended in
    cc

-- the turn of a process ends what those wait for that it wakes, and what it waits for itself where it does

abbrev sets_first : turns.Turn
sets_first =
    record { uses = []; writes = (0, high) ∷ []; nbas = []; lines = []; strobes = []; rest = []; wait = Ended; finish = false; count = 1 }

pub ends_by_waking : (turn_footprint own (setting (low ∷ low ∷ []) for_both) 7 sets_first).ended ≡ (Any, 0) ∷ (Any, 1) ∷ []
ends_by_waking = refl

pub ends_its_own : (turn_footprint own (setting (low ∷ low ∷ []) each_its_own) 1 sets_first).ended ≡ (Any, 1) ∷ (Posedge, 0) ∷ []
ends_its_own = refl

-- nor where they are of one class
pub of_one_class : AreApart (update_footprint together (setting (low ∷ low ∷ []) each_its_own) 0 high) (update_footprint together (setting (low ∷ low ∷ []) each_its_own) 1 high) → ⊥
of_one_class h = h.owners refl

-- a process that goes on to wait for the rise of register 0 isn't apart from an update that makes it, but is where it waits for a fall

abbrev begins : List Trigger → Footprint
begins triggers =
    record { owner = Process 7; uses = []; writes = []; changes = []; awaits = triggers; woken = []; ended = []; assigns = []; lines = []; strobes = false; finishes = false }

pub awaits_a_rise : AreApart (begins ((Posedge, 0) ∷ [])) (first []) → ⊥
awaits_a_rise h =
    let bad : true ≡ false = h.awaits in
    cc

differ : Process 7 ≡ FirstOf 0 → ⊥
differ same = omega (arith, ap number_of same)

and_nothing : (b : Bool) → (b && false) ≡ false
and_nothing true = refl
and_nothing false = refl

pub awaits_a_fall : AreApart (begins ((Negedge, 0) ∷ [])) (first [])
awaits_a_fall =
    record {
      owners = differ;
      processes = λ n. and_nothing ((7 == n) || false);
      writes = λ n. refl;
      uses = λ n. refl;
      other_uses = λ n. refl;
      awaits = refl;
      other_awaits = refl;
      ended = refl;
      other_ended = refl;
      assigns = λ c due. refl;
      lines = refl;
      strobes = refl;
      finishes = refl;
      other_finishes = refl;
    }

-- a turn that uses register 0 is apart from an update that writes it, where this changes nothing

abbrev uses_first : Footprint
uses_first =
    record { owner = Process 7; uses = 0 ∷ []; writes = []; changes = []; awaits = []; woken = []; ended = []; assigns = []; lines = []; strobes = false; finishes = false }

abbrev same_value : Footprint
same_value = update_footprint own (setting (high ∷ low ∷ []) []) 0 high

pub uses_what_stays : AreApart uses_first same_value
uses_what_stays =
    record {
      owners = differ;
      processes = λ n. and_nothing ((7 == n) || false);
      writes = λ n. refl;
      uses = λ n. and_nothing ((0 == n) || false);
      other_uses = λ n. refl;
      awaits = refl;
      other_awaits = refl;
      ended = refl;
      other_ended = refl;
      assigns = λ c due. refl;
      lines = refl;
      strobes = refl;
      finishes = refl;
      other_finishes = refl;
    }

pub uses_what_changes : AreApart uses_first (first []) → ⊥
uses_what_changes h =
    let bad : true ≡ false = h.uses 0 in
    cc
