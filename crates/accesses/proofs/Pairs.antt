-- Two entries of a journal, as a machine sees them that is led to each.
use Rattle.std.proofs.Common.{◌≡◌, ℕ, Bool, List, [], ◌∷◌, ◌++◌, Some, Result, Ok, Err, IfOk, IsTrue, refl, sym, ◌∙◌, ap, subst}
use Rattle.std.specs.List.{All}
use Rattle.model.specs.declared.entry.Entry.{Entry}
use Rattle.model.specs.Design.{Design}
use Rattle.model.specs.Runs.{after}
use Rattle.design.specs.Compiled.{Compiled, design_of}
use Rattle.regions.specs.Machine.{MachineView, state_at}
use Rattle.accesses.specs.declared.pair.Pair.{Pair}
use Rattle.accesses.specs.declared.role.Site.{Site}
use Rattle.accesses.specs.declared.role.Role.{Role}
use Rattle.accesses.specs.declared.role.Asked.{Asked}
use Rattle.accesses.specs.declared.role.Asked.TheVariants.{OfRole, InRole}
use Rattle.accesses.specs.declared.role.Does.TheVariants.{Finishes}
use Rattle.accesses.specs.Roles.{IsEvent, IsRoleBehind, IsOneBehind, HasPair, HasBothOrders, swapped, cut_off, held_back}
use Rattle.accesses.specs.ExchangedEntries.{IsAtStart, IsLed, IsPair, IsSwapped, IsCutJournal, IsHeldJournal, IsOneAt, HasRoleAt, IsAskedAt, SeesBoth, SeesSwapped, SeesCut, SeesExchanged, SeesHeld}

-- a machine of a design stands behind a journal
abbrev IsBehind : Compiled → List Entry → MachineView → Type 0
IsBehind d journal p = (p.code ≡ d) × (after (design_of d) journal ≡ Some (state_at p))

-- and is led on
led_on : (d : Compiled) (before more : List Entry) (p q : MachineView) → IsBehind d before p → q.code ≡ p.code → IsLed p more q → IsBehind d (before ++ more) q
led_on d before more p q here same led = (
  same ∙ here.0,
  subst (λ (k : Compiled). after (design_of k) (before ++ more) ≡ Some (state_at q)) here.0
      (led before (subst (λ (k : Compiled). after (design_of k) before ≡ Some (state_at p)) (sym here.0) here.1)),
)

still_behind : (d : Compiled) (journal : List Entry) (p q : MachineView) → q ≡ p → IsBehind d journal p → IsBehind d journal q
still_behind d journal p q kept here = subst (λ (x : MachineView). IsBehind d journal x) (sym kept) here

role_behind : (d : Compiled) (journal : List Entry) (p : MachineView) (entry : Entry) (site : Site) (time : ℕ) (role : Role) → IsBehind d journal p
    → HasRoleAt (design_of p.code) (state_at p) entry site time role → IsRoleBehind (design_of d) journal entry site time role
role_behind d journal p entry site time role here has =
    let there : HasRoleAt (design_of d) (state_at p) entry site time role =
    subst (λ (k : Compiled). HasRoleAt (design_of k) (state_at p) entry site time role) here.0 has in
    record { state = state_at p; is_after = here.1; at = there.0; has = there.1 }

one_behind : (d : Compiled) (journal : List Entry) (p : MachineView) (entry : Entry) (site : Site) (time : ℕ) (role : Role) → IsBehind d journal p
    → IsOneAt (state_at p) entry site time role → IsOneBehind (design_of d) journal entry site time role
one_behind d journal p entry site time role here is = record { state = state_at p; is_after = here.1; at = is.0; is_one = is.1 }

-- a machine is led from the start to the one entry, and from there to the other
pub sees_both : (before segment : List Entry) (one other : Entry) (c : Pair) (p q r s : MachineView) → IsAtStart p → q.code ≡ p.code → IsLed p before q
    → HasRoleAt (design_of q.code) (state_at q) one c.site c.time c.first → r ≡ q → s.code ≡ r.code → IsLed r segment s
    → HasRoleAt (design_of s.code) (state_at s) other c.site c.time c.second → SeesBoth (design_of p.code) before segment one other c
sees_both before segment one other c p q r s start to_one led first seen to_other more second =
    let d : Compiled = p.code in
    let at_q : IsBehind d before q = led_on d [] before p q (refl, start) to_one led in
    let at_s : IsBehind d (before ++ segment) s = led_on d before segment r s (still_behind d before q r seen at_q) to_other more in
    record {
      first = role_behind d before q one c.site c.time c.first at_q first;
      second = role_behind d (before ++ segment) s other c.site c.time c.second at_s second;
    }

-- what is seen of the second role's entry, by what is asked of it, and of the first one's behind it
seen_exchanged : (asked : Asked) (d : Compiled) (before needed : List Entry) (other one : Entry) (c : Pair) (r t : MachineView) → IsBehind d (before ++ needed) r
    → IsAskedAt asked (design_of r.code) (state_at r) other c.site c.time c.second → IsBehind d ((before ++ needed) ++ other ∷ []) t
    → IsOneAt (state_at t) one c.site c.time c.first → SeesExchanged asked (design_of d) before needed other one c
seen_exchanged OfRole d before needed other one c r t at_r second at_t first = record {
  second = one_behind d (before ++ needed) r other c.site c.time c.second at_r second;
  first = one_behind d ((before ++ needed) ++ other ∷ []) t one c.site c.time c.first at_t first;
}
seen_exchanged InRole d before needed other one c r t at_r second at_t first = record {
  second = role_behind d (before ++ needed) r other c.site c.time c.second at_r second;
  first = one_behind d ((before ++ needed) ++ other ∷ []) t one c.site c.time c.first at_t first;
}

-- a machine is led from the start to the second role's entry, and over it to where the first one's comes or is left
pub sees_exchanged : (asked : Asked) (before needed : List Entry) (other one : Entry) (c : Pair) (p q r s t : MachineView) → IsAtStart p → q.code ≡ p.code → IsLed p before q
    → r.code ≡ q.code → IsLed q needed r → IsAskedAt asked (design_of r.code) (state_at r) other c.site c.time c.second → s ≡ r → t.code ≡ s.code
    → IsLed s (other ∷ []) t → IsOneAt (state_at t) one c.site c.time c.first → SeesExchanged asked (design_of p.code) before needed other one c
sees_exchanged asked before needed other one c p q r s t start to_before led to_other more second seen to_one over first =
    let d : Compiled = p.code in
    let at_q : IsBehind d before q = led_on d [] before p q (refl, start) to_before led in
    let at_r : IsBehind d (before ++ needed) r = led_on d before needed q r at_q to_other more in
    let at_t : IsBehind d ((before ++ needed) ++ other ∷ []) t =
    led_on d (before ++ needed) (other ∷ []) s t (still_behind d (before ++ needed) r s seen at_r) to_one over in
    seen_exchanged asked d before needed other one c r t at_r second at_t first

-- a machine is led from the start to where either entry may be next, and over a segment to where the first one still may
pub sees_held : (before segment : List Entry) (one other : Entry) (c : Pair) (p q r s t : MachineView) → IsAtStart p → q.code ≡ p.code → IsLed p before q
    → HasRoleAt (design_of q.code) (state_at q) one c.site c.time c.first → r ≡ q → HasRoleAt (design_of r.code) (state_at r) other c.site c.time c.second → s ≡ r
    → t.code ≡ s.code → IsLed s segment t → IsOneAt (state_at t) one c.site c.time c.first → SeesHeld (design_of p.code) before segment one other c
sees_held before segment one other c p q r s t start to_one led first seen second also to_again more again =
    let d : Compiled = p.code in
    let at_q : IsBehind d before q = led_on d [] before p q (refl, start) to_one led in
    let at_r : IsBehind d before r = still_behind d before q r seen at_q in
    let at_t : IsBehind d (before ++ segment) t = led_on d before segment s t (still_behind d before r s also at_r) to_again more in
    record {
      first = role_behind d before q one c.site c.time c.first at_q first;
      second = role_behind d before r other c.site c.time c.second at_r second;
      again = one_behind d (before ++ segment) t one c.site c.time c.first at_t again;
    }

-- what is seen of both in one journal is so
has_pair : (design : Design) (journal before segment : List Entry) (one other : Entry) (c : Pair) → IsPair journal before segment one other
    → SeesBoth design before segment one other c → HasPair design journal c.site c.time c.first c.second
has_pair design journal before segment one other c pair sees = record {
  before = before;
  one = one;
  between = pair.between;
  other = other;
  behind = pair.behind;
  journal_is = pair.journal_is ∙ ap (λ (s : List Entry). before ++ (s ++ (other ∷ pair.behind))) pair.segment_is;
  segment = subst (λ (s : List Entry). All IsEvent s) pair.segment_is pair.events;
  is_first = sees.first;
  is_second = subst (λ (s : List Entry). IsRoleBehind design (before ++ s) other c.site c.time c.second) pair.segment_is sees.second;
}

-- what is seen of both in both journals is so
pub both_orders : (design : Design) (journal exchanged before segment needed : List Entry) (one other again : Entry) (c : Pair)
    → IsPair journal before segment one other → SeesBoth design before segment one other c
    → IsSwapped exchanged before needed again one → SeesSwapped design before needed again one c
    → HasBothOrders design journal exchanged c.site c.time c.first c.second
unfolding has_pair
both_orders design journal exchanged before segment needed one other again c pair sees apart turned =
    swapped (has_pair design journal before segment one other c pair sees)
    (record {
      needed = needed;
      other = again;
      behind = apart.behind;
      exchanged_is = apart.exchanged_is;
      segment = apart.events;
      is_second = turned.second;
      is_first = turned.first;
    })

-- what is seen of both in the first journal, and of the end of the second one, is so
pub finished_before : (design : Design) (journal exchanged before segment needed : List Entry) (one other again : Entry) (c : Pair) → c.second.does ≡ Finishes
    → IsPair journal before segment one other → SeesBoth design before segment one other c
    → IsCutJournal exchanged before needed again → SeesCut design before needed again one c
    → HasBothOrders design journal exchanged c.site c.time c.first c.second
unfolding has_pair
finished_before design journal exchanged before segment needed one other again c finishes pair sees cut left =
    cut_off (has_pair design journal before segment one other c pair sees)
    (record {
      needed = needed;
      other = again;
      exchanged_is = cut.exchanged_is;
      segment = cut.events;
      finishes = finishes;
      is_second = left.second;
      is_first = left.first;
    })

-- what is seen of both where the first journal ends, and of the first one in the second journal, is so
pub finished_after : (design : Design) (journal exchanged before segment : List Entry) (one other : Entry) (c : Pair) → c.first.does ≡ Finishes
    → IsHeldJournal journal exchanged before segment one other → SeesHeld design before segment one other c
    → HasBothOrders design journal exchanged c.site c.time c.first c.second
finished_after design journal exchanged before segment one other c finishes held sees =
    held_back
    (record {
      before = before;
      one = one;
      other = other;
      between = held.between;
      behind = held.behind;
      journal_is = held.journal_is;
      finishes = finishes;
      is_first = sees.first;
      exchanged_is = held.exchanged_is ∙ ap (λ (s : List Entry). before ++ (s ++ (one ∷ held.behind))) held.segment_is;
      segment = subst (λ (s : List Entry). All IsEvent s) held.segment_is held.events;
      is_second = sees.second;
      is_first_again = subst (λ (s : List Entry). IsOneBehind design (before ++ s) one c.site c.time c.first) held.segment_is sees.again;
    })

-- what follows where an answer is yes
pub where_yes : {A B E : Type 0} (r : Result Bool E) → (A → B) → IfOk r (λ is. IsTrue is → A) → IfOk r (λ is. IsTrue is → B)
where_yes (Ok b) f h = λ t. f (h t)
where_yes (Err e) f h = tt

-- and what follows of two things where an answer is yes
pub where_both_yes : {A B C E : Type 0} (r : Result Bool E) → (A → B → C) → IfOk r (λ is. IsTrue is → A) → IfOk r (λ is. IsTrue is → B) → IfOk r (λ is. IsTrue is → C)
where_both_yes (Ok b) f g h = λ t. f (g t) (h t)
where_both_yes (Err e) f g h = tt
