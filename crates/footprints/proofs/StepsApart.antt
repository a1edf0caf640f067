-- Two steps that are apart may be taken in either order.
use Rattle.std.proofs.Common.{◌≡◌, ℕ, Bool, true, false, ◌&&◌, ◌||◌, List, [], ◌∷◌, ◌++◌, map, filter, Option, Some, None, refl, sym, ap, ◌∙◌, ◌==◌, eq-eqb, eqb-true, true≢false}
use Rattle.std.specs.Prelude.{cond}
use Rattle.std.specs.List.{list_any}
use Rattle.logic4.specs.Vector.{Vector}
use Rattle.model.specs.declared.entry.Entry.{Entry}
use Rattle.model.specs.Design.{Design}
use Rattle.model.specs.Turns.{NonblockingAssignment, contains}
use Rattle.model.specs.States.{Continuation, State}
use Rattle.model.specs.Runs.{Effect, action_in, has_any}
use Rattle.orders.specs.Alike.{IsInOrder}
use Rattle.orders.specs.Apart.{NotBoth, updates_for}
use Rattle.orders.proofs.TurnFrame.{contains_right}
use Rattle.orders.proofs.Commuting.{apart_commute}
use Rattle.loose.specs.Loose.{of_class, AlikeIn, loose_transition_of_action}
use Rattle.footprints.specs.Footprints.{Footprint, AreApart, changed_registers, matches_any, awaited_by_all, process_of_actor, concerned, written_registers, assigned, assigns_for}
use Rattle.footprints.specs.FootprintLaws.{ApartIsSymmetric, EndedIsKnown, HasSameOutput, StepsApartCommute, FrameAtTheEnd}
use Rattle.footprints.proofs.ValueChanges.{or_left}
use Rattle.footprints.proofs.Waking.{wakes_process, woken_is}
use Rattle.footprints.proofs.Deeds.{Deed, Done, changes_by}
use Rattle.footprints.proofs.Exchange.{NotWoken, StaysAsleep, Differ, registers_of_writes, Leaves, NbasApart, Both, both_are, both_alike}
use Rattle.footprints.proofs.EndedTriggers.{all_stay_asleep, none_awaited}
use Rattle.footprints.proofs.Steps.{some_same, Acts, step_acts, acts_step, acts_done, OwnIs, Matches, acts_match, present_below, acts_after}

-- tests of which one fails

pub and_left : (a b : Bool) → a ≡ true → (a && b) ≡ false → b ≡ false
and_left true b is h = h
and_left false b is h = cc

and_right : (a b : Bool) → b ≡ true → (a && b) ≡ false → a ≡ false
and_right true b is h = cc
and_right false b is h = refl

and_swap : (a b : Bool) → (a && b) ≡ false → (b && a) ≡ false
and_swap true true h = h
and_swap true false h = refl
and_swap false true h = refl
and_swap false false h = refl

pub apart_is_symmetric : ApartIsSymmetric
apart_is_symmetric f g h =
    record {
      owners = λ same. h.owners (sym same);
      processes = λ p. and_swap (contains (concerned f) p) (contains (concerned g) p) (h.processes p);
      writes = λ r. and_swap (contains (written_registers f) r) (contains (written_registers g) r) (h.writes r);
      uses = h.other_uses;
      other_uses = h.uses;
      awaits = h.other_awaits;
      other_awaits = h.awaits;
      ended = h.other_ended;
      other_ended = h.ended;
      assigns = λ c due. and_swap (assigns_for f c due) (assigns_for g c due) (h.assigns c due);
      lines = and_swap (has_any f.lines) (has_any g.lines) h.lines;
      strobes = and_swap f.strobes g.strobes h.strobes;
      finishes = h.other_finishes;
      other_finishes = h.finishes;
    }

-- the processes that a deed wakes

outside_if : (xs ys : List ℕ) (p : ℕ) (b : Bool) → contains ys p ≡ b → contains (xs ++ ys) p ≡ false → b ≡ false
outside_if xs ys p true is h = sym (contains_right xs ys p is) ∙ h
outside_if xs ys p false is h = refl

not_woken : (class : ℕ → ℕ) (s : State) (e : Deed) (y : Effect) (g : Footprint) (p : ℕ) → Matches class s e y g → contains (concerned g) p ≡ false → wakes_process (changes_by s e) s.processes p ≡ false
not_woken class s e y g p m out =
    sym (ap (λ ws. contains ws p) m.woken ∙ woken_is (changes_by s e) s.processes p) ∙ outside_if (process_of_actor g.owner) g.woken p (contains g.woken p) refl out

woken_in : (class : ℕ → ℕ) (s : State) (d : Deed) (x : Effect) (f : Footprint) (p : ℕ) → Matches class s d x f → wakes_process (changes_by s d) s.processes p ≡ true → contains (concerned f) p ≡ true
woken_in class s d x f p m is =
    contains_right (process_of_actor f.owner) f.woken p (ap (λ ws. contains ws p) m.woken ∙ woken_is (changes_by s d) s.processes p ∙ is)

own_in : (f : Footprint) (own : ℕ × Continuation) → OwnIs f (Some own) → contains (concerned f) own.0 ≡ true
own_in f own is =
    ap (λ o. contains (process_of_actor o ++ f.woken) own.0) is.0 ∙ or_left (own.0 == own.0) (contains f.woken own.0) (eq-eqb own.0 own.0 refl)

pub ended_is_known : EndedIsKnown
ended_is_known class design s a b f g x y step_a step_b apart =
    let (going, (d, acts_d)) = step_acts class design s a x f step_a in
    let (going', (e, acts_e)) = step_acts class design s b y g step_b in
    let m : Matches class s d x f = acts_match class design s a d x f acts_d in
    let m' : Matches class s e y g = acts_match class design s b e y g acts_e in
    ap (λ ts. matches_any ts g.changes) m.ended ∙ ap (matches_any (awaited_by_all s.processes (concerned f))) m'.changes
    ∙ none_awaited s.processes (concerned f) (changes_by s e)
    (λ p is. not_woken class s e y g p m' (and_left (contains (concerned f) p) (contains (concerned g) p) is (apart p)))

-- What a footprint says of the writes of a deed, the changes that they make of a state, and the deed's own process. The step may be taken
-- from another state.
abbrev pub IsOfDeed : State → Deed → Footprint → Type 0
IsOfDeed s e g =
    record {
      writes : g.writes ≡ e.writes;
      changes : g.changes ≡ changes_by s e;
      own : OwnIs g e.own;
    }

is_of_deed : (class : ℕ → ℕ) (s : State) (e : Deed) (y : Effect) (g : Footprint) → Matches class s e y g → IsOfDeed s e g
is_of_deed class s e y g m = record { writes = m.writes; changes = m.changes; own = m.own }

-- a process that one of two deeds concerns isn't woken by the other
unconcerned : (class : ℕ → ℕ) (s : State) (d e : Deed) (x : Effect) (f g : Footprint) (p : ℕ) → Matches class s d x f → IsOfDeed s e g → AreApart f g → contains (concerned f) p ≡ true → wakes_process (changes_by s e) s.processes p ≡ false
unconcerned class s d e x f g p m i apart is =
    let before : matches_any (awaited_by_all s.processes (concerned f)) (changes_by s e) ≡ false =
    sym (ap (λ ts. matches_any ts (changes_by s e)) m.ended) ∙ ap (matches_any f.ended) (sym i.changes) ∙ apart.ended in
    all_stay_asleep s.processes (concerned f) (changes_by s e) p before is

waits_of : (class : ℕ → ℕ) (s : State) (d e : Deed) (x : Effect) (f g : Footprint) (o : Option (ℕ × Continuation)) → OwnIs f o → Matches class s d x f → IsOfDeed s e g → AreApart f g → NotWoken (changes_by s e) s.processes o
waits_of class s d e x f g None is m i apart = tt
waits_of class s d e x f g (Some own) is m i apart = (
  sym (ap (λ ts. matches_any ts (changes_by s e)) is.1) ∙ ap (matches_any f.awaits) (sym i.changes) ∙ apart.awaits,
  unconcerned class s d e x f g own.0 m i apart (own_in f own is),
)

stays_of : (class : ℕ → ℕ) (s : State) (d : Deed) (x : Effect) (f g : Footprint) (o : Option (ℕ × Continuation)) → OwnIs g o → Matches class s d x f → AreApart f g → StaysAsleep (changes_by s d) s.processes o
stays_of class s d x f g None is m apart = tt
stays_of class s d x f g (Some own) is m apart =
    not_woken class s d x f own.0 m (and_right (contains (concerned f) own.0) (contains (concerned g) own.0) (own_in g own is) (apart.processes own.0))

-- no register that the second of two deeds writes is written by the first
pub writes_apart : (class : ℕ → ℕ) (s : State) (d : Deed) (x : Effect) (f g : Footprint) (ws : List (ℕ × Vector)) → Matches class s d x f → g.writes ≡ ws → AreApart f g
    → (r : ℕ) → contains (registers_of_writes ws) r ≡ true → contains (registers_of_writes d.writes) r ≡ false
writes_apart class s d x f g ws m same apart r is =
    let in_g : contains (written_registers g) r ≡ true = ap (λ vs. contains (registers_of_writes vs) r) same ∙ is in
    sym (ap (λ vs. contains (registers_of_writes vs) r) m.writes) ∙ and_right (contains (written_registers f) r) (contains (written_registers g) r) in_g (apart.writes r)

pub leaves : (class : ℕ → ℕ) (s : State) (d e : Deed) (x : Effect) (f g : Footprint) → Matches class s d x f → IsOfDeed s e g → AreApart f g → Leaves s d e
leaves class s d e x f g m i apart =
    record {
      writes = writes_apart class s d x f g e.writes m i.writes apart;
      wakes = λ p is. unconcerned class s d e x f g p m i apart (woken_in class s d x f p m is);
      waits = waits_of class s d e x f g d.own m.own m i apart;
      own = stays_of class s d x f g e.own i.own m apart;
    }

pub differ_of : (f g : Footprint) (o q : Option (ℕ × Continuation)) → OwnIs f o → OwnIs g q → AreApart f g → Differ o q
differ_of f g None q is is' apart = tt
differ_of f g (Some own) None is is' apart = tt
differ_of f g (Some own) (Some other) is is' apart =
    λ same.
    let in_g : contains (concerned g) own.0 ≡ true = ap (λ p. contains (concerned g) p) same ∙ own_in g other is' in
    let out_g : contains (concerned g) own.0 ≡ false = and_left (contains (concerned f) own.0) (contains (concerned g) own.0) (own_in f own is) (apart.processes own.0) in
    true≢false (sym in_g ∙ out_g)

numbers_if : (class : ℕ → ℕ) (s : State) (d e : Deed) (x y : Effect) (f g : Footprint) (b : Bool) → (d.number == e.number) ≡ b → Matches class s d x f → Matches class s e y g → AreApart f g → b ≡ false
numbers_if class s d e x y f g true is m m' apart =
    let (a, at_d, owner_d) = m.active in
    let (c, at_e, owner_e) = m'.active in
    let one : Some a ≡ Some c = sym at_d ∙ ap (action_in s.active) (eqb-true d.number e.number is) ∙ at_e in
    absurd (apart.owners (some_same f.owner g.owner (sym owner_d ∙ ap (loose_transition_of_action class) one ∙ owner_e)))
numbers_if class s d e x y f g false is m m' apart = refl

-- updates by nonblocking assignments

assigned_if : (class : ℕ → ℕ) (c due : ℕ) (l : NonblockingAssignment) (ls : List NonblockingAssignment) (more a b : Bool) → (class l.register == c) ≡ a → (l.due == due) ≡ b
    → has_any (of_class class c (map {B = ℕ × Vector} (λ (l : NonblockingAssignment). (l.register, l.value)) ls)) ≡ more
    → has_any (of_class class c (map {B = ℕ × Vector} (λ (l : NonblockingAssignment). (l.register, l.value)) (cond b (l ∷ ls) ls))) ≡ ((a && b) || more)
assigned_if class c due l ls more true true is at h = rw is refl
assigned_if class c due l ls more false true is at h = rw is h
assigned_if class c due l ls more true false is at h = h
assigned_if class c due l ls more false false is at h = h

assigned_is : (class : ℕ → ℕ) (c due : ℕ) (ls : List NonblockingAssignment) → has_any (of_class class c (updates_for due ls)) ≡ list_any (λ (a : ℕ × ℕ). (a.0 == c) && (a.1 == due)) (assigned class ls)
assigned_is class c due [] = refl
assigned_is class c due (l ∷ ls) =
    assigned_if class c due l (filter (λ m. m.due == due) ls) (list_any (λ (a : ℕ × ℕ). (a.0 == c) && (a.1 == due)) (assigned class ls)) (class l.register == c) (l.due == due) refl refl (assigned_is class c due ls)

assigns_is : (class : ℕ → ℕ) (s : State) (d : Deed) (x : Effect) (f : Footprint) (c due : ℕ) → Matches class s d x f → has_any (of_class class c (updates_for due d.nbas)) ≡ assigns_for f c due
assigns_is class s d x f c due m =
    assigned_is class c due d.nbas ∙ ap (λ xs. list_any (λ (a : ℕ × ℕ). (a.0 == c) && (a.1 == due)) xs) (sym m.assigns)

nbas_apart : (class : ℕ → ℕ) (s : State) (d e : Deed) (x y : Effect) (f g : Footprint) → Matches class s d x f → Matches class s e y g → AreApart f g → NbasApart class d e
nbas_apart class s d e x y f g m m' apart c due =
    ap (λ b. b && has_any (of_class class c (updates_for due e.nbas))) (assigns_is class s d x f c due m) ∙ ap (λ b. assigns_for f c due && b) (assigns_is class s e y g c due m') ∙ apart.assigns c due

lines_apart : (class : ℕ → ℕ) (s : State) (d e : Deed) (x y : Effect) (f g : Footprint) → Matches class s d x f → Matches class s e y g → AreApart f g → NotBoth x.lines y.lines
lines_apart class s d e x y f g m m' apart =
    ap (λ ls. has_any ls && has_any y.lines) (sym m.lines) ∙ ap (λ ls. has_any f.lines && has_any ls) (sym m'.lines) ∙ apart.lines

strobes_apart : (class : ℕ → ℕ) (s : State) (d e : Deed) (x y : Effect) (f g : Footprint) → Matches class s d x f → Matches class s e y g → AreApart f g → NotBoth d.strobes e.strobes
strobes_apart class s d e x y f g m m' apart =
    ap (λ b. b && has_any e.strobes) (sym m.strobes) ∙ ap (λ b. f.strobes && b) (sym m'.strobes) ∙ apart.strobes

-- the first of two deeds changes no register that the second uses
pub uses_apart : (class : ℕ → ℕ) (s : State) (d : Deed) (x : Effect) (f g : Footprint) → Matches class s d x f → AreApart f g → (r : ℕ) → contains g.uses r ≡ true → contains (changed_registers (changes_by s d)) r ≡ false
uses_apart class s d x f g m apart r is =
    ap (λ cs. contains (changed_registers cs) r) (sym m.changes) ∙ and_left (contains g.uses r) (contains (changed_registers f.changes) r) is (apart.other_uses r)

-- the second step, after the first
second_step : (class : ℕ → ℕ) (design : Design) (s : State) (entry : Entry) (d e : Deed) (x y : Effect) (f g : Footprint) → IsInOrder s → Done s d x.state → Matches class s d x f → Matches class s e y g → AreApart f g
    → Acts class design s entry e y g → (z : Effect) × Acts class design x.state entry e z g × HasSameOutput z y
second_step class design s entry d e x y f g order done m m' apart acts =
    let (a, at_e, owner) = m'.active in
    acts_after class design s x.state d e entry y g done acts (leaves class s d e x f g m (is_of_deed class s e y g m') apart) (differ_of f g d.own e.own m.own m'.own apart)
    (numbers_if class s d e x y f g (d.number == e.number) refl m m' apart) (uses_apart class s d x f g m apart) (present_below e.number 0 s.next_event a s.active order.active at_e)

pub steps_apart_commute : StepsApartCommute
steps_apart_commute class design s a b f g x y order step_a step_b apart stops other_stops =
    let (going, (d, acts_d)) = step_acts class design s a x f step_a in
    let (going', (e, acts_e)) = step_acts class design s b y g step_b in
    let other : AreApart g f = apart_is_symmetric f g apart in
    let m : Matches class s d x f = acts_match class design s a d x f acts_d in
    let m' : Matches class s e y g = acts_match class design s b e y g acts_e in
    let done : Done s d x.state = acts_done class design s a d x f order going acts_d in
    let done' : Done s e y.state = acts_done class design s b e y g order going acts_e in
    let goes_on : d.finish ≡ false = sym m.finishes ∙ stops in
    let goes_on' : e.finish ≡ false = sym m'.finishes ∙ other_stops in
    let (u, acts_u, (lines_u, changes_u)) = second_step class design s b d e x y f g order done m m' apart acts_e in
    let (v, acts_v, (lines_v, changes_v)) = second_step class design s a e d y x g f order done' m' m other acts_d in
    let done_u : Done x.state e u.state = acts_done class design x.state b e u g done.order (done.finished ∙ goes_on) acts_u in
    let done_v : Done y.state d v.state = acts_done class design y.state a d v f done'.order (done'.finished ∙ goes_on') acts_v in
    let off : Leaves s d e = leaves class s d e x f g m (is_of_deed class s e y g m') apart in
    let off' : Leaves s e d = leaves class s e d y g f m' (is_of_deed class s d x f m) other in
    let (c, at_d, owner_d) = m.active in
    let (k, at_e, owner_e) = m'.active in
    let both : Both s d e u.state = both_are s x.state u.state d e done done_u off (present_below e.number 0 s.next_event k s.active order.active at_e) in
    let both' : Both s e d v.state = both_are s y.state v.state e d done' done_v off' (present_below d.number 0 s.next_event c s.active order.active at_d) in
    let alike : AlikeIn class u.state v.state =
    both_alike class s u.state v.state d e (differ_of f g d.own e.own m.own m'.own apart) off off' (nbas_apart class s d e x y f g m m' apart) (strobes_apart class s d e x y f g m m' apart) goes_on goes_on' both both' in (
      u,
      v,
      acts_step class design x.state b e u g (done.finished ∙ goes_on) acts_u,
      acts_step class design y.state a d v f (done'.finished ∙ goes_on') acts_v,
      (lines_u, changes_u),
      (lines_v, changes_v),
      ap (λ ls. x.lines ++ ls) lines_u ∙ apart_commute x.lines y.lines (lines_apart class s d e x y f g m m' apart) ∙ ap (λ ls. y.lines ++ ls) (sym lines_v),
      alike,
    )

-- where one finishes

pub first_of : (a b : Bool) → (a || b) ≡ false → a ≡ false
first_of true b h = h
first_of false b h = refl

pub none_of : (xs : List ℕ) → has_any xs ≡ false → xs ≡ []
none_of [] h = refl
none_of (x ∷ xs) h = cc

pub frame_at_the_end : FrameAtTheEnd
frame_at_the_end class design s a b f g x y order step_a step_b apart stops =
    let (going, (d, acts_d)) = step_acts class design s a x f step_a in
    let (going', (e, acts_e)) = step_acts class design s b y g step_b in
    let m : Matches class s d x f = acts_match class design s a d x f acts_d in
    let m' : Matches class s e y g = acts_match class design s b e y g acts_e in
    let done : Done s d x.state = acts_done class design s a d x f order going acts_d in
    let done' : Done s e y.state = acts_done class design s b e y g order going acts_e in
    let goes_on : y.state.finished ≡ false = done'.finished ∙ sym m'.finishes ∙ stops in
    let (v, acts_v, same) = second_step class design s a e d y x g f order done' m' m (apart_is_symmetric f g apart) acts_d in
    let done_v : Done y.state d v.state = acts_done class design y.state a d v f done'.order goes_on acts_v in
    let quiet : x.state.finished ≡ true → y.lines ≡ [] =
    λ over.
    let finishes : f.finishes ≡ true = m.finishes ∙ sym done.finished ∙ over in
    let neither : (has_any g.lines || g.finishes) ≡ false = and_left f.finishes (has_any g.lines || g.finishes) finishes apart.finishes in
    sym m'.lines ∙ none_of g.lines (first_of (has_any g.lines) g.finishes neither) in
    (v, acts_step class design y.state a d v f goes_on acts_v, same, done_v.finished ∙ sym done.finished, quiet)
