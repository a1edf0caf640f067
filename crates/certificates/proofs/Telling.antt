-- Whatever steps notes tell of that say to be apart, they are apart.
use Rattle.std.proofs.Common.{◌≡◌, ◌≢◌, ◌⊎◌, ℕ, Bool, true, false, ◌&&◌, ◌||◌, ◌==◌, not, if◌then◌else◌, List, [], ◌∷◌, ◌++◌, length, inl, inr, refl, sym, ap, subst, ◌∙◌, eqb-true, eq-eqb}
use Rattle.std.specs.List.{list_any, Contains}
use Rattle.model.specs.Design.{Trigger}
use Rattle.model.specs.Turns.{contains}
use Rattle.model.specs.States.{wakes, edge_matches}
use Rattle.design.specs.ControlWaking.{wakes_by}
use Rattle.model.specs.Runs.{has_any}
use Rattle.logic4.specs.declared.digit.Edge.{Edge}
use Rattle.logic4.specs.Edges.{edge}
use Rattle.loose.specs.declared.transition.LooseTransition.{LooseTransition}
use Rattle.loose.specs.declared.transition.LooseTransition.TheVariants.{Process, FirstOf, Change}
use Rattle.footprints.specs.Footprints.{RegisterChange, Footprint, changed_registers, matches_any, Disjoint, process_of_actor, concerned, written_registers, assigns_for}
use Rattle.certificates.specs.Masks.{registers_of, meet}
use Rattle.certificates.specs.Changes.{may_wake, may_wake_any}
use Rattle.certificates.specs.Notes.{NoteView, TellsOf, StandApart}
use Rattle.certificates.specs.Apart.{differ, share, ConcernOthers, LeaveRegisters, WakeNoneOf, TellApart, SayApart}
use Rattle.certificates.proofs.Tests.{or_left, or_right, or_cases, and_both, and_parts, false_by, never_true, implied, not_both, same_number, any_at, any_in, any_mapped, any_told}

-- actors

not_same : (k : ℕ) → not (k == k) ≡ false
not_same k = ap not (same_number k)

differ_self : (a : LooseTransition) → differ a a ≡ false
differ_self (Process p) = not_same p
differ_self (FirstOf c) = not_same c
differ_self (Change e) = refl

differ_not : (a b : LooseTransition) → differ a b ≡ true → a ≢ b
differ_not a b h same = never_true (differ a a) (subst (λ z. differ a z ≡ true) (sym same) h) (differ_self a)

not_of : (n m : ℕ) → ((n == m) || false) ≡ true → n ≡ m
not_of n m h = elim (or_cases (n == m) false h) [ inl is ↦ eqb-true n m is | inr none ↦ cc ]

own_differ : (a b : LooseTransition) (n : ℕ) → differ a b ≡ true → contains (process_of_actor a) n ≡ true → contains (process_of_actor b) n ≡ true → ⊥
own_differ (Process p) (Process q) n h one other = never_true (differ (Process p) (Process q)) h (subst (λ z. differ (Process p) (Process z) ≡ false) (not_of p n one ∙ sym (not_of q n other)) (not_same p))
own_differ (Process p) (FirstOf d) n h one other = cc
own_differ (Process p) (Change e) n h one other = cc
own_differ (FirstOf c) b n h one other = cc
own_differ (Change d) b n h one other = cc

-- lists

meet_none : (xs ys : List ℕ) (n : ℕ) → meet xs ys ≡ false → contains xs n ≡ true → contains ys n ≡ true → ⊥
meet_none xs ys n none one other =
    let (m, there, is) = any_at (λ q. q == n) xs one in
    let among : contains ys m ≡ true = subst (λ z. contains ys z ≡ true) (sym (eqb-true m n is)) other in
    never_true (meet xs ys) (any_in (λ q. contains ys q) xs m there among) none

disjoint_by : (xs ys vs ws : List ℕ) → ((n : ℕ) → contains xs n ≡ true → contains vs n ≡ true) → ((n : ℕ) → contains ys n ≡ true → contains ws n ≡ true) → meet vs ws ≡ false → Disjoint xs ys
disjoint_by xs ys vs ws more more' none n = not_both (contains xs n) (contains ys n) (λ one other. meet_none vs ws n none (more n one) (more' n other))

disjoint_back : (xs ys : List ℕ) → Disjoint xs ys → Disjoint ys xs
disjoint_back xs ys off n = not_both (contains ys n) (contains xs n) (λ one other. never_true (contains xs n && contains ys n) (and_both (contains xs n) (contains ys n) other one) (off n))

pub contains_both : (xs ys : List ℕ) (n : ℕ) → contains (xs ++ ys) n ≡ true → (contains xs n ≡ true) ⊎ (contains ys n ≡ true)
contains_both [] ys n h = inr h
contains_both (x ∷ xs) ys n h =
    elim (or_cases (x == n) (contains (xs ++ ys) n) h) [
      | inl is ↦ inl (or_left (x == n) (contains xs n) is)
      | inr later ↦
          elim (contains_both xs ys n later) [
            | inl there ↦ inl (or_right (x == n) (contains xs n) there)
            | inr there ↦ inr there
          ]
    ]

module _ (a b : NoteView) (f g : Footprint) (told : TellsOf a f) (told' : TellsOf b g) where
  own_told : (n : ℕ) → contains (concerned f) n ≡ true → (contains (process_of_actor a.owner) n ≡ true) ⊎ (contains a.woken n ≡ true)
  own_told n h =
      elim (contains_both (process_of_actor f.owner) f.woken n h) [
        | inl own ↦ inl (subst (λ z. contains (process_of_actor z) n ≡ true) told.owner own)
        | inr woken ↦ inr (sym (told.woken n) ∙ woken)
      ]

changed_told : (a : NoteView) (f : Footprint) → TellsOf a f → (n : ℕ) → contains (changed_registers f.changes) n ≡ true → contains (changed_registers a.changes) n ≡ true
changed_told a f told n h =
    any_mapped (λ q. q == n) (λ (c : RegisterChange). c.register) a.changes
    ∙ any_told (λ (c : RegisterChange). c.register == n) f.changes a.changes told.changes (sym (any_mapped (λ q. q == n) (λ (c : RegisterChange). c.register) f.changes) ∙ h)

-- what wakes who waits is of a register of an event
pub wakes_on : (ts : List Trigger) (r : ℕ) (e : Edge) → wakes_by ts r e ≡ true → contains (registers_of ts) r ≡ true
wakes_on ts r e h =
    let (t, there, is) = any_at (λ (t : Trigger). (t.1 == r) && edge_matches t.0 e) ts h in
    any_mapped (λ q. q == r) (λ (u : Trigger). u.1) ts ∙ any_in (λ (t : Trigger). t.1 == r) ts t there (and_parts (t.1 == r) (edge_matches t.0 e) is).0

wake_either : (same woken there : Bool) → (woken ≡ true → there ≡ true) → woken ≡ true → (if same then woken else there) ≡ true
wake_either true woken there more h = h
wake_either false woken there more h = more h

-- what may wake nobody matches nothing
matches_none : (ts : List Trigger) (cs : List RegisterChange) → may_wake_any ts cs ≡ false → matches_any ts cs ≡ false
matches_none ts cs none =
    false_by (matches_any ts cs) (may_wake_any ts cs)
    (λ h.
    let (c, there, is) = any_at (λ (c : RegisterChange). wakes ts c.register c.before c.after) cs h in
    any_in (λ (d : RegisterChange). may_wake ts d) cs c there
    (wake_either (length c.before == length c.after) (wakes ts c.register c.before c.after) (contains (registers_of ts) c.register) (wakes_on ts c.register (edge c.before c.after)) is))
    none

matches_told : (ts us : List Trigger) (cs ds : List RegisterChange) → ((t : Trigger) → Contains ts t → Contains us t) → ((c : RegisterChange) → Contains cs c → Contains ds c) → matches_any us ds ≡ false → matches_any ts cs ≡ false
matches_told ts us cs ds more more' none =
    false_by (matches_any ts cs) (matches_any us ds)
    (λ h.
    let (c, there, is) = any_at (λ (c : RegisterChange). wakes ts c.register c.before c.after) cs h in
    any_in (λ (c : RegisterChange). wakes us c.register c.before c.after) ds c (more' c there)
    (any_told (λ (t : Trigger). (t.1 == c.register) && edge_matches t.0 (edge c.before c.after)) ts us more is))
    none

shares : (xs ys : List (ℕ × ℕ)) (c due : ℕ) → share xs ys ≡ false → list_any (λ (x : ℕ × ℕ). (x.0 == c) && (x.1 == due)) xs ≡ true
    → list_any (λ (x : ℕ × ℕ). (x.0 == c) && (x.1 == due)) ys ≡ true → ⊥
shares xs ys c due none one other =
    let (x, there, is) = any_at (λ (x : ℕ × ℕ). (x.0 == c) && (x.1 == due)) xs one in
    let (y, there', is') = any_at (λ (x : ℕ × ℕ). (x.0 == c) && (x.1 == due)) ys other in
    let (first, second) = and_parts (x.0 == c) (x.1 == due) is in
    let (first', second') = and_parts (y.0 == c) (y.1 == due) is' in
    let same : (y.0 == x.0) ≡ true = eq-eqb y.0 x.0 (eqb-true y.0 c first' ∙ sym (eqb-true x.0 c first)) in
    let same' : (y.1 == x.1) ≡ true = eq-eqb y.1 x.1 (eqb-true y.1 due second' ∙ sym (eqb-true x.1 due second)) in
    never_true (share xs ys)
    (any_in (λ (x : ℕ × ℕ). list_any (λ (y : ℕ × ℕ). (y.0 == x.0) && (y.1 == x.1)) ys) xs x there
    (any_in (λ (y : ℕ × ℕ). (y.0 == x.0) && (y.1 == x.1)) ys y there' (and_both (y.0 == x.0) (y.1 == x.1) same same'))) none

told_any : (lines : List ℕ) (p : Bool) → (p ≡ false → lines ≡ []) → has_any lines ≡ true → p ≡ true
told_any lines true told h = refl
told_any lines false told h = absurd (never_true (has_any lines) h (ap has_any (told refl)))

told_so : (x p : Bool) → (p ≡ false → x ≡ false) → x ≡ true → p ≡ true
told_so x true told h = refl
told_so x false told h = absurd (never_true x h (told refl))

told_either : (x y p q : Bool) → (x ≡ true → p ≡ true) → (y ≡ true → q ≡ true) → (x || y) ≡ true → (p || q) ≡ true
told_either x y p q more more' h = elim (or_cases x y h) [ inl is ↦ or_left p q (more is) | inr is ↦ or_right p q (more' is) ]

pub apart_by_notes : (a b : NoteView) → ConcernOthers a b → LeaveRegisters a b → WakeNoneOf a b → WakeNoneOf b a → share a.assigns b.assigns ≡ false → TellApart a b → StandApart a b
apart_by_notes a b others leave wake wake' times tell f g told told' =
    record {
      owners = λ same. differ_not a.owner b.owner others.owners (sym told.owner ∙ same ∙ told'.owner);
      processes = λ n. not_both (contains (concerned f) n) (contains (concerned g) n) (λ one other.
          elim (own_told a b f g told told' n one) [
            | inl own ↦
                elim (own_told b a g f told' told n other) [
                  | inl own' ↦ own_differ a.owner b.owner n others.owners own own'
                  | inr woken' ↦ meet_none (process_of_actor a.owner) b.woken n others.woken own woken'
                ]
            | inr woken ↦
                elim (own_told b a g f told' told n other) [
                  | inl own' ↦ meet_none (process_of_actor b.owner) a.woken n others.other_woken own' woken
                  | inr woken' ↦ meet_none a.woken b.woken n others.both_woken woken woken'
                ]
          ]);
      writes = disjoint_by (written_registers f) (written_registers g) a.writes b.writes told.writes told'.writes leave.writes;
      uses = disjoint_back (changed_registers g.changes) f.uses (disjoint_by (changed_registers g.changes) f.uses (changed_registers b.changes) a.uses (changed_told b g told') told.uses leave.other_uses);
      other_uses = disjoint_back (changed_registers f.changes) g.uses (disjoint_by (changed_registers f.changes) g.uses (changed_registers a.changes) b.uses (changed_told a f told) told'.uses leave.uses);
      awaits = matches_told f.awaits a.awaits g.changes b.changes told.awaits told'.changes (matches_none a.awaits b.changes wake'.awaits);
      other_awaits = matches_told g.awaits b.awaits f.changes a.changes told'.awaits told.changes (matches_none b.awaits a.changes wake.awaits);
      ended = matches_told f.ended a.ended g.changes b.changes told.ended told'.changes (matches_none a.ended b.changes wake'.ended);
      other_ended = matches_told g.ended b.ended f.changes a.changes told'.ended told.changes (matches_none b.ended a.changes wake.ended);
      assigns = λ c due. not_both (assigns_for f c due) (assigns_for g c due) (λ one other.
          shares a.assigns b.assigns c due times
          (any_told (λ (x : ℕ × ℕ). (x.0 == c) && (x.1 == due)) f.assigns a.assigns told.assigns one)
          (any_told (λ (x : ℕ × ℕ). (x.0 == c) && (x.1 == due)) g.assigns b.assigns told'.assigns other));
      lines = implied (has_any f.lines) (has_any g.lines) a.prints b.prints (told_any f.lines a.prints told.prints) (told_any g.lines b.prints told'.prints) tell.lines;
      strobes = implied f.strobes g.strobes a.strobes b.strobes (told_so f.strobes a.strobes told.strobes) (told_so g.strobes b.strobes told'.strobes) tell.strobes;
      finishes = implied f.finishes (has_any g.lines || g.finishes) a.finishes (b.prints || b.finishes) (told_so f.finishes a.finishes told.finishes)
          (told_either (has_any g.lines) g.finishes b.prints b.finishes (told_any g.lines b.prints told'.prints) (told_so g.finishes b.finishes told'.finishes)) tell.finishes;
      other_finishes = implied g.finishes (has_any f.lines || f.finishes) b.finishes (a.prints || a.finishes) (told_so g.finishes b.finishes told'.finishes)
          (told_either (has_any f.lines) f.finishes a.prints a.finishes (told_any f.lines a.prints told.prints) (told_so f.finishes a.finishes told.finishes)) tell.other_finishes;
    }

pub said_stands : (a b : NoteView) → SayApart a b → StandApart a b
said_stands a b say = apart_by_notes a b say.concern say.registers say.wake say.other_wake say.times say.tell
