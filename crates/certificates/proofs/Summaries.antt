-- A step that keeps off all that a summary holds is apart from each of which it tells.
use Rattle.std.proofs.Common.{◌≡◌, ℕ, Bool, true, false, not, ◌&&◌, ◌||◌, ◌==◌, List, [], ◌∷◌, ◌++◌, inl, inr, refl, sym, ap, subst, ◌∙◌, eqb-true}
use Rattle.std.specs.List.{list_any}
use Rattle.model.specs.Turns.{contains}
use Rattle.loose.specs.declared.transition.LooseTransition.{LooseTransition}
use Rattle.loose.specs.declared.transition.LooseTransition.TheVariants.{Process, FirstOf, Change}
use Rattle.footprints.specs.Footprints.{changed_registers, process_of_actor}
use Rattle.certificates.specs.declared.summary.Summary.{Summary}
use Rattle.certificates.specs.Masks.{registers_of, meet}
use Rattle.certificates.specs.Marks.{is_marked}
use Rattle.certificates.specs.Actors.{has}
use Rattle.certificates.specs.Apart.{differ, share, SayApart}
use Rattle.certificates.specs.Coming.{is_same, begins, ComesOrIsApart}
use Rattle.certificates.specs.Notes.{NoteView}
use Rattle.certificates.specs.Summaries.{is_event, HasMarked, HasMore, IsSummed, AreSummed, KeepsOff}
use Rattle.certificates.proofs.Tests.{or_left, or_right, or_cases, and_parts, is_or_not, false_by, never_true, implied, not_both, same_number, any_at, any_in, one_of}
use Rattle.certificates.proofs.Masks.{wake_none}

-- lists and marks

any_marked : (marks : ℕ → Bool) (ys : List ℕ) (n : ℕ) → contains ys n ≡ true → marks n ≡ true → list_any marks ys ≡ true
any_marked marks ys n among is =
    let (q, there, same) = any_at (λ m. m == n) ys among in
    any_in marks ys q there (subst (λ m. marks m ≡ true) (sym (eqb-true q n same)) is)

-- Numbers that are all marked, and others of which none is.
pub meet_none : (marks : ℕ → Bool) (xs ys : List ℕ) → ((n : ℕ) → contains xs n ≡ true → marks n ≡ true) → list_any marks ys ≡ false → meet xs ys ≡ false
meet_none marks xs ys all none =
    false_by (meet xs ys) (list_any marks ys)
    (λ is. let (n, among, other) = one_of (λ m. contains ys m) xs is in any_marked marks ys n other (all n among))
    none

pub none_meet : (marks : ℕ → Bool) (xs ys : List ℕ) → ((n : ℕ) → contains xs n ≡ true → marks n ≡ true) → list_any marks ys ≡ false → meet ys xs ≡ false
none_meet marks xs ys all none =
    false_by (meet ys xs) (list_any marks ys)
    (λ is. let (n, among, other) = one_of (λ m. contains xs m) ys is in any_marked marks ys n among (all n other))
    none

pub share_none : (marks : ℕ → Bool) (xs ys : List (ℕ × ℕ)) → ((c : ℕ) → list_any (λ a. a.0 == c) xs ≡ true → marks c ≡ true) → list_any (λ b. marks b.0) ys ≡ false → share xs ys ≡ false
share_none marks xs ys all none =
    false_by (share xs ys) (list_any (λ b. marks b.0) ys)
    (λ is.
    let (a, there, one) = any_at (λ a. list_any (λ b. (b.0 == a.0) && (b.1 == a.1)) ys) xs is in
    let (b, there', both) = any_at (λ b. (b.0 == a.0) && (b.1 == a.1)) ys one in
    let (same, due) = and_parts (b.0 == a.0) (b.1 == a.1) both in
    let mark : marks a.0 ≡ true = all a.0 (any_in (λ d. d.0 == a.0) xs a there (same_number a.0)) in
    any_in (λ d. marks d.0) ys b there' (subst (λ c. marks c ≡ true) (sym (eqb-true b.0 a.0 same)) mark))
    none

-- actors

or_neither : (a b : Bool) → (a || b) ≡ false → (a ≡ false) × (b ≡ false)
or_neither true b h = cc
or_neither false b h = (refl, h)

not_same : (p q : ℕ) → (p ≡ q → ⊥) → not (p == q) ≡ true
not_same p q never =
    elim (is_or_not (p == q)) [ inl is ↦ absurd (never (eqb-true p q is)) | inr none ↦ ap not none ]

differ_by : (f : LooseTransition → Bool) (a b : LooseTransition) → is_event a ≡ true → is_event b ≡ true → f a ≡ true → f b ≡ false → differ a b ≡ true
differ_by f (Process p) (Process q) e e' one none = not_same p q (λ same. never_true (f (Process p)) one (subst (λ n. f (Process n) ≡ false) (sym same) none))
differ_by f (FirstOf c) (FirstOf d) e e' one none = not_same c d (λ same. never_true (f (FirstOf c)) one (subst (λ n. f (FirstOf n) ≡ false) (sym same) none))
differ_by f (Process p) (FirstOf d) e e' one none = refl
differ_by f (FirstOf c) (Process q) e e' one none = refl
differ_by f (Change x) b e e' one none = cc
differ_by f (Process p) (Change x) e e' one none = cc
differ_by f (FirstOf c) (Change x) e e' one none = cc

own_marked : (f : LooseTransition → Bool) (a : LooseTransition) (n : ℕ) → f a ≡ true → contains (process_of_actor a) n ≡ true → f (Process n) ≡ true
own_marked f (Process p) n one among =
    elim (or_cases (p == n) false among) [ inl is ↦ subst (λ m. f (Process m) ≡ true) (eqb-true p n is) one | inr none ↦ cc ]
own_marked f (FirstOf c) n one among = cc
own_marked f (Change x) n one among = cc

own_unmarked : (f : LooseTransition → Bool) (a : LooseTransition) → f a ≡ false → list_any (λ p. f (Process p)) (process_of_actor a) ≡ false
own_unmarked f (Process p) none = ap (λ b. b || false) none
own_unmarked f (FirstOf c) none = refl
own_unmarked f (Change x) none = refl

-- a step and one of which the summary tells

module _ (t : Summary) (note last : NoteView) (told : IsSummed t note) (off : KeepsOff t last) (free : last.finishes ≡ false) where
  others : (has t.actors last.owner ≡ false) × (list_any (λ p. has t.actors (Process p)) last.woken ≡ false)
  others = or_neither (has t.actors last.owner) (list_any (λ p. has t.actors (Process p)) last.woken) off.others

  pub say_apart : SayApart note last
  say_apart =
      let process : ℕ → Bool = λ p. has t.actors (Process p) in
      let written : ℕ → Bool = λ r. is_marked t.written.items r in
      let changes : ℕ → Bool = λ r. is_marked t.changed.items r in
      let seen : ℕ → Bool = λ r. is_marked t.seen.items r in
      record {
        concern =
            record {
              owners = differ_by (has t.actors) note.owner last.owner told.event off.event told.owner others.0;
              woken = meet_none process (process_of_actor note.owner) last.woken (λ n h. own_marked (has t.actors) note.owner n told.owner h) others.1;
              other_woken = none_meet process note.woken (process_of_actor last.owner) told.woken (own_unmarked (has t.actors) last.owner others.0);
              both_woken = meet_none process note.woken last.woken told.woken others.1;
            };
        registers =
            record {
              writes = meet_none written note.writes last.writes told.writes off.registers.writes;
              uses = meet_none changes (changed_registers note.changes) last.uses told.changes off.registers.uses;
              other_uses = none_meet seen note.uses (changed_registers last.changes) told.uses off.registers.changes;
            };
        wake =
            record {
              awaits = wake_none note.changes last.awaits (meet_none changes (changed_registers note.changes) (registers_of last.awaits) told.changes off.registers.awaits);
              ended = wake_none note.changes last.ended (meet_none changes (changed_registers note.changes) (registers_of last.ended) told.changes off.registers.ended);
            };
        other_wake =
            record {
              awaits = wake_none last.changes note.awaits (none_meet seen (registers_of note.awaits) (changed_registers last.changes) told.awaits off.registers.changes);
              ended = wake_none last.changes note.ended (none_meet seen (registers_of note.ended) (changed_registers last.changes) told.ended off.registers.changes);
            };
        times = share_none (λ c. is_marked t.assigned.items c) note.assigns last.assigns told.assigns off.assigns;
        tell =
            record {
              lines = implied note.prints last.prints t.prints last.prints told.prints (λ h. h) off.lines;
              strobes = implied note.strobes last.strobes t.strobes last.strobes told.strobes (λ h. h) off.strobes;
              finishes = not_both note.finishes (last.prints || last.finishes) (λ h k. never_true note.finishes h told.goes_on);
              other_finishes = not_both last.finishes (note.prints || note.finishes) (λ h k. never_true last.finishes h free);
            };
      }

pub come_of_none : (t : Summary) (notes : List NoteView) (last : NoteView) → AreSummed t notes → KeepsOff t last → last.finishes ≡ false → ComesOrIsApart notes last
come_of_none t [] last summed off free = tt
come_of_none t (note ∷ notes) last (told, summed) off free = ((λ none. say_apart t note last told off free), come_of_none t notes last summed off free)

-- a note more

summed_still : (old new : Summary) (note : NoteView) → HasMore old new → IsSummed old note → IsSummed new note
summed_still old new note more told =
    record {
      event = told.event;
      owner = more.actors note.owner told.owner;
      woken = λ p h. more.actors (Process p) (told.woken p h);
      writes = λ r h. more.written r (told.writes r h);
      changes = λ r h. more.changed r (told.changes r h);
      uses = λ r h. more.seen r (told.uses r h);
      awaits = λ r h. more.seen r (told.awaits r h);
      ended = λ r h. more.seen r (told.ended r h);
      assigns = λ c h. more.assigned c (told.assigns c h);
      prints = λ h. more.prints (told.prints h);
      strobes = λ h. more.strobes (told.strobes h);
      goes_on = told.goes_on;
    }

pub are_summed_more : (old new : Summary) (notes : List NoteView) (note : NoteView) → HasMore old new → AreSummed old notes → IsSummed new note → AreSummed new (notes ++ note ∷ [])
are_summed_more old new [] note more summed own = (own, tt)
are_summed_more old new (n ∷ notes) note more (told, summed) own = (summed_still old new n more told, are_summed_more old new notes note more summed own)

has_own : (a : LooseTransition) (note : NoteView) → is_event a ≡ true → note.owner ≡ a → begins note a ≡ true
has_own (Process p) note e is = rw is (or_left (p == p) (contains note.woken p) (same_number p))
has_own (FirstOf c) note e is = rw is (or_left (c == c) false (same_number c))
has_own (Change x) note e is = cc

begun : (note : NoteView) (n : ℕ) → contains note.woken n ≡ true → begins note (Process n) ≡ true
begun note n h = or_right (is_same note.owner (Process n)) (contains note.woken n) h

module _ (old marked : Summary) (note : NoteView) (prints strobes holds : Bool) (h : HasMarked (record old { holds = false }) marked note) where
  pub has_more : (old.prints ≡ true → prints ≡ true) → (old.strobes ≡ true → strobes ≡ true) → HasMore old (record marked { prints = prints; strobes = strobes; holds = holds })
  has_more p s =
      record {
        actors = λ a k. h.actors a ∙ or_left (has old.actors a) (begins note a) k;
        written = λ r k. h.written r ∙ or_left (is_marked old.written.items r) (contains note.writes r) k;
        changed = λ r k. h.changed r ∙ or_left (is_marked old.changed.items r) (contains (changed_registers note.changes) r) k;
        seen =
            λ r k. h.seen r
            ∙ or_left ((is_marked old.seen.items r || contains note.uses r) || contains (registers_of note.awaits) r) (contains (registers_of note.ended) r)
            (or_left (is_marked old.seen.items r || contains note.uses r) (contains (registers_of note.awaits) r) (or_left (is_marked old.seen.items r) (contains note.uses r) k));
        assigned = λ c k. h.assigned c ∙ or_left (is_marked old.assigned.items c) (list_any (λ a. a.0 == c) note.assigns) k;
        prints = p;
        strobes = s;
      }

  pub is_summed : is_event note.owner ≡ true → note.finishes ≡ false → (note.prints ≡ true → prints ≡ true) → (note.strobes ≡ true → strobes ≡ true)
      → IsSummed (record marked { prints = prints; strobes = strobes; holds = holds }) note
  is_summed event free p s =
      record {
        event = event;
        owner = h.actors note.owner ∙ or_right (has old.actors note.owner) (begins note note.owner) (has_own note.owner note event refl);
        woken = λ n k. h.actors (Process n) ∙ or_right (has old.actors (Process n)) (begins note (Process n)) (begun note n k);
        writes = λ r k. h.written r ∙ or_right (is_marked old.written.items r) (contains note.writes r) k;
        changes = λ r k. h.changed r ∙ or_right (is_marked old.changed.items r) (contains (changed_registers note.changes) r) k;
        uses =
            λ r k. h.seen r
            ∙ or_left ((is_marked old.seen.items r || contains note.uses r) || contains (registers_of note.awaits) r) (contains (registers_of note.ended) r)
            (or_left (is_marked old.seen.items r || contains note.uses r) (contains (registers_of note.awaits) r) (or_right (is_marked old.seen.items r) (contains note.uses r) k));
        awaits =
            λ r k. h.seen r
            ∙ or_left ((is_marked old.seen.items r || contains note.uses r) || contains (registers_of note.awaits) r) (contains (registers_of note.ended) r)
            (or_right (is_marked old.seen.items r || contains note.uses r) (contains (registers_of note.awaits) r) k);
        ended =
            λ r k. h.seen r
            ∙ or_right ((is_marked old.seen.items r || contains note.uses r) || contains (registers_of note.awaits) r) (contains (registers_of note.ended) r) k;
        assigns = λ c k. h.assigned c ∙ or_right (is_marked old.assigned.items c) (list_any (λ a. a.0 == c) note.assigns) k;
        prints = p;
        strobes = s;
        goes_on = free;
      }
