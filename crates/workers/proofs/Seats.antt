-- What a seat's calls keep.
use Rattle.std.proofs.Common.{◌≡◌, ℕ, zero, suc, ◌+◌, ◌<◌, ◌≤◌, Bool, true, false, List, [], ◌∷◌, ◌++◌, length, Option, Some, refl, sym, ap, ◌∙◌, subst, arith, append_assoc, append-nil, length-append, inl, inr, ⊎_elim}
use Rattle.std.specs.Prelude.{slice_get, IsSome}
use Rattle.std.specs.List.{AllByRecursion}
use mathlib.Core.List.{IsPrefix}
use Rattle.model.specs.declared.entry.Entry.{Entry}
use Rattle.model.specs.declared.end.Why.{Why}
use Rattle.commitgate.specs.Named.{Named}
use Rattle.runstate.specs.Ledger.{Ledger, entries_of, entry_in, items_of}
use Rattle.commitgate.specs.Seats.{SeatView, SeatReadsOn}
use Rattle.commitgate.specs.Tickets.{TicketView}
use Rattle.commitgate.specs.SeatAnswers.{IsAppended, IsRefused, IsSeenStopped, IsQuietTo, StoppedTo}
use Rattle.workers.specs.Counting.{turn_count, turn_count_at, turns_at}
use Rattle.workers.specs.WorkerInvariant.{seat_turn_count, Goes, IsOver}

-- beginnings
module _ {A : Type 0} where
  pub begins_more : (xs ys zs : List A) → IsPrefix xs ys → IsPrefix ys zs → IsPrefix xs zs
  begins_more xs ys zs p q = (p.0 ++ q.0, sym (append_assoc xs p.0 q.0) ∙ ap (λ l. l ++ q.0) p.1 ∙ q.1)

  pub get_before : (xs ys : List A) (i : ℕ) → i < length xs → slice_get (xs ++ ys) i ≡ slice_get xs i
  get_before [] ys i lt = absurd (omega arith)
  get_before (x ∷ xs) ys zero lt = refl
  get_before (x ∷ xs) ys (suc i) lt = get_before xs ys i (omega arith)

  pub get_last : (xs : List A) (x : A) → slice_get (xs ++ x ∷ []) (length xs) ≡ Some x
  get_last [] x = refl
  get_last (y ∷ ys) x = get_last ys x

pub entries_append : (xs ys : Ledger) → entries_of (xs ++ ys) ≡ entries_of xs ++ entries_of ys
entries_append [] ys = refl
entries_append (x ∷ xs) ys = ap (λ l. entry_in x.1 ++ l) (entries_append xs ys) ∙ sym (append_assoc (entry_in x.1) (entries_of xs) (entries_of ys))

pub entries_begin : (xs ys : Ledger) → IsPrefix xs ys → IsPrefix (entries_of xs) (entries_of ys)
entries_begin xs ys p = (entries_of p.0, sym (entries_append xs p.0) ∙ ap entries_of p.1)

pub items_entry : (k : ℕ) (entry : Entry) (finished : Bool) → entries_of (items_of k entry finished) ≡ entry ∷ []
items_entry k entry true = refl
items_entry k entry false = refl

-- positions in a beginning
pub below_longer : (n m : ℕ) (ps : List ℕ) → n ≤ m → AllByRecursion (λ p. p < n) ps → AllByRecursion (λ p. p < m) ps
below_longer n m [] le h = tt
below_longer n m (p ∷ ps) le h = (let lt = h.0 in omega arith, below_longer n m ps le h.1)

pub below_snoc : (n p : ℕ) (ps : List ℕ) → p < n → AllByRecursion (λ q. q < n) ps → AllByRecursion (λ q. q < n) (ps ++ p ∷ [])
below_snoc n p [] lt h = (lt, tt)
below_snoc n p (q ∷ qs) lt h = (h.0, below_snoc n p qs lt h.1)

pub begins_length : (xs ys : List Entry) → IsPrefix xs ys → length xs ≤ length ys
begins_length xs ys p = omega (arith, sym (ap length p.1) ∙ length-append xs p.0)

turns_before : (J K : List Entry) (ps : List ℕ) → AllByRecursion (λ p. p < length J) ps → turns_at (J ++ K) ps ≡ turns_at J ps
turns_before J K [] h = refl
turns_before J K (p ∷ ps) h = (λ i. turn_count_at (get_before J K p h.0 i) + turns_before J K ps h.1 i)

pub turns_begin : (J L : List Entry) (ps : List ℕ) → IsPrefix J L → AllByRecursion (λ p. p < length J) ps → turns_at L ps ≡ turns_at J ps
turns_begin J L ps p h = ap (λ l. turns_at l ps) (sym p.1) ∙ turns_before J p.0 ps h

turns_snoc : (J : List Entry) (ps : List ℕ) (p : ℕ) → turns_at J (ps ++ p ∷ []) ≡ turns_at J ps + turn_count_at (slice_get J p)
turns_snoc J [] p = let one : turns_at J (p ∷ []) ≡ turn_count_at (slice_get J p) + 0 = refl in omega (arith, one)
turns_snoc J (q ∷ qs) p = let rest = turns_snoc J qs p in omega (arith, rest)

-- a seat that looks on
pub goes_kept : (old new : SeatView) → new.worker ≡ old.worker → IsPrefix old.seen new.seen → new.positions ≡ old.positions → Goes 0 0 old new
goes_kept old new worker later positions =
    let p = entries_begin old.seen new.seen later in record {
      worker = worker;
      seen = later;
      positions = ([], append-nil old.positions ∙ sym positions);
      few = (let l = ap length positions in omega (arith, l));
      has_positions = λ h. subst (λ ps. AllByRecursion (λ q. q < length (entries_of new.seen)) ps) (sym positions)
          (below_longer (length (entries_of old.seen)) (length (entries_of new.seen)) old.positions (begins_length (entries_of old.seen) (entries_of new.seen) p) h);
      counted = λ h. ap (turns_at (entries_of new.seen)) positions ∙ turns_begin (entries_of old.seen) (entries_of new.seen) old.positions p h ∙ (let t = seat_turn_count old in omega arith);
    }

pub goes_self : (s : SeatView) → Goes 0 0 s s
goes_self s = goes_kept s s refl ([], append-nil s.seen) refl

pub goes_more : (a b e d : ℕ) (x y z : SeatView) → Goes a e x y → Goes b d y z → Goes (a + b) (e + d) x z
goes_more a b e d x y z f g = record {
  worker = g.worker ∙ f.worker;
  seen = begins_more x.seen y.seen z.seen f.seen g.seen;
  positions = begins_more x.positions y.positions z.positions f.positions g.positions;
  few = (let p = f.few in let q = g.few in omega (arith, p, q));
  has_positions = λ h. g.has_positions (f.has_positions h);
  counted = λ h. let p = f.counted h in let q = g.counted (f.has_positions h) in omega (arith, p, q);
}

pub goes_then : (a e : ℕ) (x y z : SeatView) → Goes a e x y → Goes 0 0 y z → Goes a e x z
goes_then a e x y z f g = record {
  worker = g.worker ∙ f.worker;
  seen = begins_more x.seen y.seen z.seen f.seen g.seen;
  positions = begins_more x.positions y.positions z.positions f.positions g.positions;
  few = (let p = f.few in let q = g.few in omega (arith, p, q));
  has_positions = λ h. g.has_positions (f.has_positions h);
  counted = λ h. let p = f.counted h in let q = g.counted (f.has_positions h) in omega (arith, p, q);
}

-- a seat that appended an entry
pub goes_appended : (n : Named) (old : SeatView) (entry : Entry) (position : ℕ) (named : Entry) (tickets : List TicketView) (new : SeatView)
    → IsAppended n old entry position named tickets new → Goes (turn_count entry) 1 old new
goes_appended n old entry position named tickets new a =
    let J : List Entry = entries_of a.before in
    let whole : entries_of new.seen ≡ J ++ entry ∷ [] =
    ap entries_of a.ends ∙ entries_append a.before (items_of old.worker entry a.to.finished) ∙ ap (λ l. J ++ l) (items_entry old.worker entry a.to.finished) in
    let later : IsPrefix (entries_of old.seen) J = entries_begin old.seen a.before a.extends in
    let long : length (entries_of new.seen) ≡ length J + 1 = ap length whole ∙ length-append J (entry ∷ []) in
    let short : length (entries_of old.seen) ≤ length J = begins_length (entries_of old.seen) J later in
    let last : slice_get (entries_of new.seen) position ≡ Some entry = (λ i. slice_get (whole i) (a.position_is i)) ∙ get_last J entry in
    let all : IsPrefix (entries_of old.seen) (entries_of new.seen) = begins_more (entries_of old.seen) J (entries_of new.seen) later (entry ∷ [], sym whole) in record {
      worker = a.follows.worker;
      seen = a.follows.later;
      positions = (position ∷ [], sym a.positions);
      few = (let l : length new.positions ≡ length old.positions + 1 = ap length a.positions ∙ length-append old.positions (position ∷ []) in omega (arith, l));
      has_positions = λ h. subst (λ ps. AllByRecursion (λ q. q < length (entries_of new.seen)) ps) (sym a.positions)
          (below_snoc (length (entries_of new.seen)) position old.positions (omega (arith, long, a.position_is))
          (below_longer (length (entries_of old.seen)) (length (entries_of new.seen)) old.positions (omega (arith, long, short)) h));
      counted = λ h. ap (turns_at (entries_of new.seen)) a.positions ∙ turns_snoc (entries_of new.seen) old.positions position
          ∙ (λ i. turns_begin (entries_of old.seen) (entries_of new.seen) old.positions all h i + turn_count_at (last i));
    }

pub goes_refused : (n : Named) (old new : SeatView) → IsRefused n old new → Goes 0 0 old new
goes_refused n old new r = goes_kept old new r.looks_on.follows.worker r.looks_on.follows.later r.looks_on.positions

pub goes_stopped : (n : Named) (causes : Why → Type 0) (old : SeatView) (why : Why) (new : SeatView) → IsSeenStopped n causes old why new → Goes 0 0 old new
goes_stopped n causes old why new s = goes_kept old new s.follows.worker s.follows.later s.positions

pub over_stopped : (n : Named) (causes : Why → Type 0) (old : SeatView) (why : Why) (new : SeatView) → IsSeenStopped n causes old why new → IsOver n new
over_stopped n causes old why new s = (s.stays, inl (subst (λ (o : Option Why). IsSome o) (sym s.end) refl))

pub over_quiet : (n : Named) (old new : SeatView) → IsQuietTo n old new → IsOver n new
over_quiet n old new q = (q.stays, inr q.quiet)

pub told : (n : Named) (old new : SeatView) → StoppedTo n old new → Goes 0 0 old new × IsOver n new
told n old new s =
    ⊎_elim
    (λ (q : IsQuietTo n old new). (goes_refused n old new q.refused, over_quiet n old new q))
    (λ (t : (why : Why) × IsSeenStopped n _ old why new). (goes_stopped n _ old t.0 new t.1, over_stopped n _ old t.0 new t.1))
    s

-- it may append more
pub goes_few : (a e d : ℕ) (x y : SeatView) → e ≤ d → Goes a e x y → Goes a d x y
goes_few a e d x y le f = record {
  worker = f.worker;
  seen = f.seen;
  positions = f.positions;
  few = (let p = f.few in omega (arith, p, le));
  has_positions = f.has_positions;
  counted = f.counted;
}

pub goes_first : (b d : ℕ) (x y z : SeatView) → Goes 0 0 x y → Goes b d y z → Goes b d x z
goes_first b d x y z f g = record {
  worker = g.worker ∙ f.worker;
  seen = begins_more x.seen y.seen z.seen f.seen g.seen;
  positions = begins_more x.positions y.positions z.positions f.positions g.positions;
  few = (let p = f.few in let q = g.few in omega (arith, p, q));
  has_positions = λ h. g.has_positions (f.has_positions h);
  counted = λ h. let p = f.counted h in let q = g.counted (f.has_positions h) in omega (arith, p, q);
}

pub goes_read : (old new : SeatView) → SeatReadsOn old new → Goes 0 0 old new
goes_read old new r = record {
  worker = r.worker;
  seen = ([], append-nil old.seen ∙ sym r.seen);
  positions = ([], append-nil old.positions ∙ sym r.positions);
  few = (let l = ap length r.positions in omega (arith, l));
  has_positions = λ h. subst (λ (p : Ledger × List ℕ). AllByRecursion (λ q. q < length (entries_of p.0)) p.1) (λ i. (sym r.seen i, sym r.positions i)) h;
  counted = λ h. (λ i. turns_at (entries_of (r.seen i)) (r.positions i)) ∙ (let t = seat_turn_count old in omega arith);
}
