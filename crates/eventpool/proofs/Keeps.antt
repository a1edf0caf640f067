-- What the ends keep.
use Rattle.std.proofs.Common.{◌≡◌, ℕ, ◌+◌, ◌≤◌, List, [], ◌∷◌, ◌++◌, length, true, sym, ap, ◌∙◌, subst, arith, min, length-append}
use Rattle.crossbeam_deque.specs.Tasks.{FindsFew}
use Rattle.eventpool.specs.declared.rule.Hand.{Hand}
use Rattle.eventpool.specs.Ends.{Owning}
use Rattle.eventpool.specs.DequeTrail.{trail_tickets, NamedBelow, AreHands, IsDealt}
use Rattle.eventpool.specs.DequeRule.{owner, thief, DequeInvariant, Removed, Bare, Tallies}
use Rattle.eventpool.proofs.Trails.{got_no_more, tickets_length, begins_length}
use Rattle.eventpool.proofs.Moves.{finds_few}

module _ {T : Type 0} where
  -- a steal from a FIFO deque finds nothing only where nothing is there
  pub finds_fifo : (flavor port : ℕ) (v : Hand T) → flavor ≡ 0 → v.named ≡ true → FindsFew DequeInvariant (min flavor 1) port v (Bare v)
  finds_fifo flavor port v fifo may = subst (λ (f : ℕ). FindsFew DequeInvariant (min f 1) port v (Bare v)) (sym fifo) (finds_few port v may)

  -- an owner that removed a ticket is an owner
  pub owner_removed : (v w : Hand T) (xs : List T) → v ≡ owner v.given v.put v.got v.seen v.back → w ≡ record v { got = v.got ++ xs; seen = w.seen } → w ≡ owner w.given w.put w.got w.seen w.back
  owner_removed v w xs is next =
      next
      ∙ ap (λ (u : Hand T). record u { got = v.got ++ xs; seen = w.seen }) is
      ∙ (λ i. owner (ap (λ (u : Hand T). u.given) (sym next) i) (ap (λ (u : Hand T). u.put) (sym next) i) (ap (λ (u : Hand T). u.got) (sym next) i) w.seen (ap (λ (u : Hand T). u.back) (sym next) i))

  pub thief_removed : (v w : Hand T) (xs : List T) → v ≡ thief v.name v.got v.seen → w ≡ record v { got = v.got ++ xs; seen = w.seen } → w ≡ thief w.name w.got w.seen
  thief_removed v w xs is next =
      next
      ∙ ap (λ (u : Hand T). record u { got = v.got ++ xs; seen = w.seen }) is
      ∙ (λ i. thief (ap (λ (u : Hand T). u.name) (sym next) i) (ap (λ (u : Hand T). u.got) (sym next) i) w.seen)

  -- an owner has taken no more than it put
  pub fewer_taken : (v w : Hand T) (xs : List T) → v.owns ≡ true → Removed v xs w → length w.got ≤ length w.put
  fewer_taken v w xs owns r =
      let a : length w.got ≤ length w.seen = omega (arith, ap length r.2, got_no_more v.name w.seen) in
      let b : length (trail_tickets w.seen) ≤ length v.put = begins_length _ _ (r.3 owns) in
      let c : length w.put ≡ length v.put = ap (λ (u : Hand T). length u.put) r.0 in
      omega (arith, tickets_length w.seen)

  pub dealt_of : (v : Hand T) (items : List T) → Tallies v items → length v.back + 1 ≡ v.given → IsDealt v.put ((v.got, v.seen) ∷ v.back) items
  dealt_of v items a all =
      let one : a.4 ≡ 1 = let e = a.5 in omega arith in
      let long : v.given ≡ length ((v.got, v.seen) ∷ v.back) = omega arith in
      (a.0, a.1, (a.2, a.3, subst (λ k. AreHands k v.back a.0) one a.6), subst (λ n. NamedBelow n a.0) long a.7)

  pub removed_counts : (v w : Hand T) (x : T) → w ≡ record v { got = v.got ++ x ∷ []; seen = w.seen } → (length w.put ≡ length v.put) × (length w.got ≡ length v.got + 1)
  removed_counts v w x next = (ap (λ (u : Hand T). length u.put) next, ap (λ (u : Hand T). length u.got) next ∙ length-append v.got (x ∷ []))

  pub dealt_at : (o p : Owning T) (n : ℕ) → o ≡ p → ((left : List T) × (length left ≡ n) × IsDealt o.put ((o.taken, o.seen) ∷ o.back) left)
      → (left : List T) × (length left ≡ n) × IsDealt p.put ((p.taken, p.seen) ∷ p.back) left
  dealt_at o p n is d = subst (λ (x : Owning T). (left : List T) × (length left ≡ n) × IsDealt x.put ((x.taken, x.seen) ∷ x.back) left) is d
