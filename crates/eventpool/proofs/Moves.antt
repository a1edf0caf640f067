-- Each step keeps the rule of the deque.
use Rattle.std.proofs.Common.{◌≡◌, ◌≢◌, ◌⊎◌, ℕ, zero, suc, ◌+◌, ◌<◌, List, [], ◌∷◌, ◌++◌, length, set, true, false, true≢false, refl, sym, ap, ◌∙◌, subst, ⊎_elim, inl, inr, arith, append_assoc, cond}
use Rattle.std.specs.Prelude.{◌==◌}
use mathlib.Core.Option.{some, some-ne-none, some-injective}
use lib.ListN.{get_elem?}
use Rattle.crossbeam_deque.specs.Tasks.{Pushes, Takes, Finds, FindsFew, Learns, Forks, Merges}
use Rattle.crossbeam_deque.proofs.Lists.{at_set}
use Rattle.eventpool.specs.declared.rule.Hand.{Hand}
use Rattle.eventpool.specs.DequeTrail.{trail_tickets, got_by, AreHands}
use Rattle.eventpool.specs.DequeRule.{owner, thief, nameless_hand, FitsDeque, DequeInvariant, Removed, AllGone, Bare, Tallies}
use Rattle.eventpool.proofs.Trails.{eqb_self, eqb_off, begins_self, begins_none, begins_on, got_more, got_other, got_none, named_more, named_wider, hands_more, tickets_more}

off : false ≡ true → ⊥
off e = true≢false (sym e)

append_none : {A : Type 0} (xs : List A) → xs ++ [] ≡ xs
append_none [] = refl
append_none (x ∷ xs) = ap (λ l. x ∷ l) (append_none xs)

-- one more name has a seat
seat_more : (ℕ → ℕ) → ℕ → ℕ → ℕ → ℕ
seat_more seat name port k = cond (k == name) port (seat k)

seat_new : (seat : ℕ → ℕ) (name port : ℕ) → seat_more seat name port name ≡ port
unfolding seat_more
seat_new seat name port = ap (λ b. cond b port (seat name)) (eqb_self name)

seat_old : (seat : ℕ → ℕ) (name port k : ℕ) → k ≢ name → seat_more seat name port k ≡ seat k
unfolding seat_more
seat_old seat name port k n = ap (λ b. cond b port (seat k)) (eqb_off k name n)

module _ {T : Type 0} where
  nobody_fits : (seat : ℕ → ℕ) (opened : ℕ) (put : List T) (trail : List (ℕ × T)) (port : ℕ) → FitsDeque seat opened put trail port nameless_hand
  nobody_fits seat opened put trail port = record { seen = begins_none trail; named = λ h. absurd (off h); owns = λ h. absurd (off h) }

  -- one pass changes its view
  each_set : (P : ℕ → Hand T → Type 0) (views : List (Hand T)) (port : ℕ) (w : Hand T) → P port w
      → ((j : ℕ) (u : Hand T) → j ≢ port → get_elem? views j ≡ some u → P j u)
      → (j : ℕ) (u : Hand T) → get_elem? (set views port w) j ≡ some u → P j u
  each_set P views port w mine others j u e =
      ⊎_elim
      (λ (x : (j ≡ port) × (w ≡ u)). subst (λ (y : ℕ × Hand T). P y.0 y.1) (λ i. (sym x.0 i, x.1 i)) mine)
      (λ (x : (j ≢ port) × (get_elem? views j ≡ some u)). others j u x.0 x.1)
      (at_set views port j w u e)

  pub begins : DequeInvariant {T = T} [] (owner 1 [] [] [] [] ∷ [])
  begins = record { seat = λ k. k; opened = 1; trail = []; each = one }
    where
      first : FitsDeque {T = T} (λ k. k) 1 [] [] 0 (owner 1 [] [] [] [])
      first = record { seen = begins_none []; named = λ _. (refl, omega arith, refl); owns = λ _. (refl, refl, refl, refl, tt, tt) }

      one : (port : ℕ) (v : Hand T) → get_elem? (owner 1 [] [] [] [] ∷ []) port ≡ some v → FitsDeque {T = T} (λ k. k) 1 [] [] port v
      one zero v e = subst (FitsDeque {T = T} (λ k. k) 1 [] [] 0) (some-injective _ _ e) first
      one (suc port) v e = absurd (some-ne-none v (sym e))

  -- one owner at most
  one_owner : (seat : ℕ → ℕ) (opened : ℕ) (put : List T) (trail : List (ℕ × T)) (i j : ℕ) (v u : Hand T)
      → FitsDeque seat opened put trail i v → FitsDeque seat opened put trail j u → v.owns ≡ true → u.owns ≡ true → j ≡ i
  one_owner seat opened put trail i j v u f g a b =
      let x = f.owns a in let y = g.owns b in
      sym (g.named y.0).0 ∙ ap seat (y.1 ∙ sym x.1) ∙ (f.named x.0).0

  pub puts : (port : ℕ) (v : Hand T) (xs : List T) → v.owns ≡ true → Pushes DequeInvariant port v xs (λ w. w ≡ record v { put = v.put ++ xs })
  puts port v xs may items views h at =
      let w : Hand T = record v { put = v.put ++ xs } in
      let mine = h.each port v at in
      let o = mine.owns may in
      let more : trail_tickets h.trail ++ (items ++ xs) ≡ (trail_tickets h.trail ++ items) ++ xs = sym (append_assoc (trail_tickets h.trail) items xs) in
      let P : ℕ → Hand T → Type 0 = FitsDeque h.seat h.opened (trail_tickets h.trail ++ (items ++ xs)) h.trail in (
        w,
        record {
          seat = h.seat;
          opened = h.opened;
          trail = h.trail;
          each = each_set P views port w
              (record { seen = mine.seen; named = mine.named; owns = λ _. (o.0, o.1, ap (λ l. l ++ xs) o.2 ∙ sym more, o.3, o.4, o.5) })
              (λ j u other e. let f = h.each j u e in record { seen = f.seen; named = f.named; owns = λ owns. absurd (other (one_owner _ _ _ _ port j v u mine f may owns)) });
        },
        refl,
      )

  -- a ticket leaves at the front
  removes_one : (port : ℕ) (v : Hand T) (x : T) (items : List T) (views : List (Hand T)) → v.named ≡ true → DequeInvariant (x ∷ items) views → get_elem? views port ≡ some v
      → (w : Hand T) × DequeInvariant items (set views port w) × Removed v (x ∷ []) w
  removes_one port v x items views may h at =
      let mine = h.each port v at in
      let n = mine.named may in
      let trail : List (ℕ × T) = h.trail ++ (v.name, x) ∷ [] in
      let w : Hand T = record v { got = v.got ++ x ∷ []; seen = trail } in
      let put : trail_tickets trail ++ items ≡ trail_tickets h.trail ++ x ∷ items = tickets_more h.trail v.name x items in
      let P : ℕ → Hand T → Type 0 = FitsDeque h.seat h.opened (trail_tickets trail ++ items) trail in
      let got : v.got ++ x ∷ [] ≡ got_by v.name trail = ap (λ l. l ++ x ∷ []) n.2 ∙ sym (got_more v.name h.trail x) in (
        w,
        record {
          seat = h.seat;
          opened = h.opened;
          trail = trail;
          each = each_set P views port w
              (record {
                seen = begins_self trail;
                named = λ _. (n.0, n.1, got);
                owns = λ owns. let o = mine.owns owns in
                    (o.0, o.1, o.2 ∙ sym put, o.3, hands_more h.opened v.name v.back h.trail x o.4 n.1, named_more v.given v.name h.trail x o.5 (let a = o.3 in let b = n.1 in omega arith));
              })
              (λ j u other e. let f = h.each j u e in record {
                seen = begins_on u.seen h.trail ((v.name, x) ∷ []) f.seen;
                named = λ is. let g = f.named is in (g.0, g.1, g.2 ∙ sym (got_other u.name v.name h.trail x (λ same. other (sym g.0 ∙ ap h.seat same ∙ n.0))));
                owns = λ owns. let o = f.owns owns in
                    (o.0, o.1, o.2 ∙ sym put, o.3, hands_more h.opened v.name u.back h.trail x o.4 n.1, named_more u.given v.name h.trail x o.5 (let a = o.3 in let b = n.1 in omega arith));
              });
        },
        (
          refl,
          (λ y same. (mine.seen.0, ap (λ l. l ++ (v.name, x) ∷ []) (sym mine.seen.1) ∙ ap (λ z. (v.seen ++ mine.seen.0) ++ (v.name, z) ∷ []) (cc same))),
          got,
          (λ owns. (items, put ∙ sym (mine.owns owns).2)),
        ),
      )

  pub removes : (port : ℕ) (v : Hand T) → v.named ≡ true → Takes DequeInvariant port v 1 (Removed v)
  removes port v may [] items views some_one one_most h at = absurd (omega arith)
  removes port v may (x ∷ []) items views some_one one_most h at = removes_one port v x items views may h at
  removes port v may (x ∷ y ∷ xs) items views some_one one_most h at = absurd (omega arith)

  pub finds : (port : ℕ) (v : Hand T) → v.owns ≡ true → Finds DequeInvariant port v (AllGone v)
  finds port v may views h at =
      let mine = h.each port v at in let o = mine.owns may in
      (h.trail, mine.seen, o.2 ∙ append_none (trail_tickets h.trail), (mine.named o.0).2, o.5)

  pub finds_few : (port : ℕ) (v : Hand T) → v.named ≡ true → FindsFew DequeInvariant 0 port v (Bare v)
  finds_few port v may [] views none h at =
      let mine = h.each port v at in (h.trail, trail_tickets h.trail, mine.seen, refl, (mine.named may).2)
  finds_few port v may (x ∷ xs) views none h at = absurd (omega arith)

  -- the new pass is the last
  at_end : (l : List (Hand T)) (a b : Hand T) (j : ℕ) → get_elem? (l ++ a ∷ []) j ≡ some b → (get_elem? l j ≡ some b) ⊎ ((j ≡ length l) × (a ≡ b))
  at_end [] a b zero e = inr (refl, some-injective a b e)
  at_end [] a b (suc j) e = absurd (some-ne-none b (sym e))
  at_end (x ∷ xs) a b zero e = inl e
  at_end (x ∷ xs) a b (suc j) e = ⊎_elim (λ t. inl t) (λ (t : (j ≡ length xs) × (a ≡ b)). inr (ap suc t.0, t.1)) (at_end xs a b j e)

  pub names : (port : ℕ) (v : Hand T) → v.owns ≡ true → v.back ≡ [] → Forks DequeInvariant port v (record v { given = v.given + 1 }) (thief v.given [] [])
  names port v may none items views h at =
      let mine = h.each port v at in
      let o = mine.owns may in
      let n = mine.named o.0 in
      let none_back : length v.back ≡ 0 = ap length none in
      let all : h.opened ≡ v.given = let e = o.3 in omega arith in
      let left : Hand T = record v { given = v.given + 1 } in
      let right : Hand T = thief v.given [] [] in
      let new : ℕ = length (set views port left) in
      let seat : ℕ → ℕ = seat_more h.seat v.given new in
      let put : List T = trail_tickets h.trail ++ items in
      let P : ℕ → Hand T → Type 0 = FitsDeque seat (v.given + 1) put h.trail in
      let older : (k : ℕ) → k < h.opened → seat k ≡ h.seat k = λ k lt. seat_old h.seat v.given new k (λ same. absurd (omega arith)) in
      let first : P port left = record {
        seen = mine.seen;
        named = λ _. (older v.name n.1 ∙ n.0, let lt = n.1 in omega arith, n.2);
        owns = λ _. (o.0, o.1, o.2, omega arith, subst (λ b. AreHands (v.given + 1) b h.trail) (sym none) tt, named_wider v.given (v.given + 1) h.trail (omega arith) o.5);
      } in
      let others : (j : ℕ) (u : Hand T) → j ≢ port → get_elem? views j ≡ some u → P j u = λ j u other e. let f = h.each j u e in record {
        seen = f.seen;
        named = λ is. let g = f.named is in (older u.name g.1 ∙ g.0, let lt = g.1 in omega arith, g.2);
        owns = λ owns. absurd (other (one_owner _ _ _ _ port j v u mine f may owns));
      } in
      let fresh : P new right = record {
        seen = begins_none h.trail;
        named = λ _. (seat_new h.seat v.given new, omega arith, sym (got_none v.given v.given h.trail o.5 (omega arith)));
        owns = λ owns. absurd (off owns);
      } in
      record {
        seat = seat;
        opened = v.given + 1;
        trail = h.trail;
        each = λ j u e. ⊎_elim
            (λ (was : get_elem? (set views port left) j ≡ some u). each_set P views port left first others j u was)
            (λ (is : (j ≡ new) × (right ≡ u)). subst (λ (y : ℕ × Hand T). P y.0 y.1) (λ i. (sym is.0 i, is.1 i)) fresh)
            (at_end (set views port left) right u j e);
      }

  pub returns : (port : ℕ) (v : Hand T) (other : ℕ) (u : Hand T) → v.owns ≡ true → u.named ≡ true → (u.name + 1) + length v.back ≡ v.given
      → Merges DequeInvariant port v other u (record v { back = (u.got, u.seen) ∷ v.back }) nameless_hand
  returns port v other u may named last items views h at apart there =
      let both : Hand T = record v { back = (u.got, u.seen) ∷ v.back } in
      let mine = h.each port v at in
      let o = mine.owns may in
      let n = mine.named o.0 in
      let was : get_elem? views other ≡ some u = ⊎_elim (λ (t : (other ≡ port) × (both ≡ u)). absurd (apart t.0)) (λ (t : (other ≢ port) × (get_elem? views other ≡ some u)). t.1) (at_set views port other both u there) in
      let theirs = h.each other u was in
      let t = theirs.named named in
      let opened : h.opened ≡ u.name + 1 = let e = o.3 in omega arith in
      let put : List T = trail_tickets h.trail ++ items in
      let P : ℕ → Hand T → Type 0 = FitsDeque h.seat u.name put h.trail in
      let below : (j : ℕ) (x : Hand T) → j ≢ other → FitsDeque h.seat h.opened put h.trail j x → (is : x.named ≡ true) → x.name < u.name
      = λ j x away f is. let g = f.named is in
      let differ : x.name ≢ u.name = (λ same. away (sym g.0 ∙ ap h.seat same ∙ t.0)) in let lt = g.1 in omega arith in
      let back : AreHands (u.name + 1) v.back h.trail = subst (λ k. AreHands k v.back h.trail) opened o.4 in
      let first : P port both = record {
        seen = mine.seen;
        named = λ is. (n.0, below port v (λ same. apart (sym same)) mine is, n.2);
        owns = λ _. (o.0, o.1, o.2, omega arith, (t.2, theirs.seen, back), o.5);
      } in
      let Q : ℕ → Hand T → Type 0 = λ j x. j ≢ other → P j x in
      let now : (j : ℕ) (x : Hand T) → get_elem? (set views port both) j ≡ some x → Q j x
      = each_set Q views port both (λ _. first) (λ j x elsewhere e away. let f = h.each j x e in record {
        seen = f.seen;
        named = λ is. let g = f.named is in (g.0, below j x away f is, g.2);
        owns = λ owns. absurd (elsewhere (one_owner _ _ _ _ port j v x mine f may owns));
      }) in
      record {
        seat = h.seat;
        opened = u.name;
        trail = h.trail;
        each = each_set P (set views port both) other nameless_hand (nobody_fits h.seat u.name put h.trail other) (λ j x away e. now j x e away);
      }

  pub tallies : (port : ℕ) (v : Hand T) → v.owns ≡ true → Learns DequeInvariant port v (Tallies v)
  tallies port v may items views h at =
      let mine = h.each port v at in let o = mine.owns may in
      (h.trail, o.2, (mine.named o.0).2 ∙ ap (λ k. got_by k h.trail) o.1, mine.seen, h.opened, o.3, o.4, o.5)
