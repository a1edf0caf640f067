-- The registers of the turn changes of writes are those of the writes.
use Rattle.std.proofs.Common.{◌≡◌, ℕ, zero, suc, ◌==◌, Bool, true, false, List, [], ◌∷◌, Some, refl, sym, ap, ◌∙◌, subst, if◌then◌else◌}
use Rattle.std.specs.Prelude.{slice_get}
use Rattle.std.proofs.lemmas.Bool.{eqb-true}
use Rattle.logic4.specs.Vector.{Vector}
use Rattle.turn.specs.declared.log.TurnChange.{TurnChange}
use Rattle.turn.specs.TurnChanges.{first_turn_change, change_with_write, noted, turn_changes_after, turn_changes_of}

some_same : {A : Type 0} (x y : A) → Some x ≡ Some y → x ≡ y
some_same x y e = cc

-- something holds of the register of each turn change
abbrev OfTurnChanges : (ℕ → Type 0) → List TurnChange → Type 0
OfTurnChanges P turn_changes = (k : ℕ) (n : TurnChange) → slice_get turn_changes k ≡ Some n → P n.register

-- something holds of the register of each write
abbrev OfWrites : (ℕ → Type 0) → List (ℕ × Vector) → Type 0
OfWrites P writes = (k : ℕ) (d : ℕ × Vector) → slice_get writes k ≡ Some d → P d.0

noted_here : (b : Bool) (n : TurnChange) (ns : List TurnChange) (w : ℕ × Vector) → (n.register == w.0) ≡ b → noted (n ∷ ns) w ≡ (if b then change_with_write n w.1 ∷ ns else n ∷ noted ns w)
noted_here b n ns w e = ap (λ t. if t then change_with_write n w.1 ∷ ns else n ∷ noted ns w) e

-- one more at the front
turn_change_first : (P : ℕ → Type 0) (n : TurnChange) (ns : List TurnChange) → P n.register → OfTurnChanges P ns → OfTurnChanges P (n ∷ ns)
turn_change_first P n ns p h zero m e = subst (λ x. P x.register) (some_same _ _ e) p
turn_change_first P n ns p h (suc k) m e = h k m e

write_first : (P : ℕ → Type 0) (w : ℕ × Vector) (ws : List (ℕ × Vector)) → P w.0 → OfWrites P ws → OfWrites P (w ∷ ws)
write_first P w ws p h zero d e = subst (λ x. P x.0) (some_same _ _ e) p
write_first P w ws p h (suc k) d e = h k d e

-- ---- from the writes to their turn changes

noted_one : (b : Bool) (P : ℕ → Type 0) (n : TurnChange) (ns : List TurnChange) (w : ℕ × Vector) → (n.register == w.0) ≡ b → OfTurnChanges P (n ∷ ns) → OfTurnChanges P (noted ns w) → OfTurnChanges P (noted (n ∷ ns) w)
noted_one true P n ns w is h rest =
    subst (OfTurnChanges P) (sym (noted_here true n ns w is)) (turn_change_first P (change_with_write n w.1) ns (h 0 n refl) (λ k m e. h (suc k) m e))
noted_one false P n ns w is h rest =
    subst (OfTurnChanges P) (sym (noted_here false n ns w is)) (turn_change_first P n (noted ns w) (h 0 n refl) rest)

noted_in : (P : ℕ → Type 0) (turn_changes : List TurnChange) (w : ℕ × Vector) → OfTurnChanges P turn_changes → P w.0 → OfTurnChanges P (noted turn_changes w)
noted_in P [] w h p = turn_change_first P (first_turn_change w) [] p h
noted_in P (n ∷ ns) w h p = noted_one (n.register == w.0) P n ns w refl h (noted_in P ns w (λ k m e. h (suc k) m e) p)

after_in : (P : ℕ → Type 0) (turn_changes : List TurnChange) (ws : List (ℕ × Vector)) → OfTurnChanges P turn_changes → OfWrites P ws → OfTurnChanges P (turn_changes_after turn_changes ws)
after_in P turn_changes [] h g = h
after_in P turn_changes (w ∷ ws) h g = after_in P (noted turn_changes w) ws (noted_in P turn_changes w h (g 0 w refl)) (λ k d e. g (suc k) d e)

-- what holds of the register of each write holds of that of each turn change
pub turn_changes_in : (P : ℕ → Type 0) (turn_changes : List TurnChange) (ws : List (ℕ × Vector)) → turn_changes ≡ turn_changes_of ws
    → ((k : ℕ) (d : ℕ × Vector) → slice_get ws k ≡ Some d → P d.0) → (k : ℕ) (n : TurnChange) → slice_get turn_changes k ≡ Some n → P n.register
turn_changes_in P turn_changes ws is h = subst (OfTurnChanges P) (sym is) (after_in P [] ws (λ k n e. cc) h)

-- ---- from the turn changes to the writes

noted_back_one : (b : Bool) (P : ℕ → Type 0) (n : TurnChange) (ns : List TurnChange) (w : ℕ × Vector) → (n.register == w.0) ≡ b
    → (OfTurnChanges P (noted ns w) → OfTurnChanges P ns × P w.0) → OfTurnChanges P (noted (n ∷ ns) w) → OfTurnChanges P (n ∷ ns) × P w.0
noted_back_one true P n ns w is rest h =
    let g : OfTurnChanges P (change_with_write n w.1 ∷ ns) = subst (OfTurnChanges P) (noted_here true n ns w is) h in
    let here : P n.register = g 0 (change_with_write n w.1) refl in
    (turn_change_first P n ns here (λ k m e. g (suc k) m e), subst P (eqb-true n.register w.0 is) here)
noted_back_one false P n ns w is rest h =
    let g : OfTurnChanges P (n ∷ noted ns w) = subst (OfTurnChanges P) (noted_here false n ns w is) h in
    let r = rest (λ k m e. g (suc k) m e) in
    (turn_change_first P n ns (g 0 n refl) r.0, r.1)

noted_back : (P : ℕ → Type 0) (turn_changes : List TurnChange) (w : ℕ × Vector) → OfTurnChanges P (noted turn_changes w) → OfTurnChanges P turn_changes × P w.0
noted_back P [] w h = ((λ k m e. cc), h 0 (first_turn_change w) refl)
noted_back P (n ∷ ns) w h = noted_back_one (n.register == w.0) P n ns w refl (noted_back P ns w) h

after_back : (P : ℕ → Type 0) (turn_changes : List TurnChange) (ws : List (ℕ × Vector)) → OfTurnChanges P (turn_changes_after turn_changes ws) → OfTurnChanges P turn_changes × OfWrites P ws
after_back P turn_changes [] h = (h, λ k d e. cc)
after_back P turn_changes (w ∷ ws) h =
    let r = after_back P (noted turn_changes w) ws h in
    let s = noted_back P turn_changes w r.0 in
    (s.0, write_first P w ws s.1 r.1)

-- what holds of the register of each turn change holds of that of each write
pub writes_in : (P : ℕ → Type 0) (turn_changes : List TurnChange) (ws : List (ℕ × Vector)) → turn_changes ≡ turn_changes_of ws
    → ((k : ℕ) (n : TurnChange) → slice_get turn_changes k ≡ Some n → P n.register) → (k : ℕ) (d : ℕ × Vector) → slice_get ws k ≡ Some d → P d.0
writes_in P turn_changes ws is h = (after_back P [] ws (subst (OfTurnChanges P) is h)).1
