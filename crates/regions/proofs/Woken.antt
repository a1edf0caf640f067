-- What a process that is looked at leaves among the waiters.
use Rattle.std.proofs.Common.{◌≡◌, ℕ, ◌<◌, ◌==◌, ◌&&◌, ◌||◌, Bool, true, false, List, length, get_or, set, refl, sym, ◌∙◌, ap}
use Rattle.std.proofs.lemmas.Bool.{eqb-true, eqb-false}
use Rattle.std.proofs.lemmas.List.{get_or_default, get_or-set_same, get_or-set_other}
use Rattle.std.proofs.Math.Bool.{and-true, or-false}
use Rattle.logic4.specs.declared.digit.Edge.{Edge}
use Rattle.model.specs.Design.{Trigger}
use Rattle.design.specs.ControlWaking.{wakes_by}
use Rattle.regions.specs.declared.queue.Continuation.{Continuation}
use Rattle.regions.specs.declared.waiters.Waiters.{Waiters}
use Rattle.regions.specs.Waiters.{has_slot, side, is_same_side}
use Rattle.regions.specs.ProcessWaking.{triggers_at, is_woken_by}

-- what a test of a process says of the process at its place
pub tested : (controls cs : List (List Trigger)) (r : ℕ) (e e' : Edge) (ps : List Continuation) (p : ℕ) (x d : Continuation) (b c : Bool) → p < length ps → x ≡ get_or ps p x
    → cs ≡ controls → e' ≡ e → b ≡ wakes_by (triggers_at cs x.waits) r e' → b ≡ c → is_woken_by controls r e (get_or ps p d) ≡ c
tested controls cs r e e' ps p x d b c lt is same kind answer known =
    ap (is_woken_by controls r e) (get_or_default ps p d x lt ∙ sym is) ∙ (λ k. wakes_by (triggers_at (sym same k) x.waits) r (sym kind k)) ∙ sym answer ∙ known

-- nothing more is there, where a test fails
pub no_more : (b x y : Bool) → y ≡ false → b ≡ (b || (x && y))
no_more true x y fails = refl
no_more false true y fails = sym fails
no_more false false y fails = refl

-- a slot was put among the waiters of one register
pub slot_put : (b : Bool) (ws : List Waiters) (r s t slot slot' : ℕ) (e f : Edge) (x y w : Waiters) (woken : Bool) → (s == r) ≡ b → r < length ws → y ≡ get_or ws r y
    → has_slot (side f x) t ≡ (has_slot (side f y) t || (is_same_side e f && t == slot)) → slot ≡ slot' → woken ≡ true
    → has_slot (side f (get_or (set ws r x) s w)) t ≡ (has_slot (side f (get_or ws s w)) t || (s == r && is_same_side e f && t == slot' && woken))
slot_put true ws r s t slot slot' e f x y w woken is lt here put slots holds =
    let same : s ≡ r = eqb-true s r is in
    let there : y ≡ get_or ws s w = here ∙ get_or_default ws r y w lt ∙ ap (λ n. get_or ws n w) (sym same) in
    let parts : (is_same_side e f && t == slot) ≡ (s == r && is_same_side e f && t == slot' && woken) =
    ap (λ n. is_same_side e f && t == n) slots ∙ sym (and-true (is_same_side e f && t == slot')) ∙ (λ k. sym is k && is_same_side e f && t == slot' && sym holds k) in
    ap (λ n. has_slot (side f (get_or (set ws r x) n w)) t) same ∙ ap (λ v. has_slot (side f v) t) (get_or-set_same ws r x w lt) ∙ put ∙ (λ k. has_slot (side f (there k)) t || parts k)
slot_put false ws r s t slot slot' e f x y w woken is lt here put slots holds =
    ap (λ v. has_slot (side f v) t) (get_or-set_other ws r s x w (eqb-false s r is))
    ∙ sym (or-false (has_slot (side f (get_or ws s w)) t))
    ∙ (λ k. has_slot (side f (get_or ws s w)) t || (sym is k && is_same_side e f && t == slot' && woken))
