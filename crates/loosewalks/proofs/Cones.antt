-- What tests of registers say, one register after another.
use Rattle.std.proofs.Common.{◌≡◌, ℕ, Bool, true, false, not, ◌||◌, ◌==◌, List, [], ◌∷◌, map, refl, sym, ap, ◌∙◌, eqb-true, true≢false}
use Rattle.std.specs.List.{list_any}
use Rattle.model.specs.Design.{Trigger}
use Rattle.model.specs.Turns.{contains}
use Rattle.footprints.specs.Footprints.{changed_registers}
use Rattle.footprints.proofs.ValueChanges.{neither}
use Rattle.certificates.specs.declared.changes.NotedChange.{NotedChange}
use Rattle.certificates.specs.Masks.{registers_of}
use Rattle.certificates.specs.Changes.{register_change_of}
use Rattle.settling.specs.Waiting.{WaitsForNone}

-- where none is outside, each is among the others

inside : (b : Bool) → not b ≡ false → b ≡ true
inside true h = refl
inside false h = absurd (true≢false h)

here_or_later : (others : List ℕ) (q r : ℕ) (b rest : Bool) → (q == r) ≡ b → (b || rest) ≡ true → contains others q ≡ true → (rest ≡ true → contains others r ≡ true) → contains others r ≡ true
here_or_later others q r true rest same h own later = ap (contains others) (sym (eqb-true q r same)) ∙ own
here_or_later others q r false rest same h own later = later h

pub none_outside : (others registers : List ℕ) → list_any (λ q. not (contains others q)) registers ≡ false → (r : ℕ) → contains registers r ≡ true → contains others r ≡ true
none_outside others [] none r there = absurd (true≢false (sym there))
none_outside others (q ∷ registers) none r there =
    let (own, rest) = neither (not (contains others q)) (list_any (λ q. not (contains others q)) registers) none in
    here_or_later others q r (q == r) (contains registers r) refl there (inside (contains others q) own) (none_outside others registers rest r)

pub no_change_outside : (others : List ℕ) (cs : List NotedChange) → list_any (λ (c : NotedChange). not (contains others c.register)) cs ≡ false → (r : ℕ) → contains (changed_registers (map register_change_of cs)) r ≡ true → contains others r ≡ true
no_change_outside others [] none r there = absurd (true≢false (sym there))
no_change_outside others (c ∷ cs) none r there =
    let (own, rest) = neither (not (contains others c.register)) (list_any (λ (c : NotedChange). not (contains others c.register)) cs) none in
    here_or_later others c.register r (c.register == r) (contains (changed_registers (map register_change_of cs)) r) refl there (inside (contains others c.register) own) (no_change_outside others cs rest r)

-- where none is awaited, nobody waits for one

same_events : (ts : List Trigger) (r : ℕ) → contains (registers_of ts) r ≡ list_any (λ (t : Trigger). t.1 == r) ts
same_events [] r = refl
same_events (t ∷ ts) r = ap (λ b. (t.1 == r) || b) (same_events ts r)

awaits_if : (ts : List Trigger) (q r : ℕ) (b rest : Bool) → (q == r) ≡ b → (b || rest) ≡ true → contains (registers_of ts) q ≡ false → (rest ≡ true → list_any (λ (t : Trigger). t.1 == r) ts ≡ false) → list_any (λ (t : Trigger). t.1 == r) ts ≡ false
awaits_if ts q r true rest same h own later = sym (same_events ts r) ∙ ap (contains (registers_of ts)) (sym (eqb-true q r same)) ∙ own
awaits_if ts q r false rest same h own later = later h

pub none_awaited : (ts : List Trigger) (registers : List ℕ) → list_any (λ q. contains (registers_of ts) q) registers ≡ false → WaitsForNone ts registers
none_awaited ts [] none r there = absurd (true≢false (sym there))
none_awaited ts (q ∷ registers) none r there =
    let (own, rest) = neither (contains (registers_of ts) q) (list_any (λ q. contains (registers_of ts) q) registers) none in
    awaits_if ts q r (q == r) (contains registers r) refl there own (none_awaited ts registers rest r)
