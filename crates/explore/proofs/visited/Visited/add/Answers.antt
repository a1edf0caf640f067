-- A visit more, or one that was there.
use Rattle.std.proofs.Common.{◌≡◌, ◌∷◌, ◌++◌, [], List, ℕ, map, ap, sym, subst, ◌∙◌, Some}
use Rattle.std.specs.Prelude.{slice_get}
use Rattle.sharing.specs.Parts.{chunk_table}
use Rattle.sharing.specs.declared.parts.Shortened.{Shortened}
use Rattle.explore.specs.Visited.{visit, visits}
use Rattle.explore.specs.declared.visited.Visit.{Visit}
use Rattle.explore.proofs.Visits.{AreHeld, AreHeld-extends, AreHeld-push, visits-extends, visits-push, visit_at, row_added, row_stayed, same_visit}
use Rattle.explore.proofs.visited.Visited.add.Goals as goal

-- the visit that is added
abbrev row_of : ℕ → Shortened → Visit
row_of text key = record { text = text; key = key }

-- the rows, and one more
pushed : (c : goal.Then-is_new) → c.insert_full.new.self.keys ≡ c.args.self.now.rows.keys ++ (row_of c.args.text c.in_ok-key.key) ∷ []
pushed c = row_added _ c.in_ok-number.is_new c.args.self.now.rows.keys c.insert_full.new.self.keys (row_of c.args.text c.in_ok-key.key) c.in_ok-number.ensures.keys c.in_ok-number.ensures.added c.if-is_new.true

-- the rows alone
stayed : (c : goal.Else-is_new) → c.insert_full.new.self.keys ≡ c.args.self.now.rows.keys
stayed c = row_stayed _ c.in_ok-number.is_new c.args.self.now.rows.keys c.insert_full.new.self.keys (row_of c.args.text c.in_ok-key.key) c.in_ok-number.ensures.keys c.in_ok-number.ensures.added c.if-is_new.false

pub returns-then-is_new-clause-whole : goal.returns-then-is_new-clause-whole
returns-then-is_new-clause-whole c =
    let row = row_of c.args.text c.in_ok-key.key in
    let rows = c.args.self.now.rows.keys in
    record {
      are_parts = c.in_ok-key.ensures.whole;
      held_keys = AreHeld-push (chunk_table c.shorten.new.self) rows c.insert_full.new.self.keys row (pushed c)
          (AreHeld-extends (chunk_table c.args.self.now.parts) (chunk_table c.shorten.new.self) rows c.in_ok-key.ensures.grows c.requires.whole.held_keys) c.in_ok-key.ensures.held;
    }

pub returns-then-is_new-clause-added : goal.returns-then-is_new-clause-added
returns-then-is_new-clause-added c _ =
    let row = row_of c.args.text c.in_ok-key.key in
    let rows = c.args.self.now.rows.keys in
    visits-push (chunk_table c.shorten.new.self) rows c.insert_full.new.self.keys row c.args.key.now (pushed c) c.in_ok-key.ensures.told
    ∙ ap (λ (vs : List (ℕ × List ℕ)). vs ++ (c.args.text, c.args.key.now) ∷ []) (visits-extends (chunk_table c.args.self.now.parts) (chunk_table c.shorten.new.self) rows c.in_ok-key.ensures.grows c.requires.whole.held_keys)

pub returns-clause-whole : goal.returns-clause-whole
returns-clause-whole c =
    record {
      are_parts = c.in_ok-key.ensures.whole;
      held_keys = subst (AreHeld (chunk_table c.shorten.new.self)) (sym (stayed c))
          (AreHeld-extends (chunk_table c.args.self.now.parts) (chunk_table c.shorten.new.self) c.args.self.now.rows.keys c.in_ok-key.ensures.grows c.requires.whole.held_keys);
    }

pub returns-clause-there : goal.returns-clause-there
returns-clause-there c =
    let row = row_of c.args.text c.in_ok-key.key in
    let new = chunk_table c.shorten.new.self in
    let same : map (visit new) c.insert_full.new.self.keys ≡ visits c.args.self.now =
    ap (λ (l : List Visit). map (visit new) l) (stayed c)
    ∙ visits-extends (chunk_table c.args.self.now.parts) new c.args.self.now.rows.keys c.in_ok-key.ensures.grows c.requires.whole.held_keys in
    let found = c.in_ok-number.ensures.stored in
    let at : slice_get c.insert_full.new.self.keys c.in_ok-number.number ≡ Some row = found.1 ∙ ap (λ (v : Visit). Some v) (sym (same_visit row found.0 found.2)) in
    (same, ap (λ (vs : List (ℕ × List ℕ)). slice_get vs c.in_ok-number.number) (sym same) ∙ visit_at new c.insert_full.new.self.keys c.in_ok-number.number row c.args.key.now at c.in_ok-key.ensures.told)
