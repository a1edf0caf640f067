-- The lines of $strobe statements: at each place the line of the statement there is printed, on every store that agrees
-- with what was read.
use Rattle.std.proofs.Common.{◌≡◌, ℕ, zero, suc, ◌+◌, ◌<◌, ◌≤◌, List, [], ◌∷◌, ◌++◌, length, take, get_or, Option, Some, None, refl, sym, ap, ◌∙◌, arith, ⊎_elim, subst}
use Rattle.std.specs.Prelude.{slice_get, flat_map}
use Rattle.std.specs.List.{All}
use Rattle.std.proofs.lemmas.Bool.{cases_lt}
use Rattle.std.proofs.lemmas.List.{append-nil, length-map, length-replicate, take_more, flat_map_more}
use Rattle.model.specs.declared.tree.Task.TheVariants as Task
use Rattle.model.specs.Syntax.{Expressions, all_registers_of}
use Rattle.model.specs.Design as tree
use Rattle.model.specs.Design.{Statement, statement_at}
use Rattle.model.specs.Syntax.{Piece}
use Rattle.model.specs.Expressions.{Store}
use Rattle.model.specs.Turns.{At, Remainder, with_uses, line_text, own_values}
use Rattle.model.specs.Runs.{strobe_line, strobe_lines_at}
use Rattle.design.specs.declared.code.Node.{Node}
use Rattle.design.specs.declared.code.Op.{Op}
use Rattle.design.specs.declared.code.LinePiece.{LinePiece}
use Rattle.design.specs.declared.code.Node.TheVariants as node
use Rattle.design.specs.declared.code.ProcState.{ProcState}
use Rattle.design.specs.ExpressionSteps.{span_of, IsOpOf}
use Rattle.design.specs.CodePlaces.{remainder_at, statement_count, IsPlaceOf}
use Rattle.design.specs.DesignTrees.{process_of}
use Rattle.design.specs.Compiled.{Compiled, design_of}
use Rattle.design.specs.Meaning.{IsFine, IsCompiled}
use Rattle.design.proofs.Numbered.{place_named, past_is_empty, end_is_empty, some_process}
use Rattle.turn.specs.declared.memory.Seen.{Seen}
use Rattle.turn.specs.Reads.{registers, Agrees}
use Rattle.turn.specs.Evaluate.{Knows, written, written_in}
use Rattle.turn.specs.RunningTurn.{Status, fresh, printing}
use Rattle.turn.specs.Strobes.{PrintsStrobe, strobe_uses, strobe_uses_at, AreStrobeLines}
use Rattle.turn.proofs.Values.{Lined, lined}
use Rattle.turn.proofs.Steps.{not_past}
use Rattle.turn.proofs.Runs.{uses_append}
use Rattle.turn.proofs.Turns.{knows_none}

-- what was printed is the lines of the $strobe statements at these places, and nothing was written
pub record Strobed (code : Compiled) (places : List ℕ) (s : Status) : Type 0 where
  pub size : length s.known ≡ length code.widths
  pub writes : s.writes ≡ []
  pub knows : Knows s.writes s.reads s.known
  pub lines : (store : Store) → length store ≡ length code.widths → Agrees s.reads store → s.lines ≡ strobe_lines_at (design_of code) store places
  pub uses : registers s.reads ≡ strobe_uses_at (design_of code) places

pub strobed_none : (code : Compiled) (state : ProcState) → Strobed code [] (fresh state (length code.widths))
strobed_none code state = record {
  size = length-replicate _ _;
  writes = refl;
  knows = knows_none (length code.widths);
  lines = λ store len agree. refl;
  uses = refl;
}

-- a list of places with one more
abbrev with_place : List ℕ → ℕ → List ℕ
with_place places place = places ++ place ∷ []

-- a list has nothing behind its end
past_none : (xs : List Node) (k : ℕ) (i : Node) → length xs ≤ k → slice_get xs k ≡ Some i → ⊥
past_none [] k i past e = cc
past_none (x ∷ xs) zero i past e = omega (arith, past)
past_none (x ∷ xs) (suc k) i past e = past_none xs k i (omega (arith, past)) e

module _ (code : Compiled) (places : List ℕ) (place : ℕ) where
  -- the line of the statement at the place, on a store
  abbrev line_there : Store → List ℕ
  line_there store = strobe_line (design_of code) store (statement_at (design_of code) place)

  -- the registers that the line of the statement at the place uses
  abbrev uses_there : List ℕ
  uses_there = strobe_uses (statement_at (design_of code) place)

  -- no line is printed at the place, and no register used
  abbrev IsStill : Type 0
  IsStill = ((store : Store) → line_there store ≡ []) × (uses_there ≡ [])

  -- one place more, and the registers that its line uses
  uses_more : (before after rs : List ℕ) → before ≡ strobe_uses_at (design_of code) places → after ≡ with_uses [] before rs → rs ≡ uses_there → after ≡ strobe_uses_at (design_of code) (with_place places place)
  uses_more before after rs e1 e2 e3 =
      let used : ℕ → List ℕ = λ p. strobe_uses (statement_at (design_of code) p) in
      e2 ∙ ap (λ us. with_uses [] us rs) e1 ∙ ap (with_uses [] (strobe_uses_at (design_of code) places)) e3
      ∙ sym (uses_append [] (flat_map used places) [] uses_there)
      ∙ ap (with_uses [] []) (flat_map_more used [] places place)

  -- one place more, and its line
  lines_more : (store : Store) (before after line : List ℕ) → before ≡ strobe_lines_at (design_of code) store places → after ≡ before ++ line → line ≡ line_there store → after ≡ strobe_lines_at (design_of code) store (with_place places place)
  lines_more store before after line e1 e2 e3 =
      e2 ∙ ap (λ l. l ++ line) e1 ∙ ap (λ l. strobe_lines_at (design_of code) store places ++ l) e3
      ∙ flat_map_more (λ p. strobe_line (design_of code) store (statement_at (design_of code) p)) [] places place

  -- nor is one where nothing stands
  still_empty : statement_at (design_of code) place ≡ tree.Empty → IsStill
  still_empty is = (λ store. ap (strobe_line (design_of code) store) is, ap strobe_uses is)

  -- nothing is printed where no $strobe stands
  strobed_still : (s s' : Status) → Strobed code places s → IsStill → s' ≡ s → Strobed code (with_place places place) s'
  strobed_still s s' strobed still same = subst (Strobed code (with_place places place)) (sym same) (record {
    size = strobed.size;
    writes = strobed.writes;
    knows = strobed.knows;
    lines = λ store len agree. lines_more store s.lines s.lines [] (strobed.lines store len agree) (sym (append-nil s.lines)) (sym (still.0 store));
    uses = uses_more (registers s.reads) (registers s.reads) [] strobed.uses refl (sym still.1);
  })

  -- a line is printed where one stands
  strobed_line : (s m s' : Status) (format : List Piece) (arguments : Expressions ℕ) → Strobed code places s → statement_at (design_of code) place ≡ tree.Print Task.Strobe format arguments → Lined code.widths s m format arguments → s' ≡ printing m (10 ∷ []) → Strobed code (with_place places place) s'
  strobed_line s m s' format arguments strobed is l e =
      let writes : m.writes ≡ s.writes = ap (λ (t : Status). t.writes) l.same in
      subst (Strobed code (with_place places place)) (sym e) (record {
        size = l.size ∙ strobed.size;
        writes = writes ∙ strobed.writes;
        knows = subst (λ ws. Knows ws m.reads m.known) (sym writes) l.continues.knows;
        lines = λ store len agree.
            let line = line_text format (own_values code.widths store arguments) in
            let printed : m.lines ++ 10 ∷ [] ≡ s.lines ++ line =
            l.lines (10 ∷ []) store (len ∙ sym strobed.size) agree ∙ ap (λ ws. s.lines ++ line_text format (own_values code.widths (written store ws) arguments)) strobed.writes in
            lines_more store s.lines (m.lines ++ 10 ∷ []) line
            (strobed.lines store len (l.continues.agrees store agree)) printed (sym (ap (strobe_line (design_of code) store) is));
        uses = uses_more (registers s.reads) (registers m.reads) (all_registers_of arguments) strobed.uses
            (l.continues.uses ∙ ap (λ ws. with_uses (written_in ws) (registers s.reads) (all_registers_of arguments)) strobed.writes)
            (sym (ap strobe_uses is));
      })

  module _ (p : ℕ) (own : IsPlaceOf (design_of code) p place) where
    -- the place that begins the remainder is this one
    statement_there : (named : ℕ) (rest : Remainder) (st : Statement) → remainder_at (design_of code) place ≡ At named ∷ rest → statement_at (design_of code) named ≡ st → statement_at (design_of code) place ≡ st
    statement_there named rest st left is =
        ap (statement_at (design_of code)) (sym (place_named (design_of code) p place named rest own left)) ∙ is

    -- a statement that isn't a $strobe has no line
    still_there : (named : ℕ) (rest : Remainder) (st : Statement) → remainder_at (design_of code) place ≡ At named ∷ rest → statement_at (design_of code) named ≡ st → ((store : Store) → strobe_line (design_of code) store st ≡ []) → strobe_uses st ≡ [] → IsStill
    still_there named rest st left is none unused = (
      λ store. ap (strobe_line (design_of code) store) (statement_there named rest st left is) ∙ none store,
      ap strobe_uses (statement_there named rest st left is) ∙ unused,
    )

    -- nor has the end of a process
    still_end : remainder_at (design_of code) place ≡ [] → IsStill
    still_end left = still_empty (end_is_empty (design_of code) p place own left)

    -- each node
    node_strobed : (i : Node) (s s' : Status) → IsCompiled code → Strobed code places s → IsFine code p i (remainder_at (design_of code) place) → PrintsStrobe code.ops code.shown (Some i) s s' → Strobed code (with_place places place) s'
    node_strobed node.Over s s' is strobed (left, still) e = strobed_still s s' strobed (still_end left) e
    node_strobed (node.Restart to) s s' is strobed (left, again, there, within) e = strobed_still s s' strobed (still_end left) e
    node_strobed (node.Skip to) s s' is strobed (n, (left, st, within)) e = strobed_still s s' strobed (still_there n _ tree.Empty left st (λ store. refl) refl) e
    node_strobed (node.Assign q span to) s s' is strobed (n, (x, (left, st, c, fits, within))) e = strobed_still s s' strobed (still_there n _ (tree.Assign q x) left st (λ store. refl) refl) e
    node_strobed (node.AssignAfter q delay span to) s s' is strobed (n, (x, (left, st, c, fits, within))) e = strobed_still s s' strobed (still_there n _ (tree.AssignAfter q delay x) left st (λ store. refl) refl) e
    node_strobed (node.AssignLater q delay span to) s s' is strobed (n, (x, (left, st, c, fits, within))) e = strobed_still s s' strobed (still_there n _ (tree.AssignLater q delay x) left st (λ store. refl) refl) e
    node_strobed (node.Now q digits to) s s' is strobed (n, (left, st, same, fits, within)) e = strobed_still s s' strobed (still_there n _ (tree.Now q) left st (λ store. refl) refl) e
    node_strobed (node.Delay delay to) s s' is strobed (n, (body, (rest, (left, st, there, within)))) e = strobed_still s s' strobed (still_there n rest (tree.Delay delay body) left st (λ store. refl) refl) e
    node_strobed (node.Await control to) s s' is strobed (n, (body, (rest, (triggers, (left, found, st, there, within))))) e = strobed_still s s' strobed (still_there n rest (tree.Await triggers body) left st (λ store. refl) refl) e
    node_strobed (node.Branch span taken missed) s s' is strobed (n, (c, (rest, (left, computes, test, w1, w2)))) e =
        let still : IsStill = ⊎_elim
        (λ (body, (otherwise, (st, e1, e2))). still_there n rest (tree.If c body otherwise) left st (λ store. refl) refl)
        (λ (body, (st, e1, e2)). still_there n rest (tree.While c body) left st (λ store. refl) refl)
        test in
        strobed_still s s' strobed still e
    node_strobed (node.Print Task.Display span to) s s' is strobed (n, (format, (arguments, (left, st, line, within)))) e = strobed_still s s' strobed (still_there n _ (tree.Print Task.Display format arguments) left st (λ store. refl) refl) e
    node_strobed (node.Print Task.Write span to) s s' is strobed (n, (format, (arguments, (left, st, line, within)))) e = strobed_still s s' strobed (still_there n _ (tree.Print Task.Write format arguments) left st (λ store. refl) refl) e
    node_strobed (node.Print Task.Strobe span to) s s' is strobed (n, (format, (arguments, (left, st, line, within)))) (m, (prints, e)) =
        let all : All (IsOpOf (length s.known)) code.ops = subst (λ k. All (IsOpOf k) code.ops) (sym strobed.size) is.ops in
        let l = lined code.widths code.ops (span_of code.shown span) s m format arguments all strobed.knows line prints in
        strobed_line s m s' format arguments strobed (statement_there n _ (tree.Print Task.Strobe format arguments) left st) l e
    node_strobed (node.Finish to) s s' is strobed (n, (left, st, within)) e = strobed_still s s' strobed (still_there n _ tree.Finish left st (λ store. refl) refl) e

  -- as many nodes as statements and ends
  count_there : IsCompiled code → length code.nodes ≡ statement_count (design_of code) + length (design_of code).processes
  count_there is = is.count ∙ ap (λ n. statement_count (design_of code) + n) (sym (length-map code.processes process_of))

  some_strobed : (o : Option Node) (s s' : Status) → IsCompiled code → Strobed code places s → slice_get code.nodes place ≡ o → PrintsStrobe code.ops code.shown o s s' → Strobed code (with_place places place) s'
  some_strobed None s s' is strobed found e =
      let past : statement_count (design_of code) ≤ place = ⊎_elim
      (λ within. absurd (not_past code.nodes place within found))
      (λ behind. omega (arith, behind, is.count))
      (cases_lt place (length code.nodes)) in
      strobed_still s s' strobed (still_empty (past_is_empty (design_of code) place past)) e
  some_strobed (Some i) s s' is strobed found prints =
      let within : place < length code.nodes = ⊎_elim (λ lt. lt) (λ behind. absurd (past_none code.nodes place i behind found)) (cases_lt place (length code.nodes)) in
      let (p, (among, own)) = some_process (design_of code) place (omega (arith, within, count_there is)) in
      let among' : p < length code.processes = omega (arith, among, length-map code.processes process_of) in
      node_strobed p own i s s' is strobed (is.fine p place i among' own found) prints

  -- and one place more
  strobed_more : (s s' : Status) → IsCompiled code → Strobed code places s → PrintsStrobe code.ops code.shown (slice_get code.nodes place) s s' → Strobed code (places ++ place ∷ []) s'
  strobed_more s s' is strobed prints = some_strobed (slice_get code.nodes place) s s' is strobed refl prints

-- the next place of a list
pub strobed_next : (code : Compiled) (places : List ℕ) (i : ℕ) (s s' : Status) → i < length places → IsCompiled code → Strobed code (take i places) s → PrintsStrobe code.ops code.shown (slice_get code.nodes (get_or places i 0)) s s' → Strobed code (take (i + 1) places) s'
strobed_next code places i s s' lt is strobed prints =
    subst (λ ps. Strobed code ps s') (sym (take_more places i 0 lt)) (strobed_more code (take i places) (get_or places i 0) s s' is strobed prints)

-- the text of all places
pub strobed_all : (code : Compiled) (places : List ℕ) (s : Status) (reads : List (ℕ × Seen)) (text : List ℕ) → Strobed code places s → reads ≡ s.reads → text ≡ s.lines → AreStrobeLines code places reads text
strobed_all code places s reads text strobed read same = record {
  lines = λ store len agree. same ∙ strobed.lines store len (subst (λ rs. Agrees rs store) read agree);
  uses = ap registers read ∙ strobed.uses;
}

-- a step over the lists that the program has
pub printed : (code : Compiled) (nodes : List Node) (ops : List Op) (shown : List LinePiece) (place : ℕ) (s s' : Status) → nodes ≡ code.nodes → ops ≡ code.ops → shown ≡ code.shown → PrintsStrobe ops shown (slice_get nodes place) s s' → PrintsStrobe code.ops code.shown (slice_get code.nodes place) s s'
printed code nodes ops shown place s s' e1 e2 e3 p = rw (← e1, ← e2, ← e3) p
