-- What the tests of a process's text say together.
use Rattle.std.proofs.Common.{◌≡◌, ℕ, ⊎_elim, ◌+◌, ◌<◌, ◌≤◌, true, false, List, [], ◌∷◌, ◌++◌, map, length, drop, Some, refl, sym, ap, subst, ◌∙◌, arith}
use Rattle.std.specs.Prelude.{slice_get}
use Rattle.std.proofs.lemmas.List.{length-map}
use Rattle.std.proofs.lemmas.List.Elements.{All-get_or}
use Rattle.model.specs.Design.{Design, Process, Statement, Await, Statements, End, Then, Trigger, all_of, size, all_statements, process_at, first_place}
use Rattle.model.specs.Elaboration.{followed_by}
use Rattle.model.specs.Turns.{OnChange, contains, parts, short_turn}
use Rattle.model.specs.declared.tree.Change.TheVariants.{Any}
use Rattle.design.specs.DesignTrees.{process_of}
use Rattle.design.specs.Compiled.{Compiled, design_of}
use Rattle.design.specs.DesignInvariant.{controls_of}
use Rattle.design.specs.CodePlaces.{remainder_at}
use Rattle.design.specs.Sound.{AreSoundStatements}
use Rattle.design.specs.Meaning.{IsCompiled}
use Rattle.phases.specs.Phase.{Block, IsBlock}
use Rattle.phases.specs.Combinational.{is_plain, reads, written, settled, IsCombinational, block_of}
use Rattle.phases.proofs.Blocks.{body_at, no_more, combinational_is_block}
use Rattle.combinational.specs.declared.block.Logic.{Logic}
use Rattle.combinational.specs.Found.{any_change, block_in, HasLogic}
use Rattle.combinational.proofs.Waits.{IsAwaiting, size_both}
use Rattle.combinational.proofs.Bounds.{in_either, reads_bound, written_bound, length-drop}

-- a block with the same outputs in another order
same_block : (design : Design) (p : ℕ) (b c : Block) → b.rest ≡ c.rest → b.inputs ≡ c.inputs → ((r : ℕ) → contains b.outputs r ≡ true → contains c.outputs r ≡ true)
    → ((r : ℕ) → contains c.outputs r ≡ true → contains b.outputs r ≡ true) → IsBlock design p b → IsBlock design p c
same_block design p b c rest inputs more fewer block =
    record {
      turns = λ store now.
          let (t, at, h) = block.turns store now in (
            t,
            ap (λ left. short_turn design p left store now) (sym rest) ∙ at,
            record {
              reads = λ r used. ap (λ xs. contains xs r) (sym inputs) ∙ h.reads r used;
              writes = λ r wrote. more r (h.writes r wrote);
              all = λ r out. h.all r (fewer r out);
              nbas = h.nbas;
              lines = h.lines;
              strobes = h.strobes;
              finish = h.finish;
              rest = h.rest ∙ rest;
              wait = h.wait ∙ ap (λ xs. OnChange (map (λ r. (Any, r)) xs)) inputs;
            },
          );
      apart = λ r out. ap (λ xs. contains xs r) (sym inputs) ∙ block.apart r (fewer r out);
    }

sound_first : (widths : List ℕ) (ss others : Statements) → AreSoundStatements widths (followed_by ss others) → AreSoundStatements widths ss
sound_first widths End others sound = tt
sound_first widths (Then s ss) others sound = (sound.0, sound_first widths ss others sound.1)

sound_others : (widths : List ℕ) (ss others : Statements) → AreSoundStatements widths (followed_by ss others) → AreSoundStatements widths others
sound_others widths End others sound = sound
sound_others widths (Then s ss) others sound = sound_others widths ss others sound.1

sound_parts : (code : Compiled) (p : ℕ) (before : Statements) (ts : List Trigger) (behind : Statements) → IsCompiled code → p < length code.processes → IsAwaiting code p before ts behind
    → AreSoundStatements code.widths before × AreSoundStatements code.widths behind
sound_parts code p before ts behind compiled lt is =
    let last : Statements = Then (Await ts behind) End in
    let within : p < length (design_of code).processes = rw (length-map code.processes process_of) lt in
    let all : AreSoundStatements code.widths (process_at (design_of code) p).body =
    All-get_or (λ (q : Process). AreSoundStatements code.widths q.body) (design_of code).processes p (record { repeats = false; body = End }) within compiled.sound.statements in
    let whole : AreSoundStatements code.widths (followed_by before last) = subst (λ (q : Process). AreSoundStatements code.widths q.body) is all in
    (sound_first code.widths before last whole, (sound_others code.widths before last whole).0.1)

length-append : (xs ys : List Statement) → length (xs ++ ys) ≡ length xs + length ys
length-append [] ys = omega arith
length-append (x ∷ xs) ys = omega (arith, length-append xs ys)

short_parts : (code : Compiled) (p : ℕ) (before : Statements) (ts : List Trigger) (behind : Statements) → IsCompiled code → IsAwaiting code p before ts behind → length code.nodes ≤ 65534 → size before + size behind + 2 ≤ 65536
short_parts code p before ts behind compiled is few =
    let all : List Statement = all_statements (design_of code).processes in
    let body : Statements = followed_by before (Then (Await ts behind) End) in
    let (others, at) = body_at (design_of code).processes p (record { repeats = true; body = body }) is refl in
    let long : length (drop (first_place (design_of code) p) all) ≡ length (all_of body ++ others) = ap length at in
    let inner : length (all_of body ++ others) ≡ length (all_of body) + length others = length-append (all_of body) others in
    let body_long : length (all_of behind ++ []) ≡ size behind = ap length (no_more (all_of behind)) in
    omega (arith, few, compiled.count, length-drop (first_place (design_of code) p) all, long, inner, body_long, size_both before (Then (Await ts behind) End))

-- what the two bodies write, and what they read, are registers of the design

written_within : (widths : List ℕ) (before behind : Statements) (r : ℕ) → AreSoundStatements widths before × AreSoundStatements widths behind → contains (written behind ++ written before) r ≡ true → r < length widths
written_within widths before behind r sound there =
    ⊎_elim (λ one. written_bound widths behind r sound.1 one) (λ two. written_bound widths before r sound.0 two) (in_either (written behind) (written before) r there)

reads_within : (widths : List ℕ) (before behind : Statements) (r : ℕ) → AreSoundStatements widths before × AreSoundStatements widths behind → contains (reads behind (reads before [])) r ≡ true → r < length widths
reads_within widths before behind r sound there = reads_bound widths behind (reads before []) r sound.1 (λ later. reads_bound widths before [] r sound.0 (λ none. cc) later) there

pub logic_found : (code : Compiled) (p : ℕ) (logic : Logic) (before : Statements) (ts : List Trigger) (behind : Statements) → IsCompiled code → p < length code.processes → IsAwaiting code p before ts behind
    → is_plain before ≡ true → is_plain behind ≡ true → length code.nodes ≤ 65534 → map any_change logic.inputs.items ≡ ts
    → (slice_get (controls_of code) logic.control ≡ Some ts) × (remainder_at (design_of code) logic.place ≡ parts (first_place (design_of code) p + size before + 1) behind)
    → ((r : ℕ) → contains logic.outputs.items r ≡ true → contains (written behind ++ written before) r ≡ true)
    → ((r : ℕ) → r < length code.widths → contains (written behind ++ written before) r ≡ true → contains logic.outputs.items r ≡ true)
    → ((r : ℕ) → r < length code.widths → contains (reads behind (reads before [])) r ≡ true → contains logic.inputs.items r ≡ true)
    → ((r : ℕ) → contains logic.outputs.items r ≡ true → contains (settled behind ++ settled before) r ≡ true)
    → ((r : ℕ) → contains logic.outputs.items r ≡ true → contains logic.inputs.items r ≡ false) → HasLogic code p logic
logic_found code p logic before ts behind compiled lt is plain_before plain_behind few inputs (control, rest) only all within sure apart =
    let design : Design = design_of code in
    let sound : AreSoundStatements code.widths before × AreSoundStatements code.widths behind = sound_parts code p before ts behind compiled lt is in
    let outputs : (r : ℕ) → contains (written behind ++ written before) r ≡ true → contains logic.outputs.items r ≡ true = λ r there. all r (written_within code.widths before behind r sound there) there in
    let is' : IsAwaiting code p before (map any_change logic.inputs.items) behind = subst (λ xs. IsAwaiting code p before xs behind) (sym inputs) is in
    let combinational : IsCombinational design p logic.inputs.items before behind =
    record {
      process = is';
      plain_before = plain_before;
      plain_behind = plain_behind;
      within = λ r there. within r (reads_within code.widths before behind r sound there) there;
      all = λ r there. sure r (outputs r there);
      apart = λ r there. apart r (outputs r there);
      short = short_parts code p before ts behind compiled is few;
    } in
    let block : IsBlock design p (block_of design p logic.inputs.items before behind) = combinational_is_block design p logic.inputs.items before behind combinational in
    record {
      block = same_block design p (block_of design p logic.inputs.items before behind) (block_in code logic) (sym rest) refl outputs only block;
      control = control ∙ ap (λ xs. Some xs) (sym inputs);
    }
