-- Combinational processes, told by their text.
use Rattle.std.specs.Prelude.{◌≡◌, ℕ, ◌+◌, ◌≤◌, Bool, true, false, ◌&&◌, List, [], ◌∷◌, ◌++◌, map, filter}
use Rattle.model.specs.declared.tree.Change.TheVariants.{Any}
use Rattle.model.specs.Syntax.{registers_of}
use Rattle.model.specs.Elaboration.{followed_by}
use Rattle.model.specs.Design.{Design, Statement, Empty, Assign, Await, If, Statements, End, Then, size, process_at, first_place}
use Rattle.model.specs.Turns.{contains, parts, most_steps}
use Rattle.model.specs.TurnCases.{all_but}
use Rattle.phases.specs.Phase.{Block, IsBlock}

-- the registers that are in both lists
abbrev pub common : List ℕ → List ℕ → List ℕ
common rs qs = filter (λ r. contains qs r) rs

-- whether statements are blocking assignments without a delay, if, and empty ones alone
abbrev mutual
  pub is_plain_one : Statement → Bool
  is_plain_one Empty = true
  is_plain_one (Assign r e) = true
  is_plain_one (If c body otherwise) = is_plain body && is_plain otherwise
  is_plain_one s = false

  pub is_plain : Statements → Bool
  is_plain End = true
  is_plain (Then s ss) = is_plain_one s && is_plain ss

-- the registers that statements may read before they write them, where these are read behind them
abbrev mutual
  pub reads_one : Statement → List ℕ → List ℕ
  reads_one (Assign r e) later = registers_of e ++ all_but r later
  reads_one (If c body otherwise) later = registers_of c ++ (reads body later ++ reads otherwise later)
  reads_one s later = later

  pub reads : Statements → List ℕ → List ℕ
  reads End later = later
  reads (Then s ss) later = reads_one s (reads ss later)

-- the registers that statements may write
abbrev mutual
  pub written_one : Statement → List ℕ
  written_one (Assign r e) = r ∷ []
  written_one (If c body otherwise) = written body ++ written otherwise
  written_one s = []

  pub written : Statements → List ℕ
  written End = []
  written (Then s ss) = written_one s ++ written ss

-- the registers that statements write on every way through them
abbrev mutual
  pub settled_one : Statement → List ℕ
  settled_one (Assign r e) = r ∷ []
  settled_one (If c body otherwise) = common (settled body) (settled otherwise)
  settled_one s = []

  pub settled : Statements → List ℕ
  settled End = []
  settled (Then s ss) = settled_one s ++ settled ss

-- The process is `always begin before @(inputs) behind end`, where the statements before its wait and behind it are blocks, blocking
-- assignments without a delay and if alone. Either may be none: `always @(inputs) behind`, or `always begin before @(inputs); end`.
-- From one wait to the next it runs those behind its wait, and then those before it. What these read before they write it is an input,
-- each register that they write is written on every way through them and is no input, and the turns of the process are short.
abbrev pub IsCombinational : Design → ℕ → List ℕ → Statements → Statements → Type 0
IsCombinational design p inputs before behind =
    record {
      process : process_at design p ≡ record { repeats = true; body = followed_by before (Then (Await (map (λ r. (Any, r)) inputs) behind) End) };
      plain_before : is_plain before ≡ true;
      plain_behind : is_plain behind ≡ true;
      within : (r : ℕ) → contains (reads behind (reads before [])) r ≡ true → contains inputs r ≡ true;
      all : (r : ℕ) → contains (written behind ++ written before) r ≡ true → contains (settled behind ++ settled before) r ≡ true;
      apart : (r : ℕ) → contains (written behind ++ written before) r ≡ true → contains inputs r ≡ false;
      short : size before + size behind + 2 ≤ most_steps;
    }

-- its block
abbrev pub block_of : Design → ℕ → List ℕ → Statements → Statements → Block
block_of design p inputs before behind =
    record { rest = parts (first_place design p + size before + 1) behind; inputs = inputs; outputs = written behind ++ written before }

-- what is combinational by its text is a block, whatever the values of the registers
abbrev pub CombinationalIsBlock : Type 0
CombinationalIsBlock =
    (design : Design) (p : ℕ) (inputs : List ℕ) (before behind : Statements) → IsCombinational design p inputs before behind
    → IsBlock design p (block_of design p inputs before behind)
