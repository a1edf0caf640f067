-- Formats of ASCII, one piece, one statement and one process after another.
use Rattle.std.proofs.Common.{◌≡◌, ◌∙◌, ◌⊎◌, inl, inr, ℕ, zero, suc, refl, ◌+◌, ◌<◌, ◌≤◌, List, [], ◌∷◌, ◌++◌, map, length, drop, get_or, sym, ap, subst, arith}
use Rattle.std.specs.Prelude.{slice_index_or}
use Rattle.std.specs.List.{All}
use Rattle.std.proofs.Math.Seq.{drop-cons}
use Rattle.std.proofs.lemmas.Bool.{cases_lt}
use Rattle.std.proofs.lemmas.List.{drop_all}
use Rattle.std.proofs.lemmas.List.Elements.{All-nil, All-cons, All-append, All-get_or}
use Rattle.model.specs.declared.tree.Piece.{Piece}
use Rattle.model.specs.SourceTrees.{piece_of}
use Rattle.model.specs.Design as model
use Rattle.model.specs.Design.{Empty, all_of, inside, all_statements}
use Rattle.design.specs.declared.tree.Process.{Process}
use Rattle.design.specs.declared.tree.Statement.{Statement}
use Rattle.design.specs.DesignTrees.{process_of, statement_of, statements_of, tree_design}
use Rattle.looseruns.specs.RegisterSights.{IsAsciiPiece, HasAsciiFormat, PrintsNoMark}
use Rattle.looseruns.proofs.AsciiLines.{ascii_designs_print_no_mark}
use Rattle.observers.specs.AsciiFormats.{HasAsciiFormatsIn, HaveAsciiFormats}

drop_here : {A : Type 0} (xs : List A) (i : ℕ) (x : A) → i < length xs → x ≡ get_or xs i x → drop i xs ≡ x ∷ drop (i + 1) xs
drop_here xs i x inside is =
    let next : suc i ≡ i + 1 = omega arith in
    drop-cons xs i x inside ∙ ap (λ y. y ∷ drop (suc i) xs) (sym is) ∙ ap (λ n. x ∷ drop n xs) next

-- with those that are left, all are
pub record IsAllWithRest {A : Type 0} (P : List A → Type 0) (xs : List A) (i : ℕ) : Type 0 where
  pub all : P (drop i xs) → P xs

-- one more
pub more_with_rest : {A : Type 0} (P : List A → Type 0) (xs : List A) (i : ℕ) (x : A) → i < length xs → x ≡ get_or xs i x → (P (drop (i + 1) xs) → P (x ∷ drop (i + 1) xs))
    → IsAllWithRest P xs i → IsAllWithRest P xs (i + 1)
more_with_rest P xs i x inside is add before =
    record { all = λ rest. before.all (subst P (sym (drop_here xs i x inside is)) (add rest)) }

-- none left
pub all_with_rest : {A : Type 0} (P : List A → Type 0) (xs : List A) (i : ℕ) → length xs ≤ i → P [] → IsAllWithRest P xs i → P xs
all_with_rest P xs i past none before = before.all (subst P (sym (drop_all i xs past)) none)

-- the pieces of a format
abbrev pub AreAsciiPieces : List Piece → Type 0
AreAsciiPieces pieces = All IsAsciiPiece (map piece_of pieces)

-- the statements of a list
abbrev pub AreAsciiStatements : List Statement → Type 0
AreAsciiStatements ss = HaveAsciiFormats (statements_of ss)

pub one_statement : (s : Statement) (ss : List Statement) → HasAsciiFormatsIn (statement_of s) → AreAsciiStatements ss → AreAsciiStatements (s ∷ ss)
one_statement s ss here others = All-append HasAsciiFormat (statement_of s ∷ inside (statement_of s)) (all_of (statements_of ss)) here others

-- a statement, and those inside it
pub with_inside : (s : Statement) (m : model.Statement) → statement_of s ≡ m → HasAsciiFormat m → All HasAsciiFormat (inside m) → HasAsciiFormatsIn (statement_of s)
with_inside s m is format others = subst HasAsciiFormatsIn (sym is) (All-cons HasAsciiFormat m (inside m) format others)

pub of_body : (xs ys : List Statement) → xs ≡ ys → AreAsciiStatements xs → AreAsciiStatements ys
of_body xs ys same all = subst AreAsciiStatements same all

pub of_bodies : (xs ys : List Statement) → AreAsciiStatements xs → AreAsciiStatements ys → All HasAsciiFormat (all_of (statements_of xs) ++ all_of (statements_of ys))
of_bodies xs ys one other = All-append HasAsciiFormat (all_of (statements_of xs)) (all_of (statements_of ys)) one other

-- the processes of a design
abbrev pub AreAsciiProcesses : List Process → Type 0
AreAsciiProcesses ps = All HasAsciiFormat (all_statements (map process_of ps))

pub no_process : AreAsciiProcesses []
no_process = All-nil HasAsciiFormat

pub one_process : (p : Process) (ps : List Process) (xs : List Statement) → xs ≡ p.body.items → AreAsciiStatements xs → AreAsciiProcesses ps → AreAsciiProcesses (p ∷ ps)
one_process p ps xs same body others =
    All-append HasAsciiFormat (all_of (statements_of p.body.items)) (all_statements (map process_of ps)) (subst AreAsciiStatements same body) others

past : (ss : List model.Statement) (place : ℕ) → length ss ≤ place → slice_index_or ss place Empty ≡ Empty
past [] place h = refl
past (s ∷ ss) zero h = absurd (omega (arith, h))
past (s ∷ ss) (suc n) h = past ss n (omega (arith, h))

at_place : (ss : List model.Statement) (place : ℕ) → All HasAsciiFormat ss → (place < length ss) ⊎ (length ss ≤ place) → HasAsciiFormat (slice_index_or ss place Empty)
at_place ss place all (inl inside) = All-get_or HasAsciiFormat ss place Empty inside all
at_place ss place all (inr out) = subst HasAsciiFormat (sym (past ss place out)) tt

-- a design of such processes prints no mark
pub ascii_processes_print_no_mark : (widths : List ℕ) (processes : List Process) → AreAsciiProcesses processes → PrintsNoMark (tree_design widths processes)
ascii_processes_print_no_mark widths processes all =
    ascii_designs_print_no_mark (tree_design widths processes)
    (λ place. at_place (all_statements (map process_of processes)) place all (cases_lt place (length (all_statements (map process_of processes)))))

-- so does one of which the processes were looked at, one after another
pub printing : (widths : List ℕ) (looked processes : List Process) (i : ℕ) → length looked ≤ i → IsAllWithRest AreAsciiProcesses looked i → looked ≡ processes
    → PrintsNoMark (tree_design widths processes)
printing widths looked processes i past all same =
    subst (λ (ps : List Process). PrintsNoMark (tree_design widths ps)) same
    (ascii_processes_print_no_mark widths looked (all_with_rest AreAsciiProcesses looked i past no_process all))
