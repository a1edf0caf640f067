-- The text of a dump, register by register and change by change.
use Rattle.std.proofs.Common.{◌≡◌, ℕ, ◌+◌, ◌<◌, List, [], ◌++◌, length, get_or, drop, refl, drop-cons, add-one}
use Rattle.model.specs.Syntax.{Text}
use Rattle.waves.specs.Dump.{register_line, registers_text}

-- one register more is declared
pub registers_next : (r : ℕ) (names : List Text) (widths : List ℕ) → r < length names → r < length widths
    → registers_text r (drop r names) (drop r widths) ≡ register_line r (get_or names r []) (get_or widths r 0) ++ registers_text (r + 1) (drop (r + 1) names) (drop (r + 1) widths)
registers_next r names widths inside inside' = rw (drop-cons names r [], drop-cons widths r 0, add-one r) refl
