-- The pieces of the line, one after another.
use Rattle.std.proofs.Common.{◌++◌, ◌∙◌, ap, ℕ, List, codes}
use Rattle.waves.specs.ScopedDump.{number_of_tick, unit_of_tick}
use Rattle.waves.proofs.Pieces.{joined, joined_last}
use Rattle.waves.proofs.scoped.push_tick.Goals as goal

pub returns : goal.returns
returns c =
    let old = c.args.text.now.items in
    let number = number_of_tick c.args.power in
    let unit = unit_of_tick c.args.power in
    let first : List ℕ = codes "$timescale " in
    let blank : List ℕ = codes " " in
    let last : List ℕ = codes " $end\n" in
    let two = joined c.extend_from_slice-2.new.self.items old first c.extend_from_slice.new.self.items number (c.in_ok-extend_from_slice-2.ensures.items ∙ ap (λ (w : List ℕ). c.extend_from_slice.new.self.items ++ w) c.number_of_tick.ensures) c.in_ok-extend_from_slice.ensures.items in
    let three = joined c.extend_from_slice-3.new.self.items old (first ++ number) c.extend_from_slice-2.new.self.items blank c.in_ok-extend_from_slice-3.ensures.items two in
    let four = joined c.extend_from_slice-4.new.self.items old (first ++ number ++ blank) c.extend_from_slice-3.new.self.items unit (c.in_ok-extend_from_slice-4.ensures.items ∙ ap (λ (w : List ℕ). c.extend_from_slice-3.new.self.items ++ w) c.unit_of_tick.ensures) three in
    joined_last c.extend_from_slice-5.result c.extend_from_slice-5.new.self.items old (first ++ number ++ blank ++ unit) c.extend_from_slice-4.new.self.items last c.extend_from_slice-5.ensures.items four
