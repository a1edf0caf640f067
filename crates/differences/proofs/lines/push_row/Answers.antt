-- The pieces of the line, one behind another.
use Rattle.std.proofs.Common.{ℕ, List, ◌++◌, refl, codes, decimal}
use Rattle.explain.proofs.Pieces.{joined}
use Rattle.explain.specs.Phrases.{register_text}
use Rattle.differences.specs.ComparedLines.{given_text}
use Rattle.differences.proofs.Told.{last_put}
use Rattle.differences.proofs.lines.push_row.Goals as goal

pub returns : goal.returns
returns c =
    let text : List ℕ = c.args.text.now.items in
    let gap : List ℕ = codes "  " in
    let a : List ℕ = codes "time " ++ decimal c.args.row.now.time in
    let r : List ℕ = register_text c.args.names.now c.args.row.now.register in
    let v : List ℕ = given_text c.args.names.now.style.radix c.args.row.now.first in
    let w : List ℕ = given_text c.args.names.now.style.radix c.args.row.now.second in
    let t1 : List ℕ = c.push_labelled.new.text.items in
    let t2 : List ℕ = c.extend_from_slice.new.self.items in
    let t3 : List ℕ = c.push_register.new.text.items in
    let t4 : List ℕ = c.extend_from_slice-2.new.self.items in
    let t5 : List ℕ = c.push_given.new.text.items in
    let t6 : List ℕ = c.extend_from_slice-3.new.self.items in
    let t7 : List ℕ = c.push_given-2.new.text.items in
    let h2 = joined t2 text a t1 gap c.in_ok-extend_from_slice.ensures.items c.in_ok-push_labelled.ensures in
    let h3 = joined t3 text (a ++ gap) t2 r c.in_ok-push_register.ensures h2 in
    let h4 = joined t4 text (a ++ gap ++ r) t3 gap c.in_ok-extend_from_slice-2.ensures.items h3 in
    let h5 = joined t5 text (a ++ gap ++ r ++ gap) t4 v c.in_ok-push_given.ensures h4 in
    let h6 = joined t6 text (a ++ gap ++ r ++ gap ++ v) t5 gap c.in_ok-extend_from_slice-3.ensures.items h5 in
    let h7 = joined t7 text (a ++ gap ++ r ++ gap ++ v ++ gap) t6 w c.in_ok-push_given-2.ensures h6 in
    last_put c.extend_from_slice-4.result c.extend_from_slice-4.new.self.items t7 (codes "\n") _ c.extend_from_slice-4.ensures.items
    (joined (t7 ++ codes "\n") text (a ++ gap ++ r ++ gap ++ v ++ gap ++ w) t7 (codes "\n") refl h7)
