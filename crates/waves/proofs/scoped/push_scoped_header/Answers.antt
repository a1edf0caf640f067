-- The pieces of the header, one after another.
use Rattle.std.proofs.Common.{◌++◌, ℕ, List, None, map, codes}
use Rattle.waves.specs.ScopedDump.{plain_scope, contents_text, tick_line, unknown_shown_text}
use Rattle.waves.proofs.Pieces.{joined, joined_last}
use Rattle.waves.proofs.scoped.push_scoped_header.Goals as goal

pub returns : goal.returns
returns c =
    let old = c.args.text.now.items in
    let all = c.args.all.now in
    let names = all.design.now.names in
    let widths = all.design.now.widths in
    let contents = contents_text 1024 (map plain_scope all.scopes.now) names widths None in
    let unknown = unknown_shown_text 0 names widths in
    let first : List ℕ = tick_line c.args.tick in
    let second : List ℕ = codes "$enddefinitions $end\n#0\n$dumpvars\n" in
    let last : List ℕ = codes "$end\n" in
    let two = joined c.push_contents.new.text.items old first c.push_tick.new.text.items contents c.in_ok-push_contents.ensures c.in_ok-push_tick.ensures in
    let three = joined c.extend_from_slice.new.self.items old (first ++ contents) c.push_contents.new.text.items second c.in_ok-extend_from_slice.ensures.items two in
    let four = joined c.push_unknown.new.text.items old (first ++ contents ++ second) c.extend_from_slice.new.self.items unknown c.in_ok-push_unknown.ensures three in
    joined_last c.extend_from_slice-2.result c.extend_from_slice-2.new.self.items old (first ++ contents ++ second ++ unknown) c.push_unknown.new.text.items last c.extend_from_slice-2.ensures.items four
