use Rattle.explore.proofs.endless.unmarked_way.Goals as goal

pub way-requires-clause-within : goal.way-requires-clause-within
way-requires-clause-within g c =
    let closed = c.are_closed.ensures c.if-not-are_closed.false in
    c.requires.known c.in-Some.number (closed.ends c.in-Some.number c.in-Some.ensures)

pub returns : goal.returns
returns g c =
    let closed = c.are_closed.ensures c.if-not-are_closed.false in
    record {
      marks = c.args.marks.now;
      closed = closed;
      number = c.in-Some.number;
      unmarked = c.in-Some.ensures;
      within = c.requires.known c.in-Some.number (closed.ends c.in-Some.number c.in-Some.ensures);
      moves_are = c.in_ok-moves.ensures;
    }
