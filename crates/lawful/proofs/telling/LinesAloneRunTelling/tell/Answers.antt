-- The ways from a node, whose lines are told.
use Rattle.lawful.proofs.Ways.{node_next, node_ended, node_covered}
use Rattle.lawful.proofs.telling.LinesAloneRunTelling.tell.Goals as goal

pub returns : goal.returns
returns c class code limits node run stands rest seen at =
    let xs = c.args.ways.successors.items in
    let ys = c.args.ways.ended.items in
    record {
      next = node_next class code limits node run xs stands at.nexts;
      sound = node_ended class code limits node run ys stands at.ends;
      cover = λ whole. node_covered class code limits node run xs ys stands (at.all whole);
    }
