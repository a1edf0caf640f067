-- What stood still stands.
use Rattle.preprocess.proofs.Standing.{pieces_if, bodies_if, conditions_if, tokens_if}
use Rattle.preprocess.proofs.work.Work.add_file.Goals as goal

pub invariant_of-self : goal.invariant_of-self
invariant_of-self c = record {
  pieces_stand = pieces_if c.args.self.now.files.items _ c.args.file _ c.args.self.now.pieces.items c.push.ensures.items c.args.self.now.pieces_stand;
  bodies_stand = bodies_if c.args.self.now.files.items _ c.args.file _ c.args.self.now.bodies.items c.push.ensures.items c.args.self.now.bodies_stand;
  conditions_stand = conditions_if c.args.self.now.files.items _ c.args.file _ c.args.self.now.conditions.items c.push.ensures.items c.args.self.now.conditions_stand;
  tokens_stand = tokens_if c.args.self.now.files.items _ c.args.file _ c.args.self.now.tokens.items c.push.ensures.items c.args.self.now.tokens_stand;
}
