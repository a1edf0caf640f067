use Rattle.regcells.proofs.meeting.meet_reads.Goals as goal

pub meet-requires-clause-register : goal.meet-requires-clause-register
meet-requires-clause-register g c = c.requires.reads c.loop-place.place (c.read_at-register.result.0, c.read_at-register.result.1) c.read_at-register.ensures
