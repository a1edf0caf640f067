-- File after file.
use Rattle.std.proofs.lemmas.List.{take_all}
use Rattle.std.proofs.Common.{length, inl, inr, sym, subst, ◌∙◌}
use Rattle.preprocess.specs.Plain.{ArePlain}
use Rattle.preprocess.proofs.PlainFiles.{first_adds, plain_none, plain_next, plain_all, adds_plain}
use Rattle.preprocess.proofs.Sourced.{first_read, first_perhaps, next_read, next_perhaps, all_read, no_lines}
use Rattle.preprocess.proofs.preprocess.read_all.Goals as goal

pub returns-in_err-first-clause-some : goal.returns-in_err-first-clause-some
returns-in_err-first-clause-some c = inl c.requires.files

pub returns-in_err-read_file-clause-some : goal.returns-in_err-read_file-clause-some
returns-in_err-read_file-clause-some c =
    first_perhaps c.args.definitions.now c.args.files.now c.args.known.now c.in_ok-first.first c.args.state.now.work.files.items _ c.requires.files c.in_ok-first.ensures c.read_file.ensures.adds

pub loop-file-init : goal.loop-file-init
loop-file-init c = record {
  plain = λ nothing.
      let none = c.in_ok-first.ensures.has_lines ∙ no_lines c.args.definitions.now nothing in
      let w = first_adds c.in_ok-first.first c.args.state.now.work.files.items c.read_file.new.self.work.files.items c.args.state.now.work.tokens.items c.read_file.new.self.work.tokens.items
      c.requires.files c.requires.tokens none (adds_plain _ _ _ _ _ (λ ls d k. (c.in_ok-read_file.ensures.tokens ls d k, c.in_ok-read_file.ensures.files ls d k))) in
      plain_none _ _ w.0 w.1;
  read = first_read c.args.definitions.now c.args.files.now c.args.known.now c.in_ok-first.first c.args.state.now.work.files.items _ c.requires.files c.in_ok-first.ensures c.in_ok-read_file.ensures.reads;
}

pub loop-file-preserved : goal.loop-file-preserved
loop-file-preserved c = record {
  plain = λ nothing.
      plain_next c.args.files.now c.loop-file.file-index c.file-item.result c.loop-file.state.work.files.items c.read_copy.new.state.work.files.items c.loop-file.state.work.tokens.items
      c.read_copy.new.state.work.tokens.items c.loop-file-test.true c.file-item.is (c.loop-file.invariant.plain nothing)
      (λ ls d k. (c.in_ok-read_copy.ensures.tokens ls d k, c.in_ok-read_copy.ensures.count ls d k));
  read = next_read c.args.definitions.now c.args.files.now c.args.known.now c.loop-file.file-index c.file-item.result _ _ c.loop-file-test.true c.file-item.is c.loop-file.invariant.read
      c.in_ok-read_copy.ensures.reads;
}

pub returns-in_err-read_copy-clause-some : goal.returns-in_err-read_copy-clause-some
returns-in_err-read_copy-clause-some c =
    next_perhaps c.args.definitions.now c.args.files.now c.args.known.now c.loop-file.file-index c.file-item.result _ _ c.loop-file-test.true c.file-item.is c.loop-file.invariant.read c.read_copy.ensures.adds

pub returns-clause-plain : goal.returns-clause-plain
returns-clause-plain c nothing ts p =
    let yielded = take_all c.loop-file.file-index c.args.files.now c.loop-file-test.false in
    plain_all _ c.loop-file.state.work.files.items c.loop-file.state.work.tokens.items ts (c.loop-file.invariant.plain nothing) (subst (λ x. ArePlain 1 x ts) (sym yielded) p)

pub returns-clause-read : goal.returns-clause-read
returns-clause-read c = all_read c.args.definitions.now c.args.files.now c.args.known.now c.loop-file.file-index _ c.loop-file-test.false c.loop-file.invariant.read

pub returns-clause-some : goal.returns-clause-some
returns-clause-some c = inr (length c.args.files.now, all_read c.args.definitions.now c.args.files.now c.args.known.now c.loop-file.file-index _ c.loop-file-test.false c.loop-file.invariant.read)
