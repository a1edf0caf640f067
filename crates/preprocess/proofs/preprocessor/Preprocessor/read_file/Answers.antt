-- A file without directives gives its tokens as they stand.
use Rattle.std.proofs.Common.{length, inr, sym, ◌∙◌}
use Rattle.preprocess.proofs.Sourced.{file_perhaps, file_alone, file_then, ok_by}
use Rattle.preprocess.proofs.PlainFiles.{cut_tokens, not_tokens}
use Rattle.preprocess.proofs.preprocessor.Preprocessor.read_file.Goals as goal

pub returns-then-are_tokens-clause-tokens : goal.returns-then-are_tokens-clause-tokens
returns-then-are_tokens-clause-tokens c ls d k =
    cut_tokens c.add_tokens.result (length c.args.self.now.work.files.items) c.args.file.text.items c.args.self.now.work.tokens.items c.add.new.self.work.tokens.items
    c.add_tokens.new.self.work.tokens.items c.in_ok-found.found.items c.deref-then-are_tokens.result.now ls c.in_ok-found.ensures.cut c.deref-then-are_tokens.ensures.value c.add.ensures.tokens
    c.add_tokens.ensures.tokens d

pub returns-clause-tokens : goal.returns-clause-tokens
returns-clause-tokens c ls d k =
    absurd (not_tokens (length c.args.self.now.work.files.items) c.args.file.text.items c.in_ok-found.found.items c.deref.result.now ls c.in_ok-found.ensures.cut c.deref.ensures.value
    (sym c.are_tokens.ensures ∙ c.if-are_tokens.false) d k)

pub returns-clause-files : goal.returns-clause-files
returns-clause-files c ls d k =
    absurd (not_tokens (length c.args.self.now.work.files.items) c.args.file.text.items c.in_ok-found.found.items c.deref.result.now ls c.in_ok-found.ensures.cut c.deref.ensures.value
    (sym c.are_tokens.ensures ∙ c.if-are_tokens.false) d k)

pub returns-in_err-found-clause-adds : goal.returns-in_err-found-clause-adds
returns-in_err-found-clause-adds c = file_perhaps c.args.known.now c.args.file c.args.self.now.work.files.items _ c.in_err-found.ensures.adds

pub returns-then-are_tokens-clause-reads : goal.returns-then-are_tokens-clause-reads
returns-then-are_tokens-clause-reads c = ok_by _ (file_alone c.args.known.now c.args.file c.args.self.now.work.files.items _ (c.add_tokens.ensures.files ∙ c.in_ok-found.ensures.files))

pub returns-then-are_tokens-clause-adds : goal.returns-then-are_tokens-clause-adds
returns-then-are_tokens-clause-adds c = inr (file_alone c.args.known.now c.args.file c.args.self.now.work.files.items _ (c.add_tokens.ensures.files ∙ c.in_ok-found.ensures.files))

pub returns-in_err-open-clause-adds : goal.returns-in_err-open-clause-adds
returns-in_err-open-clause-adds c = inr (file_alone c.args.known.now c.args.file c.args.self.now.work.files.items _ (c.open.ensures.files ∙ c.in_ok-found.ensures.files))

pub returns-clause-reads : goal.returns-clause-reads
returns-clause-reads c = ok_by _ (file_then c.args.known.now c.args.file c.args.self.now.work.files.items _ _ (c.open.ensures.files ∙ c.in_ok-found.ensures.files) c.run.ensures.adds)

pub returns-clause-adds : goal.returns-clause-adds
returns-clause-adds c = inr (file_then c.args.known.now c.args.file c.args.self.now.work.files.items _ _ (c.open.ensures.files ∙ c.in_ok-found.ensures.files) c.run.ensures.adds)
