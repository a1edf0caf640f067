-- The copy has the file's text.
use Rattle.std.proofs.Common.{ℕ, List, false, length, inl, refl, subst, sym}
use Rattle.lexemes.specs.Lexing.{IsCutInto}
use Rattle.preprocess.proofs.Sourced.{as_copy}
use Rattle.std.proofs.lemmas.Result.{on_ok_weaker}
use Rattle.preprocess.proofs.PlainFiles.{one_file_more}
use Rattle.preprocess.proofs.preprocess.read_copy.Goals as goal

pub returns-clause-tokens : goal.returns-clause-tokens
returns-clause-tokens c ls d k =
    c.read_file.ensures.tokens ls (subst (λ (text : List ℕ). IsCutInto (length c.args.state.now.work.files.items) 0 false text ls) (sym c.in_ok-copy.ensures.same_text) d) k

pub returns-clause-count : goal.returns-clause-count
returns-clause-count c ls d k =
    one_file_more c.read_file.result c.args.state.now.work.files.items c.read_file.new.self.work.files.items c.in_ok-copy.copy
    (c.read_file.ensures.files ls (subst (λ (text : List ℕ). IsCutInto (length c.args.state.now.work.files.items) 0 false text ls) (sym c.in_ok-copy.ensures.same_text) d) k)

pub returns-in_err-copy-clause-adds : goal.returns-in_err-copy-clause-adds
returns-in_err-copy-clause-adds c = inl refl

pub returns-clause-reads : goal.returns-clause-reads
returns-clause-reads c = on_ok_weaker c.read_file.result (λ adds. record { copy = c.in_ok-copy.copy; is_copy = c.in_ok-copy.ensures; adds_copy = adds }) c.read_file.ensures.reads

pub returns-clause-adds : goal.returns-clause-adds
returns-clause-adds c = as_copy c.args.known.now c.args.file.now c.in_ok-copy.copy c.args.state.now.work.files.items _ c.in_ok-copy.ensures c.read_file.ensures.adds
