-- The tables are looked through from the last on.
use Rattle.std.proofs.Common.{[], ◌++◌, ap, ◌∙◌}
use Rattle.lexemes.specs.Kinds.{KindsOfTexts, keyword_spelling, keywords_a_to_e, keywords_f_to_n, keywords_o_to_s, keywords_t_to_x}
use Rattle.lexemes.proofs.Tables.{spelled_by}
use Rattle.lexemes.proofs.words.keyword_text.Goals as goal

pub returns : goal.returns
returns c =
    spelled_by _ keywords_a_to_e (keywords_f_to_n ++ (keywords_o_to_s ++ keywords_t_to_x)) c.args.found _ _ c.keywords_a_to_e.ensures c.keyword_in.ensures
    (spelled_by _ keywords_f_to_n (keywords_o_to_s ++ keywords_t_to_x) c.args.found _ _ c.keywords_f_to_n.ensures c.keyword_in-text-3.ensures
    (spelled_by _ keywords_o_to_s keywords_t_to_x c.args.found _ _ c.keywords_o_to_s.ensures c.keyword_in-text-2.ensures
    (c.keyword_in-text.ensures ∙ ap (λ (rows : KindsOfTexts). keyword_spelling rows [] c.args.found) c.keywords_t_to_x.ensures)))
