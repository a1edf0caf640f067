-- The first of the tables that has a kind for the text.
use Rattle.std.proofs.Common.{◌++◌, ap, sym, ◌∙◌}
use Rattle.lexemes.specs.Kinds.{KindsOfTexts, kind_of_text, keywords_a_to_e, keywords_f_to_n, keywords_o_to_s, keywords_t_to_x}
use Rattle.lexemes.proofs.Tables.{first_of, not_first}
use Rattle.lexemes.proofs.words.keyword.Goals as goal

pub returns-then-is_some : goal.returns-then-is_some
returns-then-is_some c =
    first_of _ keywords_a_to_e (keywords_f_to_n ++ (keywords_o_to_s ++ keywords_t_to_x)) c.args.text.now _ _ c.keywords_a_to_e.ensures c.kind_of_text-found.ensures c.is_some.ensures c.if-is_some.true

pub returns-then-is_some-2 : goal.returns-then-is_some-2
returns-then-is_some-2 c =
    first_of _ keywords_f_to_n (keywords_o_to_s ++ keywords_t_to_x) c.args.text.now _ _ c.keywords_f_to_n.ensures c.kind_of_text-found-2.ensures c.is_some-2.ensures c.if-is_some-2.true
    ∙ sym (not_first _ keywords_a_to_e (keywords_f_to_n ++ (keywords_o_to_s ++ keywords_t_to_x)) c.args.text.now _ _ c.keywords_a_to_e.ensures c.kind_of_text-found.ensures c.is_some.ensures
    c.if-is_some.false)

pub returns-then-is_some-3 : goal.returns-then-is_some-3
returns-then-is_some-3 c =
    first_of _ keywords_o_to_s keywords_t_to_x c.args.text.now _ _ c.keywords_o_to_s.ensures c.kind_of_text-found-3.ensures c.is_some-3.ensures c.if-is_some-3.true
    ∙ sym (not_first _ keywords_f_to_n (keywords_o_to_s ++ keywords_t_to_x) c.args.text.now _ _ c.keywords_f_to_n.ensures c.kind_of_text-found-2.ensures c.is_some-2.ensures c.if-is_some-2.false)
    ∙ sym (not_first _ keywords_a_to_e (keywords_f_to_n ++ (keywords_o_to_s ++ keywords_t_to_x)) c.args.text.now _ _ c.keywords_a_to_e.ensures c.kind_of_text-found.ensures c.is_some.ensures
    c.if-is_some.false)

pub returns : goal.returns
returns c =
    c.kind_of_text.ensures ∙ ap (λ (rows : KindsOfTexts). kind_of_text rows c.args.text.now) c.keywords_t_to_x.ensures
    ∙ sym (not_first _ keywords_o_to_s keywords_t_to_x c.args.text.now _ _ c.keywords_o_to_s.ensures c.kind_of_text-found-3.ensures c.is_some-3.ensures c.if-is_some-3.false)
    ∙ sym (not_first _ keywords_f_to_n (keywords_o_to_s ++ keywords_t_to_x) c.args.text.now _ _ c.keywords_f_to_n.ensures c.kind_of_text-found-2.ensures c.is_some-2.ensures c.if-is_some-2.false)
    ∙ sym (not_first _ keywords_a_to_e (keywords_f_to_n ++ (keywords_o_to_s ++ keywords_t_to_x)) c.args.text.now _ _ c.keywords_a_to_e.ensures c.kind_of_text-found.ensures c.is_some.ensures
    c.if-is_some.false)
