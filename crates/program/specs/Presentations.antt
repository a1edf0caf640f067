-- How a journal is told, by the words of `explain`.
use Rattle.std.specs.Prelude.{List, drop, codes, unwrap_or}
use Rattle.clap.specs.Words.{Text}
use Rattle.arguments.specs.CommandWords.{explain_rows, flag_given, number_given, radix_given}
use Rattle.arguments.specs.declared.request.ExplainRequest.{ExplainRequest}
use Rattle.explain.specs.declared.phrases.EntryStyle.{EntryStyle}
use Rattle.explain.specs.declared.telling.Presentation.{Presentation}
use Rattle.explain.specs.ExplainedText.{presentation_of}

-- the style that a request asks for
abbrev pub style_for : ExplainRequest → EntryStyle
style_for explain = record { radix = explain.radix; versions = explain.versions }

-- which entries it asks for, in that style
abbrev pub presentation_for : ExplainRequest → Presentation
presentation_for explain = presentation_of explain.from explain.to explain.from_time explain.to_time (style_for explain)

-- the style that words ask for
abbrev pub style_in : List Text → EntryStyle
style_in words = record {
  radix = radix_given (explain_rows (drop 1 words));
  versions = flag_given (codes "versions") (explain_rows (drop 1 words));
}

-- which entries they ask for, in that style
abbrev pub presentation_in : List Text → Presentation
presentation_in words =
    presentation_of (unwrap_or (number_given (codes "from") (explain_rows (drop 1 words))) 1)
    (number_given (codes "to") (explain_rows (drop 1 words)))
    (unwrap_or (number_given (codes "from-time") (explain_rows (drop 1 words))) 0)
    (number_given (codes "to-time") (explain_rows (drop 1 words)))
    (style_in words)
