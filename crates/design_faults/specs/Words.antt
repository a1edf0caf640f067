-- What is said of faults (IEEE 1364-2005 where a clause is named).
use Rattle.std.specs.Prelude.{◌++◌, [], codes}
use Rattle.model.specs.Syntax.{Text}
use Rattle.preprocess.specs.declared.fault.TextFaultKind.{TextFaultKind as TextKind}
use Rattle.preprocess.specs.declared.fault.TextFaultKind.TheVariants as text
use Rattle.sizing.specs.declared.faults.ExpressionFaultKind.{ExpressionFaultKind as ExpressionKind}
use Rattle.sizing.specs.declared.faults.ExpressionFaultKind.TheVariants as expression
use Rattle.design_scopes.specs.declared.faults.Wrong.{Wrong}
use Rattle.design_scopes.specs.declared.faults.Wrong.TheVariants as design
use Rattle.design_scopes.specs.declared.faults.ConstantCallWrong.{ConstantCallWrong}
use Rattle.design_scopes.specs.declared.faults.ConstantCallWrong.TheVariants as call
use Rattle.statement_parts.specs.declared.faults.StatementKind.{StatementKind}
use Rattle.statement_parts.specs.declared.faults.StatementKind.TheVariants as statement
use Rattle.hierarchy.specs.declared.later.LaterConstruct.{LaterConstruct}
use Rattle.hierarchy.specs.declared.later.LaterConstruct.TheVariants as construct
use Rattle.expression_syntax.specs.declared.refusals.Refused.{Refused}
use Rattle.expression_syntax.specs.declared.refusals.Refused.TheVariants as refused
use Rattle.expression_syntax.specs.declared.faults.ExpectedToken.{ExpectedToken}
use Rattle.expression_syntax.specs.declared.faults.ExpectedToken.TheVariants as expected
use Rattle.syntax.specs.declared.parser.SyntaxReason.{SyntaxReason}
use Rattle.syntax.specs.declared.parser.SyntaxReason.TheVariants as syntax
use Rattle.design_faults.specs.declared.refused.LaterForm.{LaterForm}
use Rattle.design_faults.specs.declared.refused.LaterForm.TheVariants as form
use Rattle.design_faults.specs.declared.refused.WholeFault.{WholeFault}
use Rattle.design_faults.specs.declared.refused.WholeFault.TheVariants as fault
use Rattle.design_faults.specs.declared.words.Sentence.{Sentence}
use Rattle.lexemes.specs.Kinds.{keywords, keyword_spelling, sign_kinds, sign_spelling}

-- a sentence: what stands before the name in it, the name, and what stands behind it
abbrev pub sentence_text : Sentence → Text
sentence_text s = s.before.now ++ (s.name.now ++ s.behind.now)

-- that a sign or a word is expected
abbrev pub is_expected : Text → Text
is_expected name = codes "`" ++ (name ++ codes "` is expected here")

-- that what has a name isn't supported yet
abbrev pub is_later : Text → Text
is_later name = name ++ codes " isn't supported yet"

-- that what has a name isn't supported
abbrev pub is_unsupported : Text → Text
is_unsupported name = name ++ codes " isn't supported"

-- of texts that aren't cut into tokens (3), or whose directives aren't followed (19)
abbrev pub text_words : TextKind → Text
text_words text.StrayByte = codes "no token, space or comment begins here"
text_words text.UnfinishedString = codes "a string that isn't finished on its line (3.6)"
text_words text.UnfinishedComment = codes "a comment that isn't finished (3.3)"
text_words text.MalformedDirective = codes "what follows this directive isn't what it takes (19)"
text_words text.UndefinedMacro = codes "no macro of this name is defined (19.3.1)"
text_words text.MacroUsesItself = codes "the text of this macro comes to a use of itself (19.3.1)"
text_words text.MacrosTooDeep = codes "more than 256 macros use one another here"
text_words text.WrongArgumentCount = codes "the macro is defined with another number of arguments (19.3.1)"
text_words text.UnfinishedArguments = codes "the arguments of this macro have no end (19.3.1)"
text_words text.IncludeNotFound = codes "this file isn't found, or can't be read (19.5)"
text_words text.IncludesTooDeep = codes "more than 64 files include one another here"
text_words text.UnbalancedCondition = codes "this belongs to no condition of its file (19.4)"
text_words text.UnfinishedCondition = codes "this condition isn't ended in its file (19.4)"
text_words text.KeywordsDirective = codes "this directive isn't supported (19.11)"
text_words text.TooManyTokens = codes "more than 2097152 tokens come of the files and their macros"

-- of expressions (5)
abbrev pub expression_words : ExpressionKind → Text
expression_words expression.Undeclared = codes "nothing of this name is declared (12.7)"
expression_words expression.NotConstant = codes "this isn't constant; a select by what varies isn't supported yet (5.2.1)"
expression_words expression.Width = codes "more than 128 digits, or none"
expression_words expression.Count = codes "a replication has its parts 1 to 128 times, by a known constant (5.1.14)"
expression_words expression.UnsizedPart = codes "a number without a size may not stand in a concatenation (5.1.14)"
expression_words expression.Real = codes "a real number (3.5.2) isn't supported yet"
expression_words expression.NoRange = codes "this has no range, so no digit of it can be selected (5.2.1)"
expression_words expression.PartBounds = codes "the bounds of a part are known constants, in the order of its range (5.2.1)"
expression_words expression.VariableSelect = codes "a select by what varies isn't supported yet (5.2.1)"
expression_words expression.Select = codes "only a variable or a constant by its name can be selected (5.2.1)"
expression_words expression.Operator = codes "this operator isn't supported yet (5.1)"
expression_words expression.SystemFunction = codes "this system function (17) isn't supported yet"
expression_words expression.Arguments = codes "this system function takes another number of arguments"
expression_words expression.TooLarge = codes "this replication is too large"
expression_words expression.TooDeep = codes "expressions stand one within another too deep here"
expression_words expression.Refused = codes "this isn't supported here"

-- of calls of constant functions (10.4.5)
abbrev pub constant_call_words : ConstantCallWrong → Text
constant_call_words call.UnknownFunction = codes "no function of this name is declared in the module itself (10.4.5)"
constant_call_words call.InGenerateBlock = codes "a function that a generate block declares isn't constant (10.4.5)"
constant_call_words call.HierarchicalName = codes "a constant function is called by its name alone, and its body has no hierarchical names (10.4.5)"
constant_call_words call.ArgumentCount = codes "a call has an argument for each that is declared (10.4.4)"
constant_call_words call.NoInput = codes "a function has an input at least (10.4.4)"
constant_call_words call.FunctionOutput = codes "a function has no outputs (10.4.4)"
constant_call_words call.Target = codes "a constant function assigns to its own variables alone, by their names (10.4.5)"
constant_call_words call.Statement = codes "a function has no delays, events, calls of tasks or nonblocking assignments (10.4.4)"
constant_call_words call.OwnParameter = codes "a parameter that a constant function declares isn't supported; a localparam is"
constant_call_words call.SystemTask = codes "of system tasks a constant function may have $display, $write and $strobe, which do nothing there"
constant_call_words call.InnerConstant = codes "what has to be constant in a constant function calls no function (10.4.5)"
constant_call_words call.ManySteps = codes "the constant functions of the design take more than 200000 steps"
constant_call_words call.Deep = codes "more calls, statements and expressions stand in each other here than may"

-- of designs (12)
abbrev pub design_words : Wrong → Text
design_words (design.Expression kind) = expression_words kind
design_words (design.ConstantCall kind) = constant_call_words kind
design_words design.DeclaredTwice = codes "this name is declared already (12.7)"
design_words design.Deep = codes "more than 64 scopes stand around this one, as where a module has instances of itself"
design_words design.ManyScopes = codes "the design has more than 65536 scopes"
design_words design.ManyObjects = codes "the design has more than 65536 variables and constants"
design_words design.NoText = codes "this name isn't UTF-8 text"
design_words design.UnknownModule = codes "no module has this name (12.1.2)"
design_words design.UnknownParameter = codes "no parameter of this name, or of this place, may be given a value (12.2)"
design_words design.Range = codes "a range with unknown bounds, or of too many digits (4.3.1)"
design_words design.Wide = codes "a vector of more than 128 digits isn't supported"
design_words design.LoopVariable = codes "the variable of a generate loop is a genvar, with a first value and then others (12.4.1)"
design_words design.Array = codes "an array of variables (4.9) isn't supported yet"
design_words design.InitialValue = codes "a declaration's value (6.2.1) isn't supported yet"
design_words design.ManyProcesses = codes "the design has more than 16384 processes"
design_words design.EndlessLoop = codes "this generate loop takes more than 65536 turns (12.4.1)"

-- of statements (9)
abbrev pub statement_words : StatementKind → Text
statement_words (statement.Expression kind) = expression_words kind
statement_words (statement.Constant wrong) = design_words wrong
statement_words statement.Target = codes "what is assigned to is no variable by its name; nothing else is supported yet (9.2)"
statement_words statement.Event = codes "an event is a variable by its name; nothing else is supported yet (9.7.2)"
statement_words statement.Delay = codes "a delay is a constant of 0 or more; none that varies is supported yet"
statement_words statement.LongDelay = codes "a delay of more than 4294967295 ticks (19.8)"
statement_words statement.ScaledTime = codes "the time in a module whose unit isn't the tick (19.8) isn't supported yet"
statement_words statement.UnknownBlock = codes "no block of this name stands here"
statement_words statement.Fork = codes "`fork` (9.8.2) isn't supported yet"
statement_words statement.ImplicitEvents = codes "nothing that varies is read here, so `@*` would wait for ever (9.7.5)"
statement_words statement.EventInAssignment = codes "an event inside of an assignment (9.7.7) isn't supported yet"
statement_words statement.DontCares = codes "`casez` or `casex` (9.5.1) isn't supported yet"
statement_words statement.SeveralDefaults = codes "a second `default` (9.5)"
statement_words statement.ConstantWait = codes "no variable changes this condition, so `wait` could wait for ever (9.7.6)"
statement_words statement.Disable = codes "`disable` (10.3) isn't supported yet"
statement_words statement.Call = codes "the call of a function or a task isn't supported here"
statement_words statement.UnknownFunction = codes "no function of this name is declared (10.4.4)"
statement_words statement.UnknownTask = codes "no task of this name is declared (10.2.2)"
statement_words statement.ArgumentCount = codes "a call has an argument for each that is declared (10.2.2, 10.4.4)"
statement_words statement.OutputArgument = codes "an argument for an output is something that a value can be given to (10.2.2)"
statement_words statement.Recursion = codes "a function or a task that calls itself isn't supported"
statement_words statement.NoInput = codes "a function has an input at least (10.4.4)"
statement_words statement.FunctionOutput = codes "a function has no outputs (10.4.4)"
statement_words statement.InFunction = codes "a function has no delays, events, calls of tasks or nonblocking assignments (10.4.4)"
statement_words statement.CallInEvent = codes "the call of a function in an event (9.7.2) isn't supported yet"
statement_words statement.CallInWait = codes "the call of a function in a `wait` (9.7.6) isn't supported yet"
statement_words statement.CallInLabel = codes "the call of a function in a label (9.5) isn't supported yet"
statement_words statement.CallInStrobe = codes "the call of a function in a `$strobe` (17.1.2) isn't supported yet"
statement_words statement.ManyCalls = codes "the calls of the design want more copies of functions and tasks than may be"
statement_words statement.DeepCalls = codes "more statements and calls stand in each other here than may"
statement_words statement.SystemTask = codes "this system task (17) isn't supported yet"
statement_words statement.MissingArgument = codes "an argument that is left out isn't supported (17.1)"
statement_words statement.Format = codes "a format that isn't supported, or one with fewer arguments than it shows (17.1)"
statement_words statement.ManyHidden = codes "the statements of the design want more than 65536 variables of their own"
statement_words statement.Refused = codes "this isn't supported here"

-- the constructs that aren't supported yet
abbrev pub construct_name : LaterConstruct → Text
construct_name construct.Net = codes "a net (4.6)"
construct_name construct.ContinuousAssignment = codes "a continuous assignment (6.1)"
construct_name construct.Gate = codes "a gate (7.1)"
construct_name construct.Port = codes "a port (12.3)"

-- what else isn't supported yet
abbrev pub form_name : LaterForm → Text
form_name form.Array = codes "an array of variables (4.9)"
form_name form.InitialValue = codes "a declaration's value (6.2.1)"
form_name form.Fork = codes "`fork` (9.8.2)"
form_name form.DontCares = codes "`casez` or `casex` (9.5.1)"
form_name form.Disable = codes "`disable` (10.3)"
form_name form.EventInAssignment = codes "an event inside of an assignment (9.7.7)"
form_name form.PartTarget = codes "an assignment to a part, or to several variables (9.2)"
form_name form.Arithmetic = codes "this operator (5.1)"
form_name form.SystemTask = codes "this system task (17)"
form_name form.SystemFunction = codes "this system function (17)"
form_name form.Real = codes "a real number (3.5.2)"
form_name form.LongNumber = codes "a number without a size of more than 32 digits (3.5.1)"

-- of what this language doesn't have
abbrev pub refused_words : Refused → Text
refused_words refused.WideNumber = is_unsupported (codes "a number of more than 128 digits (3.5.1)")
refused_words refused.MalformedNumber = is_unsupported (codes "a digit that isn't one of this base (3.5.1)")
refused_words refused.Real = is_unsupported (codes "`real` (4.8)")
refused_words refused.ChargeStorage = is_unsupported (codes "`trireg` (4.6.3)")
refused_words refused.Strength = is_unsupported (codes "a strength (7.9)")
refused_words refused.NetDelay = is_unsupported (codes "the delay of a net, a gate or a continuous assignment (6.1.3, 7.14)")
refused_words refused.Pull = is_unsupported (codes "`pullup` or `pulldown` (7.8)")
refused_words refused.Switch = is_unsupported (codes "a switch (7.5 to 7.7)")
refused_words refused.Primitive = is_unsupported (codes "a primitive (8)")
refused_words refused.Configuration = is_unsupported (codes "a configuration (13)")
refused_words refused.Library = is_unsupported (codes "a library (13.2)")
refused_words refused.ProceduralAssignment = is_unsupported (codes "`assign` or `deassign` in a process (9.3.1)")
refused_words refused.Force = is_unsupported (codes "`force` or `release` (9.3.2)")
refused_words refused.NonblockingEvent = is_unsupported (codes "an event inside of a nonblocking assignment (9.7.7)")
refused_words refused.SystemVerilog = codes "this is SystemVerilog, and not Verilog (IEEE 1364-2005)"

-- of what was expected (annex A): signs and reserved words by their spelling
abbrev pub expected_words : ExpectedToken → Text
expected_words expected.Expression = codes "an expression is expected here"
expected_words expected.Statement = codes "a statement is expected here"
expected_words expected.Item = codes "an item of a module, or the end of what holds it, is expected here"
expected_words expected.Module = codes "`module` is expected here"
expected_words expected.Name = codes "a name is expected here"
expected_words expected.Digits = codes "the digits of a number are expected here"
expected_words expected.Port = codes "a port is expected here"
expected_words expected.Target = codes "what a value is given to is expected here"
expected_words (expected.Sign sign) = is_expected (sign_spelling sign_kinds sign)
expected_words (expected.Keyword word) = is_expected (keyword_spelling keywords [] word)

-- of tokens that are no modules (annex A)
abbrev pub syntax_words : SyntaxReason → Text
syntax_words (syntax.Expected found) = expected_words found
syntax_words syntax.Deep = codes "more brackets, blocks and statements are open here, or more operators stand in a statement, than may"

-- of a fault
abbrev pub own_words : WholeFault → Text
own_words (fault.Text kind) = text_words kind
own_words fault.TooMuchText = codes "the files have more text than 4294967295 bytes"
own_words (fault.Syntax reason) = syntax_words reason
own_words (fault.EarlyEnd reason) = syntax_words reason
own_words (fault.Refused lacked) = refused_words lacked
own_words (fault.LaterConstruct lacked) = is_later (construct_name lacked)
own_words (fault.LaterForm lacked) = is_later (form_name lacked)
own_words fault.DeepBranches = codes "more than 1024 branches or labels here, with the statements around them"
own_words fault.ModuleTwice = codes "a second module of this name (12.1)"
own_words (fault.Design wrong) = design_words wrong
own_words (fault.Statement kind) = statement_words kind
own_words fault.Timescales = codes "of the modules some have a `timescale` before them, and others have none (19.8)"
own_words fault.NoModule = codes "the files have no module"
own_words fault.NoTopOfName = codes "no module has the name that --top gives"
own_words fault.NoTop = codes "no module is left as the top one: each has an instance in another one"
own_words fault.UnknownTopParameter = codes "no top module has a parameter of a name that -P gives a value"
own_words fault.ParameterValue = codes "what -P gives a parameter is no expression of constants"

-- what stands before them: that the text ends, where that is the fault
abbrev pub words_before : WholeFault → Text
words_before (fault.EarlyEnd reason) = codes "the text ends behind this: "
words_before _ = []

-- the words of a fault
abbrev pub fault_words : WholeFault → Text
fault_words found = words_before found ++ own_words found
