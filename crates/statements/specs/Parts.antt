-- What a token does in its statement, by the token behind it and by what stands before it.
use Rattle.std.specs.Prelude.{Bool, true, false, ◌&&◌, if◌then◌else◌, Option, Some, None}
use Rattle.tokens.specs.declared.token.Kind.{Kind}
use Rattle.tokens.specs.declared.token.Kind.TheVariants as k
use Rattle.tokens.specs.Tokens.{same_kind}
use Rattle.statements.specs.declared.part.StatementPart.{StatementPart}
use Rattle.statements.specs.declared.part.StatementPart.TheVariants as p
use Rattle.statements.specs.contracts.part.StatementPart.{the_type}
use denote.Enum.Bare.{sameb}

-- Two parts are the same.
unfoldable pub same_part : StatementPart → StatementPart → Bool
same_part = sameb the_type

-- A name that isn't the left side of an assignment is waited for in an event list, and read elsewhere, but where nothing is done with it.
abbrev pub part_inside : Bool → Bool → Option StatementPart
part_inside event_list silent = if event_list then Some p.Awaited else (if silent then None else Some p.Read)

-- A name with which a statement begins is assigned before `<=`.
abbrev pub is_assigned : Kind → Bool → Bool
is_assigned follower begins = same_kind follower k.AtMost && begins

-- A name before `=` is written; else it is assigned, or neither.
abbrev pub part_of_name : Kind → Bool → Bool → Bool → Option StatementPart
part_of_name follower begins event_list silent =
    if same_kind follower k.Assign then Some p.Written else (if is_assigned follower begins then Some p.Assigned else part_inside event_list silent)

-- A name does so, a system name prints, strobes or finishes the run, and no other token does anything.
abbrev pub part_at : Kind → Kind → Bool → Bool → Bool → Option StatementPart
part_at k.Name follower begins event_list silent = part_of_name follower begins event_list silent
part_at k.Display follower begins event_list silent = Some p.Printing
part_at k.Strobe follower begins event_list silent = Some p.Strobing
part_at k.Finish follower begins event_list silent = Some p.Finishing
part_at kind follower begins event_list silent = None
