-- Notes as they stand, read as plain lists.
use Rattle.certificates.specs.declared.note.StepNote.TheInside.{Inside}
use Rattle.certificates.specs.Notes.{NoteView}

-- the lists of a note
abbrev pub view_of : Inside → NoteView
view_of n =
    record {
      owner = n.owner;
      uses = n.uses;
      writes = n.writes;
      changes = n.changes;
      awaits = n.awaits;
      woken = n.woken;
      ended = n.ended;
      assigns = n.assigns.items;
      prints = n.prints;
      strobes = n.strobes;
      finishes = n.finishes;
    }
