-- Each call is such a call, as its own crate shows. Assumes nothing.
use Rattle.sizes.proofs.Clauses as sizes
use Rattle.making.proofs.Clauses as making
use Rattle.old_log.proofs.Clauses as old_log
use Rattle.turning.proofs.Clauses as turning
use Rattle.level.proofs.Clauses as leveling
use Rattle.writing.proofs.Clauses as writing
use Rattle.reading.proofs.Clauses as reading
use Rattle.opening.proofs.Clauses as opening
use Rattle.view.proofs.Clauses as view
use Rattle.windows.proofs.Clauses as windows
use Rattle.columns.proofs.Clauses as columns
use Rattle.answers.proofs.Clauses as answers
use Rattle.days.proofs.Clauses as days
use Rattle.parsing.proofs.Clauses as parsing
use Rattle.printing.proofs.Clauses as printing
use Rattle.old_text.proofs.Clauses as old_text
use Rattle.sagivelume.proofs.Clauses as boundary
use Rattle.theorems.specs.Once.{EachTold, EachCall}

each-told : EachTold
each-told =
    record {
      places = boundary.places-call;
      record-bytes = boundary.record-bytes-call;
      make = boundary.make-call;
      turn-back = boundary.turn-back-call;
      rebuild = boundary.rebuild-call;
      level = boundary.level-call;
      write-record = boundary.write-record-call;
      read-record = boundary.read-record-call;
      open-record = boundary.open-record-call;
      ask = boundary.ask-call;
      column-edges = boundary.edges-call;
      stopped-column = boundary.stopped_call;
      finished-column = boundary.finished-call;
      join = boundary.join-call;
      day-change = boundary.day-change-call;
    }

pub each-call : EachCall
each-call =
    record {
      told = each-told;
      places-needed = sizes.places-call;
      bytes-needed = sizes.bytes-call;
      make = making.make-call;
      turn-back = turning.turn-back-call;
      rebuild = old_log.rebuild-call;
      stretch = leveling.stretch-call;
      level = leveling.level-call;
      write-record = writing.write-record-call;
      read-record = reading.read-record-call;
      open-record = opening.open-record-call;
      ask = opening.ask-call;
      open-view = view.open-call;
      ask-view = view.ask-call;
      ask-record = view.ask-record-call;
      column-edges = windows.edges-call;
      stopped-column = columns.stopped_call;
      finished-column = columns.finished-call;
      join = answers.join-call;
      day-change = days.day-change-call;
      begin = parsing.begin-call;
      read = parsing.read-call;
      close = parsing.close-call;
      decide = printing.decide-call;
      print = printing.print-call;
      decide-old-log = old_text.decide-call;
      print-old-log = old_text.print-call;
    }
