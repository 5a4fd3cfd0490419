-- Demand 1 for the calls: each asks nothing, promises one fact, and gives one result. [statements 1] What this means
-- of a call is `Call` (kit/specs/Calls), said of the clauses that the kit reads from its source; which fact it
-- promises and what its result is, its answer and each buffer lent to be written, stands in the crate of the call,
-- in proofs/Clauses: MakeCall and so on. That a call ends is what the kit demands of every function. Assumes
-- nothing.
--
--   EachTold   the calls of the boundary, to which those that C and Rust link hand on (sagivelume_c/proofs/Clauses)
--   EachCall   these, and the calls behind them, those of the view and those of the printer
use Rattle.sizes.proofs.Clauses as sizes
use Rattle.making.proofs.Clauses as making
use Rattle.old_log.proofs.Clauses as old_log
use Rattle.turning.proofs.Clauses as turning
use Rattle.level.proofs.Clauses as leveling
use Rattle.writing.proofs.Clauses as writing
use Rattle.reading.proofs.Clauses as reading
use Rattle.opening.proofs.Clauses as opening
use Rattle.view.proofs.Clauses as view
use Rattle.windows.proofs.Clauses as windows
use Rattle.columns.proofs.Clauses as columns
use Rattle.answers.proofs.Clauses as answers
use Rattle.days.proofs.Clauses as days
use Rattle.parsing.proofs.Clauses as parsing
use Rattle.printing.proofs.Clauses as printing
use Rattle.old_text.proofs.Clauses as old_text
use Rattle.sagivelume.proofs.Clauses as boundary

pub record EachTold : Type 2 where
  pub places : boundary.PlacesCall
  pub record-bytes : boundary.RecordBytesCall
  pub make : boundary.MakeCall
  pub turn-back : boundary.TurnBackCall
  pub rebuild : boundary.RebuildCall
  pub level : boundary.LevelCall
  pub write-record : boundary.WriteRecordCall
  pub read-record : boundary.ReadRecordCall
  pub open-record : boundary.OpenRecordCall
  pub ask : boundary.AskCall
  pub column-edges : boundary.EdgesCall
  pub stopped-column : boundary.StoppedCall
  pub finished-column : boundary.FinishedCall
  pub join : boundary.JoinCall
  pub day-change : boundary.DayChangeCall

pub record EachCall : Type 2 where
  pub told : EachTold
  -- Sizes: the coefficients of a table, the bytes of a record.
  pub places-needed : sizes.PlacesCall
  pub bytes-needed : sizes.BytesCall
  -- Tables: making and turning back; rebuilding the series of an old log; one level's details, as a stretch of places
  -- and as the lent part itself.
  pub make : making.MakeCall
  pub turn-back : turning.TurnBackCall
  pub rebuild : old_log.RebuildCall
  pub stretch : leveling.StretchCall
  pub level : leveling.LevelCall
  -- Records: writing and reading; opening; asking bytes of P coefficients, and asking a record; the view of a record.
  pub write-record : writing.WriteRecordCall
  pub read-record : reading.ReadRecordCall
  pub open-record : opening.OpenRecordCall
  pub ask : opening.AskCall
  pub open-view : view.OpenCall
  pub ask-view : view.AskCall
  pub ask-record : view.AskRecordCall
  -- Columns: the edges, the answer stopped at a depth, the finished answer; joining; the day change.
  pub column-edges : windows.EdgesCall
  pub stopped-column : columns.StoppedCall
  pub finished-column : columns.FinishedCall
  pub join : answers.JoinCall
  pub day-change : days.DayChangeCall
  -- The printer: reading a text piece by piece, deciding what is printed, and printing it piece by piece.
  pub begin : parsing.BeginCall
  pub read : parsing.ReadCall
  pub close : parsing.CloseCall
  pub decide : printing.DecideCall
  pub print : printing.PrintCall
  -- The old log reader: deciding what is printed, and printing it piece by piece.
  pub decide-old-log : old_text.DecideCall
  pub print-old-log : old_text.PrintCall
