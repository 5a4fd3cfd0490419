-- Demand 1: what a refused call of the boundary tells, and that it writes nothing. A call is refused where the number
-- that it tells is not 0; κs, the arguments, the answer r and the parameters e as the call leaves them are those that
-- its promise is about (sagivelume/proofs/Clauses). The order of each call stands here check by check; what a check
-- asks, and of which number it is, is in om3/specs: Refusals, RecordCalls and OldLog. [refusals 17, 18, 19, 20]
-- [wish1 6] Assumes nothing.
--
--   RefusedTold checks number place   what is told of a call with these checks is what its first cause says
--   EachRefused                       each call of the boundary that can refuse, with its checks
--   NothingWritten                    each that writes leaves the lent buffers as they were, if it is refused
use mathlib.Core.{Path.◌≡◌, Bool.◌||◌}
use Rattle.std.specs.Prelude.{List, [], ◌∷◌, ℕ, length}
use Rattle.kit.specs.Calls.{second, third, fourth, fifth}
use Rattle.words.specs.{number_of, place_of}
use Rattle.words.specs.declared.Refusal.{Refusal}
use Rattle.om3.specs.Document.{levels, Check, FirstCause, lent, check_hours, check_readings, short, table_short}
use Rattle.om3.specs.Document.{check_room, examine_table, check_window, check_day, check_column, check_depth}
use Rattle.om3.specs.Document.{record_size, hours_in, table_in, check_header, check_version, check_length, check_cut}
use Rattle.om3.specs.Document.{check_after, check_place, check_reach, column, day, opened_nodes, finished_nodes}
use Rattle.om3.specs.Document.{examine_column, answer, examine_before, check_flags, recorded_hours, check_start}
use Rattle.om3.specs.Document.{rebuilt, check_weights}
use Rattle.sagivelume.proofs.Clauses as boundary

-- The number is not 0 exactly if some check refuses, and number and place are those of the first that does.
-- [refusals 14]
pub record RefusedTold (checks : List Check) (number place : ℕ) : Type 0 where
  pub cause : ¬ (number ≡ 0)
      → (why : Refusal) × FirstCause checks why × (number ≡ number_of why) × (place ≡ place_of why)
  pub tells : (why : Refusal) → FirstCause checks why
      → ¬ (number ≡ 0) × (number ≡ number_of why) × (place ≡ place_of why)

pub record EachRefused : Type 0 where
  -- 1, 3, 2
  pub make : (κs : _) (n : _) (readings : _) (coefficients : _) (codes : _) (r : _) (e : _)
      → boundary.MakePromises κs n readings coefficients codes r e
      → let t = lent coefficients.now codes.now in
      RefusedTold
      (check_hours n
      ∷ check_room (short (length readings.now) n || table_short n t)
      ∷ check_readings n readings.now
      ∷ []) r.number r.place
  -- 1, 3, 4
  pub turn-back : (κs : _) (n : _) (coefficients : _) (codes : _) (hours : _) (r : _) (e : _)
      → boundary.TurnBackPromises κs n coefficients codes hours r e
      → let t = lent coefficients.now codes.now in
      RefusedTold
      (check_hours n
      ∷ check_room (table_short n t || short (length hours.now) n)
      ∷ examine_table n t
      ∷ []) r.number r.place
  -- 1, 3, 14, 15, 2
  pub rebuild : (κs : _) (n : _) (counts : _) (flags : _) (start : _) (hours : _) (r : _) (e : _)
      → boundary.RebuildPromises κs n counts flags start hours r e
      → let cs = counts.now in let fs = flags.now in
      RefusedTold
      (check_hours n
      ∷ check_room (short (length cs) n || (short (length fs) n || short (length hours.now) n))
      ∷ check_flags n fs
      ∷ check_start cs start (recorded_hours n fs)
      ∷ check_weights (rebuilt cs start (recorded_hours n fs))
      ∷ []) r.number r.place
  -- 1, 3, 4
  pub write-record : (κs : _) (n : _) (coefficients : _) (codes : _) (bytes : _) (r : _) (e : _)
      → boundary.WriteRecordPromises κs n coefficients codes bytes r e
      → let t = lent coefficients.now codes.now in
      RefusedTold
      (check_hours n
      ∷ check_room (table_short n t || short (length bytes.now) (record_size n))
      ∷ examine_table n t
      ∷ []) r.number r.place
  -- under 7 bytes 8; 9, 1, 10; fewer bytes than stated 8; more 11; 3, 4
  pub read-record : (κs : _) (bytes : _) (coefficients : _) (codes : _) (r : _) (e : _)
      → boundary.ReadRecordPromises κs bytes coefficients codes r e
      → let t = lent coefficients.now codes.now in
      RefusedTold
      (check_header bytes.now
      ∷ check_version bytes.now
      ∷ check_hours (hours_in bytes.now)
      ∷ check_length bytes.now
      ∷ check_cut bytes.now
      ∷ check_after bytes.now
      ∷ check_room (table_short (hours_in bytes.now) t)
      ∷ examine_table (hours_in bytes.now) (table_in bytes.now)
      ∷ []) r.number r.place
  -- the same without 3, 4
  pub open-record : (κs : _) (bytes : _) (r : _) (e : _) → boundary.OpenRecordPromises κs bytes r e
      → RefusedTold
      (check_header bytes.now
      ∷ check_version bytes.now
      ∷ check_hours (hours_in bytes.now)
      ∷ check_length bytes.now
      ∷ check_cut bytes.now
      ∷ check_after bytes.now
      ∷ []) r.number r.place
  -- 13, 8
  pub ask : (κs : _) (bytes : _) (places : _) (place : _) (r : _) (e : _)
      → boundary.AskPromises κs bytes places place r e
      → RefusedTold
      (check_place places place
      ∷ check_reach bytes.now place
      ∷ []) r.number r.place
  -- 1, 5, 6
  pub column-edges : (κs : _) (n : _) (a : _) (b : _) (w : _) (k : _) (r : _) (e : _)
      → boundary.EdgesPromises κs n a b w k r e
      → RefusedTold
      (check_hours n
      ∷ check_window n a b
      ∷ check_column w k
      ∷ []) r.number r.place
  -- 1, 3, 5, 6, 7, 4: the opened nodes
  pub stopped-column : (κs : _) (n : _) (coefficients : _) (codes : _) (a : _) (b : _) (w : _) (k : _) (d : _) (r : _)
      (e : _) → boundary.StoppedPromises κs n coefficients codes a b w k d r e
      → let t = lent coefficients.now codes.now in
      RefusedTold
      (check_hours n
      ∷ check_room (table_short n t)
      ∷ check_window n a b
      ∷ check_column w k
      ∷ check_depth n d
      ∷ examine_column (levels n) t (column a b w k) n (opened_nodes (levels n) t (column a b w k) d)
      ∷ []) r.number r.place
  -- 1, 3, 5, 6, 4: the opened nodes and those on the walks
  pub finished-column : (κs : _) (n : _) (coefficients : _) (codes : _) (a : _) (b : _) (w : _) (k : _) (r : _) (e : _)
      → boundary.FinishedPromises κs n coefficients codes a b w k r e
      → let t = lent coefficients.now codes.now in
      RefusedTold
      (check_hours n
      ∷ check_room (table_short n t)
      ∷ check_window n a b
      ∷ check_column w k
      ∷ examine_column (levels n) t (column a b w k) n (finished_nodes (levels n) t (column a b w k))
      ∷ []) r.number r.place
  -- 1, 3, 5, 4: the same of the day's hours, then of those before it
  pub day-change : (κs : _) (n : _) (coefficients : _) (codes : _) (d : _) (r : _) (e : _)
      → boundary.DayChangePromises κs n coefficients codes d r e
      → let t = lent coefficients.now codes.now in
      RefusedTold
      (check_hours n
      ∷ check_room (table_short n t)
      ∷ check_day n d
      ∷ examine_column (levels n) t (day n d) n (finished_nodes (levels n) t (day n d))
      ∷ examine_before n t d (answer (levels n) t (day n d))
      ∷ []) r.number r.place

pub record NothingWritten : Type 0 where
  pub make : (κs : _) (n : _) (readings : _) (coefficients : _) (codes : _) (r : _) (e : _)
      → boundary.MakePromises κs n readings coefficients codes r e → ¬ (r.number ≡ 0)
      → ((third e).now ≡ coefficients.now) × ((fourth e).now ≡ codes.now)
  pub turn-back : (κs : _) (n : _) (coefficients : _) (codes : _) (hours : _) (r : _) (e : _)
      → boundary.TurnBackPromises κs n coefficients codes hours r e → ¬ (r.number ≡ 0) → (fourth e).now ≡ hours.now
  pub rebuild : (κs : _) (n : _) (counts : _) (flags : _) (start : _) (hours : _) (r : _) (e : _)
      → boundary.RebuildPromises κs n counts flags start hours r e → ¬ (r.number ≡ 0) → (fifth e).now ≡ hours.now
  pub write-record : (κs : _) (n : _) (coefficients : _) (codes : _) (bytes : _) (r : _) (e : _)
      → boundary.WriteRecordPromises κs n coefficients codes bytes r e → ¬ (r.number ≡ 0) → (fourth e).now ≡ bytes.now
  pub read-record : (κs : _) (bytes : _) (coefficients : _) (codes : _) (r : _) (e : _)
      → boundary.ReadRecordPromises κs bytes coefficients codes r e → ¬ (r.number ≡ 0)
      → ((second e).now ≡ coefficients.now) × ((third e).now ≡ codes.now)
