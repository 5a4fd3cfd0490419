-- The names of the documents' definitions, chapter by chapter, passed on from one place to the proofs and to other
-- crates. Nothing is defined here. Assumes nothing.
pub use Rattle.om3.specs.Lists.{sum, total}
unfoldable pub use Rattle.om3.specs.Lists.{up_from, any, every, keep, last_of, first_from}
pub use Rattle.om3.specs.Series.{is_reading, is_gap, Holds, Series, bad_hours, P, hour, hours_from}
unfoldable pub use Rattle.om3.specs.Series.{levels, hour_of}
pub use Rattle.om3.specs.Nodes.{Node, InTree, number, root, left, right, is_pair, first_hour, node_of}
unfoldable pub use Rattle.om3.specs.Nodes.{width, start, hours, level_of}
pub use Rattle.om3.specs.Ranges.{is_empty, hour_range, both}
unfoldable pub use Rattle.om3.specs.Ranges.{look, range_of}
pub use Rattle.om3.specs.Table.{Table, lent, low_detail, high_detail, code, low_detail_of, high_detail_of}
pub use Rattle.om3.specs.Table.{code_of_place, table_of, HasTable}
unfoldable pub use Rattle.om3.specs.Table.{coefficient, pair_code}
pub use Rattle.om3.specs.Down.{left_low, right_low, left_high, right_high, left_half, right_half, first_of_pair}
pub use Rattle.om3.specs.Down.{second_of_pair, coefficient_at, low_detail_at, high_detail_at, code_at, root_range}
pub use Rattle.om3.specs.Down.{left_of, right_of, reached}
unfoldable pub use Rattle.om3.specs.Down.{reached_at, turned_back}
pub use Rattle.om3.specs.Checks.{Check, passes, refuses, refuse_if, and_then, answer_by, checked_by, FirstCause}
unfoldable pub use Rattle.om3.specs.Checks.{in_order}
pub use Rattle.om3.specs.Sound.{sound_root_values, is_detail, ordered, both_are, sound_details, sound_code, gap_from}
pub use Rattle.om3.specs.Sound.{sound_pair, table_nodes, all_nodes, examine_node, examine_root, examine_nodes}
unfoldable pub use Rattle.om3.specs.Sound.{sound_node, nodes_below, sound_table, examine}
pub use Rattle.om3.specs.Refusals.{check_hours, check_hour, short, table_short, check_room, examine_table, check_window}
pub use Rattle.om3.specs.Refusals.{check_day, check_column, check_depth}
unfoldable pub use Rattle.om3.specs.Refusals.{check_readings}
pub use Rattle.om3.specs.Calls.{making_checks, making, turning_back_checks, turning_back, filled, written_by}
pub use Rattle.om3.specs.Level.{has_level, places_of}
unfoldable pub use Rattle.om3.specs.Level.{level_stretch}
pub use Rattle.om3.specs.Bytes.{Bytes, InThree, bits_of, three_bytes, signed_from, bytes_at}
unfoldable pub use Rattle.om3.specs.Bytes.{bytes_of, number_from, signed_of}
pub use Rattle.om3.specs.Record.{length_for, record_length, record_size, header_of, header_size, HasRecord, length_in}
pub use Rattle.om3.specs.Record.{version_in, hours_in, coefficient_in}
unfoldable pub use Rattle.om3.specs.Record.{record_of, table_in}
pub use Rattle.om3.specs.RecordCalls.{writing_checks, writing, check_header, check_version, check_length, check_cut}
pub use Rattle.om3.specs.RecordCalls.{check_after, opening_checks, Openable, unpacking_checks, unpacking, check_place}
pub use Rattle.om3.specs.RecordCalls.{check_reach}
unfoldable pub use Rattle.om3.specs.RecordCalls.{opening, asking_view, asking}
pub use Rattle.om3.specs.Columns.{ceil, edge, column, in_column, column_hours, no_hour, edges_checks}
unfoldable pub use Rattle.om3.specs.Columns.{edges}
pub use Rattle.om3.specs.Stopped.{has_reading, opened_nodes, is_outer, is_inner, inner, examine_column}
unfoldable pub use Rattle.om3.specs.Stopped.{shares, inside, range_over, opened, visited, count_at, outer, inner_nodes}
unfoldable pub use Rattle.om3.specs.Stopped.{stopped}
pub use Rattle.om3.specs.Finished.{levels_of, nodes_of, end_of, towards_first, towards_last, first_walk, last_walk}
pub use Rattle.om3.specs.Finished.{reading_at, walks_from, answer_from, answer, count, finished_nodes}
unfoldable pub use Rattle.om3.specs.Finished.{walk_nodes, walk_end, inside_nodes, finished}
pub use Rattle.om3.specs.Joined.{joined}
pub use Rattle.om3.specs.Days.{day, before, change_of, examine_before, days_of, added_by, span_of}
unfoldable pub use Rattle.om3.specs.Days.{day_change}
pub use Rattle.om3.specs.Text.{ascii, line_feed, space, minus, Parts, zero_digit, digit, is_digit, is_numeral}
pub use Rattle.om3.specs.Text.{with_digit, value_of, window_digits, window_of, hour_digits, after_minus, lines_of}
unfoldable pub use Rattle.om3.specs.Text.{split, window_line, hour_line, without_end}
pub use Rattle.om3.specs.Printed.{signed_decimal, refusal_line, four_fields, column_line, header, drawn_text, grams_of}
pub use Rattle.om3.specs.Printed.{check_number, printing_checks, printed_of}
unfoldable pub use Rattle.om3.specs.Printed.{digits_of, decimal, column_lines, check_lines, check_numbers, printed}
pub use Rattle.om3.specs.OldLog.{flag_of, count_of, recorded, recorded_hours, residue, wrapped, signed_step, step}
pub use Rattle.om3.specs.OldLog.{rebuilt, rebuilt_series, check_flag, check_start, check_weight, check_weights}
pub use Rattle.om3.specs.OldLog.{rebuilding_checks, rebuilding, Neighbours, TrueLog, true_series}
unfoldable pub use Rattle.om3.specs.OldLog.{weights_after, held_at, check_flags}
pub use Rattle.om3.specs.OldText.{names_start, start_of, is_count, count_in, flag_in, check_start_line, check_count}
pub use Rattle.om3.specs.OldText.{old_text_checks, weight_text, rebuilt_of}
unfoldable pub use Rattle.om3.specs.OldText.{check_counts, series_text, rebuilt_text}
pub use Rattle.om3.specs.Looked.{reading_of, look_over, Covers, LiesWithin}
unfoldable pub use Rattle.om3.specs.Looked.{readings_in, least, greatest, look_through}
pub use Rattle.om3.specs.Drawn.{Drawn, Ranged}
pub use Rattle.om3.specs.Numbers.{Answered, numbers, unmarked, outside, further, printing}
pub use Rattle.om3.specs.TwoCauses.{two_causes}
pub use Rattle.om3.specs.LaterNumbers.{old_logs, day_changes}
