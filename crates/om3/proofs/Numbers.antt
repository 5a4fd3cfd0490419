-- The definitions answer as document 01 says, by computing them. Assumes nothing.
use Rattle.kit.proofs.{refl, flat_map, flatten, ℕ}
use Rattle.om3.specs.Document.{up_from, any, every, keep, first_from, last_of, levels, hour_of, width, start, hours}
use Rattle.om3.specs.Document.{level_of, look, range_of, coefficient, pair_code, reached_at, in_order, sound_node}
use Rattle.om3.specs.Document.{nodes_below, examine, check_readings, level_stretch, bytes_of, number_from, signed_of}
use Rattle.om3.specs.Document.{record_of, table_in, opening, asking_view, asking, edges, shares, inside, opened}
use Rattle.om3.specs.Document.{visited, count_at, range_over, outer, inner_nodes, stopped, walk_nodes, walk_end}
use Rattle.om3.specs.Document.{inside_nodes, finished, day_change, split, window_line, hour_line, without_end}
use Rattle.om3.specs.Document.{digits_of, decimal, column_lines, check_lines, check_numbers, printed, Answered}
use Rattle.om3.specs.Document.{weights_after, held_at, check_flags, numbers, unmarked, outside, further, printing}

-- What is computed, for these lists and for those of Causes and LaterNumbers.
unfoldable pub computing : Unit {0}
unfolding up_from any every keep first_from levels hour_of width start hours level_of look range_of coefficient
    pair_code reached_at in_order sound_node nodes_below examine check_readings edges shares inside opened visited
    count_at range_over outer inner_nodes stopped walk_nodes walk_end last_of inside_nodes finished day_change
    level_stretch bytes_of number_from signed_of record_of table_in opening asking_view asking split window_line
    hour_line without_end digits_of decimal column_lines check_lines check_numbers printed weights_after held_at
    check_flags flat_map flatten
computing = tt

-- The numbers marked [P], 1 to 10.
pub numbers-hold : (c e : ℕ) → Answered (numbers c e)
unfolding computing
numbers-hold c e = refl

-- Numbers 11 and 12, and the record's sizes.
pub unmarked-hold : Answered unmarked
unfolding computing
unmarked-hold = refl

-- Documents 003 and 004.
pub outside-hold : Answered outside
unfolding computing
outside-hold = refl

-- Where document 01 leaves room or an error comes easily.
pub further-hold : Answered further
unfolding computing
further-hold = refl

-- What is printed: document 01's example, and texts where it leaves room.
pub printing-holds : Answered printing
unfolding computing
printing-holds = refl
