-- The constants of document 01, what it says of each case of the types of this crate, and how far ranges go.
pub mod Constants
pub mod Said
pub mod Bounds
-- Passed on by their names alone.
pub use Constants.{largest_level, largest_hours, largest_reading, largest_detail, left_mark, right_mark, gap_mark, gap}
pub use Constants.{most_columns, day_hours, version, turn, half_turn}
pub use Said.{number_of, place_of, low_of, high_of, refused, taken, values_of, said_of_finished, said_of_stopped}
pub use Said.{said_of_taking, said_of_edges, said_of_day_change, said_of_writing, said_of_unpacking, said_of_opening}
pub use Said.{said_of_asking}
pub use Bounds.{Readings}
