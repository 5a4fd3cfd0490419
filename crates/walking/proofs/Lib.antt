-- What the proof of the walk rests on.
pub mod Walking
