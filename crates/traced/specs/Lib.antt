-- Trace time and pinned files over the table of what is known.
pub mod laws
