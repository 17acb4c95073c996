-- Lemmas about the text of a trace: its lines, commands, numbers and faults.
pub mod Commands
pub mod LayoutTests
pub mod LineParts
pub mod NumberTests
pub mod TextFaults
