-- The definitions of the text of a trace. Read `Reading` first.
pub mod Commands
pub mod Configurations
pub mod FallibleSteps
pub mod Faults
pub mod Lines
pub mod Numbers
pub mod Printing
pub mod Reading
pub mod Words
