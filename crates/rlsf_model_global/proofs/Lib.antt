-- The laws of the reference model behind the lock, proved.
pub mod AddressesLeft
pub mod Apart
pub mod Cursors
pub mod EqualNumbers
pub mod Histories
pub mod Journals
pub mod LastStepsDecide
pub mod Maps
pub mod Moved
pub mod PageAnswers
pub mod Replayed
pub mod Rows
pub mod Similars
pub mod StepLeavesFlex
pub mod StepLeavesHeap
