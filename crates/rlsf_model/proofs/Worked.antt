-- Worked examples, which nobody cites.
mod FlexRows
mod NoMoveRows
mod Rows
mod TrimRows
