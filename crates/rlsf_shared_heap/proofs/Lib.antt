-- Lemmas on the lock and on what a call under it leaves.
mod Collected
mod LockRows
mod Replies
