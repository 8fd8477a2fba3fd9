-- The worked rows: what the definitions say of small guests and of built states.
pub mod Images
pub mod Runs
pub mod Plans
pub mod Traces
pub mod Threads
pub mod Inputs
pub mod Times
pub mod States
pub mod Priorities
pub mod Waits
pub mod Robust
pub mod Cancellations
pub mod Refusals
pub mod Conditions
pub mod Words
