pub mod Deadlocks
