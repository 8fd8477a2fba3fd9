-- Which threads are in no wait for a mutex, passed on to the crates above.
pub use Rattle.ptk_gate_pools.proofs.NoWaiters.{joiner_apart, reader_apart, runner_apart, sleeper_apart, still_apart}
