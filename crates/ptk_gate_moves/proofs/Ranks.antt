-- The laws of a state put back as it was, passed on to the crates above.
pub use Rattle.ptk_gate_pools.proofs.Ranks.{same, put_same}
