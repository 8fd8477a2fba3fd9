-- Where a system is while it is told.
use Rattle.std.specs.Prelude.{◌≡◌, ◌≤◌, ℕ, length, max}
use Rattle.ptk_config.specs.Configuration.{Configuration}
use Rattle.ptk_system.specs.World.{World, at_tick}
use Rattle.ptk_tracepoints.specs.declared.tracer.Tracer.{Tracer}

-- the tracer begins at the tick that the system has reached, and keeps something of each of its partitions
pub record IsAt (tracer : Tracer) (world : World) : Type 0 where
  pub tick : world.tick ≡ tracer.from
  pub parts : length tracer.parts.items ≡ length world.config.sections

-- a system has gone on, to a tick of at most `stop` unless it was already later
pub record GoesOn (before : World) (stop : ℕ) (after : World) : Type 0 where
  pub run : after ≡ at_tick after.tick before
  pub config : after.config ≡ before.config
  pub from : before.tick ≤ after.tick
  pub within : after.tick ≤ max before.tick stop
