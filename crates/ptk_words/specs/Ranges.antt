-- The ranges within which the numbers and the input of a section lie.
use Rattle.std.specs.Prelude.{◌≡◌, ◌≤◌, ◌*◌, ◌%◌, List, length, All, AllPairs}
use Rattle.ptk_words.specs.declared.TheConstants.{LAST_TICK}
use Rattle.ptk_words.specs.declared.sections.Limits.{Limits}
use Rattle.ptk_words.specs.declared.sections.Arrival.{Arrival}

-- the numbers of a section are in their ranges, and all default stacks together fit into the memory (own); a run may keep a
-- longer trace than the 1,024 entries that a configuration may ask for (own)
pub record IsWithinLimits (limits : Limits) : Type 0 where
  pub memory_from : 4096 ≤ limits.memory
  pub memory_to : limits.memory ≤ 1048576
  pub memory_by : limits.memory % 16 ≡ 0
  pub threads_from : 1 ≤ limits.threads
  pub threads_to : limits.threads ≤ 32
  pub stack_from : 16 ≤ limits.stack
  pub stack_to : limits.stack ≤ 65536
  pub stack_by : limits.stack % 16 ≡ 0
  pub stacks : limits.threads * limits.stack ≤ limits.memory
  pub mutexes_to : limits.mutexes ≤ 64
  pub conditions_to : limits.conditions ≤ 32
  pub keys_to : limits.keys ≤ 32
  pub interval_from : 1 ≤ limits.interval
  pub interval_to : limits.interval ≤ 1000000
  pub ring_from : 1 ≤ limits.ring
  pub ring_to : limits.ring ≤ 256
  pub output_to : limits.output ≤ 65536
  pub trace_to : limits.trace ≤ 1048576

-- the ticks of the input never fall, none is above 2^40, and there are at most 65536 bytes (own)
pub record IsInput (arrivals : List Arrival) : Type 0 where
  pub never_falling : AllPairs (λ a b. a.tick ≤ b.tick) arrivals
  pub in_time : All (λ a. a.tick ≤ LAST_TICK) arrivals
  pub few : length arrivals ≤ 65536
