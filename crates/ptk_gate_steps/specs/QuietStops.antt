-- The tick before which nothing but steps of the running thread can come.
use Rattle.std.specs.Prelude.{◌+◌, ◌-◌, min, if◌then◌else◌, List, Option, option_map, unwrap_or, slice_get}
use Rattle.ptk_words.specs.Names.{Tick}
use Rattle.ptk_words.specs.declared.sections.Limits.{Limits}
use Rattle.ptk_words.specs.declared.threads.Thread.{Thread}
use Rattle.ptk_words_model.specs.State.{Console, Part}
use Rattle.ptk_words_model.specs.Schedule.{is_round_robin}
use Rattle.ptk_words_model.specs.Withdrawal.{deadlines_of}
use Rattle.ptk_clock.specs.ByThread.{least_deadline}

-- the earlier of the tick stop and that of the first input still to come
abbrev pub before_input : Console → Tick → Tick
before_input console stop = unwrap_or (option_map (λ a. min a.tick stop) (slice_get console.coming 0)) stop

-- the earlier of the tick stop and the least deadline of these (clock_nanosleep, pthread_mutex_timedlock, pthread_cond_timedwait)
abbrev pub before_deadline : List (Option Tick) → Tick → Tick
before_deadline deadlines stop = unwrap_or (option_map (λ deadline. min deadline stop) (least_deadline deadlines)) stop

-- the earliest of the tick stop, that of the first input still to come, and the least deadline of a thread's wait (own)
abbrev pub before_event : Part → Tick → Tick
before_event s stop = before_deadline (deadlines_of s.locks) (before_input s.console stop)

-- the earlier of the tick stop and the one with which the thread's round-robin interval ends (XSH 2.8.4, SCHED_RR)
abbrev pub before_interval_end : Limits → Tick → Thread → Tick → Tick
before_interval_end limits tick thread stop = if is_round_robin thread.policy then min (tick + (limits.interval - thread.used - 1)) stop else stop

-- the earliest of them all
abbrev pub quiet_stop : Limits → Tick → Thread → Part → Tick → Tick
quiet_stop limits tick thread s stop = before_interval_end limits tick thread (before_event s stop)
