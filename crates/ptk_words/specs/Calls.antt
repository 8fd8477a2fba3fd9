-- The calls of a guest: the number of each in a7, and the ticks that it takes.
use Rattle.std.specs.Prelude.{ℕ, List, [], ◌∷◌, find, ◌==◌, Option, unwrap_or, option_map}
use Rattle.ptk_words.specs.declared.calls.Call.{Call}
use Rattle.ptk_words.specs.declared.calls.Call.TheVariants.{Exit, ConsolePut, ConsoleGet, ClockGettime, ClockNanosleep, PthreadCreate, PthreadExit, PthreadJoin, PthreadDetach, PthreadSelf, SchedYield, PthreadSetschedparam, PthreadGetschedparam, PthreadSetschedprio, MutexInit, MutexDestroy, MutexLock, MutexTrylock, MutexTimedlock, MutexUnlock, MutexConsistent, CondInit, CondDestroy, CondWait, CondTimedwait, CondSignal, CondBroadcast, PthreadCancel, PthreadSetcancelstate, PthreadSetcanceltype, PthreadTestcancel, CleanupPush, CleanupPop, KeyCreate, KeyDelete, PthreadSetspecific, PthreadGetspecific}

-- the number of a call and its ticks
pub record CallRow : Type 0 where
  pub number : ℕ
  pub ticks : ℕ

-- a row of the list
abbrev pub call_row : ℕ → ℕ → CallRow
call_row number ticks = record { number = number; ticks = ticks }

-- each call's number and its ticks (own)
abbrev pub call_row_of : Call → CallRow
call_row_of Exit = call_row 0 4
call_row_of ConsolePut = call_row 1 4
call_row_of ConsoleGet = call_row 2 4
call_row_of ClockGettime = call_row 3 4
call_row_of ClockNanosleep = call_row 4 6
call_row_of PthreadCreate = call_row 10 12
call_row_of PthreadExit = call_row 11 6
call_row_of PthreadJoin = call_row 12 8
call_row_of PthreadDetach = call_row 13 6
call_row_of PthreadSelf = call_row 14 2
call_row_of SchedYield = call_row 15 4
call_row_of PthreadSetschedparam = call_row 16 8
call_row_of PthreadGetschedparam = call_row 17 4
call_row_of PthreadSetschedprio = call_row 18 8
call_row_of MutexInit = call_row 20 6
call_row_of MutexDestroy = call_row 21 6
call_row_of MutexLock = call_row 22 8
call_row_of MutexTrylock = call_row 23 6
call_row_of MutexTimedlock = call_row 24 10
call_row_of MutexUnlock = call_row 25 10
call_row_of MutexConsistent = call_row 26 6
call_row_of CondInit = call_row 30 6
call_row_of CondDestroy = call_row 31 6
call_row_of CondWait = call_row 32 12
call_row_of CondTimedwait = call_row 33 14
call_row_of CondSignal = call_row 34 12
call_row_of CondBroadcast = call_row 35 16
call_row_of PthreadCancel = call_row 40 10
call_row_of PthreadSetcancelstate = call_row 41 2
call_row_of PthreadSetcanceltype = call_row 42 2
call_row_of PthreadTestcancel = call_row 43 2
call_row_of CleanupPush = call_row 44 4
call_row_of CleanupPop = call_row 45 4
call_row_of KeyCreate = call_row 50 4
call_row_of KeyDelete = call_row 51 4
call_row_of PthreadSetspecific = call_row 52 2
call_row_of PthreadGetspecific = call_row 53 2

-- all calls
abbrev pub calls : List Call
calls =
    Exit
    ∷ ConsolePut
    ∷ ConsoleGet
    ∷ ClockGettime
    ∷ ClockNanosleep
    ∷ PthreadCreate
    ∷ PthreadExit
    ∷ PthreadJoin
    ∷ PthreadDetach
    ∷ PthreadSelf
    ∷ SchedYield
    ∷ PthreadSetschedparam
    ∷ PthreadGetschedparam
    ∷ PthreadSetschedprio
    ∷ MutexInit
    ∷ MutexDestroy
    ∷ MutexLock
    ∷ MutexTrylock
    ∷ MutexTimedlock
    ∷ MutexUnlock
    ∷ MutexConsistent
    ∷ CondInit
    ∷ CondDestroy
    ∷ CondWait
    ∷ CondTimedwait
    ∷ CondSignal
    ∷ CondBroadcast
    ∷ PthreadCancel
    ∷ PthreadSetcancelstate
    ∷ PthreadSetcanceltype
    ∷ PthreadTestcancel
    ∷ CleanupPush
    ∷ CleanupPop
    ∷ KeyCreate
    ∷ KeyDelete
    ∷ PthreadSetspecific
    ∷ PthreadGetspecific
    ∷ []

-- the number of a call
abbrev pub number_of : Call → ℕ
number_of call = (call_row_of call).number

-- the ticks of a call
abbrev pub ticks_of : Call → ℕ
ticks_of call = (call_row_of call).ticks

-- the call of a number, if it is one's
abbrev pub call_of : ℕ → Option Call
call_of number = find (λ call. number_of call == number) calls

-- the ticks of the call of a number, 2 of a number that is no call's (own)
abbrev pub cost_of : ℕ → ℕ
cost_of number = unwrap_or (option_map ticks_of (call_of number)) 2
