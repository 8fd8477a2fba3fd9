-- Keys, thread-specific data and destructors (pthread_key_create).
use Rattle.std.specs.Prelude.{ℕ, suc, Bool, not, ◌&&◌, List, [], map, filter, find, replicate, ◌==◌, nat_lt, if◌then◌else◌, Option, None, option_map, option_and_then, unwrap_or, is_some, slice_get}
use Rattle.std.specs.Option.{option_or}
use Rattle.ptk_words.specs.Names.{KeyNumber, Pointer, ThreadNumber, Word}
use Rattle.ptk_words.specs.declared.TheConstants.{DESTRUCTOR_ROUNDS}
use Rattle.ptk_words.specs.declared.threads.Phase.{Phase}
use Rattle.ptk_words.specs.declared.threads.Phase.TheVariants.{Normal, Unwinding, Ended}
use Rattle.ptk_words.specs.Pools.{pool_get, pool_set, pool_update, numbered, numbers_of}
use Rattle.ptk_words_model.specs.declared.Rounds.{Rounds}
use Rattle.ptk_words_model.specs.State.{Keys}

-- ---- keys and values

-- a key in use (pthread_key_create)
abbrev pub is_key : Keys → KeyNumber → Bool
is_key keys k = is_some (pool_get keys.destructors k)

-- 0 for every key of the pool (pthread_key_create)
abbrev pub no_values : ℕ → List Word
no_values keys = replicate keys 0

-- no destructor called (pthread_key_create)
abbrev pub no_rounds : Rounds
no_rounds = record { round = 0; passed = 0 }

-- the values of a thread, by key (pthread_setspecific)
abbrev pub values_of : Keys → ThreadNumber → List Word
values_of keys t = unwrap_or (numbered keys.values t) []

-- the value of a key (pthread_getspecific)
abbrev pub value_of : List Word → KeyNumber → Word
value_of values k = unwrap_or (numbered values k) 0

-- the values of a thread changed by f
abbrev pub with_values : ThreadNumber → (List Word → List Word) → Keys → Keys
with_values t f keys = record keys { values = pool_update keys.values t f }

-- how far the destructor calls of a thread are, changed by f
abbrev pub with_rounds : ThreadNumber → (Rounds → Rounds) → Keys → Keys
with_rounds t f keys = record keys { rounds = pool_update keys.rounds t f }

-- a new thread has 0 for every key of the pool, and no destructor called (pthread_key_create)
abbrev pub with_new_specific : ℕ → ThreadNumber → Keys → Keys
with_new_specific keys t s = with_values t (λ _. no_values keys) (with_rounds t (λ _. no_rounds) s)

-- a key with this destructor, or free, and 0 in every thread (pthread_key_create, pthread_key_delete)
abbrev pub with_key : KeyNumber → Option Pointer → Keys → Keys
with_key k destructor keys =
    record keys { destructors = pool_set keys.destructors k destructor; values = map (λ values. pool_set values k 0) keys.values }

-- the thread's value of a key, 0 of an unknown key (pthread_getspecific; own)
abbrev pub specific : Keys → ThreadNumber → KeyNumber → Word
specific keys t k = if is_key keys k then value_of (values_of keys t) k else 0

-- ---- destructors

-- the destructor of a key, 0 for none (pthread_key_create)
abbrev pub destructor_of : Keys → KeyNumber → Pointer
destructor_of keys k = unwrap_or (pool_get keys.destructors k) 0

-- the value is not 0, and the key has a destructor (pthread_key_create)
abbrev pub is_due : Keys → List Word → KeyNumber → Bool
is_due keys values k = not (destructor_of keys k == 0) && not (value_of values k == 0)

-- the keys whose destructor is due, in ascending order (pthread_key_create; own)
abbrev pub due_keys : Keys → List Word → List KeyNumber
due_keys keys values = filter (is_due keys values) (numbers_of keys.destructors)

-- a destructor's call: its round, its key and the argument (pthread_key_create)
pub record DestructorCall : Type 0 where
  pub round : ℕ
  pub key : ℕ
  pub argument : ℕ

-- the call of a key's destructor, in a round (pthread_key_create)
abbrev pub destructor_call : List Word → ℕ → KeyNumber → DestructorCall
destructor_call values round k = record { round = round; key = k; argument = value_of values k }

-- the least key above the last one passed, in this round (pthread_key_create; own)
abbrev pub due_in_round : Keys → List Word → Rounds → Option DestructorCall
due_in_round keys values rounds = option_map (destructor_call values rounds.round) (find (λ k. nat_lt rounds.passed k) (due_keys keys values))

-- the least key, in the next round, up to the greatest number of rounds (PTHREAD_DESTRUCTOR_ITERATIONS; own)
abbrev pub due_in_next_round : Keys → List Word → Rounds → Option DestructorCall
due_in_next_round keys values rounds =
    if nat_lt rounds.round DESTRUCTOR_ROUNDS then option_map (destructor_call values (suc rounds.round)) (slice_get (due_keys keys values) 0) else None

-- the next destructor of a thread (pthread_key_create)
abbrev pub next_destructor : Keys → ThreadNumber → Option DestructorCall
next_destructor keys t =
    option_and_then (λ rounds. option_or (due_in_round keys (values_of keys t) rounds) (due_in_next_round keys (values_of keys t) rounds))
    (numbered keys.rounds t)

-- the value is 0 and the key is passed, when its destructor is called (pthread_key_create)
abbrev pub after_destructor_call : ThreadNumber → DestructorCall → Keys → Keys
after_destructor_call t call keys =
    with_values t (λ values. pool_set values call.key 0) (with_rounds t (λ _. record { round = call.round; passed = call.key }) keys)

-- the rounds begin with an unwinding; a pthread_exit by an unwinding thread leaves them (pthread_key_create; own)
abbrev pub with_first_round : Phase → Rounds → Rounds
with_first_round Normal rounds = record { round = 1; passed = 0 }
with_first_round Unwinding rounds = rounds
with_first_round Ended rounds = rounds
