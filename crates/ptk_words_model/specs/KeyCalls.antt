-- Calls 50 to 53: keys and thread-specific data (pthread_key_create to pthread_getspecific).
use Rattle.std.specs.Prelude.{Some, None}
use Rattle.ptk_words.specs.Pools.{pool_set, least_free}
use Rattle.ptk_words.specs.declared.faults.Errno.TheVariants.{EAGAIN, EINVAL}
use Rattle.ptk_words_model.specs.State.{with_keys}
use Rattle.ptk_words_model.specs.Keys.{is_key, with_values, with_key, specific}
use Rattle.ptk_words_model.specs.Steps.{Row, ◌passed_to◌ as ◌>>=◌, ◌>>◌, registers, state, refuse◌unless◌, ◌or_refuse◌, change, succeed, succeed_with}

-- a key with this destructor, or 0 for none, at the least free number (pthread_key_create, EAGAIN; own)
abbrev pub key_create : Row
key_create = do
  i ← registers
  s ← state
  k ← least_free s.keys.destructors or_refuse EAGAIN
  change (with_keys (with_key k (Some i.a0)))
  succeed_with k

-- the key is free; no destructor is called (pthread_key_delete, EINVAL)
abbrev pub key_delete : Row
key_delete = do
  i ← registers
  s ← state
  refuse EINVAL unless is_key s.keys i.a0
  change (with_keys (with_key i.a0 None))
  succeed

-- the caller's value of the key (pthread_setspecific, EINVAL)
abbrev pub setspecific : Row
setspecific = do
  i ← registers
  s ← state
  refuse EINVAL unless is_key s.keys i.a0
  change (with_keys (with_values i.caller (λ values. pool_set values i.a0 i.a1)))
  succeed

-- the caller's value of the key, 0 of an unknown one, in a1 (pthread_getspecific; own)
abbrev pub getspecific : Row
getspecific = do
  i ← registers
  s ← state
  succeed_with (specific s.keys i.caller i.a0)
