-- What a request to end a thread does.
use Rattle.std.specs.Prelude.{true, if◌then◌else◌, Option}
use Rattle.ptk_words.specs.Names.{ThreadNumber}
use Rattle.ptk_words.specs.declared.threads.Wait.{Wait}
use Rattle.ptk_words_model.specs.State.{Part, with_cancellation}
use Rattle.ptk_words_model.specs.Calls.{is_cancelled}
use Rattle.ptk_words_model.specs.Withdrawal.{after_cancelled_wait}

-- the request is pending (pthread_cancel)
abbrev pub with_request : ThreadNumber → Part → Part
with_request t s = with_cancellation t (λ c. record c { is_pending = true }) s

-- the request is pending, and where it acts, the thread is taken out of this wait (pthread_cancel, XSH 2.9.5.2)
unfoldable pub after_request : ThreadNumber → Option Wait → Part → Part
after_request t wait s = if is_cancelled (with_request t s) t then after_cancelled_wait t wait (with_request t s) else with_request t s
