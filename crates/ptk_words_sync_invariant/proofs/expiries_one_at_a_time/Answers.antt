use Rattle.ptk_words_sync_invariant.proofs.Expiries.{next_least, next_only, in_turn, one_at_a_time}
use Rattle.ptk_words_sync_invariant.proofs.Timeouts.{syncs_timeout}
use Rattle.ptk_words_sync_invariant.proofs.expiries_one_at_a_time.Goals as goal

pub returns-clause-next : goal.returns-clause-next
returns-clause-next c = λ tick deadlines. next_least tick deadlines

pub returns-clause-only : goal.returns-clause-only
returns-clause-only c = λ tick deadlines next is. next_only tick deadlines next is

pub returns-clause-in_turn : goal.returns-clause-in_turn
returns-clause-in_turn c = λ tick a s e. in_turn tick a s e

pub returns-clause-whole : goal.returns-clause-whole
returns-clause-whole c = λ interval a s are. syncs_timeout interval a.thread s are

pub returns-clause-step : goal.returns-clause-step
returns-clause-step c = λ tick s. one_at_a_time tick s
