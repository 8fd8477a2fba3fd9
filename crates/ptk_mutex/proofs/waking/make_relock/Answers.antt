use Rattle.std.proofs.Common.{◌≡◌, ◌∙◌, ℕ, sym, ap}
use Rattle.std.specs.Prelude.{false, None, Option, List, option_to_list}
use Rattle.ptk_words.specs.Pools.{pool_get}
use Rattle.ptk_words.specs.declared.threads.Thread.{Thread}
use Rattle.ptk_words.specs.declared.threads.Wait.TheVariants.{RelockWait}
use Rattle.ptk_words_model.specs.State.{Locks}
use Rattle.ptk_words_model.specs.Priority.{awaited, thread_at}
use Rattle.ptk_words_model.specs.Schedule.{after_wake}
use Rattle.ptk_words_model.specs.Mutex.{after_move, is_waiting}
use Rattle.ptk_roster.specs.Rosters.{Rostered}
use Rattle.ptk_mutex.specs.Tables.{locks_by, put_locks}
use Rattle.ptk_mutex.proofs.Raised.{move_threads, relock_wakes, wake_put}
use Rattle.ptk_mutex.proofs.NoWaiters.{made_free}
use Rattle.ptk_mutex.proofs.waking.make_relock.Goals as goal

pub wake_with-requires-clause-free : goal.wake_with-requires-clause-free
wake_with-requires-clause-free c =
    made_free c.args.made c.args.p c.args.t c.args.m (RelockWait c.args.m c.args.reply) c.args.roster.now c.make-visited.new.roster c.requires.ready.part (sym c.is_waiting.ensures ∙ c.if-is_waiting.false) c.make-visited.ensures.roster c.requires.free

pub returns-clause-roster : goal.returns-clause-roster
returns-clause-roster c =
    let a : Rostered = c.args.roster.now in
    let locks : Locks = locks_by c.args.p a.table a.lines a.mutexes in
    let moved : Locks = after_move c.args.made c.args.t c.args.m (RelockWait c.args.m c.args.reply) locks in
    let goes_on : is_waiting c.args.made ≡ false = sym c.is_waiting.ensures ∙ c.if-is_waiting.false in
    let awake : awaited (thread_at moved c.args.t) ≡ None =
    ap (λ (l : List (Option Thread)). awaited (pool_get l c.args.t)) (move_threads c.args.made c.args.t c.args.m (RelockWait c.args.m c.args.reply) locks goes_on) ∙ c.requires.caller.awake in
    wake_put c.args.p c.args.t (option_to_list c.reply_after.result) a c.make-visited.new.roster c.wake_with.new.roster moved c.requires.ready.part awake c.make-visited.ensures.roster c.wake_with.ensures
    ∙ ap (λ (r : Option ℕ). put_locks c.args.p (after_wake c.args.t (option_to_list r) moved) a) c.reply_after.ensures
    ∙ ap (λ (l : Locks). put_locks c.args.p l a) (sym (relock_wakes c.args.made c.args.t c.args.m c.args.reply locks goes_on))
