use Rattle.std.proofs.Common.{◌∙◌, sym}
use Rattle.ptk_words_model.specs.Steps.{mutex_named}
use Rattle.ptk_gate_sync.proofs.Carried.{moved_twice, refused_on}
use Rattle.ptk_gate_sync.proofs.waiting.named_both.Goals as goal

pub returns-clause-call : goal.returns-clause-call
returns-clause-call c =
    λ rest. c.in_ok-condition.ensures.named.call c.args.i.now (λ x. mutex_named c.args.i.now.a1 (λ m. rest x m)) ∙ c.in_ok-mutex.ensures.named.call c.args.i.now (λ m. rest c.in_ok-condition.condition m)

pub returns-clause-moved : goal.returns-clause-moved
returns-clause-moved c =
    moved_twice c.condition_of_word.new.pools.here c.mutex_of_word.new.pools.here c.args.pools.now c.condition_of_word.new.pools c.mutex_of_word.new.pools c.in_ok-condition.ensures.moved c.in_ok-mutex.ensures.moved

pub returns-in_err-condition-clause-call : goal.returns-in_err-condition-clause-call
returns-in_err-condition-clause-call c =
    λ rest. c.in_err-condition.ensures.named.call c.args.i.now (λ x. mutex_named c.args.i.now.a1 (λ m. rest x m))
    ∙ sym (refused_on c.from_residual.result c.in_err-condition.field-0.0 (λ named. rest named.condition named.mutex) c.args.i.now c.condition_of_word.new.pools.here c.from_residual.ensures.1)

pub returns-in_err-mutex-clause-call : goal.returns-in_err-mutex-clause-call
returns-in_err-mutex-clause-call c =
    λ rest. c.in_ok-condition.ensures.named.call c.args.i.now (λ x. mutex_named c.args.i.now.a1 (λ m. rest x m))
    ∙ (c.in_err-mutex.ensures.named.call c.args.i.now (λ m. rest c.in_ok-condition.condition m)
    ∙ sym (refused_on c.from_residual-in_err-mutex.result c.in_err-mutex.field-0.0 (λ named. rest named.condition named.mutex) c.args.i.now c.mutex_of_word.new.pools.here c.from_residual-in_err-mutex.ensures.1))

pub returns-in_err-mutex-clause-moved : goal.returns-in_err-mutex-clause-moved
returns-in_err-mutex-clause-moved c =
    moved_twice c.condition_of_word.new.pools.here c.mutex_of_word.new.pools.here c.args.pools.now c.condition_of_word.new.pools c.mutex_of_word.new.pools c.in_ok-condition.ensures.moved c.in_err-mutex.ensures.moved
