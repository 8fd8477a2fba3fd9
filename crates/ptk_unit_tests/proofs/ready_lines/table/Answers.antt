use Rattle.std.proofs.Common.{◌≡◌, ◌∙◌, ℕ, length, refl, ap}
use Rattle.std.proofs.lemmas.List.{length-map}
use Rattle.std.specs.Prelude.{Option, Some, None}
use Rattle.ptk_words.specs.Pools.{least_free}
use Rattle.ptk_words.specs.declared.threads.Thread.{Thread}
use Rattle.ptk_words.specs.Parts.{part_of}
use Rattle.ptk_threads.specs.Table.{ThreadTable, with_new_at}
use Rattle.ptk_ready.proofs.Unused.{length_new}
use Rattle.ptk_unit_tests.proofs.ready_lines.table.Goals as goal

-- a new thread changes no queue
same_queues : (at : Option ℕ) (p : ℕ) (thread : Thread) (table : ThreadTable) → (with_new_at at p thread table).queues ≡ table.queues
same_queues None p thread table = refl
same_queues (Some k) p thread table = refl

pub loop-init : goal.loop-init
loop-init c = record {
  queues = ap (λ (t : ThreadTable). t.queues) c.in_ok-threads.ensures;
  parts = ap (λ (t : ThreadTable). length t.threads) c.in_ok-threads.ensures ∙ length-map c.args.counts.now _;
}

pub loop-preserved : goal.loop-preserved
loop-preserved c =
    let before = c.loop.threads in
    let table = c.create.ensures.table in
    let at = least_free (part_of before.threads c.new.result) in record {
      queues = ap (λ (t : ThreadTable). t.queues) table ∙ (same_queues at c.new.result c.new_thread.result before ∙ c.loop.invariant.queues);
      parts = length_new c.new.result c.new_thread.result before c.create.new.self table ∙ c.loop.invariant.parts;
    }
