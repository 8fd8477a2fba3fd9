use Rattle.std.proofs.Common.{◌≡◌, ◌+◌, max, rules}
use Rattle.ptk_words.specs.Parts.{part_of}
use Rattle.ptk_mutex.proofs.Takes.{greatest_of, awaiting_more}
use Rattle.ptk_mutex.proofs.rise.greatest_awaiting.Goals as goal

pub loop-k-preserved : goal.loop-k-preserved
loop-k-preserved c =
    let more : max c.loop-k.most c.passed_by.result ≡ greatest_of c.args.m (part_of c.args.roster.now.table.threads c.args.p) (part_of c.args.roster.now.table.stored c.args.p) (c.loop-k.k + 1) =
    awaiting_more _ _ _ _ _ _ _ c.new-t.ensures c.loop-k.invariant.value c.passed_by.ensures.value in
    record { value = search (rules, more); in_range = search rules }
